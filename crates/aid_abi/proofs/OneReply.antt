-- One reply and one content of the lent slices: any two that a promise allows are equal (rule 11.1).
use Prim.Native.Nat.{ℕ}
use mathlib.Core.Path.{◌≡◌, ◌∙⁻¹◌}
use mathlib.Core.List.{List}
use Rattle.aid.specs.Making.{try_new}
use Rattle.abi.proofs.OneReply.{One, one}
use Rattle.aid_abi.specs.Numbers.{aid_reply, aid_whole_reply, aid_matches_reply, part_by_number, PartCopied}

pub gorvisclen_aid : (name : List ℕ) (t : ℕ) → One 9 (aid_reply name t)
gorvisclen_aid name t = one 9 (aid_reply name t)

pub gorvisclen_aid_whole : (name : List ℕ) → One 9 (aid_whole_reply name)
gorvisclen_aid_whole name = one 9 (aid_whole_reply name)

pub gorvisclen_aid_matches : (name : List ℕ) (t : ℕ) (asked : List ℕ) → One 1 (aid_matches_reply name t asked)
gorvisclen_aid_matches name t asked = one 1 (aid_matches_reply name t asked)

pub gorvisclen_aid_part : (name : List ℕ) (t p : ℕ) (to out : List ℕ) (r s : ℕ) (a b x y : List ℕ)
    → PartCopied (part_by_number p) (try_new name t) to out r a x → PartCopied (part_by_number p) (try_new name t) to out s b y
    → (r ≡ s) × (a ≡ b) × (x ≡ y)
gorvisclen_aid_part name t p to out r s a b x y h g =
    (h.reply ∙⁻¹ g.reply, h.copied ∙⁻¹ g.copied, h.row ∙⁻¹ g.row)
