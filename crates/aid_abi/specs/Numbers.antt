-- The numbers and the parts of an AID, as a host program gets them (rules 9.1 to 9.6).
use Rattle.std.specs.Prelude.{ℕ, ◌≡◌, cond, List, [], ◌∷◌, eqb, ltb, length}
use Rattle.std.proofs.Math.Option.{Option}
use Rattle.basis.specs.Reply.{Reply, ok, refused, then, status}
use Rattle.aid.specs.Category.{international, national, standard, proprietary, category, is_in}
use Rattle.basis.specs.Refusal.{as_reply}
use Rattle.aid.specs.Making.{try_new}
use Rattle.aid.specs.Parts.{part_of, length_of, copy_of, copy_to}
use Rattle.aid.specs.Matches.{matches_of}
use Rattle.aid.specs.declared.Aid.{Aid}
use Rattle.aid.specs.declared.TryNew.{TryNew}
use Rattle.aid.specs.declared.part.Part.{Part}
use Rattle.aid.specs.declared.part.Part.TheVariants as part
use Rattle.abi.specs.Answers.{flag_of, or_none, if_long_enough, out_after}

-- the part by number: 0 all bytes, 1 the truncated part, 2 the RID, any other number the PIX
unfoldable pub part_by_number : ℕ → Part
part_by_number n = cond (eqb n 0) part.Bytes (cond (eqb n 1) part.Truncated (cond (eqb n 2) part.Rid part.Pix))

-- the length of a part, 256 if it is absent
abbrev pub part_size : Part → Aid → ℕ
part_size p a = or_none (length_of (part_of p a))

-- the nine numbers: length; truncated length; category and its four tests; lengths of RID and PIX
unfoldable pub numbers_of : Aid → List ℕ
numbers_of a =
    part_size part.Bytes a
    ∷ part_size part.Truncated a
    ∷ category a
    ∷ flag_of (is_in international a)
    ∷ flag_of (is_in national a)
    ∷ flag_of (is_in standard a)
    ∷ flag_of (is_in proprietary a)
    ∷ part_size part.Rid a
    ∷ part_size part.Pix a
    ∷ []

-- the numbers of the AID that was made of a name, or the refusal
abbrev pub made_reply : TryNew → Reply (List ℕ)
made_reply m = then (then (as_reply m.answer) (λ u. ok m.aid)) (λ a. ok (numbers_of a))

-- what `gorvisclen_aid` and `gorvisclen_aid_whole` write
unfoldable pub aid_reply : List ℕ → ℕ → Reply (List ℕ)
aid_reply name t = then (try_new name t) (λ a. ok (numbers_of a))

unfoldable pub aid_whole_reply : List ℕ → Reply (List ℕ)
aid_whole_reply name = aid_reply name (length name)

-- what `gorvisclen_aid_matches` writes: 1 if the name `asked` matches the AID
unfoldable pub aid_matches_reply : List ℕ → ℕ → List ℕ → Reply (List ℕ)
aid_matches_reply name t asked = then (try_new name t) (λ a. ok (flag_of (matches_of a asked) ∷ []))

-- a part is copied to `to`, and its length is written to `out`: 16 if one of the two is too short, and then both stay
abbrev pub copying : Part → Reply Aid → ℕ → ℕ → Reply (Option ℕ)
copying p x m n = if_long_enough 1 n (then x (λ a. copy_of (part_of p a) m))

abbrev pub copied_to : Part → Reply Aid → ℕ → List ℕ → List ℕ
copied_to p (ok a) n to = cond (ltb n 1) to (copy_to (part_of p a) to)
copied_to p (refused k) n to = to

-- the number written: the length of the part
abbrev pub sized : Option ℕ → Reply (List ℕ)
sized o = ok (or_none o ∷ [])

-- the promise of `gorvisclen_aid_part`, for the AID of the reply x
pub record PartCopied (p : Part) (x : Reply Aid) (to out : List ℕ) (r : ℕ) (to' out' : List ℕ) : Type 0 where
  pub reply : r ≡ status (copying p x (length to) (length out))
  pub copied : to' ≡ copied_to p x (length out) to
  pub row : out' ≡ out_after (then (copying p x (length to) (length out)) sized) out
