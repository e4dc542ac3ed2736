-- Making an AID of a name (rules 9.1 and 9.2, 1.6 to 1.10).
use Rattle.std.specs.Prelude.{ℕ, ◌-◌, ◌/◌, ◌≤◌, ◌≡◌, cond, ◌⊎◌, List, [], ◌∷◌, eqb, ltb, length, get_or, drop, replicate}
use Rattle.basis.specs.Reply.{Reply, ok, refused, then}
use Rattle.basis.specs.Refusal.{as_reply}
use Rattle.basis.specs.Over.{over}
use Rattle.aid.specs.Category.{international, national, category_of}
use Rattle.aid.specs.declared.Aid.{Aid}
use Rattle.aid.specs.declared.TryNew.{TryNew}

-- a name of under five bytes, by its first byte: 9 for a national one (rule 1.9), 10 for an international one (rule
-- 1.10)
unfoldable pub under_five : ℕ → Reply (Unit {0})
under_five b = cond (eqb (category_of b) national) (refused 9) (cond (eqb (category_of b) international) (refused 10) (ok tt))

-- the tests of a name and its truncated length, in their order: 6, 7, 8, then 9 and 10 (rule 9.1)
unfoldable pub tested : List ℕ → ℕ → Reply (Unit {0})
tested name t =
    cond (eqb (length name) 0) (refused 6)
    (cond (ltb 16 (length name)) (refused 7)
    (cond (ltb (length name) t) (refused 8) (cond (ltb (length name) 5) (under_five (get_or name 0 0)) (ok tt))))

-- the AID that holds a name: the name and zeros after it, 16 bytes in all (rule 9.1)
abbrev pub holding : List ℕ → ℕ → Aid
holding name t = record { bytes = over name (replicate 16 0); len = length name; truncated = t }

-- the AID of a name with a truncated length
unfoldable pub try_new : List ℕ → ℕ → Reply Aid
try_new name t = then (tested name t) (λ u. ok (holding name t))

-- the AID that is returned with a refusal: that of the one byte 00
abbrev pub blank : Aid
blank = holding (0 ∷ []) 1

-- the AID that is returned with a reply
abbrev pub or_blank : Reply Aid → Aid
or_blank (ok a) = a
or_blank (refused k) = blank

-- the promises of `try_new_truncatable` and `try_new`, which takes the name's own length (rule 9.2)
pub record TryNewTruncatableIs (name : List ℕ) (t : ℕ) (r : TryNew) : Type 0 where
  pub answered : then (as_reply r.answer) (λ u. ok r.aid) ≡ try_new name t
  pub from_name : r.aid ≡ or_blank (try_new name t)

abbrev pub TryNewIs : List ℕ → TryNew → Type 0
TryNewIs name r = TryNewTruncatableIs name (length name) r

-- this AID is made of some name and truncated length
abbrev pub FromName : Aid → Type 0
FromName a = (name : List ℕ) × ((t : ℕ) × (try_new name t ≡ ok a))

-- what the Rust takes for granted of an AID; also: an international or national one has at least the five bytes of its
-- RID
pub record Valid (a : Aid) : Type 0 where
  pub array : length a.bytes ≡ 16
  pub least : 1 ≤ a.len
  pub most : a.len ≤ 16
  pub zeros : drop a.len a.bytes ≡ replicate (16 - a.len) 0
  pub cut : a.truncated ≤ a.len
  pub rid : (get_or a.bytes 0 0 / 16 ≡ 0xA) ⊎ (get_or a.bytes 0 0 / 16 ≡ 0xD) → 5 ≤ a.len
