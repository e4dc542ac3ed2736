-- An AID by value stays valid: every AID that is returned is made of a name, and the AIDs that are made of a name are
-- exactly those that have what the Rust takes for granted.
use Prim.Native.Nat.{ℕ, zero, suc, ◌-◌}
use mathlib.Core.Path.{◌≡◌, refl, ap, ◌∙◌}
use mathlib.Core.Logic.{inl, inr, ⊎_elim}
use mathlib.Core.List.{List, [], ◌∷◌}
use native.Mathlib.Omega.{arith}
use native.Mathlib.Decide.{dec_le}
use native.Mathlib.Nat.{sub-zero, zero-sub, suc-sub-suc}
use lib.ListN.{length, get_or, drop, replicate, take-append-drop, get_or-append}
use lib.Seq.{take-append_seam, drop-append_seam, length-take-le, get_or-take}
use Rattle.basis.specs.Reply.{Reply, ok, refused, then}
use Rattle.basis.specs.Over.{over}
use Rattle.basis.proofs.Over.{length_over}
use Rattle.basis.proofs.Reply.{refused_not_ok}
use Rattle.aid.specs.Category.{category_of}
use Rattle.aid.specs.Parts.{whole}
use Rattle.aid.specs.Making.{under_five, tested, holding, try_new, or_blank, TryNewTruncatableIs, FromName, Valid}
use Rattle.aid.specs.declared.Aid.{Aid}
use Rattle.aid.specs.declared.TryNew.{TryNew}
use Rattle.aid.proofs.Making.{ValidName, passing_valid, valid_passes}

or_blank_lem : (name : List ℕ) (t : ℕ) (x : Reply Aid) → try_new name t ≡ x → FromName (or_blank x)
unfolding try_new tested under_five category_of
or_blank_lem name t (ok a) e = (name, (t, e))
or_blank_lem name t (refused k) e = (0 ∷ [], (1, refl))

-- also the AID that is returned with a refusal
pub from_name : (name : List ℕ) (t : ℕ) (r : TryNew) → TryNewTruncatableIs name t r → FromName r.aid
from_name name t r h = rw h.from_name (or_blank_lem name t (try_new name t) refl)

ok_of_then : (x : Reply (Unit {0})) (a b : Aid) → then x (λ u. ok a) ≡ ok b → (x ≡ ok tt) × (a ≡ b)
ok_of_then (ok tt) a b e = (refl, cc)
ok_of_then (refused k) a b e = absurd (refused_not_ok k b e)

-- exactly the valid names make an AID, and it is the one that holds the name
pub made_of : (name : List ℕ) (t : ℕ) (a : Aid) → try_new name t ≡ ok a → ValidName name t × (holding name t ≡ a)
unfolding try_new
made_of name t a e = let m = ok_of_then (tested name t) (holding name t) a e in (passing_valid name t m.0, m.1)

pub makes : (name : List ℕ) (t : ℕ) → ValidName name t → try_new name t ≡ ok (holding name t)
unfolding try_new
makes name t h = rw (valid_passes name t h)

-- equal elements without the first n are equal elements
drop_replicate : (n m a : ℕ) → drop n (replicate m a) ≡ replicate (m - n) a
drop_replicate zero m a = rw sub-zero
drop_replicate (suc n) zero a = rw zero-sub
drop_replicate (suc n) (suc m) a = rw suc-sub-suc (drop_replicate n m a)

holding_valid : (name : List ℕ) (t : ℕ) → ValidName name t → Valid (holding name t)
unfolding over
holding_valid name t h =
    let first : get_or (over name (replicate 16 0)) 0 0 ≡ get_or name 0 0 = get_or-append name _ 0 0 (omega arith) in
    record {
      array = length_over name (replicate 16 0) (omega arith);
      least = omega arith;
      most = omega arith;
      zeros = drop-append_seam name (drop (length name) (replicate 16 0)) ∙ drop_replicate (length name) 16 0;
      cut = omega arith;
      rid = λ e. elim (dec_le 5 (length name)) [
        | yes g ↦ omega arith
        | no g ↦ absurd (⊎_elim (h.international (omega arith)) (h.national (omega arith)) (rw first at e))
      ];
    }

-- the bytes of an AID are the name that it was made of (rule 9.1)
pub name_kept : (name : List ℕ) (t : ℕ) (a : Aid) → try_new name t ≡ ok a → whole a ≡ name
unfolding over
name_kept name t a e = rw (← (made_of name t a e).1) (take-append_seam name _)

pub is_valid : (a : Aid) → FromName a → Valid a
is_valid a h = let m = made_of h.0 h.1.0 a h.1.1 in rw (← m.1) (holding_valid h.0 h.1.0 m.0)

-- an AID that is valid is made of its bytes
module _ (a : Aid) (w : Valid a) where
  name_length : length (whole a) ≡ a.len
  name_length = length-take-le a.len a.bytes (omega arith)

  name_passes : ValidName (whole a) a.truncated
  name_passes =
      let n = name_length in
      let first : get_or (whole a) 0 0 ≡ get_or a.bytes 0 0 = get_or-take a.len a.bytes 0 0 (omega arith) in
      record {
        some = omega (arith, n);
        most = omega (arith, n);
        cut = omega (arith, n);
        international = λ g h. omega (arith, n, w.rid (inl (rw first at h)));
        national = λ g h. omega (arith, n, w.rid (inr (rw first at h)));
      }

  name_held : holding (whole a) a.truncated ≡ a
  unfolding over
  name_held =
      let n = name_length in
      let b : over (whole a) (replicate 16 0) ≡ a.bytes = rw (n, drop_replicate, ← w.zeros) (take-append-drop a.len a.bytes) in
      λ i. record { bytes = b i; len = n i; truncated = a.truncated }

  pub valid_from_name : FromName a
  valid_from_name = (whole a, (a.truncated, makes (whole a) a.truncated name_passes ∙ ap ok name_held))
