-- Parts of an AID, by where they start and end among its bytes (rule 9.4).
use Prim.Native.Nat.{ℕ, min, ◌-◌, ◌≤◌}
use mathlib.Core.Path.{◌≡◌, refl, sym, ap, subst}
use mathlib.Core.Bool.{Bool, true, false}
use mathlib.Core.Option.{some}
use mathlib.Core.List.{List}
use native.Mathlib.Omega.{arith}
use borrow.Author.Tests.{leb-true, le-ltb}
use lib.Dec.{leb}
use lib.ListN.{length, take, drop, length-take, length-drop}
use lib.Seq.{take-take, length-take-le}
use Rattle.basis.specs.Over.{over}
use Rattle.basis.proofs.Over.{part_is}
use Rattle.basis.proofs.Truth.{both_true}
use Rattle.aid.specs.Category.{category}
use Rattle.aid.specs.Parts.{whole, registered, has_rid, part_of, CopyPartIs, SpanFor}
use Rattle.std.specs.Bool.{then_some}
use Rattle.std.specs.Prelude.{Option, Some, Ok}
use Rattle.aid.specs.declared.Aid.{Aid}
use Rattle.aid.specs.declared.part.Part.{Part}
use Rattle.aid.specs.declared.part.Part.TheVariants.{Rid, Pix}

-- an AID that has a RID has five bytes
rid_long : (a : Aid) → has_rid a ≡ true → 5 ≤ length (whole a)
unfolding has_rid
rid_long a e = leb-true 5 _ (both_true (registered (category a)) (leb 5 (length (whole a))) e).1

-- and the RID is the first five of them, the PIX what follows (rule 9.4)
pub rid_at : (a : Aid) (e : ℕ) → has_rid a ≡ true → e ≡ 5 → SpanFor Rid a (Some (0, e))
unfolding part_of
rid_at a e h five =
    let n : 5 ≤ a.len = omega (arith, rid_long a h, length-take a.len a.bytes) in
    record { shows = rw (five, h, take-take); inside = omega arith }

rid_by : (a : Aid) (b : Bool) → has_rid a ≡ b → SpanFor Rid a (then_some b (0, 5))
unfolding part_of
rid_by a true h = rid_at a 5 h refl
rid_by a false h = record { shows = rw h; inside = tt }

pub rid_for : (p : Part) (a : Aid) (b : Bool) (r : Option (ℕ × ℕ)) → p ≡ Rid → b ≡ has_rid a → r ≡ then_some b (0, 5) → SpanFor p a r
rid_for p a b r is h e = rw (is, e) (rid_by a b (sym h))

pix_by : (a : Aid) (b : Bool) → length a.bytes ≡ 16 → has_rid a ≡ b → SpanFor Pix a (then_some b (5, min a.len 16))
unfolding part_of
pix_by a true e h =
    record {
      shows = rw h (ap some (part_is 5 a.len 16 a.bytes e));
      inside = (omega (arith, rid_long a h, length-take a.len a.bytes), omega arith);
    }
pix_by a false e h = record { shows = rw h; inside = tt }

pub pix_for : (p : Part) (a : Aid) (b : Bool) (n : ℕ) (r : Option (ℕ × ℕ)) → length a.bytes ≡ 16 → p ≡ Pix → b ≡ has_rid a → n ≡ min a.len 16
    → r ≡ then_some b (5, n) → SpanFor p a r
pix_for p a b n r l is h m e = rw (is, e, m) (pix_by a b l (sym h))

abbrev between : List ℕ → ℕ → ℕ → List ℕ
between l s e = take (e - s) (drop s l)

module _ {p : Part} {a : Aid} {r : Option (ℕ × ℕ)} {s e : ℕ} (h : length a.bytes ≡ 16) (x : SpanFor p a r) (q : r ≡ Some (s, e)) where
  at : SpanFor p a (Some (s, e))
  at = subst (SpanFor p a) q x

  end_inside : e ≤ length a.bytes
  end_inside = omega (arith, at.inside.1)

  size : length (between a.bytes s e) ≡ e - s
  size = length-take-le (e - s) (drop s a.bytes) (simp length-drop (omega (arith, end_inside)))

  pub part_copied : (to after : List ℕ) (n : ℕ) → e - s ≤ length to → n ≡ length (between a.bytes s e)
      → after ≡ over (between a.bytes s e) to → CopyPartIs p a to (Ok (Some n)) after
  part_copied to after n g en ea = record { reply = rw (← at.shows, size, le-ltb, en, size); buffer = rw (← at.shows, size, le-ltb) ea }
