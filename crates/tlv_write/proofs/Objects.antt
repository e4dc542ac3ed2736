-- Laws of an object that is written from a place (rules 7.3 and 7.5).
use Prim.Native.Nat.{ℕ, ◌+◌, ◌≤◌, ◌<◌}
use mathlib.Core.Path.{◌≡◌, refl, ◌∙◌}
use mathlib.Core.Bool.{Bool, true, false, cond}
use mathlib.Core.List.{List, [], ◌∷◌, ◌++◌}
use native.Mathlib.Omega.{arith}
use borrow.Author.Tests.{lt-ltb, le-ltb}
use lib.Dec.{leb}
use lib.ListN.{length, length-append}
use Rattle.basis.specs.Number.{be}
use Rattle.basis.specs.Reply.{ok}
use Rattle.basis.specs.Over.{over_at}
use Rattle.tlv_write.specs.Written.{tag_bytes, len_bytes, object_bytes, put_of, PutDataObjectIs}
use Rattle.std.specs.Prelude.{Ok, Err}
use Rattle.basis.specs.declared.refusal.Refusal.TheVariants.{DoesNotFit, ValueTooLong}
use Rattle.tlv_write.proofs.Shown.{tag_one, tag_two, tag_three}

module _ (t v b : List ℕ) (at : ℕ) where
  -- a value above 65,535 bytes: 19 (rule 1.19)
  pub too_long : 65535 < length v → PutDataObjectIs t v b at (Err ValueTooLong) b
  unfolding put_of
  too_long h = let n = lt-ltb 65535 (length v) h in record { reply = rw n; buffer = rw n }

  -- a value of at most 65,535 bytes, and how many bytes its tag and its length take: 16 if the object does not fit, else
  -- it is written
  module _ (h : length v ≤ 65535) {p q : ℕ} (tag : p ≡ length (tag_bytes t)) (len : q ≡ length (len_bytes (length v))) where
    size : length (object_bytes t v) ≡ p + q + length v
    unfolding object_bytes
    size = simp length-append (omega (arith, tag, len))

    pub no_room : length b < at + (p + q + length v) → PutDataObjectIs t v b at (Err DoesNotFit) b
    unfolding put_of
    no_room g =
        let n = le-ltb 65535 (length v) h in
        let m = lt-ltb _ _ g in
        record { reply = rw (n, size, m); buffer = rw (n, size, m) }

    pub written : (after : List ℕ) → at + (p + q + length v) ≤ length b → after ≡ over_at at (object_bytes t v) b
        → PutDataObjectIs t v b at (Ok (p + q + length v)) after
    unfolding put_of
    written after g e =
        let n = le-ltb 65535 (length v) h in
        let m = le-ltb _ _ g in
        record { reply = rw (n, size, m); buffer = e ∙ rw (n, size, m) }

-- an object has at least one byte
len_some : (n : ℕ) (b c : Bool) → 1 ≤ length (cond b (n ∷ []) (cond c (0x81 ∷ n ∷ []) (0x82 ∷ be 2 n)))
len_some n true c = omega arith
len_some n false true = omega arith
len_some n false false = omega arith

pub object_some : (t v : List ℕ) → 1 ≤ length (object_bytes t v)
unfolding object_bytes len_bytes
object_some t v =
    let n = length v in
    simp length-append (omega (arith, len_some n (leb n 0x7F) (leb n 0xFF)))

-- Whatever three bytes a tag has: zero bytes in front are dropped, and no other byte is changed (rules 7.1 and 7.5).
pub three_byte_tag : (x y z : ℕ) (v : List ℕ) → (x ≡ 0 → ⊥) → object_bytes (x ∷ y ∷ z ∷ []) v ≡ x ∷ y ∷ z ∷ (len_bytes (length v) ++ v)
unfolding object_bytes
three_byte_tag x y z v f = rw (tag_three (x ∷ y ∷ z ∷ []) refl f)

pub two_byte_tag : (y z : ℕ) (v : List ℕ) → (y ≡ 0 → ⊥) → object_bytes (0 ∷ y ∷ z ∷ []) v ≡ y ∷ z ∷ (len_bytes (length v) ++ v)
unfolding object_bytes
two_byte_tag y z v f = rw (tag_two (0 ∷ y ∷ z ∷ []) refl refl f)

pub one_byte_tag : (z : ℕ) (v : List ℕ) → object_bytes (0 ∷ 0 ∷ z ∷ []) v ≡ z ∷ (len_bytes (length v) ++ v)
unfolding object_bytes
one_byte_tag z v = rw (tag_one (0 ∷ 0 ∷ z ∷ []) refl refl refl)

-- And no tag is refused: only the length of the value and the room decide (rule 7.5).
pub every_tag_written : (at m : ℕ) (t v : List ℕ) → length v ≤ 65535 → at + length (object_bytes t v) ≤ m
    → put_of at m t v ≡ ok (length (object_bytes t v))
unfolding put_of
every_tag_written at m t v h g = rw (le-ltb 65535 (length v) h, le-ltb m (at + length (object_bytes t v)) g)
