-- What the exported writer leaves in the lent slices (rule 7.3).
use Prim.Native.Nat.{ℕ, ◌+◌, ◌≤◌, ◌<◌}
use mathlib.Core.Path.{◌≡◌, refl, sym, ◌∙◌}
use mathlib.Core.Bool.{Bool, true, false, cond}
use mathlib.Core.List.{List, [], ◌∷◌, ◌++◌, append-nil}
use native.Mathlib.Omega.{arith}
use borrow.Author.Tests.{lt-ltb, le-ltb, ltb-true, ltb-false}
use lib.Dec.{ltb}
use lib.ListN.{length, take, drop, drop_of_length-le}
use lib.Seq.{take-length}
use Rattle.basis.specs.Reply.{Reply, ok, refused}
use Rattle.basis.specs.Over.{over}
use Rattle.basis.proofs.Reply.{refused_not_ok}
use Rattle.abi.specs.Answers.{usable_len}
use Rattle.tlv_write.specs.Written.{object_bytes, put_of, buffer_after, PutDataObjectIs}
use Rattle.std.specs.Prelude.{Result}
use Rattle.basis.specs.declared.refusal.Refusal.{Refusal}
use Rattle.tlv_write.proofs.Objects.{object_some}
use Rattle.tlv_abi.specs.Written.{writing, ObjectWritten}

-- a second test for 19 changes nothing
tested_twice : (b : Bool) (x : Reply ℕ) → cond b (refused 19) (cond b (refused 19) x) ≡ cond b (refused 19) x
tested_twice true x = refl
tested_twice false x = refl

-- the reply by the part of the buffer that is used: all of it, or none if there is no room for a number
module _ (t v : List ℕ) (at m n : ℕ) where
  row : 1 ≤ n → writing t v at m n ≡ put_of at m t v
  unfolding put_of
  row h = rw (le-ltb n 1 h) (tested_twice (ltb 65535 (length v)) _)

  no_row : n < 1 → writing t v at m n ≡ put_of at 0 t v
  unfolding put_of
  no_row h = rw (lt-ltb n 1 h, lt-ltb 0 (at + length (object_bytes t v)) (omega (arith, object_some t v)))

-- an object that is written needs at least one byte
some_room : (t v : List ℕ) (at m k : ℕ) → put_of at m t v ≡ ok k → 1 ≤ m
unfolding put_of
some_room t v at m k e = by_length (ltb 65535 (length v)) e
  where
    by_room : (c : Bool) → ltb m (at + length (object_bytes t v)) ≡ c → cond {A = Reply ℕ} c (refused 16) (ok (length (object_bytes t v))) ≡ ok k → 1 ≤ m
    by_room true f g = absurd (refused_not_ok 16 k g)
    by_room false f g = omega (arith, ltb-false m (at + length (object_bytes t v)) f, object_some t v)

    by_length : (b : Bool) → cond {A = Reply ℕ} b (refused 19) (cond (ltb m (at + length (object_bytes t v))) (refused 16) (ok (length (object_bytes t v)))) ≡ ok k
        → 1 ≤ m
    by_length true g = absurd (refused_not_ok 19 k g)
    by_length false g = by_room (ltb m (at + length (object_bytes t v))) refl g

-- an object is written into that part; the rest of the buffer follows it
module _ (t v : List ℕ) (at : ℕ) (b out : List ℕ) (n : ℕ) (u : n ≡ usable_len (length b) (length out) 1) (x : Result ℕ Refusal)
    (ys : List ℕ) (p : PutDataObjectIs t v (take n b) at x ys) where
  abbrev reply : Reply ℕ
  reply = writing t v at (length b) (length out)

  -- all of the buffer is used, or none
  all : 1 ≤ length out → n ≡ length b
  all h = u ∙ rw (le-ltb (length out) 1 h)

  none : length out < 1 → n ≡ 0
  none h = u ∙ rw (lt-ltb (length out) 1 h)

  same_by : (c : Bool) → ltb (length out) 1 ≡ c → reply ≡ put_of at (length (take n b)) t v
  same_by true e = let h = ltb-true (length out) 1 e in no_row t v at (length b) (length out) h ∙ rw (none h)
  same_by false e =
      let h = ltb-false (length out) 1 e in row t v at (length b) (length out) h ∙ rw (all h, take-length b)

  -- a refusal leaves the part as it is, and so the buffer
  refused_by : (y : Reply ℕ) → put_of at 0 t v ≡ y → buffer_after y at t v [] ++ b ≡ buffer_after y at t v b
  refused_by (ok k) e = absurd (omega (arith, some_room t v at 0 k e))
  refused_by (refused k) e = refl

  bytes_by : (c : Bool) → ltb (length out) 1 ≡ c → ys ++ drop n b ≡ buffer_after reply at t v b
  bytes_by true e =
      let h = ltb-true (length out) 1 e in
      rw (no_row t v at (length b) (length out) h, p.buffer, none h) (refused_by (put_of at 0 t v) refl)
  bytes_by false e =
      let h = ltb-false (length out) 1 e in
      let k = all h in
      let gone : drop n b ≡ [] = drop_of_length-le b {i = n} (omega arith) in
      rw (row t v at (length b) (length out) h, p.buffer, gone, append-nil, k, take-length b)

  pub write_refused : (k : ℕ) → refused k ≡ put_of at (length (take n b)) t v → ObjectWritten t v at b out k (ys ++ drop n b) out
  write_refused k e =
      let f : reply ≡ refused k = same_by (ltb (length out) 1) refl ∙ sym e in
      record { reply = rw f; bytes = bytes_by (ltb (length out) 1) refl; row = rw f }

  pub count_has_place : (k : ℕ) → ok k ≡ put_of at (length (take n b)) t v → 1 ≤ length out
  count_has_place k e = count_has_place_by (ltb (length out) 1) refl
    where
      count_has_place_by : (c : Bool) → ltb (length out) 1 ≡ c → 1 ≤ length out
      count_has_place_by true f =
          let h = ltb-true (length out) 1 f in
          absurd (omega (arith, some_room t v at 0 k (sym (no_row t v at (length b) (length out) h) ∙ same_by (ltb (length out) 1) refl ∙ sym e)))
      count_has_place_by false f = ltb-false (length out) 1 f

  pub object_written : (k : ℕ) (out' : List ℕ) → ok k ≡ put_of at (length (take n b)) t v → out' ≡ over (k ∷ []) out → ObjectWritten t v at b out 0 (ys ++ drop n b) out'
  object_written k out' e g =
      let f : reply ≡ ok k = same_by (ltb (length out) 1) refl ∙ sym e in
      record { reply = rw f; bytes = bytes_by (ltb (length out) 1) refl; row = rw f g }
