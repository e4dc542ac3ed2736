-- Laws of the answers of an exported function (rules 1.16, 1.22 and 1.24).
use Prim.Native.Nat.{ℕ, ◌≤◌, ◌<◌}
use mathlib.Core.Path.{◌≡◌, refl, subst}
use mathlib.Core.Bool.{Bool, true, false, cond}
use mathlib.Core.List.{List}
use native.Mathlib.Omega.{arith}
use lib.Dec.{ltb}
use lib.ListN.{length}
use borrow.Author.Tests.{lt-ltb, le-ltb}
use Rattle.basis.specs.Reply.{Reply, ok, refused}
use Rattle.basis.specs.Over.{over}
use Rattle.abi.specs.Answers.{at_most16, too_short, RefusalStatusIs, usable_len, NumbersWritten, Row, row, short_status, RowTold}

-- the refusal that is given, whether the slice is too short or not
pub refusal_fitted : {A : Type 0} (b : Bool) (k : ℕ) → cond b (too_short {A = A} (refused k)) (refused k) ≡ refused (cond b (at_most16 k) k)
refusal_fitted true k = refl
refusal_fitted false k = refl

-- if the slice is too short, the same is left as after any refusal
pub after_short : {A B : Type 0} (after : Reply A → B) (b : B) (x : Reply A) → ((k : ℕ) → b ≡ after (refused k)) → b ≡ after (too_short x)
after_short after b (ok a) h = h 16
after_short after b (refused k) h = h (at_most16 k)

-- a refusal is answered by its status, and nothing is written
pub refusal_written : (m k : ℕ) (out : List ℕ) (r : ℕ) → RefusalStatusIs k (length out) m r → NumbersWritten m (refused k) out r out
refusal_written m k out r e = record { reply = rw refusal_fitted e; row = rw refusal_fitted }

-- numbers for which the slice is too short; numbers that fit
module _ (m : ℕ) (vs out : List ℕ) where
  pub too_short_written : length out < m → NumbersWritten m (ok vs) out 16 out
  too_short_written h = record { reply = rw (lt-ltb _ _ h); row = rw (lt-ltb _ _ h) }

  pub row_written : (after : List ℕ) → m ≤ length out → after ≡ over vs out → NumbersWritten m (ok vs) out 0 after
  row_written after h e = record { reply = rw (le-ltb _ _ h); row = rw (le-ltb _ _ h) e }

-- a row that is told: the slice is too short for it, or long enough
module _ (k : ℕ) (vs out : List ℕ) where
  pub row_too_short : (r : ℕ) → length out < length vs → r ≡ short_status k → RowTold (row k vs) out r out
  row_too_short r h e = record { reply = rw (lt-ltb _ _ h) e; told = rw (lt-ltb _ _ h) }

  pub row_told : (after : List ℕ) → length vs ≤ length out → after ≡ over vs out → RowTold (row k vs) out k after
  row_told after h e = record { reply = rw (le-ltb _ _ h); told = rw (le-ltb _ _ h) e }

-- what a promised row says: the slice is long enough for it, or too short
module _ (x : Row) (out : List ℕ) (r : ℕ) (after : List ℕ) (p : RowTold x out r after) where
  pub row_fits : length x.numbers ≤ length out → (r ≡ x.status) × (after ≡ over x.numbers out)
  row_fits h = let l = le-ltb (length out) (length x.numbers) h in (rw l at p.reply, rw l at p.told)

  pub row_does_not_fit : length out < length x.numbers → (r ≡ short_status x.status) × (after ≡ out)
  row_does_not_fit h = let l = lt-ltb (length out) (length x.numbers) h in (rw l at p.reply, rw l at p.told)

-- a row under another name
pub told_as : (x y : Row) (out : List ℕ) (r : ℕ) (after : List ℕ) → x ≡ y → RowTold x out r after → RowTold y out r after
told_as x y out r after e h = subst (λ (z : Row). RowTold z out r after) e h

-- what is written if the slice is long enough: the status is 0, and all numbers are at the front
module _ (vs out : List ℕ) (r : ℕ) (after : List ℕ) (a : NumbersWritten (length vs) (ok vs) out r after) (h : length vs ≤ length out) where
  pub row_status_0 : r ≡ 0
  row_status_0 = rw (le-ltb _ _ h) at a.reply

  pub row_all : after ≡ over vs out
  row_all = rw (le-ltb _ _ h) at a.row

-- no more bytes may be used than there are
usable_by : (b : Bool) (n : ℕ) → cond b 0 n ≤ n
usable_by true n = omega arith
usable_by false n = omega arith

pub usable_le : (n m k : ℕ) {r : ℕ} → r ≡ usable_len n m k → r ≤ n
usable_le n m k e = rw e (usable_by (ltb m k) n)
