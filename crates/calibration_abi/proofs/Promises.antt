-- What the promises of numbers and of copied bytes say, by the reply; and that 16 comes before 26 and 27, if the slice
-- for the numbers is too short (rule 19.12).
use Prim.Native.Nat.{ℕ, ◌≤◌, ◌<◌}
use mathlib.Core.Path.{◌≡◌, refl, subst}
use mathlib.Core.List.{List, [], ◌∷◌}
use native.Mathlib.Omega.{arith}
use borrow.Author.Tests.{lt-ltb, le-ltb}
use lib.ListN.{length}
use Rattle.basis.specs.Reply.{Reply, ok, refused, then}
use Rattle.basis.specs.Over.{over}
use Rattle.abi.specs.Answers.{too_short, NumbersWritten, BytesCopied, ReplyCopied}
use Rattle.calibration.specs.Profile.{fields_of}
use Rattle.calibration.specs.Lapsed.{lapsed_of}
use Rattle.calibration.specs.Shown.{whose_of}
use Rattle.calibration.specs.declared.date.Date.{Date}
use Rattle.calibration.proofs.Read.{by_form}
use Rattle.calibration.proofs.Lapsing.{by_lapsed}
use Rattle.calibration.proofs.Due.{by_whose}

-- a refusal has a number above 16: so 16 is given before it, if the slice for the numbers is too short
abbrev pub Above16 : {A : Type 0} → Reply A → Type 0
Above16 (ok a) = Unit {0}
Above16 (refused k) = 16 < k

pub above_then : {A B : Type 0} (x : Reply A) (f : A → Reply B) → Above16 x → ((a : A) → Above16 (f a)) → Above16 (then x f)
above_then (ok a) f h g = g a
above_then (refused k) f h g = h

pub fields_above : (s : List ℕ) → Above16 (fields_of s)
fields_above s = by_form Above16 s (λ form digits real. tt) (λ form no. omega arith) (λ no. omega arith)

pub lapsed_above : (s : List ℕ) (on : Date) → Above16 (lapsed_of s on)
lapsed_above s on = by_lapsed s on Above16 (λ b. tt) (omega arith) (omega arith)

pub whose_above : (c d : List ℕ) → Above16 (whose_of c d)
whose_above c d = by_whose c d Above16 (λ w. tt) (omega arith) (omega arith)

short_16 : {A : Type 0} (x : Reply A) → Above16 x → too_short x ≡ refused 16
short_16 (ok a) h = refl
short_16 (refused k) h = rw (lt-ltb 16 k h)

-- what the promise of m numbers says, by the reply
module _ (m : ℕ) (x : Reply (List ℕ)) (out : List ℕ) (r : ℕ) (out' : List ℕ) (p : NumbersWritten m x out r out') where
  pub numbers : (vs : List ℕ) → x ≡ ok vs → m ≤ length out → (r ≡ 0) × (out' ≡ over vs out)
  numbers vs e h = let n = le-ltb (length out) m h in (rw (n, e) at p.reply, rw (n, e) at p.row)

  pub no_numbers : (k : ℕ) → x ≡ refused k → m ≤ length out → (r ≡ k) × (out' ≡ out)
  no_numbers k e h = let n = le-ltb (length out) m h in (rw (n, e) at p.reply, rw (n, e) at p.row)

  pub short_row : Above16 x → length out < m → (r ≡ 16) × (out' ≡ out)
  short_row a h =
      let n = lt-ltb (length out) m h in
      (rw (n, short_16 x a) at p.reply, rw (n, short_16 x a) at p.row)

-- the same of the promise of bytes that are copied
module _ (to out : List ℕ) (r : ℕ) (to' out' : List ℕ) where
  by_bytes : (x y : Reply (List ℕ)) → x ≡ y → ReplyCopied x to out r to' out' → ReplyCopied y to out r to' out'
  by_bytes x y e p = subst (λ (z : Reply (List ℕ)). ReplyCopied z to out r to' out') e p

  pub no_number : (x : Reply (List ℕ)) → Above16 x → length out < 1 → ReplyCopied x to out r to' out' → (r ≡ 16) × (to' ≡ to) × (out' ≡ out)
  no_number (ok d) a h p = let n = lt-ltb (length out) 1 h in (rw n at p.reply, rw n at p.bytes, rw n at p.row)
  no_number (refused k) a h p = (rw (lt-ltb (length out) 1 h, lt-ltb 16 k a) at p.0, p.1, p.2)

  module _ (x : Reply (List ℕ)) (p : ReplyCopied x to out r to' out') (h : 1 ≤ length out) where
    pub bytes : (d : List ℕ) → x ≡ ok d → length d ≤ length to → (r ≡ 0) × (to' ≡ over d to) × (out' ≡ over (length d ∷ []) out)
    bytes d e g =
        let q : BytesCopied d to out r to' out' = by_bytes x (ok d) e p in
        let n = le-ltb (length out) 1 h in
        let m = le-ltb (length to) (length d) g in
        (rw (n, m) at q.reply, rw (n, m) at q.bytes, rw (n, m) at q.row)

    pub short_room : (d : List ℕ) → x ≡ ok d → length to < length d → (r ≡ 16) × (to' ≡ to) × (out' ≡ out)
    short_room d e g =
        let q : BytesCopied d to out r to' out' = by_bytes x (ok d) e p in
        let n = le-ltb (length out) 1 h in
        let m = lt-ltb (length to) (length d) g in
        (rw (n, m) at q.reply, rw (n, m) at q.bytes, rw (n, m) at q.row)

    pub no_bytes : (k : ℕ) → x ≡ refused k → (r ≡ k) × (to' ≡ to) × (out' ≡ out)
    no_bytes k e =
        let q = by_bytes x (refused k) e p in
        (rw (le-ltb (length out) 1 h) at q.0, q.1, q.2)
