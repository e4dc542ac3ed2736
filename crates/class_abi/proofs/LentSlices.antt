-- The numbers written for the host.
use Prim.Native.Nat.{ℕ}
use mathlib.Core.Path.{◌≡◌}
use mathlib.Core.List.{List, [], ◌∷◌}
use Rattle.basis.specs.Reply.{ok}
use Rattle.abi.specs.Answers.{NumbersWritten}
use Rattle.class_abi.specs.Numbers.{constants}

-- the three constants, if each number is the byte of its constant (rule 8.8)
pub constants_written : (x y z : ℕ) (out : List ℕ) (r : ℕ) (after : List ℕ) → NumbersWritten 3 (ok (x ∷ y ∷ z ∷ [])) out r after
    → x ≡ 0x00 → y ≡ 0x80 → z ≡ 0x84 → NumbersWritten 3 constants out r after
constants_written x y z out r after h ex ey ez = rw (ex, ey, ez) at h
