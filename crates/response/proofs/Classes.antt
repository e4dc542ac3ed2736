-- The class of each status, in numbers (rule 13.4).
use Prim.Native.Nat.{ℕ, ◌≤◌}
use mathlib.Core.Path.{◌≡◌}
use native.Mathlib.Omega.{arith}
use borrow.Author.Tests.{eq-eqb, ne_eqb, le-leb, lt-leb}
use Rattle.response.specs.Status.{normal, warning, execution_error, checking_error, unknown, class_by_sw1, class_of}
use Rattle.response.specs.declared.status.Status.{Status}

-- the class by SW1
module _ (a : ℕ) where
  below_61 : a ≤ 0x60 → class_by_sw1 a ≡ unknown
  unfolding class_by_sw1
  below_61 h = rw (le-leb a 0x60 h)

  by_61 : a ≡ 0x61 → class_by_sw1 a ≡ normal
  unfolding class_by_sw1
  by_61 h = rw h

  by_62_63 : 0x62 ≤ a → a ≤ 0x63 → class_by_sw1 a ≡ warning
  unfolding class_by_sw1
  by_62_63 h g = rw (lt-leb a 0x60 (omega arith), lt-leb a 0x61 (omega arith), le-leb a 0x63 g)

  by_64_66 : 0x64 ≤ a → a ≤ 0x66 → class_by_sw1 a ≡ execution_error
  unfolding class_by_sw1
  by_64_66 h g = rw (lt-leb a 0x60 (omega arith), lt-leb a 0x61 (omega arith), lt-leb a 0x63 (omega arith), le-leb a 0x66 g)

  by_67_6f : 0x67 ≤ a → a ≤ 0x6F → class_by_sw1 a ≡ checking_error
  unfolding class_by_sw1
  by_67_6f h g =
      rw (lt-leb a 0x60 (omega arith), lt-leb a 0x61 (omega arith), lt-leb a 0x63 (omega arith), lt-leb a 0x66 (omega arith), le-leb a 0x6F g)

  above_6f : 0x70 ≤ a → class_by_sw1 a ≡ unknown
  unfolding class_by_sw1
  above_6f h =
      rw (
        lt-leb a 0x60 (omega arith),
        lt-leb a 0x61 (omega arith),
        lt-leb a 0x63 (omega arith),
        lt-leb a 0x66 (omega arith),
        lt-leb a 0x6F h,
      )

-- the class of a status: 9000 and 61xx normal
module _ (t : Status) where
  pub normal_9000 : t.sw1 ≡ 0x90 → t.sw2 ≡ 0x00 → class_of t ≡ normal
  unfolding class_of
  normal_9000 h g = rw (eq-eqb t.sw1 0x90 h, eq-eqb t.sw2 0x00 g)

  -- any other 90xx unknown
  pub unknown_90 : t.sw1 ≡ 0x90 → (t.sw2 ≡ 0x00 → ⊥) → class_of t ≡ unknown
  unfolding class_of
  unknown_90 h g = rw (eq-eqb t.sw1 0x90 h, ne_eqb t.sw2 0x00 g)

  other : (t.sw1 ≡ 0x90 → ⊥) → class_of t ≡ class_by_sw1 t.sw1
  unfolding class_of
  other h = rw (ne_eqb t.sw1 0x90 h)

  pub normal_61 : t.sw1 ≡ 0x61 → class_of t ≡ normal
  normal_61 h = rw (other (omega arith)) (by_61 t.sw1 h)

  -- 62 and 63 warning, 64 to 66 execution error, 67 to 6F checking error
  pub warning_62_63 : 0x62 ≤ t.sw1 → t.sw1 ≤ 0x63 → class_of t ≡ warning
  warning_62_63 h g = rw (other (omega arith)) (by_62_63 t.sw1 h g)

  pub execution_64_66 : 0x64 ≤ t.sw1 → t.sw1 ≤ 0x66 → class_of t ≡ execution_error
  execution_64_66 h g = rw (other (omega arith)) (by_64_66 t.sw1 h g)

  pub checking_67_6f : 0x67 ≤ t.sw1 → t.sw1 ≤ 0x6F → class_of t ≡ checking_error
  checking_67_6f h g = rw (other (omega arith)) (by_67_6f t.sw1 h g)

  -- the rest unknown
  pub unknown_to_60 : t.sw1 ≤ 0x60 → class_of t ≡ unknown
  unknown_to_60 h = rw (other (omega arith)) (below_61 t.sw1 h)

  pub unknown_from_70 : 0x70 ≤ t.sw1 → (t.sw1 ≡ 0x90 → ⊥) → class_of t ≡ unknown
  unknown_from_70 h g = rw (other g) (above_6f t.sw1 h)
