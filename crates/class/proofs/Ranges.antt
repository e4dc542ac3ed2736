-- The range of a class byte: which bytes lie in it.
use Prim.Native.Nat.{ℕ, ◌≤◌, ◌<◌}
use mathlib.Core.Path.{◌≡◌}
use native.Mathlib.Omega.{arith}
use borrow.Author.Tests.{lt-ltb, le-ltb}
use Rattle.class.specs.Range.{range_of}

module _ (c : ℕ) where
  pub is_first : c < 0x20 → range_of c ≡ 0
  unfolding range_of
  is_first h = rw (lt-ltb c 0x20 h)

  pub is_reserved : 0x20 ≤ c → c < 0x40 → range_of c ≡ 2
  unfolding range_of
  is_reserved g h = rw (le-ltb c 0x20 g, lt-ltb c 0x40 h)

  pub is_further : 0x40 ≤ c → c < 0x80 → range_of c ≡ 1
  unfolding range_of
  is_further g h = rw (le-ltb c 0x20 (omega arith), le-ltb c 0x40 g, lt-ltb c 0x80 h)

  pub is_proprietary : 0x80 ≤ c → range_of c ≡ 3
  unfolding range_of
  is_proprietary g = rw (le-ltb c 0x20 (omega arith), le-ltb c 0x40 (omega arith), le-ltb c 0x80 g)
