-- A byte compared with a range: inside, below and above.
use Prim.Native.Nat.{ℕ, ◌≤◌, ◌<◌}
use mathlib.Core.Path.{◌≡◌}
use mathlib.Core.Bool.{true, false}
use borrow.Author.Tests.{le-leb, lt-leb}
use Rattle.tlv.specs.Tag.{in_range}

module _ (lo hi b : ℕ) where
  pub inside : lo ≤ b → b ≤ hi → in_range lo hi b ≡ true
  unfolding in_range
  inside h g = rw (le-leb lo b h, le-leb b hi g)

  pub below : b < lo → in_range lo hi b ≡ false
  unfolding in_range
  below h = rw (lt-leb lo b h)

  pub above : lo ≤ b → hi < b → in_range lo hi b ≡ false
  unfolding in_range
  above h g = rw (le-leb lo b h, lt-leb b hi g)
