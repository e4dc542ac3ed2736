-- The category of a name, by the high half of its first byte (rule 9.3).
use Prim.Native.Nat.{ℕ, ◌/◌}
use mathlib.Core.Path.{◌≡◌}
use borrow.Author.Tests.{ne_eqb}
use Rattle.aid.specs.Category.{category_of}

module _ (b : ℕ) where
  pub is_international : b / 16 ≡ 0xA → category_of b ≡ 0
  unfolding category_of
  is_international h = rw h

  pub is_national : b / 16 ≡ 0xD → category_of b ≡ 1
  unfolding category_of
  is_national h = rw h

  pub is_standard : b / 16 ≡ 0xE → category_of b ≡ 2
  unfolding category_of
  is_standard h = rw h

  pub is_proprietary : b / 16 ≡ 0xF → category_of b ≡ 3
  unfolding category_of
  is_proprietary h = rw h

  pub is_other : (b / 16 ≡ 0xA → ⊥) → (b / 16 ≡ 0xD → ⊥) → (b / 16 ≡ 0xE → ⊥) → (b / 16 ≡ 0xF → ⊥) → category_of b ≡ 4
  unfolding category_of
  is_other i n s p = rw (ne_eqb (b / 16) 0xA i, ne_eqb (b / 16) 0xD n, ne_eqb (b / 16) 0xE s, ne_eqb (b / 16) 0xF p)
