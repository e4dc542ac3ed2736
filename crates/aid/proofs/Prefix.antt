-- Which names match an AID (rules 9.5 and 9.6): none that is too short or too long; any other is compared with its
-- bytes.
use Prim.Native.Nat.{ℕ, min, ◌≤◌, ◌<◌}
use mathlib.Core.Path.{◌≡◌, sym, ap, ◌∙◌}
use mathlib.Core.Bool.{true, false}
use mathlib.Core.List.{List, []}
use native.Mathlib.Omega.{arith}
use native.Mathlib.Decide.{dec_lt}
use borrow.Author.Tests.{lt-ltb, le-ltb}
use lib.ListN.{length, take, length-take}
use lib.Seq.{take_all, take-take}
use lib.Dec.{eqb}
use Rattle.std.specs.Cmp.Lexicographic.{pointwise}
use Rattle.byte_slices.specs.Slices.{same}
use Rattle.byte_slices.proofs.Slices.{same_self, same_pointwise, other_length}
use Rattle.aid.specs.Parts.{whole}
use Rattle.aid.specs.Matches.{matches_of}
use Rattle.aid.specs.declared.Aid.{Aid}

-- an AID says at most 16 bytes
all_of_16 : (n : ℕ) (l : List ℕ) → length l ≡ 16 → take (min n 16) l ≡ take n l
all_of_16 n l e =
    elim (dec_lt n 16) [
      | yes h ↦ ap (λ (k : ℕ). take k l) (omega arith)
      | no h ↦ take_all (min n 16) l (omega arith) ∙ sym (take_all n l (omega arith))
    ]

module _ (a : Aid) (name : List ℕ) where
  pub too_short : length name < a.truncated → false ≡ matches_of a name
  unfolding matches_of
  too_short h = rw (lt-ltb (length name) a.truncated h)

  pub too_long : length (whole a) < length name → false ≡ matches_of a name
  unfolding matches_of
  too_long h =
      elim (dec_lt (length name) a.truncated) [
        | yes g ↦ too_short g
        | no g ↦
            rw (le-ltb (length name) a.truncated (omega arith))
            (other_length name (take (length name) (whole a)) (λ e. omega (arith, length-take (length name) (whole a), e)))
      ]

  -- any other name is compared with as many of the bytes
  pub compared_with_front : a.truncated ≤ length name → length name ≤ a.len → same name (take (length name) a.bytes) ≡ matches_of a name
  unfolding matches_of
  compared_with_front h g = rw (le-ltb (length name) a.truncated h, take-take)

  -- and that is what `starts_with` does
  pub tested_as_front : a.truncated ≤ length name → length a.bytes ≡ 16
      → pointwise eqb name (take (length name) (take (min a.len 16) a.bytes)) ≡ matches_of a name
  unfolding matches_of
  tested_as_front h g = rw (le-ltb (length name) a.truncated h, all_of_16 a.len a.bytes g, same_pointwise)

-- the empty name matches an AID of truncated length 0, and no other (rule 9.6)
pub empty_name_matches : (a : Aid) → a.truncated ≡ 0 → matches_of a [] ≡ true
unfolding matches_of
empty_name_matches a e = rw (le-ltb 0 a.truncated (omega (arith, e))) (same_self [])

pub empty_name_too_short : (a : Aid) → 1 ≤ a.truncated → matches_of a [] ≡ false
empty_name_too_short a h = sym (too_short a [] (omega arith))
