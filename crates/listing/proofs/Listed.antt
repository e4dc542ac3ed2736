-- Laws of the whole text: well-formed and malformed input, and the promise of `list`.
use Prim.Native.Nat.{ℕ, ◌+◌, ◌≤◌}
use mathlib.Core.Path.{◌≡◌, ◌∙◌}
use mathlib.Core.Bool.{true, false}
use mathlib.Core.List.{List, [], ◌∷◌, ◌++◌}
use native.Mathlib.Omega.{arith}
use lib.ListN.{length, drop}
use Rattle.basis.specs.Number.{Bytes}
use Rattle.basis.proofs.Over.{over_at_zero}
use Rattle.listing.specs.declared.lines.Section.TheVariants.{Commands, Records}
use Rattle.listing.specs.Input.{items_at, section_size, well_formed}
use Rattle.listing.specs.Text.{line, section_text, text_of, ListIs, Puts}
use Rattle.listing.proofs.Longest.{formed_is, text_few}
use Rattle.listing.proofs.Writing.{ToWrite, to_write_first, to_write_as}

-- what is to be written for malformed input
module _ (s l : List ℕ) (b : Bytes s) (long : 780000 ≤ length l) where
  whole : ToWrite (text_of s) 0 l (text_of s) 0 l
  whole = to_write_first (text_of s) 0 l (omega (arith, text_few s b))

  pub to_write_malformed : well_formed s ≡ false → ToWrite (text_of s) 0 l (line "refused %\n" (20 ∷ [])) 0 l
  unfolding text_of
  to_write_malformed e = to_write_as (rw e) whole

  -- well-formed input, whose second section begins at m: the texts of both sections
  module _ (m : ℕ) (h : m ≡ section_size s) (e : well_formed s ≡ true) where
    pub to_write_formed : ToWrite (text_of s) 0 l (section_text Commands (items_at s) ++ section_text Records (items_at (drop m s))) 0 l
    unfolding text_of
    to_write_formed = to_write_as (rw (e, h)) whole

-- both sections of well-formed input lie inside it
pub inside : (s : List ℕ) (m : ℕ) → m ≡ section_size s → well_formed s ≡ true → (length s ≤ 60000) × (m + section_size (drop m s) ≡ length s)
inside s m h e = rw h (formed_is s e)

pub listed : (s before : List ℕ) (r : ℕ) (after : List ℕ) → Bytes s → 780000 ≤ length before → Puts (text_of s) 0 before r after
    → ListIs s before r after
listed s before r after b h p =
    record {
      reply = omega (arith, p.end);
      buffer = p.text ∙ over_at_zero (text_of s) before;
      fits = omega (arith, p.end, p.same_length, text_few s b);
    }
