-- Laws of forms with their numbers filled in.
use Prim.Native.Nat.{ℕ, ◌+◌, ◌≤◌, ◌<◌}
use mathlib.Core.Path.{◌≡◌}
use mathlib.Core.List.{List, [], ◌++◌}
use native.Mathlib.Numerals.{add-one}
use lib.ListN.{length, get_or, drop, drop_of_length-le}
use lib.Seq.{drop-cons}
use Rattle.listing.specs.Text.{form_text, takes_number, filled}

-- the next character of a form, with the numbers ns that are left; no character left
pub filled_next : (form ns : List ℕ) (i : ℕ) → i < length form
    → filled (drop i form) ns
    ≡ form_text (get_or form i 0) (get_or ns 0 0) ++ filled (drop (i + 1) form) (drop (takes_number (get_or form i 0)) ns)
unfolding filled
filled_next form ns i h = rw (add-one, drop-cons form i 0 h)

pub filled_done : (form ns : List ℕ) (i : ℕ) → length form ≤ i → filled (drop i form) ns ≡ []
unfolding filled
filled_done form ns i h = rw (drop_of_length-le form h)
