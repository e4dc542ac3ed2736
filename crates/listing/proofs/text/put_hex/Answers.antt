use borrow.Author.Rules.{rules}
use Prim.Native.Nat.{ℕ, ◌/◌, ◌%◌}
use mathlib.Core.Path.{ap, ◌∙◌}
use mathlib.Core.List.{[], ◌∷◌}
use Rattle.listing.specs.Text.{hex_digit, hex}
use Rattle.listing.proofs.Writing.{puts_next, puts_as}
use Rattle.listing.proofs.text.put_hex.Goals as goal

pub returns : goal.returns
unfolding hex
returns c =
    puts_as
    (ap (λ (x : ℕ). x ∷ c.hex_digit-2.result ∷ []) c.hex_digit.ensures
    ∙ ap (λ (x : ℕ). hex_digit (c.args.n / 16 % 16) ∷ x ∷ []) c.hex_digit-2.ensures)
    (puts_next (search rules) c.put_byte-end.ensures c.put_byte.ensures)
