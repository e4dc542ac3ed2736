-- One reply and one content of the buffer: any two that the promise of `list` allows are equal.
use Prim.Native.Nat.{ℕ}
use mathlib.Core.Path.{◌≡◌, sym, ◌∙◌}
use mathlib.Core.List.{List}
use Rattle.listing.specs.Text.{ListIs}

pub list : (s before : List ℕ) (r r' : ℕ) (after after' : List ℕ) → ListIs s before r after → ListIs s before r' after'
    → (r ≡ r') × (after ≡ after')
list s before r r' after after' p q = (p.reply ∙ sym q.reply, p.buffer ∙ sym q.buffer)
