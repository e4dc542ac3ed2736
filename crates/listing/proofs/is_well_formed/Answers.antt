use native.Mathlib.Omega.{arith}
use borrow.Author.Tests.{le-leb, lt-leb}
use Prim.Native.Nat.{ℕ, ◌+◌}
use mathlib.Core.Path.{ap, ◌∙◌}
use lib.Dec.{eqb}
use lib.ListN.{length, drop}
use Rattle.listing.specs.Input.{section_size, well_formed}
use Rattle.listing.proofs.is_well_formed.Goals as goal

pub returns-then-input-le-INPUT_MAX : goal.returns-then-input-le-INPUT_MAX
unfolding well_formed
returns-then-input-le-INPUT_MAX c =
    let s = c.args.input.now in
    rw (le-leb (length s) 60000 (omega (arith, c.if-input-le-INPUT_MAX.true)))
    (ap (λ (n : ℕ). eqb n (length s)) (c.pass_section.ensures.0 ∙ ap (λ (m : ℕ). m + section_size (drop m s)) c.requires.0))

pub returns-else-input-le-INPUT_MAX : goal.returns-else-input-le-INPUT_MAX
unfolding well_formed
returns-else-input-le-INPUT_MAX c = rw (lt-leb (length c.args.input.now) 60000 (omega (arith, c.if-input-le-INPUT_MAX.false)))
