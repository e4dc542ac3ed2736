use native.Mathlib.Omega.{arith}
use mathlib.Core.Path.{◌∙◌}
use Prim.Native.Nat.{◌-◌}
use lib.ListN.{drop}
use Rattle.listing.proofs.Sections.{size_next, size_none}
use Rattle.listing.proofs.input.pass_items.Goals as goal

pub loop-preserved : goal.loop-preserved
loop-preserved c =
    let l = c.loop in
    let a = c.args in
    (l.invariant.0 ∙ size_next a.input.now l.at c.pair_at.result c.pair_at.ensures.0 (a.count - l.counter) _ (omega arith), omega arith, omega arith)

pub returns : goal.returns
returns c =
    let l = c.loop in
    let a = c.args in
    omega (arith, size_none (drop l.at a.input.now) (a.count - l.counter) (omega arith))
