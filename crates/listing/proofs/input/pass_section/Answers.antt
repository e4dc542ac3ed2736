use native.Mathlib.Omega.{arith}
use mathlib.Core.Path.{sym, ◌∙◌}
use Rattle.listing.proofs.Sections.{section_is}
use Rattle.listing.proofs.input.pass_section.Goals as goal

pub returns : goal.returns
returns c =
    let a = c.args in
    let s = a.input.now in
    let p = c.pair_at.ensures in
    (c.pass_items.ensures.0 ∙ sym (section_is s a.at c.pair_at.result p.0), omega arith)
