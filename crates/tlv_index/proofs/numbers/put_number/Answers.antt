use Prim.Native.Nat.{◌+◌, ◌-◌}
use mathlib.Core.Path.{◌≡◌, sym, ◌∙◌}
use native.Mathlib.Omega.{arith}
use Rattle.tlv_index.proofs.Fields.{put_none, put_last}
use Rattle.tlv_index.proofs.numbers.put_number.Goals as goal

pub loop-i-preserved : goal.loop-i-preserved
loop-i-preserved g c =
    let a = c.args.at in
    let k = g.row.N - (c.loop-i.i + 1) in
    let left : g.row.N - c.loop-i.i ≡ k + 1 = omega arith in
    put_last k a c.loop-i.rest _ c.loop-i.file (omega arith) (omega arith) ∙ rw left at c.loop-i.invariant

pub returns : goal.returns
returns g c =
    let none : g.row.N - c.loop-i.i ≡ 0 = omega arith in
    sym (put_none c.args.at c.loop-i.rest c.loop-i.file) ∙ rw none at c.loop-i.invariant
