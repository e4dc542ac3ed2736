use native.Mathlib.Omega.{arith}
use mathlib.Core.Path.{◌≡◌, sym, ◌∙◌}
use lib.ListN.{length}
use Rattle.tlv_chunks.proofs.Calls.{header_goes_on, header_complete, header_unreadable, header_used_up}
use Rattle.tlv_chunks.proofs.walk.header_bytes.Goals as goal

pub loop-at-preserved : goal.loop-at-preserved
loop-at-preserved c =
    let more = rw c.in-Ok-More.field-0-is at c.in-Ok-More.ensures in
    c.loop-at.invariant ∙ header_goes_on _ _ _ _ c.loop-at-test.true (sym more)

pub returns-in-Ok-Complete : goal.returns-in-Ok-Complete
returns-in-Ok-Complete c =
    let complete = rw c.in-Ok-Complete.field-0-is at c.in-Ok-Complete.ensures in
    rw (c.loop-at.invariant ∙ header_complete _ _ _ _ _ c.loop-at-test.true (sym complete)) c.head.ensures

pub returns-in-Err : goal.returns-in-Err
returns-in-Err c =
    rw (c.loop-at.invariant ∙ header_unreadable _ _ _ _ c.loop-at-test.true (sym c.in-Err.ensures)) c.stopped.ensures

pub returns : goal.returns
returns c =
    let at_the_end : c.loop-at.at ≡ length c.args.chunk.now = omega arith in
    rw (c.loop-at.invariant ∙ header_used_up _ _ _ c.loop-at-test.false, at_the_end) c.answered.ensures
