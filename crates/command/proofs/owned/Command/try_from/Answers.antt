use mathlib.Core.Path.{sym}
use native.Mathlib.Omega.{arith}
use Rattle.basis.proofs.Over.{copied_front}
use Rattle.command.proofs.Rooms.{too_long, copy}
use Rattle.command.proofs.owned.Command.try_from.Goals as goal

pub returns-then-room-view : goal.returns-then-room-view
returns-then-room-view c = too_long _ _ _ _ (sym c.in_ok-view.ensures) c.if-room-view.true

pub returns : goal.returns
returns c =
    copy _ _ _ _ _ _ (sym c.in_ok-view.ensures) c.if-room-view.false c.into.ensures (copied_front _ _ _ _ c.copy_from_slice.ensures.after (omega arith))
