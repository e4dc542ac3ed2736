use native.Mathlib.Omega.{arith}
use Rattle.basis.proofs.Over.{copied_at}
use Rattle.command.proofs.Rooms.{no_room, extended}
use Rattle.command.proofs.owned.Command.extend_from_command_view.Goals as goal

pub returns-then-room-held : goal.returns-then-room-held
returns-then-room-held c = no_room _ _ _ _ _ (omega arith) c.refused_extension.ensures

pub returns : goal.returns
returns c =
    extended _ _ _ _ _ _ (omega arith) c.taken.ensures (copied_at c.args.self.len _ _ _ _ c.copy_from_slice.ensures.after (omega arith))
