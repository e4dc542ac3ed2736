-- What each piece comes to, in numbers. Rules 5.1 to 5.7; header errors (17) are in Steps.
use Prim.Native.Nat.{ℕ, ◌+◌, ◌/◌, ◌%◌, ◌≤◌, ◌<◌}
use mathlib.Core.Path.{◌≡◌, refl, ◌∙◌}
use mathlib.Core.Bool.{true}
use mathlib.Core.List.{List}
use mathlib.Core.Option.{none, some}
use native.Mathlib.Nat.{zero-add}
use native.Mathlib.Omega.{arith}
use lib.ListN.{length}
use Rattle.basis.specs.Reply.{ok, refused}
use Rattle.basis.specs.Over.{over, over_at}
use Rattle.basis.proofs.Over.{over_at_zero}
use Rattle.class.specs.declared.Reading.TheVariants.{Crate}
use Rattle.command.specs.Command.{parse, data_in}
use Rattle.command.specs.declared.CommandView.{CommandView}
use Rattle.reassembler.specs.Join.{SameHeader, closed, open_with, join_of}
use Rattle.reassembler.specs.declared.OpenChain.{OpenChain}
use Rattle.reassembler.specs.declared.Reassembler.{Reassembler}
use Rattle.reassembler.proofs.Headers.{same_continues}
use Rattle.reassembler.proofs.Steps.{step_no_room, step_more, step_last}

-- the parser refuses it: its number, and nothing changes (rule 5.1)
pub piece_unread : (r : Reassembler) (room s : List ℕ) (k : ℕ) → parse Crate s ≡ refused k
    → join_of r room s ≡ record { reply = refused k; state = r; room = room }
unfolding join_of
piece_unread r room s k e = rw e

-- the parser reads it as v, and its data are d
module _ (room s : List ℕ) (v : CommandView) (d : List ℕ) (read : parse Crate s ≡ ok v) (part : data_in s (parse Crate s) ≡ d) where
  -- no chain is open: 18 if its data exceed the room, never 2 (rule 1.2)
  pub first_no_room : length room < length d → join_of closed room s ≡ record { reply = refused 18; state = closed; room = room }
  first_no_room g = step_no_room closed room s v d read part refl (omega arith)

  -- there is room: its data are at the room's beginning. Bit 0x10 set: more, and a chain with its header is open.
  -- Clear: the command, with its own extended flag
  module _ (room-left : length d ≤ length room) where
    pub piece_first : v.class.cla / 16 % 2 ≡ 1
        → join_of closed room s
        ≡ record {
          reply = ok none;
          state = open_with (record { class = v.class; instruction = v.instruction; p1 = v.p1; p2 = v.p2; len = length d });
          room = over d room;
        }
    piece_first b = step_more closed room s v d read part refl (omega arith) b ∙ rw (zero-add, over_at_zero)

    pub piece_only : v.class.cla / 16 % 2 ≡ 0
        → join_of closed room s
        ≡ record {
          reply =
              ok
              (some
              (record {
                class = v.class;
                instruction = v.instruction;
                p1 = v.p1;
                p2 = v.p2;
                len = length d;
                le = v.le;
                extended = v.extended;
              }));
          state = closed;
          room = over d room;
        }
    piece_only b = step_last closed room s v d read part refl (omega arith) b ∙ rw (zero-add, over_at_zero)

  -- a chain is open and the piece has its header: 18 if its data do not fit after those held
  module _ (h : OpenChain) (same : SameHeader h v) where
    pub next_no_room : length room < h.len + length d → join_of (open_with h) room s ≡ record { reply = refused 18; state = open_with h; room = room }
    next_no_room g = step_no_room (open_with h) room s v d read part (same_continues h v same) g

    -- there is room: its data follow those held. Bit 0x10 set: more. Clear: the command, with class and Le of this
    -- piece
    module _ (room-left : h.len + length d ≤ length room) where
      pub piece_next : v.class.cla / 16 % 2 ≡ 1
          → join_of (open_with h) room s
          ≡ record {
            reply = ok none;
            state = open_with (record { class = v.class; instruction = v.instruction; p1 = v.p1; p2 = v.p2; len = h.len + length d });
            room = over_at h.len d room;
          }
      piece_next b = step_more (open_with h) room s v d read part (same_continues h v same) room-left b

      pub piece_last : v.class.cla / 16 % 2 ≡ 0
          → join_of (open_with h) room s
          ≡ record {
            reply =
                ok
                (some
                (record {
                  class = v.class;
                  instruction = v.instruction;
                  p1 = v.p1;
                  p2 = v.p2;
                  len = h.len + length d;
                  le = v.le;
                  extended = true;
                }));
            state = closed;
            room = over_at h.len d room;
          }
      piece_last b = step_last (open_with h) room s v d read part (same_continues h v same) room-left b
