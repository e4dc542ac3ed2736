-- The proofs of the reassembler: its theorems, and what makes each of them strong enough.
--
-- Outcomes, what each piece comes to, in numbers. The hypotheses are about `parse`, `data_in`, lengths and class bytes.
--   piece_unread: the parser refuses the piece. Its number is given, and nothing changes.
--   first_no_room, next_no_room: 18, with no chain open and with one open.
--   piece_first, piece_only: no chain is open, and bit 0x10 is set, or clear.
--   piece_next, piece_last: a chain is open, the piece has its header, and bit 0x10 is set, or clear.
-- Steps, the same for any state. Theorems about runs of pieces use it.
--   step_more, step_last, step_no_room: a piece that continues. Every piece does if no chain is open (piece_first uses
--     it so), else exactly those with its header (continues_same and same_continues, in Headers).
--   other_header, same_header: 17 is given exactly if a chain is open and the piece has not its header. A `SameHeader`
--     that compares more would make other_header false; one that compares less, same_header and header_kept.
--   header_from: builds `SameHeader` from numbers.
--   header_kept: the chain after a piece has the header of the pieces before it.
--   refused_kept: a refusal changes neither the state nor the room. When there is one, the theorems above say.
-- OneReply: any two replies, states and rooms that a promise allows are equal.
-- Headers and JoinPromise serve the proofs of the functions: whether a piece continues a chain, and that what the code
-- did with a piece is what `join` promises.
--
-- Wrong definitions that are refused (must-fail/answers_and_states.edit): closed_holds_nothing,
-- room_changed_before_18, same_header_never.
pub mod Headers
pub mod JoinPromise
pub mod Steps
pub mod OneReply
pub mod Outcomes
