-- The proofs of demand 3 (rules 11.4 and 11.5): its theorems, and what makes each of
-- them strong enough. A `Job` is a command and a buffer, and `InScope` says what demand 3 asks of it. `stream js` are
-- the pieces of all jobs, in order. `run` sends pieces through a reassembler.
--
-- Demand3:
--   every_piece_fits: (a) every piece is at most as long as its buffer.
--   given_back: (b) the pieces of a list, sent through a fresh reassembler, give the commands back, for every room.
--   given_back_among_noise: (c) the same, with refused pieces put in anywhere.
--   same_stream_same_commands: (d) two lists with the same pieces are lists of the same commands.
--   pieces_given: the pieces are those that the splitter gives one by one, before "none left". In splitter_laws,
--     piece_written and piece_in_buffer say that `write_next` writes them to the front of a buffer.
-- Places:
--   each_at_its_last: (b) by places. There is one reply for each piece: "more" to all pieces of a job but the last, the
--     command to the last. It names neither `all_replies` nor `replies_to` nor `command_back_to`, and so fixes all three.
-- Noise:
--   put_in: one refused piece is put in. Its reply is added; the other replies, the state and the room stay.
--   noise_nothing: the same for any number of them. It fixes `replies_to_pieces`.
--   refused_there: builds `RefusedThere` from "the reply to each piece put in, at its place, is `refused k`".
--   piece_in_both, noise_in_all: fix `all_sent` and `pieces_sent`.
-- Jobs:
--   in_scope, has_room: build `InScope` and `HasRoom` from the facts of demand 3, in numbers.
-- Cuts:
--   command_back: (b) for one command in every mode, from facts in numbers. It builds `Sendable`.
-- Runs:
--   run_none, run_first, run_replies: fix `run`.
--   run_called, reply_data: a run is what a caller gets, by the promises of `join` and `data`.
--
-- Wrong definitions that are refused (must-fail/demand_3_definitions.edit): ef_allowed, buffer_9, le_257,
-- data_to_65534, command_early, noise_accepted, refused_there_never.
pub mod Runs
pub mod Cuts
pub mod Jobs
pub mod Noise
pub mod Demand3
pub mod Places
