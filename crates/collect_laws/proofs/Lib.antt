-- The theorems about collecting (rules 14.1 to 14.9), and what makes each of them strong enough. `run` gives responses
-- to a collection, by the definitions that the promise of `step` names. `accepted`, `joined`, `statuses`, `end_status`
-- and `sends` are plain words, without steps. All of it holds for any command, any room and any list of responses.
--
-- Collected, for a run that begins with `start`:
--   room_after: the front of the room is the data of all accepted responses, joined in order; the rest is as it was.
--   held_after, never_above: that many bytes are held, never more than the room has, and the room stays as long.
--   stands_after: how it stands. goes_on: it goes on if all accepted responses ask for more. ends, ends_only: it is
--     done exactly if the last accepted response asks for nothing, with the status of that one, the first such one.
--   collected_all: what `collected` gives then are the data of all accepted responses.
--   sent_after: what is sent is `sends` of the command and the statuses of the accepted responses. same_sent,
--     same_bytes: runs with the same statuses send the same.
--   sent_written: `write` leaves the bytes of what is to be sent in the buffer.
-- Replies:
--   replied_22, replied_23, replied_ok: the reply to one more response: 22, 23, or how it then stands.
-- Noise:
--   put_in: one refused response is put in. Its reply is added; the other replies, how it stands and the room stay.
--   noise_nothing: the same for any number of them. It fixes `replies_to_responses`.
-- ReadBack:
--   get_response_bytes: GET RESPONSE is class, C0, 0, 0, xx in every mode of the command.
--   get_response_read, command_read: what it, and the command sent again, are read as, in both readings.
--   sent_read: everything that a run sends is read so. sent_get_response_read, sent_command_read: the same by places.
-- PlainRun:
--   plain_run: room, state and what is sent, from any state whose held bytes lie in the room, if its class is the
--     command's.
-- Examples:
--   parts_held, sent_again, refused_between: three runs in bytes, computed.
--
-- What guards them:
--   run_called_send, run_called_done, run_called_refused (Runs): a run is what a caller of `step` gets, by its promise.
--   run_none, run_done, run_first, run_refused, run_append, run_replies, after_the_end (Runs): fix `run`.
--   accepted_says, accepted_if, short_not, long_not, accepted_more, accepted_end (Accepted): fix `accepted`, in
--     numbers; data_and_status, asks_61, asks_6c, asks_nothing: from a response's bytes; joined_one, joined_append: fix
--     `joined`; accepted_ends: `AllAskMore` or `EndsWith` holds of every list of accepted responses.
--   sent_61, sent_6c_command, sent_6c_get_response, sent_no_more (Sends): fix `sends`, by places, with every field.
--   refused_22, refused_23, held, held_room (Steps): one response, in numbers. What a status calls for: calls_more,
--     calls_again, calls_nothing of `collect`.
--   refused_there, refused_there_plain (Noise): build `RefusedThere`, from the replies, and from lengths alone;
--     response_in_both, noise_in_all: fix `all_heard` and `without_noise`.
--   each_at, each_asked (ReadBack): what `EachAsked` says.
--
-- Wrong definitions that are refused: in must-fail/what_is_held.edit refusal_forgets, replied_after_the_end,
-- one_byte_accepted, warning_asks_for_more, joined_in_reverse, end_at_62_missed, never_ended, noise_accepted,
-- refused_there_never, noise_kept, data_with_get_response, le_00_as_0; in must-fail/what_is_sent.edit
-- exact_fit_refused, last_left_out, data_beside_6c_dropped, class_zero, first_sent_again, sent_after_the_end,
-- last_is_first, held_at_the_end_zero, get_response_extended, sent_unasked, read_back_unsaid.
pub mod Steps
pub mod Runs
pub mod Accepted
pub mod Sends
pub mod PlainRun
pub mod Collected
pub mod Replies
pub mod Noise
pub mod ReadBack
pub mod Examples
