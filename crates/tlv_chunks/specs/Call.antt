-- The calls: a chunk that is handed in, and closing (rules 18.1, 18.6 and 18.7).
use Rattle.std.specs.Prelude.{ℕ, suc, ◌+◌, ◌-◌, ◌≡◌, Result, Ok, Err, cond, List, [], ◌∷◌, leb, eqb, drop}
use Rattle.tlv.specs.Stop.{stop_number}
use Rattle.tlv.specs.declared.stop.Stop.{Stop}
use Rattle.tlv.specs.declared.stop.Stop.TheVariants.{End, Unreadable}
use Rattle.tlv_chunks.specs.Run.{Event, head, end, refusal, headed, step, closing}
use Rattle.tlv_chunks.specs.declared.header.Header.{Header as Part}
use Rattle.tlv_chunks.specs.declared.walk.ChunkWalk.{ChunkWalk}
use Rattle.tlv_chunks.specs.declared.walk.ChunkWalk.TheVariants.{Boundary, Header, Value, Stopped}
use Rattle.tlv_chunks.specs.declared.walk.TakeChunk.{TakeChunk}
use Rattle.tlv_chunks.specs.declared.walk.TakeChunk.TheVariants as answer
use Rattle.tlv_chunks.specs.declared.walk.ChunkTaken.{ChunkTaken}

-- what a call tells (nothing: more bytes are needed), how many bytes it takes, and the state after it
pub record Call : Type 0 where
  pub tells : List Event
  pub taken : ℕ
  pub walk : ChunkWalk

-- a call after k bytes that told nothing
abbrev pub later : ℕ → Call → Call
later k c = record { tells = c.tells; taken = k + c.taken; walk = c.walk }

-- a byte that tells nothing is taken, and the call goes on; a byte that tells something is the last that it takes
abbrev pub after_byte : List Event → ChunkWalk → Call → Call
after_byte [] w c = record { tells = c.tells; taken = suc c.taken; walk = c.walk }
after_byte (e ∷ es) w c = record { tells = e ∷ es; taken = 1; walk = w }

-- the bytes of a chunk up to the first that tells something
unfoldable pub up_to_reply : ChunkWalk → List ℕ → Call
up_to_reply w [] = record { tells = []; taken = 0; walk = w }
up_to_reply w (b ∷ s) = after_byte (step w b).tells (step w b).walk (up_to_reply (step w b).walk s)

-- a walk that has stopped repeats its number; no byte is taken, and nothing changes (rule 18.7)
abbrev pub repeated : ℕ → ChunkWalk → Call
repeated k w = record { tells = refusal k ∷ []; taken = 0; walk = w }

-- a chunk that is handed in
unfoldable pub take_of : ChunkWalk → List ℕ → Call
take_of Boundary s = up_to_reply Boundary s
take_of (Header h) s = up_to_reply (Header h) s
take_of (Value n) s = up_to_reply (Value n) s
take_of (Stopped e) s = repeated (stop_number e) (Stopped e)

-- closing: the walk stops with its number (rule 18.6)
abbrev pub stopped_with : ℕ → ChunkWalk
stopped_with k = Stopped (cond (eqb k 11) End Unreadable)

abbrev pub close_of : ChunkWalk → Call
close_of w = repeated (closing w) (stopped_with (closing w))

-- what an answer of the code says
abbrev pub events_of : Result TakeChunk Stop → List Event
events_of (Ok answer.NeedMore) = []
events_of (Ok (answer.Head t n)) = head t n ∷ []
events_of (Ok (answer.Empty t)) = head t 0 ∷ end ∷ []
events_of (Ok answer.ValueEnd) = end ∷ []
events_of (Err e) = refusal (stop_number e) ∷ []

-- an answer that says what a call comes to
pub record Says (c : Call) (x : ChunkTaken) : Type 0 where
  pub tells : events_of x.answer ≡ c.tells
  pub taken : x.taken ≡ c.taken
  pub walk : x.walk ≡ c.walk

-- the promises of `new`, `take` and `close`
abbrev pub NewIs : ChunkWalk → Type 0
NewIs x = x ≡ Boundary

abbrev pub TakeIs : ChunkWalk → List ℕ → ChunkTaken → Type 0
TakeIs w s x = Says (take_of w s) x

abbrev pub CloseIs : ChunkWalk → ChunkTaken → Type 0
CloseIs w x = Says (close_of w) x

-- the call that an answer says
abbrev pub call_of : ChunkTaken → Call
call_of x = record { tells = events_of x.answer; taken = x.taken; walk = x.walk }

-- for the private functions of `take`: an answer; a stop after k bytes; a header that is complete after k bytes; a
-- header from place k of a chunk on; a value in a chunk of m bytes, in one step
abbrev pub answer_call : TakeChunk → ℕ → ChunkWalk → Call
answer_call a k w = record { tells = events_of (Ok a); taken = k; walk = w }

abbrev pub stopped_call : Stop → ℕ → Call
stopped_call e k = record { tells = events_of (Err e); taken = k; walk = Stopped e }

abbrev pub head_call : ℕ → ℕ → ℕ → Call
head_call t n k = record { tells = (headed t n).tells; taken = k; walk = (headed t n).walk }

abbrev pub rest_call : Part → List ℕ → ℕ → Call
rest_call h s k = later k (up_to_reply (Header h) (drop k s))

unfoldable pub value_call : ℕ → ℕ → Call
value_call n m =
    cond (leb m n) (record { tells = []; taken = m; walk = Value (n - m) }) (record { tells = end ∷ []; taken = n + 1; walk = Boundary })
