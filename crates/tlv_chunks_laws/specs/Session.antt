-- A record in chunks, the answers to them, and what these say joined together (rule 18.5): "need more" says nothing, and
-- a repeated refusal comes once. `flatten` joins lists: the chunks to all bytes, and the answers to each chunk to all
-- answers.
use Rattle.std.specs.Prelude.{ℕ, Result, Ok, Err, cond, List, [], ◌∷◌, ◌++◌, eqb, drop}
use Rattle.std.proofs.Math.Option.{Option, none, some}
use Rattle.tlv.specs.Stop.{stop_number}
use Rattle.tlv.specs.declared.stop.Stop.{Stop}
use Rattle.tlv_chunks.specs.Run.{Event, head, end, refusal}
use Rattle.tlv_chunks.specs.Call.{events_of, TakeIs}
use Rattle.tlv_chunks.specs.declared.walk.ChunkWalk.{ChunkWalk}
use Rattle.tlv_chunks.specs.declared.walk.ChunkWalk.TheVariants.{Boundary, Header, Value, Stopped}
use Rattle.tlv_chunks.specs.declared.walk.TakeChunk.{TakeChunk}
use Rattle.tlv_chunks.specs.declared.walk.TakeChunk.TheVariants as answer
use Rattle.tlv_chunks.specs.declared.walk.ChunkTaken.{ChunkTaken}

-- the number that a walk has stopped with
abbrev pub stopped_by : ChunkWalk → Option ℕ
stopped_by Boundary = none
stopped_by (Header h) = none
stopped_by (Value n) = none
stopped_by (Stopped e) = some (stop_number e)

-- the last answer to a chunk: more bytes are needed, or it is a refusal
abbrev pub LastAnswer : Result TakeChunk Stop → Type 0
LastAnswer (Ok answer.NeedMore) = Unit {0}
LastAnswer (Ok (answer.Head t n)) = ⊥
LastAnswer (Ok (answer.Empty t)) = ⊥
LastAnswer (Ok answer.ValueEnd) = ⊥
LastAnswer (Err e) = Unit {0}

-- the answers to one chunk: it is handed in, and after each answer its rest, up to the last answer. Each is one that
-- `take` promises
abbrev pub Answered : ChunkWalk → List ℕ → List ChunkTaken → Type 0
Answered w s [] = ⊥
Answered w s (x ∷ []) = TakeIs w s x × LastAnswer x.answer
Answered w s (x ∷ y ∷ xs) = TakeIs w s x × Answered x.walk (drop x.taken s) (y ∷ xs)

-- the state after some answers
abbrev pub state_after : ChunkWalk → List ChunkTaken → ChunkWalk
state_after w [] = w
state_after w (x ∷ xs) = state_after x.walk xs

-- the answers to chunks that are handed in one after the other, those to each chunk in a list
abbrev pub Session : ChunkWalk → List (List ℕ) → List (List ChunkTaken) → Type 0
Session w [] [] = Unit {0}
Session w [] (xs ∷ xss) = ⊥
Session w (s ∷ ss) [] = ⊥
Session w (s ∷ ss) (xs ∷ xss) = Answered w s xs × Session (state_after w xs) ss xss

-- all that some answers say
unfoldable pub told : List ChunkTaken → List Event
told [] = []
told (x ∷ xs) = events_of x.answer ++ told xs

-- a repeated refusal once: k is the refusal that was told last, if nothing was told after it; the same one again is left
-- out
unfoldable pub once_after : Option ℕ → List Event → List Event
once_after k [] = []
once_after k (head t n ∷ es) = head t n ∷ once_after none es
once_after k (end ∷ es) = end ∷ once_after none es
once_after none (refusal j ∷ es) = refusal j ∷ once_after (some j) es
once_after (some k) (refusal j ∷ es) = cond (eqb k j) (once_after (some k) es) (refusal j ∷ once_after (some j) es)

abbrev pub once : List Event → List Event
once es = once_after none es
