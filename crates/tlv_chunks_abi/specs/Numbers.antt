-- A record that comes in chunks, for a host: the states of the walk and what a call tells as numbers (rule 18.10).
use Rattle.std.specs.Prelude.{ℕ, ◌+◌, ◌*◌, ◌/◌, ◌%◌, ◌<◌, cond, List, [], ◌∷◌, ◌++◌, eqb, leb, get_or}
use Rattle.abi.specs.Answers.{Row, row, RowTold}
use Rattle.tlv.specs.declared.stop.Stop.TheVariants as stop
use Rattle.tlv_chunks.specs.Run.{Event, head, end, refusal}
use Rattle.tlv_chunks.specs.Call.{Call, take_of, close_of, call_of}
use Rattle.tlv_chunks.specs.declared.header.Header.{Header as Part}
use Rattle.tlv_chunks.specs.declared.header.Header.TheVariants.{Tag1, Tag2, Tag, Length81, Length82, Length82High}
use Rattle.tlv_chunks.specs.declared.walk.ChunkWalk.{ChunkWalk}
use Rattle.tlv_chunks.specs.declared.walk.ChunkWalk.TheVariants.{Boundary, Header, Value, Stopped}
use Rattle.tlv_chunks.specs.declared.walk.ChunkTaken.{ChunkTaken}

-- the header of kinds 4 to 6: after the tag and 81, 82, or 82 and the low byte of the number (rule 18.10)
unfoldable pub length_by_numbers : ℕ → ℕ → ℕ → Part
length_by_numbers k t n = cond (eqb k 4) (Length81 t) (cond (eqb k 5) (Length82 t) (Length82High t (n % 256)))

-- the header of kinds 1 to 6: one byte of a tag, two, the high one first, or a whole tag (rule 18.10)
unfoldable pub header_by_numbers : ℕ → ℕ → ℕ → Part
header_by_numbers k t n =
    cond (eqb k 1) (Tag1 (t % 256)) (cond (eqb k 2) (Tag2 (t / 256 % 256) (t % 256)) (cond (eqb k 3) (Tag t) (length_by_numbers k t n)))

-- the state of any kind, with its tag and its number: 9 and above have stopped with 12 (rule 18.10)
unfoldable pub walk_by_numbers : ℕ → ℕ → ℕ → ChunkWalk
walk_by_numbers k t n =
    cond (eqb k 0) Boundary
    (cond (leb k 6) (Header (header_by_numbers k t n)) (cond (eqb k 7) (Value n) (Stopped (cond (eqb k 8) stop.End stop.Unreadable))))

-- the numbers of a header: kind, tag, number; 0 for what it has not (rule 18.10)
abbrev pub header_numbers : Part → List ℕ
header_numbers (Tag1 a) = 1 ∷ a ∷ 0 ∷ []
header_numbers (Tag2 a b) = 2 ∷ (a * 256 + b) ∷ 0 ∷ []
header_numbers (Tag t) = 3 ∷ t ∷ 0 ∷ []
header_numbers (Length81 t) = 4 ∷ t ∷ 0 ∷ []
header_numbers (Length82 t) = 5 ∷ t ∷ 0 ∷ []
header_numbers (Length82High t a) = 6 ∷ t ∷ a ∷ []

-- the numbers of a state, likewise (rule 18.10)
abbrev pub walk_numbers : ChunkWalk → List ℕ
walk_numbers Boundary = 0 ∷ 0 ∷ 0 ∷ []
walk_numbers (Header h) = header_numbers h
walk_numbers (Value n) = 7 ∷ 0 ∷ n ∷ []
walk_numbers (Stopped stop.End) = 8 ∷ 0 ∷ 0 ∷ []
walk_numbers (Stopped stop.Unreadable) = 9 ∷ 0 ∷ 0 ∷ []

-- the state that the numbers of a row stand for, if a host hands them in again (rule 18.10)
abbrev pub walk_of : List ℕ → ChunkWalk
walk_of vs = walk_by_numbers (get_or vs 0 0) (get_or vs 1 0) (get_or vs 2 0)

-- the status of what is told: the number of a refusal, else 0 (rule 18.10)
abbrev pub told_status : List Event → ℕ
told_status [] = 0
told_status (head t n ∷ es) = 0
told_status (end ∷ es) = 0
told_status (refusal k ∷ es) = k

-- the first four numbers: 1 if a head is told, 1 if an end is, and the head's tag and length. All that is told with a
-- head is the end of a value of no bytes (rule 18.10)
abbrev pub told_numbers : List Event → List ℕ
told_numbers [] = 0 ∷ 0 ∷ 0 ∷ 0 ∷ []
told_numbers (head t n ∷ []) = 1 ∷ 0 ∷ t ∷ n ∷ []
told_numbers (head t n ∷ e ∷ es) = 1 ∷ 1 ∷ t ∷ n ∷ []
told_numbers (end ∷ es) = 0 ∷ 1 ∷ 0 ∷ 0 ∷ []
told_numbers (refusal k ∷ es) = 0 ∷ 0 ∷ 0 ∷ 0 ∷ []

-- the row of a call: these four, how many bytes it takes, and the state after it (rule 18.10)
abbrev pub row_of : Call → Row
row_of c = row (told_status c.tells) (told_numbers c.tells ++ (c.taken ∷ walk_numbers c.walk))

-- the bytes that a header holds are bytes, as the types of the code say
abbrev pub PartHoldsBytes : Part → Type 0
PartHoldsBytes (Tag1 a) = a < 256
PartHoldsBytes (Tag2 a b) = (a < 256) × (b < 256)
PartHoldsBytes (Tag t) = Unit {0}
PartHoldsBytes (Length81 t) = Unit {0}
PartHoldsBytes (Length82 t) = Unit {0}
PartHoldsBytes (Length82High t a) = a < 256

-- the same for a state
abbrev pub HoldsBytes : ChunkWalk → Type 0
HoldsBytes Boundary = Unit {0}
HoldsBytes (Header h) = PartHoldsBytes h
HoldsBytes (Value n) = Unit {0}
HoldsBytes (Stopped e) = Unit {0}

-- the promise of `tell_answer`: the row of the call that an answer says
abbrev pub AnswerTold : ChunkTaken → List ℕ → ℕ → List ℕ → Type 0
AnswerTold x out r out' = RowTold (row_of (call_of x)) out r out'

-- the promise of `gorvisclen_take_chunk`, for a chunk s in the state that three numbers stand for (rules 18.1 and
-- 18.10)
abbrev pub ChunkTold : ℕ → ℕ → ℕ → List ℕ → List ℕ → ℕ → List ℕ → Type 0
ChunkTold k t n s out r out' = RowTold (row_of (take_of (walk_by_numbers k t n) s)) out r out'

-- the promise of `gorvisclen_close_chunks` (rules 18.6 and 18.10)
abbrev pub CloseTold : ℕ → ℕ → ℕ → List ℕ → ℕ → List ℕ → Type 0
CloseTold k t n out r out' = RowTold (row_of (close_of (walk_by_numbers k t n))) out r out'
