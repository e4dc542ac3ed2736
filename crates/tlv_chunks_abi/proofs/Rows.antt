-- The row of a call: from the numbers that the code puts together, and for the call that an answer says.
use Prim.Native.Nat.{ℕ}
use mathlib.Core.Path.{◌≡◌, refl, sym, ap, ◌∙◌}
use mathlib.Core.List.{List, [], ◌∷◌, ◌++◌}
use lib.ListN.{length, get_or}
use Rattle.abi.specs.Answers.{Row, row, RowTold}
use Rattle.abi.proofs.AnswerLaws.{told_as}
use Rattle.tlv.specs.declared.stop.Stop.TheVariants as stop
use Rattle.tlv_chunks.specs.Run.{Event, head, end, refusal}
use Rattle.tlv_chunks.specs.Call.{Call, Says, take_of, close_of}
use Rattle.tlv_chunks.specs.declared.header.Header.{Header as Part}
use Rattle.tlv_chunks.specs.declared.header.Header.TheVariants.{Tag1, Tag2, Tag, Length81, Length82, Length82High}
use Rattle.tlv_chunks.specs.declared.walk.ChunkWalk.{ChunkWalk}
use Rattle.tlv_chunks.specs.declared.walk.ChunkWalk.TheVariants.{Boundary, Header, Value, Stopped}
use Rattle.tlv_chunks.specs.declared.walk.ChunkTaken.{ChunkTaken}
use Rattle.tlv_chunks.proofs.Calls.{call_said}
use Rattle.tlv_chunks_abi.specs.Numbers.{walk_by_numbers, header_numbers, walk_numbers, told_status, told_numbers, row_of}
use Rattle.tlv_chunks_abi.specs.Numbers.{AnswerTold, ChunkTold, CloseTold}

-- four numbers of what is told, and three of a state, one by one
abbrev four_of : List ℕ → List ℕ → List ℕ
four_of vs l = get_or vs 0 0 ∷ get_or vs 1 0 ∷ get_or vs 2 0 ∷ get_or vs 3 0 ∷ l

abbrev three_of : List ℕ → List ℕ
three_of vs = get_or vs 0 0 ∷ get_or vs 1 0 ∷ get_or vs 2 0 ∷ []

four_told : (es : List Event) (l : List ℕ) → four_of (told_numbers es) l ≡ told_numbers es ++ l
four_told [] l = refl
four_told (head t n ∷ []) l = refl
four_told (head t n ∷ e ∷ es) l = refl
four_told (end ∷ es) l = refl
four_told (refusal k ∷ es) l = refl

three_of_header : (h : Part) → three_of (header_numbers h) ≡ header_numbers h
three_of_header (Tag1 a) = refl
three_of_header (Tag2 a b) = refl
three_of_header (Tag t) = refl
three_of_header (Length81 t) = refl
three_of_header (Length82 t) = refl
three_of_header (Length82High t a) = refl

three_of_walk : (w : ChunkWalk) → three_of (walk_numbers w) ≡ walk_numbers w
three_of_walk Boundary = refl
three_of_walk (Header h) = three_of_header h
three_of_walk (Value n) = refl
three_of_walk (Stopped stop.End) = refl
three_of_walk (Stopped stop.Unreadable) = refl

-- a row has eight numbers
eight_by : (es : List Event) (k : ℕ) (vs : List ℕ) → length (told_numbers es ++ (k ∷ three_of vs)) ≡ 8
eight_by [] k vs = refl
eight_by (head t n ∷ []) k vs = refl
eight_by (head t n ∷ e ∷ es) k vs = refl
eight_by (end ∷ es) k vs = refl
eight_by (refusal j ∷ es) k vs = refl

pub eight_numbers : (c : Call) → length (row_of c).numbers ≡ 8
eight_numbers c =
    let l = walk_numbers c.walk in
    ap (λ ws. length (told_numbers c.tells ++ (c.taken ∷ ws))) (sym (three_of_walk c.walk)) ∙ eight_by c.tells c.taken l

-- the row that the code puts together is that of the call
pub row_said : (c : Call) (s : ℕ) (vs ws : List ℕ) → s ≡ told_status c.tells → vs ≡ told_numbers c.tells → ws ≡ walk_numbers c.walk
    → row s (four_of vs (c.taken ∷ three_of ws)) ≡ row_of c
row_said c s vs ws e f g =
    let l = c.taken ∷ walk_numbers c.walk in
    let state : three_of ws ≡ walk_numbers c.walk = ap three_of g ∙ three_of_walk c.walk in
    let told : four_of vs (c.taken ∷ three_of ws) ≡ told_numbers c.tells ++ l =
    (λ i. four_of (f i) (c.taken ∷ state i)) ∙ four_told c.tells l in
    λ i. row (e i) (told i)

pub row_told : (x : Row) (c : Call) (out : List ℕ) (r : ℕ) (out' : List ℕ) → RowTold x out r out' → x ≡ row_of c → RowTold (row_of c) out r out'
row_told x c out r out' a e = told_as x (row_of c) out r out' e a

-- the row of an answer is that of the call that it says
pub chunk_told : (k t n : ℕ) (s : List ℕ) (w : ChunkWalk) (x : ChunkTaken) (out : List ℕ) (r : ℕ) (out' : List ℕ)
    → w ≡ walk_by_numbers k t n → Says (take_of w s) x → AnswerTold x out r out' → ChunkTold k t n s out r out'
chunk_told k t n s w x out r out' e h a =
    told_as _ _ out r out' (ap row_of (sym (call_said (take_of w s) x h) ∙ ap (λ w. take_of w s) e)) a

pub close_told : (k t n : ℕ) (w : ChunkWalk) (x : ChunkTaken) (out : List ℕ) (r : ℕ) (out' : List ℕ) → w ≡ walk_by_numbers k t n
    → Says (close_of w) x → AnswerTold x out r out' → CloseTold k t n out r out'
close_told k t n w x out r out' e h a = told_as _ _ out r out' (ap row_of (sym (call_said (close_of w) x h) ∙ ap close_of e)) a
