-- One reply: any two replies that a promise allows are equal (rule 11.1).
use Prim.Native.Nat.{ℕ}
use mathlib.Core.Path.{◌≡◌, refl, ◌∙⁻¹◌}
use mathlib.Core.Bool.{cond}
use mathlib.Core.List.{List, [], ◌∷◌}
use lib.Dec.{eqb}
use Rattle.std.specs.Prelude.{Result, Ok, Err}
use Rattle.basis.proofs.Reply.{apart}
use Rattle.tlv.specs.declared.stop.Stop.{Stop}
use Rattle.tlv.specs.declared.stop.Stop.TheVariants as stop
use Rattle.tlv_chunks.specs.Run.{Event, head, end, refusal}
use Rattle.tlv_chunks.specs.Call.{Call, events_of, Says, NewIs, TakeIs, CloseIs}
use Rattle.tlv_chunks.specs.declared.walk.ChunkWalk.{ChunkWalk}
use Rattle.tlv_chunks.specs.declared.walk.TakeChunk.{TakeChunk}
use Rattle.tlv_chunks.specs.declared.walk.TakeChunk.TheVariants as answer
use Rattle.tlv_chunks.specs.declared.walk.ChunkTaken.{ChunkTaken}

-- the way back from what is told to the answer, and that it leads back to the same answer
abbrev back : List Event → Result TakeChunk Stop
back [] = Ok answer.NeedMore
back (head t n ∷ []) = Ok (answer.Head t n)
back (head t n ∷ e ∷ es) = Ok (answer.Empty t)
back (end ∷ es) = Ok answer.ValueEnd
back (refusal k ∷ es) = Err (cond (eqb k 11) stop.End stop.Unreadable)

there_and_back : (x : Result TakeChunk Stop) → back (events_of x) ≡ x
there_and_back (Ok answer.NeedMore) = refl
there_and_back (Ok (answer.Head t n)) = refl
there_and_back (Ok (answer.Empty t)) = refl
there_and_back (Ok answer.ValueEnd) = refl
there_and_back (Err stop.End) = refl
there_and_back (Err stop.Unreadable) = refl

one_answer : (c : Call) (x y : ChunkTaken) → Says c x → Says c y → x ≡ y
one_answer c x y p q =
    let answers : x.answer ≡ y.answer = apart events_of back there_and_back _ _ (p.tells ∙⁻¹ q.tells) in
    let numbers : x.taken ≡ y.taken = p.taken ∙⁻¹ q.taken in
    let walks : x.walk ≡ y.walk = p.walk ∙⁻¹ q.walk in
    λ i. record { answer = answers i; taken = numbers i; walk = walks i }

pub new : (x y : ChunkWalk) → NewIs x → NewIs y → x ≡ y
new x y p q = p ∙⁻¹ q

pub take : (w : ChunkWalk) (s : List ℕ) (x y : ChunkTaken) → TakeIs w s x → TakeIs w s y → x ≡ y
take w s x y p q = one_answer _ x y p q

pub close : (w : ChunkWalk) (x y : ChunkTaken) → CloseIs w x → CloseIs w y → x ≡ y
close w x y p q = one_answer _ x y p q
