-- A record in chunks, closed: all that is told, joined together, is what the whole walk of the record says (rules 18.6
-- and 18.9). The statements are over the promises of `take` and `close`.
use Prim.Native.Nat.{ℕ}
use mathlib.Core.Path.{◌≡◌, refl, sym, ap, ◌∙◌}
use mathlib.Core.List.{List, [], ◌∷◌, ◌++◌, append-nil, map, flatten}
use lib.ListN.{drop}
use Rattle.basis.specs.Reply.{Reply, ok, refused}
use Rattle.tlv.specs.Tag.{Tag, tag_of}
use Rattle.tlv.specs.Len.{Len, len_of}
use Rattle.tlv.specs.Object.{Item}
use Rattle.tlv.specs.Walk.{walk}
use Rattle.tlv.specs.declared.Reading.TheVariants.{Crate}
use Rattle.std.specs.Prelude.{Err}
use Rattle.tlv.specs.declared.stop.Stop.TheVariants as stop
use Rattle.tlv_chunks.specs.Run.{Event, head, end, refusal, run, closing}
use Rattle.tlv_chunks.specs.Call.{events_of, NewIs, CloseIs}
use Rattle.tlv_chunks.specs.declared.walk.ChunkWalk.{ChunkWalk}
use Rattle.tlv_chunks.specs.declared.walk.ChunkWalk.TheVariants.{Boundary, Header, Value, Stopped}
use Rattle.tlv_chunks.specs.declared.walk.ChunkTaken.{ChunkTaken}
use Rattle.tlv_chunks.proofs.OneReply.{close}
use Rattle.tlv_chunks_laws.specs.Session.{stopped_by, state_after, Session, told, once_after, once}
use Rattle.tlv_chunks_laws.specs.Whole.{objects_tell, head_of_len, head_of_tag, cut_head, whole_tells, TagLen, tag_lens, finished, refusals}
use Rattle.tlv_chunks_laws.proofs.Divided.{from_the_start, divided_tells, divided_state}
use Rattle.tlv_chunks_laws.proofs.Whole.{closing_tells, ended_whole, closing_number}

-- of all that a whole record tells: the finished objects are those of the walk, and the one refusal is the number of its
-- stop
cut_finished : (t : Tag) (x : Reply Len) (k : ℕ) → finished (head_of_len t x ++ (refusal k ∷ [])) ≡ []
unfolding finished
cut_finished t (ok l) k = refl
cut_finished t (refused j) k = refl

cut_refusals : (t : Tag) (x : Reply Len) (k : ℕ) → refusals (head_of_len t x ++ (refusal k ∷ [])) ≡ k ∷ []
unfolding refusals
cut_refusals t (ok l) k = refl
cut_refusals t (refused j) k = refl

tag_finished : (s : List ℕ) (x : Reply Tag) (k : ℕ) → finished (head_of_tag s x ++ (refusal k ∷ [])) ≡ []
unfolding finished
tag_finished s (ok t) k = cut_finished t (len_of Crate (drop t.size s)) k
tag_finished s (refused j) k = refl

tag_refusals : (s : List ℕ) (x : Reply Tag) (k : ℕ) → refusals (head_of_tag s x ++ (refusal k ∷ [])) ≡ k ∷ []
unfolding refusals
tag_refusals s (ok t) k = cut_refusals t (len_of Crate (drop t.size s)) k
tag_refusals s (refused j) k = refl

items_finished : (items : List Item) (es : List Event) → finished es ≡ [] → finished (objects_tell items ++ es) ≡ tag_lens items
unfolding finished objects_tell
items_finished [] es e = e
items_finished (i ∷ items) es e = ap (λ (l : List TagLen). record { tag = i.tag; len = i.len } ∷ l) (items_finished items es e)

items_refusals : (items : List Item) (es : List Event) → refusals (objects_tell items ++ es) ≡ refusals es
unfolding refusals objects_tell
items_refusals [] es = refl
items_refusals (i ∷ items) es = items_refusals items es

pub whole_finished : (s : List ℕ) → finished (whole_tells s) ≡ tag_lens (walk Crate 0 s).items
unfolding whole_tells cut_head
whole_finished s =
    let w = walk Crate 0 s in
    let rest = drop w.stop.place s in
    items_finished w.items (cut_head rest ++ (refusal w.stop.number ∷ [])) (tag_finished rest (tag_of Crate rest) w.stop.number)

pub whole_refusals : (s : List ℕ) → refusals (whole_tells s) ≡ (walk Crate 0 s).stop.number ∷ []
unfolding whole_tells cut_head
whole_refusals s =
    let w = walk Crate 0 s in
    let rest = drop w.stop.place s in
    items_refusals w.items (cut_head rest ++ (refusal w.stop.number ∷ [])) ∙ tag_refusals rest (tag_of Crate rest) w.stop.number

-- at closing no further object is finished
finished_then_refused : (es : List Event) (k : ℕ) → finished (es ++ (refusal k ∷ [])) ≡ finished es
unfolding finished
finished_then_refused [] k = refl
finished_then_refused (head t n ∷ end ∷ es) k = ap (λ (l : List TagLen). record { tag = t; len = n } ∷ l) (finished_then_refused es k)
finished_then_refused (head t n ∷ head u m ∷ es) k = finished_then_refused (head u m ∷ es) k
finished_then_refused (head t n ∷ refusal j ∷ es) k = finished_then_refused es k
finished_then_refused (head t n ∷ []) k = refl
finished_then_refused (end ∷ es) k = finished_then_refused es k
finished_then_refused (refusal j ∷ es) k = finished_then_refused es k

finished_then_closed : (es : List Event) (w : ChunkWalk) → finished (es ++ closing_tells w) ≡ finished es
unfolding once_after
finished_then_closed es Boundary = finished_then_refused es 11
finished_then_closed es (Header h) = finished_then_refused es 12
finished_then_closed es (Value n) = finished_then_refused es 12
finished_then_closed es (Stopped stop.End) = ap finished (append-nil es)
finished_then_closed es (Stopped stop.Unreadable) = ap finished (append-nil es)

-- chunks, from a walk that `new` gives
module _ (w : ChunkWalk) (start : NewIs w) (ss : List (List ℕ)) (xss : List (List ChunkTaken)) (h : Session w ss xss) where
  -- the finished objects are those of the whole walk, before closing too
  pub divided_objects : finished (once (told (flatten xss)))
      ≡ map (λ i. record { tag = i.tag; len = i.len }) (walk Crate 0 (flatten ss)).items
  divided_objects =
      let r = run Boundary (flatten ss) in
      ap finished (divided_tells w start ss xss h) ∙ sym (finished_then_closed r.tells r.walk)
      ∙ ap finished (ended_whole (flatten ss)) ∙ whole_finished (flatten ss)

  -- and then the closing call
  module _ (y : ChunkTaken) (p : CloseIs (state_after w (flatten xss)) y) where
    -- it tells the number of the walk's stop
    number_is : closing (state_after w (flatten xss)) ≡ (walk Crate 0 (flatten ss)).stop.number
    number_is = ap (λ (v : ChunkWalk). closing v) (divided_state w start ss xss h) ∙ closing_number (flatten ss)

    pub closed_number : events_of y.answer ≡ refusal (walk Crate 0 (flatten ss)).stop.number ∷ []
    closed_number = p.tells ∙ ap (λ (k : ℕ). refusal k ∷ []) number_is

    -- all that is told, joined together, is what the whole record tells
    pub closed_tells : once (told (flatten xss) ++ events_of y.answer) ≡ whole_tells (flatten ss)
    closed_tells =
        let r = run Boundary (flatten ss) in
        ap (λ (es : List Event). once (told (flatten xss) ++ es)) p.tells
        ∙ (from_the_start w start ss xss h).tells (refusal (closing (state_after w (flatten xss))) ∷ [])
        ∙ ap (λ (v : ChunkWalk). r.tells ++ once_after (stopped_by r.walk) (refusal (closing v) ∷ [])) (divided_state w start ss xss h)
        ∙ ended_whole (flatten ss)

    -- so the finished objects are those of the whole walk
    pub closed_objects : finished (once (told (flatten xss) ++ events_of y.answer))
        ≡ map (λ i. record { tag = i.tag; len = i.len }) (walk Crate 0 (flatten ss)).items
    closed_objects = ap finished closed_tells ∙ whole_finished (flatten ss)

    -- and one refusal is told: the number of the walk's stop, whether it came with a chunk or at closing
    pub closed_refusal : refusals (once (told (flatten xss) ++ events_of y.answer)) ≡ (walk Crate 0 (flatten ss)).stop.number ∷ []
    closed_refusal = ap refusals closed_tells ∙ whole_refusals (flatten ss)

    -- the answer to the closing call is that number, and the walk has stopped with it
    pub closed_11 : (walk Crate 0 (flatten ss)).stop.number ≡ 11 → y ≡ record { answer = Err stop.End; taken = 0; walk = Stopped stop.End }
    closed_11 e = let k = number_is ∙ e in close (state_after w (flatten xss)) y _ p (record { tells = rw k; taken = refl; walk = rw k })

    pub closed_12 : (walk Crate 0 (flatten ss)).stop.number ≡ 12 → y ≡ record { answer = Err stop.Unreadable; taken = 0; walk = Stopped stop.Unreadable }
    closed_12 e = let k = number_is ∙ e in close (state_after w (flatten xss)) y _ p (record { tells = rw k; taken = refl; walk = rw k })
