-- What a whole record tells, by its walk (rules 18.9 and 6.11).
use Rattle.std.specs.Prelude.{ℕ, List, [], ◌∷◌, ◌++◌, map, drop}
use Rattle.basis.specs.Reply.{Reply, ok, refused}
use Rattle.tlv.specs.Tag.{Tag, tag_of}
use Rattle.tlv.specs.Len.{Len, len_of}
use Rattle.tlv.specs.Object.{Item}
use Rattle.tlv.specs.Walk.{walk}
use Rattle.tlv.specs.declared.Reading.TheVariants.{Crate}
use Rattle.tlv_chunks.specs.Run.{Event, head, end, refusal}

-- head and end of each object
unfoldable pub objects_tell : List Item → List Event
objects_tell [] = []
objects_tell (i ∷ items) = head i.tag i.len ∷ end ∷ objects_tell items

-- the head of an object that is cut in its value: tag and length can be read. There is none if they cannot
abbrev pub head_of_len : Tag → Reply Len → List Event
head_of_len t (ok l) = head t.number l.number ∷ []
head_of_len t (refused k) = []

abbrev pub head_of_tag : List ℕ → Reply Tag → List Event
head_of_tag s (ok t) = head_of_len t (len_of Crate (drop t.size s))
head_of_tag s (refused k) = []

unfoldable pub cut_head : List ℕ → List Event
cut_head s = head_of_tag s (tag_of Crate s)

-- all that a record tells up to its closing: its objects, the head of one that is cut, and the number of the stop
unfoldable pub whole_tells : List ℕ → List Event
whole_tells s =
    objects_tell (walk Crate 0 s).items ++ (cut_head (drop (walk Crate 0 s).stop.place s) ++ (refusal (walk Crate 0 s).stop.number ∷ []))

-- an object by its tag and its length
pub record TagLen : Type 0 where
  pub tag : ℕ
  pub len : ℕ

abbrev pub tag_lens : List Item → List TagLen
tag_lens items = map (λ i. record { tag = i.tag; len = i.len }) items

-- of all that was told: the finished objects, which are the heads that an end follows; the numbers of the refusals
unfoldable pub finished : List Event → List TagLen
finished [] = []
finished (head t n ∷ end ∷ es) = record { tag = t; len = n } ∷ finished es
finished (head t n ∷ head u m ∷ es) = finished (head u m ∷ es)
finished (head t n ∷ refusal k ∷ es) = finished es
finished (head t n ∷ []) = []
finished (end ∷ es) = finished es
finished (refusal k ∷ es) = finished es

unfoldable pub refusals : List Event → List ℕ
refusals [] = []
refusals (head t n ∷ es) = refusals es
refusals (end ∷ es) = refusals es
refusals (refusal k ∷ es) = k ∷ refusals es
