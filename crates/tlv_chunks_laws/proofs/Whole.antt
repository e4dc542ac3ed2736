-- What all bytes of a record tell, one by one and then closed, is what its whole walk says; and what the state after
-- them says of the bytes (rules 18.2, 18.5, 18.6 and 18.9).
use Prim.Native.Nat.{ℕ, zero, suc, ◌+◌, ◌-◌, ◌*◌, ◌%◌, ◌≤◌, ◌<◌}
use mathlib.Core.Path.{◌≡◌, refl, sym, ap, subst, ◌∙◌}
use mathlib.Core.Bool.{Bool, true, false}
use mathlib.Core.List.{List, [], ◌∷◌, ◌++◌, append_assoc, append-nil}
use native.Mathlib.Decide.{dec_le, ℕ_discrete}
use native.Mathlib.Omega.{arith}
use borrow.Author.Tests.{le-leb, lt-leb}
use lib.ListN.{length, take, drop, length-drop, take-append-drop}
use lib.Seq.{drop-drop}
use Rattle.basis.specs.Reply.{Reply, ok, refused, then}
use Rattle.basis.specs.Number.{Bytes, be}
use Rattle.basis.proofs.Reply.{by_reply, all_is}
use Rattle.basis.proofs.Number.{bytes_drop}
use Rattle.basis.proofs.Truth.{on_cond}
use Rattle.tlv.specs.Tag.{Tag, tag_size, crate_tag_size, third_byte, crate_third_byte, tag_of}
use Rattle.tlv.specs.Len.{Len, len_to82, len_of}
use Rattle.tlv.specs.Object.{Object, object_in, object_of, Item, Stop, next_of, size_of}
use Rattle.tlv.specs.Walk.{walk}
use Rattle.tlv.specs.declared.Reading.TheVariants.{Crate}
use Rattle.tlv.proofs.Tags.{tag_of_nothing, tag_one, tag_two, tag_three}
use Rattle.tlv.proofs.Tags as tags
use Rattle.tlv.proofs.Lengths.{no_length, short_length, cut_81, after_81, cut_82, after_82, other_length}
use Rattle.tlv.proofs.Within.{Sized, len_within, tag_inside, crate_item, crate_stop}
use Rattle.tlv.proofs.Walk.{walk_refused, walk_met, by_objects}
use Rattle.tlv_write.specs.Written.{tag_bytes}
use Rattle.tlv_laws.proofs.ReadBack.{tag_bytes_lem}
use Rattle.std.specs.Prelude.{Ok, Err}
use Rattle.tlv.specs.Stop.{stop_number}
use Rattle.tlv.specs.declared.stop.Stop.TheVariants as stop
use Rattle.tlv_chunks.specs.Header.{first_of, byte_of}
use Rattle.tlv_chunks.specs.Run.{Event, head, end, refusal, Step, nothing, headed, step, following, run, closing}
use Rattle.tlv_chunks.specs.declared.header.Header.{Header as Part}
use Rattle.tlv_chunks.specs.declared.header.Header.TheVariants as part
use Rattle.tlv_chunks.specs.declared.header.HeaderByte.TheVariants as byte
use Rattle.tlv_chunks.specs.declared.walk.ChunkWalk.{ChunkWalk}
use Rattle.tlv_chunks.specs.declared.walk.ChunkWalk.TheVariants.{Boundary, Header, Value, Stopped}
use Rattle.tlv_chunks.proofs.Headers as header
use Rattle.tlv_chunks_laws.specs.Session.{stopped_by, once_after}
use Rattle.tlv_chunks_laws.specs.Whole.{objects_tell, head_of_len, cut_head, whole_tells}
use Rattle.tlv_chunks_laws.specs.Held.{own_bytes, header_bytes, Lacks, Means}
use Rattle.tlv_chunks_laws.proofs.Runs.{run_nothing, run_byte, run_after_stop, value_whole, value_cut}

-- what a state has refused; what is told at closing, unless the walk has stopped with it before
abbrev refusal_of : ChunkWalk → List Event
refusal_of Boundary = []
refusal_of (Header h) = []
refusal_of (Value n) = []
refusal_of (Stopped r) = refusal (stop_number r) ∷ []

abbrev pub closing_tells : ChunkWalk → List Event
closing_tells w = once_after (stopped_by w) (refusal (closing w) ∷ [])

abbrev pub ended : Step → List Event
ended x = x.tells ++ closing_tells x.walk

-- the run x over bytes s that are no whole object: it tells c, and a refusal if it has stopped; k is its number at
-- closing; and its state says so of s, if B
pub record Left (B : Type 0) (s : List ℕ) (c : List Event) (k : ℕ) (x : Step) : Type 0 where
  pub tells : x.tells ≡ c ++ refusal_of x.walk
  pub number : k ≡ closing x.walk
  pub means : B → Means s k x.walk

refused_then_closed : (w : ChunkWalk) → refusal_of w ++ closing_tells w ≡ refusal (closing w) ∷ []
unfolding once_after
refused_then_closed Boundary = refl
refused_then_closed (Header h) = refl
refused_then_closed (Value n) = refl
refused_then_closed (Stopped stop.End) = refl
refused_then_closed (Stopped stop.Unreadable) = refl

left_ended : {B : Type 0} (s : List ℕ) (c : List Event) (k : ℕ) (x : Step) → Left B s c k x → ended x ≡ c ++ (refusal k ∷ [])
left_ended s c k x h =
    let w = x.walk in
    ap (λ (l : List Event). l ++ closing_tells w) h.tells ∙ append_assoc c (refusal_of w) (closing_tells w)
    ∙ ap (λ (l : List Event). c ++ l) (refused_then_closed w ∙ ap (λ (n : ℕ). refusal n ∷ []) (sym h.number))

-- bytes that end in a header; bytes with one that makes it unreadable
module _ {B : Type 0} (s : List ℕ) (x : Step) where
  in_header : (h : Part) → x ≡ nothing (Header h) → s ≡ header_bytes h → Left B s [] 12 x
  in_header h e f = subst (Left B s [] 12) (sym e) (record { tells = refl; number = refl; means = λ _. (f, refl) })

  unreadable : x ≡ record { tells = refusal 12 ∷ []; walk = Stopped stop.Unreadable } → Left B s [] 12 x
  unreadable e = subst (Left B s [] 12) (sym e) (record { tells = refl; number = refl; means = λ _. refl })

run_refused : (h : Part) (b : ℕ) (s : List ℕ) → byte_of h b ≡ Err stop.Unreadable
    → run (Header h) (b ∷ s) ≡ record { tells = refusal 12 ∷ []; walk = Stopped stop.Unreadable }
run_refused h b s e = run_byte h b s (Err stop.Unreadable) e ∙ ap (following (refusal 12 ∷ [])) (run_after_stop stop.Unreadable s)

run_more : (h g : Part) (b : ℕ) (s : List ℕ) → byte_of h b ≡ Ok (byte.More g) → run (Header h) (b ∷ s) ≡ run (Header g) s
run_more h g b s e = run_byte h b s (Ok (byte.More g)) e

-- a length after the tag t, as `len_of` reads it
abbrev LenRun : ℕ → List ℕ → Reply Len → Type 0
LenRun t s (ok l) =
    run (Header (part.Tag t)) s ≡ following (headed t l.number).tells (run (headed t l.number).walk (drop l.size s))
LenRun t s (refused k) = Left (Unit {0}) (own_bytes t ++ s) [] k (run (Header (part.Tag t)) s)

module _ (t : ℕ) where
  len_81 : (a : ℕ) (s : List ℕ) → a ≡ 0x81 → LenRun t (a ∷ s) (len_to82 (a ∷ s))
  unfolding header_bytes
  len_81 a [] e =
      subst (LenRun t (a ∷ [])) (sym (cut_81 (a ∷ []) (omega arith) e (omega arith)))
      (in_header (own_bytes t ++ (a ∷ [])) _ (part.Length81 t) (run_more (part.Tag t) (part.Length81 t) a [] (header.length_81 t a e) ∙ run_nothing _)
      (ap (λ (b : ℕ). own_bytes t ++ (b ∷ [])) e))
  len_81 a (b ∷ s) e =
      subst (LenRun t (a ∷ b ∷ s)) (sym (after_81 (a ∷ b ∷ s) (omega arith) e (omega arith)))
      (run_more (part.Tag t) (part.Length81 t) a (b ∷ s) (header.length_81 t a e)
      ∙ run_byte (part.Length81 t) b s (Ok (byte.Complete t b)) (header.after_81 t b))

  len_82 : (a : ℕ) (s : List ℕ) → a ≡ 0x82 → LenRun t (a ∷ s) (len_to82 (a ∷ s))
  unfolding header_bytes
  len_82 a [] e =
      subst (LenRun t (a ∷ [])) (sym (cut_82 (a ∷ []) (omega arith) e (omega arith)))
      (in_header (own_bytes t ++ (a ∷ [])) _ (part.Length82 t) (run_more (part.Tag t) (part.Length82 t) a [] (header.length_82 t a e) ∙ run_nothing _)
      (ap (λ (b : ℕ). own_bytes t ++ (b ∷ [])) e))
  len_82 a (b ∷ []) e =
      subst (LenRun t (a ∷ b ∷ [])) (sym (cut_82 (a ∷ b ∷ []) (omega arith) e (omega arith)))
      (in_header (own_bytes t ++ (a ∷ b ∷ [])) _ (part.Length82High t b)
      (run_more (part.Tag t) (part.Length82 t) a (b ∷ []) (header.length_82 t a e)
      ∙ run_more (part.Length82 t) (part.Length82High t b) b [] (header.high_after_82 t b) ∙ run_nothing _)
      (ap (λ (c : ℕ). own_bytes t ++ (c ∷ b ∷ [])) e))
  len_82 a (b ∷ c ∷ s) e =
      subst (LenRun t (a ∷ b ∷ c ∷ s)) (sym (after_82 (a ∷ b ∷ c ∷ s) (omega arith) e (omega arith)))
      (run_more (part.Tag t) (part.Length82 t) a (b ∷ c ∷ s) (header.length_82 t a e)
      ∙ run_more (part.Length82 t) (part.Length82High t b) b (c ∷ s) (header.high_after_82 t b)
      ∙ run_byte (part.Length82High t b) c s (Ok (byte.Complete t (b * 256 + c))) (header.low_after_82 t b c))

  len_above_7f : (a : ℕ) (s : List ℕ) → 0x7F < a → LenRun t (a ∷ s) (len_to82 (a ∷ s))
  len_above_7f a s h =
      elim (ℕ_discrete a 0x81) [
        | yes e ↦ len_81 a s e
        | no n ↦ elim (ℕ_discrete a 0x82) [
          | yes e ↦ len_82 a s e
          | no m ↦ subst (LenRun t (a ∷ s)) (sym (other_length (a ∷ s) (omega arith) h n m))
              (unreadable (own_bytes t ++ (a ∷ s)) _ (run_refused (part.Tag t) a s (header.length_refused t a h n m)))
        ]
      ]

  len_run : (s : List ℕ) → LenRun t s (len_to82 s)
  unfolding header_bytes
  len_run [] =
      subst (LenRun t []) (sym (no_length [] (omega arith)))
      (in_header (own_bytes t ++ []) _ (part.Tag t) (run_nothing _) (append-nil (own_bytes t)))
  len_run (a ∷ s) =
      elim (dec_le a 0x7F) [
        | yes h ↦ subst (LenRun t (a ∷ s)) (sym (short_length (a ∷ s) (omega arith) h))
            (run_byte (part.Tag t) a s (Ok (byte.Complete t a)) (header.length_alone t a h))
        | no h ↦ len_above_7f a s (omega (arith, h))
      ]

-- a tag, as `tag_of` reads it
abbrev TagRun : List ℕ → Reply Tag → Type 0
TagRun s (ok t) = run Boundary s ≡ run (Header (part.Tag t.number)) (drop t.size s)
TagRun s (refused k) = Left (Unit {0}) s [] k (run Boundary s)

run_first : (a : ℕ) (s : List ℕ) (h : Part) → first_of a ≡ h → run Boundary (a ∷ s) ≡ run (Header h) s
unfolding run step
run_first a s h e = ap (λ (h : Part). run (Header h) s) e

module _ (a : ℕ) (long : a % 32 ≡ 31) where
  first_is : (s : List ℕ) → run Boundary (a ∷ s) ≡ run (Header (part.Tag1 a)) s
  first_is s = run_first a s (part.Tag1 a) (header.first_of_more a long)

  third_run : (b : ℕ) (s : List ℕ) → (crate_tag_size b ≡ 0 → ⊥) → (crate_tag_size b ≡ 2 → ⊥) → TagRun (a ∷ b ∷ s) (tag_of Crate (a ∷ b ∷ s))
  unfolding tag_size third_byte header_bytes
  third_run b [] z w =
      subst (TagRun (a ∷ b ∷ [])) (sym (tags.third_missing Crate (a ∷ b ∷ []) long (omega arith) (omega arith) z w))
      (in_header (a ∷ b ∷ []) _ (part.Tag2 a b)
      (first_is (b ∷ []) ∙ run_more (part.Tag1 a) (part.Tag2 a b) b [] (header.second_of_three a b z w) ∙ run_nothing _) refl)
  third_run b (c ∷ s) z w =
      let s3 = a ∷ b ∷ c ∷ s in
      let two = first_is (b ∷ c ∷ s) ∙ run_more (part.Tag1 a) (part.Tag2 a b) b (c ∷ s) (header.second_of_three a b z w) in
      on_cond (λ (_ : Bool). TagRun s3 (tag_of Crate s3)) (crate_third_byte c) true false
      (λ e. subst (TagRun s3) (sym (tag_three Crate s3 long (omega arith) z w e))
      (two ∙ run_more (part.Tag2 a b) (part.Tag ((a * 256 + b) * 256 + c)) c s (header.third_last a b c e)))
      (λ e. subst (TagRun s3) (sym (tags.third_refused Crate s3 long (omega arith) z w e))
      (unreadable s3 _ (two ∙ run_refused (part.Tag2 a b) c s (header.third_refused a b c e))))

  second_run : (s : List ℕ) → TagRun (a ∷ s) (tag_of Crate (a ∷ s))
  unfolding tag_size header_bytes
  second_run [] =
      subst (TagRun (a ∷ [])) (sym (tags.second_missing Crate (a ∷ []) long (omega arith) (omega arith)))
      (in_header (a ∷ []) _ (part.Tag1 a) (first_is [] ∙ run_nothing _) refl)
  second_run (b ∷ s) =
      let s2 = a ∷ b ∷ s in
      elim (ℕ_discrete (crate_tag_size b) 0) [
        | yes e ↦ subst (TagRun s2) (sym (tags.second_refused Crate s2 long (omega arith) e))
            (unreadable s2 _ (first_is (b ∷ s) ∙ run_refused (part.Tag1 a) b s (header.second_refused a b e)))
        | no z ↦ elim (ℕ_discrete (crate_tag_size b) 2) [
          | yes e ↦ subst (TagRun s2) (sym (tag_two Crate s2 long (omega arith) e))
              (first_is (b ∷ s) ∙ run_more (part.Tag1 a) (part.Tag (a * 256 + b)) b s (header.second_last a b e))
          | no w ↦ third_run b s z w
        ]
      ]

tag_run : (s : List ℕ) → TagRun s (tag_of Crate s)
tag_run [] =
    subst (TagRun []) (sym (tag_of_nothing Crate))
    (subst (Left (Unit {0}) [] [] 11) (sym (run_nothing Boundary)) (record { tells = refl; number = refl; means = λ _. (refl, refl) }))
tag_run (a ∷ s) =
    elim (ℕ_discrete (a % 32) 31) [
      | yes e ↦ second_run a e s
      | no n ↦ subst (TagRun (a ∷ s)) (sym (tag_one Crate (a ∷ s) (omega arith) n)) (run_first a s (part.Tag a) (header.first_alone a n))
    ]

-- an object, as `object_of` reads it
abbrev ObjectRun : List ℕ → List Event → Reply Object → Type 0
ObjectRun s c (ok o) = run Boundary s ≡ following (head o.tag o.len ∷ end ∷ []) (run Boundary (drop (o.at + o.len) s))
ObjectRun s c (refused k) = Left (Bytes s) s c k (run Boundary s)

-- a header, and a value of n bytes, of which there are enough or not
module _ (s : List ℕ) (t : Tag) (l : Len) (e : tag_of Crate s ≡ ok t) (f : len_of Crate (drop t.size s) ≡ ok l)
    (inside : t.size + l.size ≤ length s) where
  abbrev after : List ℕ
  after = drop (t.size + l.size) s

  value_there : (n : ℕ) → n ≤ length after → run Boundary s ≡ following (headed t.number n).tells (run (headed t.number n).walk after)
      → run Boundary s ≡ following (head t.number n ∷ end ∷ []) (run Boundary (drop (t.size + l.size + n) s))
  value_there zero h r = let z : t.size + l.size + 0 ≡ t.size + l.size = omega arith in rw z r
  value_there (suc n) h r =
      r ∙ ap (following (head t.number (suc n) ∷ [])) (value_whole n after (omega (arith, h)) ∙ rw (drop-drop (suc n) (t.size + l.size) s))

  value_missing : (n : ℕ) → l.number ≡ n → length after < n
      → run Boundary s ≡ following (headed t.number n).tells (run (headed t.number n).walk after)
      → Left (Bytes s) s (head t.number n ∷ []) 12 (run Boundary s)
  value_missing zero q h r = absurd (omega (arith, h))
  value_missing (suc n) q h r =
      let left : run Boundary s ≡ record { tells = head t.number (suc n) ∷ []; walk = Value (n - length after) } =
      r ∙ ap (following (head t.number (suc n) ∷ [])) (value_cut n after (omega (arith, h))) in
      let lacks : Lacks s (n - length after + 1) =
      record { tag = t; len = l; is_tag = e; is_len = f; missing = omega (arith, q, h, inside, length-drop (t.size + l.size) s) } in
      subst (Left (Bytes s) s (head t.number (suc n) ∷ []) 12) (sym left)
      (record { tells = refl; number = refl; means = λ _. (lacks, refl) })

  value_run : run Boundary s ≡ following (headed t.number l.number).tells (run (headed t.number l.number).walk after)
      → ObjectRun s (head t.number l.number ∷ []) (object_in (length s) t l)
  value_run r =
      let room = length s - (t.size + l.size) in
      let size = length-drop (t.size + l.size) s in
      elim (dec_le l.number room) [
        | yes h ↦ rw (le-leb l.number room h) (value_there l.number (omega (arith, h, size)) r)
        | no h ↦ rw (lt-leb l.number room (omega (arith, h))) (value_missing l.number refl (omega (arith, h, size)) r)
      ]

-- a tag that was read, and its length
module _ (s : List ℕ) (t : Tag) (e : tag_of Crate s ≡ ok t) (r : run Boundary s ≡ run (Header (part.Tag t.number)) (drop t.size s)) where
  -- the bytes of a tag that was read are its own
  tag_first : Bytes s → own_bytes t.number ++ drop t.size s ≡ s
  tag_first b =
      ap (λ (l : List ℕ). l ++ drop t.size s) (all_is (λ t. tag_bytes (be 3 t.number) ≡ take t.size s) (tag_of Crate s) t (tag_bytes_lem Crate s b) e)
      ∙ take-append-drop t.size s

  length_run : (x : Reply Len) → len_of Crate (drop t.size s) ≡ x → LenRun t.number (drop t.size s) x
      → ObjectRun s (head_of_len t x) (then x (λ l. object_in (length s) t l))
  length_run (refused k) f h =
      subst (Left (Bytes s) s [] k) (sym r) (record {
        tells = h.tells;
        number = h.number;
        means = λ b. subst (λ (l : List ℕ). Means l k (run (Header (part.Tag t.number)) (drop t.size s)).walk) (tag_first b) (h.means tt);
      })
  length_run (ok l) f h =
      let inside = tag_inside Crate s t e in
      let len = all_is (Sized (length (drop t.size s))) (len_of Crate (drop t.size s)) l (len_within Crate (drop t.size s)) f in
      value_run s t l e f (omega (arith, inside, len.1, length-drop t.size s)) (r ∙ h ∙ rw (drop-drop l.size t.size s))

object_run : (s : List ℕ) → ObjectRun s (cut_head s) (object_of Crate s)
unfolding object_of cut_head
object_run s =
    by_reply (tag_of Crate s) (λ t e.
    let rest = drop t.size s in
    rw e (length_run s t e (subst (TagRun s) e (tag_run s)) (len_of Crate rest) refl (len_run t.number rest)))
    (λ k e.
    let left : Left (Unit {0}) s [] k (run Boundary s) = subst (TagRun s) e (tag_run s) in
    rw e (record { tells = left.tells; number = left.number; means = λ _. left.means tt }))

-- where the walk of a record goes on, in bytes s that stand in the record l from place a on
module _ (l : List ℕ) where
  -- no object is read there: it stops
  stop_left : (a : ℕ) (s : List ℕ) (e : Stop) → next_of Crate s ≡ refused e → drop a l ≡ s
      → (drop (a + e.place) l ≡ s) × Left (Bytes s) s (cut_head s) e.number (run Boundary s)
  stop_left a s e h d =
      let stop = crate_stop s e h in
      let here : a + e.place ≡ a = omega (arith, stop.0) in
      (ap (λ (n : ℕ). drop n l) here ∙ d, subst (ObjectRun s (cut_head s)) stop.1 (object_run s))

  -- an object is read there: the run goes on after it
  object_told : (s : List ℕ) (i : Item) → next_of Crate s ≡ ok i
      → run Boundary s ≡ following (head i.tag i.len ∷ end ∷ []) (run Boundary (drop (size_of i) s))
  object_told s i e = subst (ObjectRun s (cut_head s)) (crate_item s i e).1 (object_run s)

  goes_on : (a n : ℕ) (s : List ℕ) → drop a l ≡ s → drop (a + n) l ≡ drop n s
  goes_on a n s d = sym (drop-drop n a l) ∙ ap (drop n) d

  abbrev told_from : ℕ → List ℕ → List Event
  told_from a s =
      objects_tell (walk Crate a s).items ++ (cut_head (drop (walk Crate a s).stop.place l) ++ (refusal (walk Crate a s).stop.number ∷ []))

  ended_from : (a : ℕ) (s : List ℕ) → drop a l ≡ s → ended (run Boundary s) ≡ told_from a s
  unfolding objects_tell
  ended_from =
      by_objects Crate (λ a s. drop a l ≡ s → ended (run Boundary s) ≡ told_from a s)
      (λ a s e h d.
      let left = stop_left a s e h d in
      rw (walk_refused Crate a s e h, left.0) (left_ended s (cut_head s) e.number (run Boundary s) left.1))
      (λ a s i e w deeper d.
      rw (walk_met Crate a s i e) (ap ended (object_told s i e)
      ∙ ap (λ (es : List Event). head i.tag i.len ∷ end ∷ es) (deeper (goes_on a (size_of i) s d))))

  number_from : (a : ℕ) (s : List ℕ) → drop a l ≡ s → closing (run Boundary s).walk ≡ (walk Crate a s).stop.number
  number_from =
      by_objects Crate (λ a s. drop a l ≡ s → closing (run Boundary s).walk ≡ (walk Crate a s).stop.number)
      (λ a s e h d. rw (walk_refused Crate a s e h) (sym (stop_left a s e h d).1.number)) (λ a s i e w deeper d.
      rw (walk_met Crate a s i e) (ap (λ (r : Step). closing r.walk) (object_told s i e) ∙ deeper (goes_on a (size_of i) s d)))

  held_from : Bytes l → (a : ℕ) (s : List ℕ) → drop a l ≡ s
      → Means (drop (walk Crate a s).stop.place l) (walk Crate a s).stop.number (run Boundary s).walk
  held_from bytes =
      by_objects Crate
      (λ a s. drop a l ≡ s → Means (drop (walk Crate a s).stop.place l) (walk Crate a s).stop.number (run Boundary s).walk)
      (λ a s e h d.
      let left = stop_left a s e h d in
      rw (walk_refused Crate a s e h, left.0) (left.1.means (subst Bytes d (bytes_drop a l bytes))))
      (λ a s i e w deeper d.
      let after = deeper (goes_on a (size_of i) s d) in
      let far = walk Crate (a + size_of i) (drop (size_of i) s) in
      rw (walk_met Crate a s i e)
      (subst (λ (r : Step). Means (drop far.stop.place l) far.stop.number r.walk) (sym (object_told s i e)) after))

  -- the bytes from where the walk stops lead to the same state as all of them
  rest_from : (a : ℕ) (s : List ℕ) → drop a l ≡ s → (run Boundary (drop (walk Crate a s).stop.place l)).walk ≡ (run Boundary s).walk
  rest_from =
      by_objects Crate (λ a s. drop a l ≡ s → (run Boundary (drop (walk Crate a s).stop.place l)).walk ≡ (run Boundary s).walk)
      (λ a s e h d. rw (walk_refused Crate a s e h, (stop_left a s e h d).0)) (λ a s i e w deeper d.
      rw (walk_met Crate a s i e) (deeper (goes_on a (size_of i) s d) ∙ ap (λ (r : Step). r.walk) (sym (object_told s i e))))

-- from the start over all bytes, and then closed: what the whole walk says (rule 18.9)
pub ended_whole : (s : List ℕ) → ended (run Boundary s) ≡ whole_tells s
unfolding whole_tells
ended_whole s = ended_from s 0 s refl

-- the number at closing is that of the walk's stop (rule 18.6)
pub closing_number : (s : List ℕ) → closing (run Boundary s).walk ≡ (walk Crate 0 s).stop.number
closing_number s = number_from s 0 s refl

-- what the state after all bytes says of them (rules 18.2 and 18.5)
pub state_means : (s : List ℕ) → Bytes s
    → Means (drop (walk Crate 0 s).stop.place s) (walk Crate 0 s).stop.number (run Boundary s).walk
state_means s bytes = held_from s bytes 0 s refl

pub state_of_rest : (s : List ℕ) → (run Boundary (drop (walk Crate 0 s).stop.place s)).walk ≡ (run Boundary s).walk
state_of_rest s = rest_from s 0 s refl
