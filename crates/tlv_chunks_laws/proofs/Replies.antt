-- What `take` answers, in the words of whole records: to a chunk that starts with a whole header, and to bytes of a value
-- (rules 18.1, 18.3 and 18.8). The statements are over its promise, with the answers written out.
use Prim.Native.Nat.{ℕ, ◌+◌, ◌-◌, ◌*◌, ◌≤◌, ◌<◌}
use mathlib.Core.Path.{◌≡◌, refl, sym, ap, subst, ◌∙◌}
use mathlib.Core.List.{List, [], ◌∷◌}
use native.Mathlib.Decide.{dec_le}
use native.Mathlib.Omega.{arith}
use lib.ListN.{length, get_or, drop, length-drop}
use lib.Seq.{get_or-drop}
use Rattle.basis.specs.Reply.{Reply, ok, refused}
use Rattle.tlv.specs.Tag.{Tag, tag_size, third_byte, tag_of}
use Rattle.tlv.specs.Len.{Len, len_of}
use Rattle.tlv.specs.declared.Reading.TheVariants.{Crate}
use Rattle.tlv.proofs.Tags.{by_tag}
use Rattle.tlv.proofs.Lengths.{by_length}
use Rattle.std.specs.Prelude.{Ok}
use Rattle.tlv_chunks.specs.Header.{byte_of}
use Rattle.tlv_chunks.specs.Run.{head, end}
use Rattle.tlv_chunks.specs.Call.{Call, take_of, events_of, Says, TakeIs, head_call, rest_call}
use Rattle.tlv_chunks.specs.declared.header.Header.{Header as Part}
use Rattle.tlv_chunks.specs.declared.header.Header.TheVariants as part
use Rattle.tlv_chunks.specs.declared.walk.ChunkWalk.{ChunkWalk}
use Rattle.tlv_chunks.specs.declared.walk.ChunkWalk.TheVariants.{Boundary, Value}
use Rattle.tlv_chunks.specs.declared.walk.TakeChunk.TheVariants as answer
use Rattle.tlv_chunks.specs.declared.walk.ChunkTaken.{ChunkTaken}
use Rattle.tlv_chunks.proofs.Headers as header
use Rattle.tlv_chunks.proofs.Calls.{header_starts, header_goes_on, header_complete, head_empty, head_some, value_in_one_step, value_needs_more, value_ends}
use Rattle.tlv_chunks.proofs.OneReply.{take}

-- a tag that is read, and its length from place `at` on
abbrev TagTaken : List ℕ → Reply Tag → Type 0
TagTaken s (ok t) = take_of Boundary s ≡ rest_call (part.Tag t.number) s t.size
TagTaken s (refused k) = Unit {0}

tag_taken : (s : List ℕ) → TagTaken s (tag_of Crate s)
unfolding tag_size third_byte
tag_taken s =
    let a = get_or s 0 0 in
    let b = get_or s 1 0 in
    let c = get_or s 2 0 in
    by_tag Crate s (TagTaken s) (λ _. tt) (λ _. tt)
    (λ h n. header_starts s h ∙ ap (λ (g : Part). rest_call g s 1) (header.first_alone a n))
    (λ e h w. header_starts s (omega (arith, h)) ∙ ap (λ (g : Part). rest_call g s 1) (header.first_of_more a e)
    ∙ header_goes_on (part.Tag1 a) s 1 (part.Tag (a * 256 + b)) (omega (arith, h)) (header.second_last a b w))
    (λ e h z w t. header_starts s (omega (arith, h)) ∙ ap (λ (g : Part). rest_call g s 1) (header.first_of_more a e)
    ∙ header_goes_on (part.Tag1 a) s 1 (part.Tag2 a b) (omega (arith, h)) (header.second_of_three a b z w)
    ∙ header_goes_on (part.Tag2 a b) s 2 (part.Tag ((a * 256 + b) * 256 + c)) (omega (arith, h)) (header.third_last a b c t))

abbrev LenTaken : ℕ → List ℕ → ℕ → Reply Len → Type 0
LenTaken t s at (ok l) = rest_call (part.Tag t) s at ≡ head_call t l.number (at + l.size)
LenTaken t s at (refused k) = Unit {0}

-- byte number k of the bytes from place `at` on
module _ (t : ℕ) (s : List ℕ) (at : ℕ) where
  abbrev rest : List ℕ
  rest = drop at s

  byte_is : (k p : ℕ) → p ≡ at + k → (h : Part) → byte_of h (get_or s p 0) ≡ byte_of h (get_or rest k 0)
  byte_is k p e h = ap (λ (n : ℕ). byte_of h (get_or s n 0)) e ∙ ap (byte_of h) (sym (get_or-drop at s k 0))

  len_taken : LenTaken t s at (len_of Crate rest)
  len_taken =
      let a = get_or rest 0 0 in
      let b = get_or rest 1 0 in
      let c = get_or rest 2 0 in
      let size = length-drop at s in
      let zeroth = byte_is 0 at (omega arith) (part.Tag t) in
      let two : at + 1 + 1 ≡ at + 2 = omega arith in
      let three : at + 1 + 1 + 1 ≡ at + 3 = omega arith in
      by_length rest Crate (LenTaken t s at) tt
      (λ h g. header_complete (part.Tag t) s at t a (omega (arith, h, size)) (zeroth ∙ header.length_alone t a g))
      (λ h g. header_goes_on (part.Tag t) s at (part.Length81 t) (omega (arith, h, size)) (zeroth ∙ header.length_81 t a g)
      ∙ header_complete (part.Length81 t) s (at + 1) t b (omega (arith, h, size)) (byte_is 1 (at + 1) refl (part.Length81 t) ∙ header.after_81 t b)
      ∙ ap (head_call t b) two)
      (λ h g. header_goes_on (part.Tag t) s at (part.Length82 t) (omega (arith, h, size)) (zeroth ∙ header.length_82 t a g)
      ∙ header_goes_on (part.Length82 t) s (at + 1) (part.Length82High t b) (omega (arith, h, size))
      (byte_is 1 (at + 1) refl (part.Length82 t) ∙ header.high_after_82 t b)
      ∙ header_complete (part.Length82High t b) s (at + 1 + 1) t (b * 256 + c) (omega (arith, h, size))
      (byte_is 2 (at + 1 + 1) two (part.Length82High t b) ∙ header.low_after_82 t b c)
      ∙ ap (head_call t (b * 256 + c)) three)

-- a call that comes to c, and an answer that says so
answered_so : (w : ChunkWalk) (s : List ℕ) (x y : ChunkTaken) (c : Call) → TakeIs w s x → take_of w s ≡ c → Says c y → x ≡ y
answered_so w s x y c p e q = take w s x y p (subst (λ (c : Call). Says c y) (sym e) q)

-- at a boundary, a chunk that starts with a whole header: its tag and its length, and as many bytes as they have
module _ (s : List ℕ) (t : Tag) (l : Len) (x : ChunkTaken) (e : tag_of Crate s ≡ ok t) (f : len_of Crate (drop t.size s) ≡ ok l)
    (p : TakeIs Boundary s x) where
  header_taken : take_of Boundary s ≡ head_call t.number l.number (t.size + l.size)
  header_taken = subst (TagTaken s) e (tag_taken s) ∙ subst (LenTaken t.number s t.size) f (len_taken t.number s t.size)

  pub empty_answered : l.number ≡ 0 → x ≡ record { answer = Ok (answer.Empty t.number); taken = t.size + l.size; walk = Boundary }
  empty_answered z = answered_so Boundary s x _ _ p (header_taken ∙ head_empty _ _ _ z) (record { tells = refl; taken = refl; walk = refl })

  pub head_answered : (l.number ≡ 0 → ⊥)
      → x ≡ record { answer = Ok (answer.Head t.number l.number); taken = t.size + l.size; walk = Value (l.number - 1) }
  head_answered z = answered_so Boundary s x _ _ p (header_taken ∙ head_some _ _ _ z) (record { tells = refl; taken = refl; walk = refl })

  -- and what that tells
  pub empty_told : l.number ≡ 0 → events_of x.answer ≡ head t.number 0 ∷ end ∷ []
  empty_told z = ap (λ (y : ChunkTaken). events_of y.answer) (empty_answered z)

  pub head_told : (l.number ≡ 0 → ⊥) → events_of x.answer ≡ head t.number l.number ∷ []
  head_told z = ap (λ (y : ChunkTaken). events_of y.answer) (head_answered z)

-- in a value, of which n + 1 bytes are missing
module _ (n : ℕ) (s : List ℕ) (x : ChunkTaken) (p : TakeIs (Value n) s x) where
  pub value_part_answered : length s ≤ n → x ≡ record { answer = Ok answer.NeedMore; taken = length s; walk = Value (n - length s) }
  value_part_answered h =
      answered_so (Value n) s x _ _ p (sym (value_in_one_step n s) ∙ value_needs_more n (length s) n refl h)
      (record { tells = refl; taken = refl; walk = refl })

  pub value_end_answered : n < length s → x ≡ record { answer = Ok answer.ValueEnd; taken = n + 1; walk = Boundary }
  value_end_answered h =
      answered_so (Value n) s x _ _ p (sym (value_in_one_step n s) ∙ value_ends n (length s) n refl h)
      (record { tells = refl; taken = refl; walk = refl })

  pub value_part_told : length s ≤ n → events_of x.answer ≡ []
  value_part_told h = ap (λ (y : ChunkTaken). events_of y.answer) (value_part_answered h)

  pub value_end_told : n < length s → events_of x.answer ≡ end ∷ []
  value_end_told h = ap (λ (y : ChunkTaken). events_of y.answer) (value_end_answered h)

-- the bytes of a value are not looked at: only how many there are counts (rule 18.8)
pub value_unseen : (n : ℕ) (s u : List ℕ) (x y : ChunkTaken) → TakeIs (Value n) s x → TakeIs (Value n) u y → length s ≡ length u → x ≡ y
value_unseen n s u x y p q e =
    elim (dec_le (length s) n) [
      | yes h ↦ value_part_answered n s x p h ∙ rw e (sym (value_part_answered n u y q (omega (arith, h, e))))
      | no h ↦ value_end_answered n s x p (omega (arith, h)) ∙ sym (value_end_answered n u y q (omega (arith, h, e)))
    ]
