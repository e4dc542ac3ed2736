-- The states that a record leads to: at a boundary, in a header of 1 to 5 bytes, in a value of which 1 to 65,535 bytes
-- are missing, or stopped with 12 (rules 18.2 and 18.5).
use Prim.Native.Nat.{ℕ, zero, suc, ◌+◌, ◌≤◌}
use mathlib.Core.Path.{◌≡◌, sym, ap, subst, ◌∙◌}
use mathlib.Core.List.{List, [], ◌∷◌}
use native.Mathlib.Omega.{arith}
use lib.ListN.{length, drop, length-append, length-drop}
use Rattle.basis.specs.Reply.{ok}
use Rattle.basis.specs.Number.{Bytes, be}
use Rattle.basis.proofs.Reply.{All, all_is}
use Rattle.basis.proofs.Number.{bytes_drop}
use Rattle.tlv.specs.Tag.{Tag, tag_of}
use Rattle.tlv.specs.Len.{Len, len_of}
use Rattle.tlv.specs.Walk.{walk}
use Rattle.tlv.specs.declared.Reading.TheVariants.{Crate}
use Rattle.tlv.proofs.Lengths.{by_length}
use Rattle.tlv.proofs.Within.{tag_inside, Sized, len_within}
use Rattle.tlv_write.specs.Written.{tag_bytes}
use Rattle.tlv_chunks.specs.Run.{run}
use Rattle.tlv_chunks.specs.declared.header.Header.{Header as Part}
use Rattle.tlv_chunks.specs.declared.header.Header.TheVariants as part
use Rattle.tlv_chunks.specs.declared.walk.ChunkWalk.TheVariants.{Boundary, Header, Value}
use Rattle.tlv_chunks_laws.specs.Held.{own_bytes, header_bytes, Means}
use Rattle.tlv_chunks_laws.proofs.Whole.{state_means, state_of_rest}

-- a header has from 1 to 5 bytes, whatever its numbers are
abbrev Few : ℕ → List ℕ → Type 0
Few n l = (1 ≤ length l) × (length l ≤ n)

three_own : (a b c : ℕ) → Few 3 (tag_bytes (a ∷ b ∷ c ∷ []))
unfolding tag_bytes
three_own zero zero c = (omega arith, omega arith)
three_own zero (suc b) c = (omega arith, omega arith)
three_own (suc a) b c = (omega arith, omega arith)

own_size : (t : ℕ) → Few 3 (own_bytes t)
unfolding be
own_size t = three_own _ _ _

pub header_size : (h : Part) → (1 ≤ length (header_bytes h)) × (length (header_bytes h) ≤ 5)
unfolding header_bytes
header_size (part.Tag1 a) = (omega arith, omega arith)
header_size (part.Tag2 a b) = (omega arith, omega arith)
header_size (part.Tag t) = omega (arith, own_size t)
header_size (part.Length81 t) = omega (arith, own_size t, length-append (own_bytes t) (0x81 ∷ []))
header_size (part.Length82 t) = omega (arith, own_size t, length-append (own_bytes t) (0x82 ∷ []))
header_size (part.Length82High t a) = omega (arith, own_size t, length-append (own_bytes t) (0x82 ∷ a ∷ []))

-- a length that is read in bytes is at most 65,535
length_bound : (s : List ℕ) → Bytes s → All (λ (l : Len). l.number ≤ 65535) (len_of Crate s)
length_bound s b =
    by_length s Crate (All (λ (l : Len). l.number ≤ 65535)) tt (λ _ _. omega (arith, b 0)) (λ _ _. omega (arith, b 1))
    (λ _ _. omega (arith, b 1, b 2))

-- the state after the bytes of a record
module _ (s : List ℕ) (bytes : Bytes s) where
  abbrev rest : List ℕ
  rest = drop (walk Crate 0 s).stop.place s

  -- at a boundary: the walk of the record stops with 11, and no byte is left there
  pub at_a_boundary : (run Boundary s).walk ≡ Boundary → (drop (walk Crate 0 s).stop.place s ≡ []) × ((walk Crate 0 s).stop.number ≡ 11)
  at_a_boundary e = subst (Means rest (walk Crate 0 s).stop.number) e (state_means s bytes)

  -- in a header: it stops with 12, and the bytes that are left are those of the header
  pub in_a_header : (h : Part) → (run Boundary s).walk ≡ Header h
      → (drop (walk Crate 0 s).stop.place s ≡ header_bytes h) × ((walk Crate 0 s).stop.number ≡ 12)
  in_a_header h e = subst (Means rest (walk Crate 0 s).stop.number) e (state_means s bytes)

  -- in a value: it stops with 12; the bytes that are left start with a header, and n + 1 bytes of its value are missing
  pub in_a_value : (n : ℕ) → (run Boundary s).walk ≡ Value n → let left = drop (walk Crate 0 s).stop.place s in
      (t : Tag) × ((l : Len) × ((tag_of Crate left ≡ ok t) × (len_of Crate (drop t.size left) ≡ ok l)
      × (length left + (n + 1) ≡ t.size + l.size + l.number) × ((walk Crate 0 s).stop.number ≡ 12)))
  in_a_value n e =
      let m : Means rest (walk Crate 0 s).stop.number (Value n) = subst (Means rest (walk Crate 0 s).stop.number) e (state_means s bytes) in
      let l = m.0 in
      (l.tag, (l.len, (l.is_tag, l.is_len, l.missing, m.1)))

  -- in a value: from 1 to 65,535 bytes are missing
  pub missing_bound : (n : ℕ) → (run Boundary s).walk ≡ Value n → n + 1 ≤ 65535
  missing_bound n e =
      let m : Means rest (walk Crate 0 s).stop.number (Value n) = subst (Means rest _) e (state_means s bytes) in
      let l = m.0 in
      let after = drop l.tag.size rest in
      let rest-bytes = bytes_drop (walk Crate 0 s).stop.place s bytes in
      let bound = all_is (λ (l : Len). l.number ≤ 65535) (len_of Crate after) l.len (length_bound after (bytes_drop l.tag.size rest rest-bytes)) l.is_len in
      let tag = tag_inside Crate rest l.tag l.is_tag in
      let len = all_is (Sized (length after)) (len_of Crate after) l.len (len_within Crate after) l.is_len in
      omega (arith, bound, tag, len.1, length-drop l.tag.size rest, l.missing)

  -- in a header: its bytes alone lead to that state
  pub header_again : (h : Part) → (run Boundary s).walk ≡ Header h → (run Boundary (header_bytes h)).walk ≡ Header h
  header_again h e =
      ap (λ (l : List ℕ). (run Boundary l).walk) (sym (in_a_header h e).0) ∙ state_of_rest s ∙ e
