-- The state that three numbers stand for, kind by kind (rule 18.10).
use Prim.Native.Nat.{ℕ, ◌/◌, ◌%◌, ◌≤◌}
use mathlib.Core.Path.{◌≡◌, refl, ap, ◌∙◌}
use native.Mathlib.Omega.{arith}
use borrow.Author.Tests.{le-leb, lt-leb, eq-eqb, ne_eqb}
use Rattle.tlv.specs.declared.stop.Stop.TheVariants as stop
use Rattle.tlv_chunks.specs.declared.header.Header.{Header as Part}
use Rattle.tlv_chunks.specs.declared.header.Header.TheVariants.{Tag1, Tag2, Tag, Length81, Length82, Length82High}
use Rattle.tlv_chunks.specs.declared.walk.ChunkWalk.TheVariants.{Boundary, Header, Value, Stopped}
use Rattle.tlv_chunks_abi.specs.Numbers.{length_by_numbers, header_by_numbers, walk_by_numbers}

module _ (k t n : ℕ) where
  -- after a tag: kinds 4, 5 and 6
  pub length_81 : k ≡ 4 → length_by_numbers k t n ≡ Length81 t
  unfolding length_by_numbers
  length_81 e = rw (eq-eqb k 4 e)

  pub length_82 : k ≡ 5 → length_by_numbers k t n ≡ Length82 t
  unfolding length_by_numbers
  length_82 e = rw (ne_eqb k 4 (λ f. omega arith), eq-eqb k 5 e)

  pub length_82_high : (k ≡ 4 → ⊥) → (k ≡ 5 → ⊥) → length_by_numbers k t n ≡ Length82High t (n % 256)
  unfolding length_by_numbers
  length_82_high a b = rw (ne_eqb k 4 a, ne_eqb k 5 b)

  -- in a tag: kinds 1, 2 and 3; kinds above have a length
  pub one_byte : k ≡ 1 → header_by_numbers k t n ≡ Tag1 (t % 256)
  unfolding header_by_numbers
  one_byte e = rw (eq-eqb k 1 e)

  pub two_bytes_read : k ≡ 2 → header_by_numbers k t n ≡ Tag2 (t / 256 % 256) (t % 256)
  unfolding header_by_numbers
  two_bytes_read e = rw (ne_eqb k 1 (λ f. omega arith), eq-eqb k 2 e)

  pub whole_tag : k ≡ 3 → header_by_numbers k t n ≡ Tag t
  unfolding header_by_numbers
  whole_tag e = rw (ne_eqb k 1 (λ f. omega arith), ne_eqb k 2 (λ f. omega arith), eq-eqb k 3 e)

  pub with_length : (k ≡ 1 → ⊥) → (k ≡ 2 → ⊥) → (k ≡ 3 → ⊥) → header_by_numbers k t n ≡ length_by_numbers k t n
  unfolding header_by_numbers
  with_length a b c = rw (ne_eqb k 1 a, ne_eqb k 2 b, ne_eqb k 3 c)

  -- the state: at a boundary, in a header, in a value, stopped with 11, stopped with 12
  pub at_a_boundary : k ≡ 0 → walk_by_numbers k t n ≡ Boundary
  unfolding walk_by_numbers
  at_a_boundary e = rw (eq-eqb k 0 e)

  pub in_a_header : 1 ≤ k → k ≤ 6 → walk_by_numbers k t n ≡ Header (header_by_numbers k t n)
  unfolding walk_by_numbers
  in_a_header a b = rw (ne_eqb k 0 (λ f. omega arith), le-leb k 6 b)

  pub in_a_value : k ≡ 7 → walk_by_numbers k t n ≡ Value n
  unfolding walk_by_numbers
  in_a_value e = rw (ne_eqb k 0 (λ f. omega arith), lt-leb k 6 (omega arith), eq-eqb k 7 e)

  pub stopped_with_11 : k ≡ 8 → walk_by_numbers k t n ≡ Stopped stop.End
  unfolding walk_by_numbers
  stopped_with_11 e = rw (ne_eqb k 0 (λ f. omega arith), lt-leb k 6 (omega arith), ne_eqb k 7 (λ f. omega arith), eq-eqb k 8 e)

  pub stopped_with_12 : 9 ≤ k → walk_by_numbers k t n ≡ Stopped stop.Unreadable
  unfolding walk_by_numbers
  stopped_with_12 h =
      rw (ne_eqb k 0 (λ f. omega arith), lt-leb k 6 (omega arith), ne_eqb k 7 (λ f. omega arith), ne_eqb k 8 (λ f. omega arith))

-- the headers of kinds 1 to 6
module _ (t n : ℕ) where
  pub kind_1 : walk_by_numbers 1 t n ≡ Header (Tag1 (t % 256))
  kind_1 = in_a_header 1 t n (omega arith) (omega arith) ∙ ap Header (one_byte 1 t n refl)

  pub kind_2 : walk_by_numbers 2 t n ≡ Header (Tag2 (t / 256 % 256) (t % 256))
  kind_2 = in_a_header 2 t n (omega arith) (omega arith) ∙ ap Header (two_bytes_read 2 t n refl)

  pub kind_3 : walk_by_numbers 3 t n ≡ Header (Tag t)
  kind_3 = in_a_header 3 t n (omega arith) (omega arith) ∙ ap Header (whole_tag 3 t n refl)

  -- with a length
  by_length : (k : ℕ) (h : Part) → 4 ≤ k → k ≤ 6 → length_by_numbers k t n ≡ h → walk_by_numbers k t n ≡ Header h
  by_length k h a b e =
      let c = with_length k t n (λ f. omega arith) (λ f. omega arith) (λ f. omega arith) in
      in_a_header k t n (omega arith) b ∙ ap Header (c ∙ e)

  pub kind_4 : walk_by_numbers 4 t n ≡ Header (Length81 t)
  kind_4 = by_length 4 (Length81 t) (omega arith) (omega arith) (length_81 4 t n refl)

  pub kind_5 : walk_by_numbers 5 t n ≡ Header (Length82 t)
  kind_5 = by_length 5 (Length82 t) (omega arith) (omega arith) (length_82 5 t n refl)

  pub kind_6 : walk_by_numbers 6 t n ≡ Header (Length82High t (n % 256))
  kind_6 =
      by_length 6 (Length82High t (n % 256)) (omega arith) (omega arith) (length_82_high 6 t n (λ f. omega arith) (λ f. omega arith))
