-- What a host program sees of a chunk and of closing, in plain words: the status and the 8 numbers of the row (rule
-- 18.10). The statements are over the promises. `walk_numbers w` are the last three numbers, those of the state w.
use Prim.Native.Nat.{ℕ, zero, suc, ◌+◌, ◌-◌, ◌*◌, ◌/◌, ◌%◌, ◌≤◌, ◌<◌}
use mathlib.Core.Path.{◌≡◌, refl, sym, ap, ◌∙◌}
use mathlib.Core.Bool.{true, false}
use mathlib.Core.List.{List, [], ◌∷◌}
use native.Mathlib.Decide.{dec_le}
use native.Mathlib.Omega.{arith}
use lib.ListN.{length}
use Rattle.basis.specs.Over.{over}
use Rattle.abi.specs.Answers.{short_status, RowTold}
use Rattle.abi.proofs.AnswerLaws.{row_fits, row_does_not_fit, told_as}
use Rattle.tlv.specs.Tag.{crate_tag_size, crate_third_byte}
use Rattle.std.specs.Prelude.{Ok, Err}
use Rattle.tlv.specs.declared.stop.Stop.TheVariants as stop
use Rattle.tlv_chunks.specs.Header.{first_of, byte_of}
use Rattle.tlv_chunks.specs.Run.{Event, head, end, refusal}
use Rattle.tlv_chunks.specs.Call.{Call, repeated, take_of, close_of, head_call, rest_call, value_call}
use Rattle.tlv_chunks.specs.declared.header.Header.{Header as Part}
use Rattle.tlv_chunks.specs.declared.header.Header.TheVariants.{Tag1, Tag2, Tag, Length81, Length82, Length82High}
use Rattle.tlv_chunks.specs.declared.header.HeaderByte.TheVariants as byte
use Rattle.tlv_chunks.specs.declared.walk.ChunkWalk.{ChunkWalk}
use Rattle.tlv_chunks.specs.declared.walk.ChunkWalk.TheVariants.{Boundary, Header, Value, Stopped}
use Rattle.tlv_chunks.proofs.Headers.{first_alone, first_of_more, second_refused, second_last, second_of_three, third_last, third_refused}
use Rattle.tlv_chunks.proofs.Headers.{length_alone, length_81, length_82, length_refused, after_81, high_after_82, low_after_82}
use Rattle.tlv_chunks.proofs.Calls.{header_goes_on, header_complete, header_unreadable, header_used_up, from_the_start, no_byte, header_starts}
use Rattle.tlv_chunks.proofs.Calls.{value_needs_more, value_ends, value_in_one_step}
use Rattle.tlv_chunks_abi.specs.Numbers.{header_by_numbers, walk_by_numbers, walk_numbers, row_of, ChunkTold, CloseTold}
use Rattle.tlv_chunks_abi.proofs.States.{at_a_boundary, in_a_header, in_a_value, stopped_with_11, stopped_with_12}
use Rattle.tlv_chunks_abi.proofs.States.{kind_1, kind_2, kind_3, kind_4, kind_5, kind_6}
use Rattle.tlv_chunks_abi.proofs.Rows.{eight_numbers}

-- a call that tells es, takes m bytes and leaves the state w
abbrev pub call : List Event → ℕ → ChunkWalk → Call
call es m w = record { tells = es; taken = m; walk = w }

-- the row of a call, if the slice has 8 numbers or more, and if it has fewer
module _ (c : Call) (out : List ℕ) (r : ℕ) (out' : List ℕ) (p : RowTold (row_of c) out r out') where
  told : 8 ≤ length out → (r ≡ (row_of c).status) × (out' ≡ over (row_of c).numbers out)
  told h = row_fits (row_of c) out r out' p (omega (arith, h, eight_numbers c))

  not_told : length out < 8 → (r ≡ short_status (row_of c).status) × (out' ≡ out)
  not_told h = row_does_not_fit (row_of c) out r out' p (omega (arith, h, eight_numbers c))

-- the row for a header that is complete, with tag u and length l, after m bytes: a value of no bytes is complete too
abbrev pub head_row : ℕ → ℕ → ℕ → List ℕ
head_row u zero m = 1 ∷ 1 ∷ u ∷ 0 ∷ m ∷ 0 ∷ 0 ∷ 0 ∷ []
head_row u (suc l) m = 1 ∷ 0 ∷ u ∷ suc l ∷ m ∷ 7 ∷ 0 ∷ l ∷ []

-- a chunk, by what the call comes to
module _ (k t n : ℕ) (s out : List ℕ) (r : ℕ) (out' : List ℕ) (p : ChunkTold k t n s out r out') where
  as_call : (c : Call) → take_of (walk_by_numbers k t n) s ≡ c → RowTold (row_of c) out r out'
  as_call c e = told_as _ _ out r out' (ap row_of e) p

  module _ (h : 8 ≤ length out) where
    pub more_needed : (m : ℕ) (w : ChunkWalk) → take_of (walk_by_numbers k t n) s ≡ call [] m w
        → (r ≡ 0) × (out' ≡ over (0 ∷ 0 ∷ 0 ∷ 0 ∷ m ∷ walk_numbers w) out)
    more_needed m w e = let c = call [] m w in told c out r out' (as_call c e) h

    pub head_told : (u l m : ℕ) (w : ChunkWalk) → take_of (walk_by_numbers k t n) s ≡ call (head u l ∷ []) m w
        → (r ≡ 0) × (out' ≡ over (1 ∷ 0 ∷ u ∷ l ∷ m ∷ walk_numbers w) out)
    head_told u l m w e = let c = call (head u l ∷ []) m w in told c out r out' (as_call c e) h

    pub head_and_end_told : (u l m : ℕ) (w : ChunkWalk) → take_of (walk_by_numbers k t n) s ≡ call (head u l ∷ end ∷ []) m w
        → (r ≡ 0) × (out' ≡ over (1 ∷ 1 ∷ u ∷ l ∷ m ∷ walk_numbers w) out)
    head_and_end_told u l m w e = let c = call (head u l ∷ end ∷ []) m w in told c out r out' (as_call c e) h

    pub end_told : (m : ℕ) (w : ChunkWalk) → take_of (walk_by_numbers k t n) s ≡ call (end ∷ []) m w
        → (r ≡ 0) × (out' ≡ over (0 ∷ 1 ∷ 0 ∷ 0 ∷ m ∷ walk_numbers w) out)
    end_told m w e = let c = call (end ∷ []) m w in told c out r out' (as_call c e) h

    pub refusal_told : (j m : ℕ) (w : ChunkWalk) → take_of (walk_by_numbers k t n) s ≡ call (refusal j ∷ []) m w
        → (r ≡ j) × (out' ≡ over (0 ∷ 0 ∷ 0 ∷ 0 ∷ m ∷ walk_numbers w) out)
    refusal_told j m w e = let c = call (refusal j ∷ []) m w in told c out r out' (as_call c e) h

    pub complete_told : (u l m : ℕ) → take_of (walk_by_numbers k t n) s ≡ head_call u l m → (r ≡ 0) × (out' ≡ over (head_row u l m) out)
    complete_told u zero m e = head_and_end_told u 0 m Boundary e
    complete_told u (suc l) m e = head_told u (suc l) m (Value l) e

  -- a row that is too short stays: 16, but 11 and 12 are told all the same
  module _ (h : length out < 8) (m : ℕ) (w : ChunkWalk) where
    pub more_needed_not_told : take_of (walk_by_numbers k t n) s ≡ call [] m w → (r ≡ 16) × (out' ≡ out)
    more_needed_not_told e = let c = call [] m w in not_told c out r out' (as_call c e) h

    pub head_not_told : (u l : ℕ) (es : List Event) → take_of (walk_by_numbers k t n) s ≡ call (head u l ∷ es) m w → (r ≡ 16) × (out' ≡ out)
    head_not_told u l es e = let c = call (head u l ∷ es) m w in not_told c out r out' (as_call c e) h

    pub end_not_told : take_of (walk_by_numbers k t n) s ≡ call (end ∷ []) m w → (r ≡ 16) × (out' ≡ out)
    end_not_told e = let c = call (end ∷ []) m w in not_told c out r out' (as_call c e) h

    pub stop_with_11_not_told : take_of (walk_by_numbers k t n) s ≡ call (refusal 11 ∷ []) m w → (r ≡ 11) × (out' ≡ out)
    stop_with_11_not_told e = let c = call (refusal 11 ∷ []) m w in not_told c out r out' (as_call c e) h

    pub stop_with_12_not_told : take_of (walk_by_numbers k t n) s ≡ call (refusal 12 ∷ []) m w → (r ≡ 12) × (out' ≡ out)
    stop_with_12_not_told e = let c = call (refusal 12 ∷ []) m w in not_told c out r out' (as_call c e) h

  -- kind 8, and kinds 9 and above, have stopped: every chunk gets their number, no byte is taken, and the state stays
  at_11 : k ≡ 8 → take_of (walk_by_numbers k t n) s ≡ repeated 11 (Stopped stop.End)
  unfolding take_of
  at_11 e = ap (λ w. take_of w s) (stopped_with_11 k t n e)

  at_12 : 9 ≤ k → take_of (walk_by_numbers k t n) s ≡ repeated 12 (Stopped stop.Unreadable)
  unfolding take_of
  at_12 g = ap (λ w. take_of w s) (stopped_with_12 k t n g)

  pub kind_8_repeats_11 : k ≡ 8 → 8 ≤ length out → (r ≡ 11) × (out' ≡ over (0 ∷ 0 ∷ 0 ∷ 0 ∷ 0 ∷ 8 ∷ 0 ∷ 0 ∷ []) out)
  kind_8_repeats_11 e h = refusal_told h 11 0 (Stopped stop.End) (at_11 e)

  pub kind_9_repeats_12 : 9 ≤ k → 8 ≤ length out → (r ≡ 12) × (out' ≡ over (0 ∷ 0 ∷ 0 ∷ 0 ∷ 0 ∷ 9 ∷ 0 ∷ 0 ∷ []) out)
  kind_9_repeats_12 g h = refusal_told h 12 0 (Stopped stop.Unreadable) (at_12 g)

  pub kind_8_without_row : k ≡ 8 → length out < 8 → (r ≡ 11) × (out' ≡ out)
  kind_8_without_row e h = stop_with_11_not_told h 0 (Stopped stop.End) (at_11 e)

  pub kind_9_without_row : 9 ≤ k → length out < 8 → (r ≡ 12) × (out' ≡ out)
  kind_9_without_row g h = stop_with_12_not_told h 0 (Stopped stop.Unreadable) (at_12 g)

  -- kind 7, in a value of which n + 1 bytes are missing: all bytes of the chunk belong to it, or it ends in the chunk
  in_value : (c : Call) → k ≡ 7 → value_call n (length s) ≡ c → take_of (walk_by_numbers k t n) s ≡ c
  in_value c e f = ap (λ w. take_of w s) (in_a_value k t n e) ∙ sym (value_in_one_step n s) ∙ f

  pub kind_7_goes_on : k ≡ 7 → length s ≤ n → 8 ≤ length out
      → (r ≡ 0) × (out' ≡ over (0 ∷ 0 ∷ 0 ∷ 0 ∷ length s ∷ 7 ∷ 0 ∷ (n - length s) ∷ []) out)
  kind_7_goes_on e g h =
      let w = Value (n - length s) in
      more_needed h (length s) w (in_value (call [] (length s) w) e (value_needs_more n (length s) n refl g))

  pub kind_7_ends : k ≡ 7 → n < length s → 8 ≤ length out
      → (r ≡ 0) × (out' ≡ over (0 ∷ 1 ∷ 0 ∷ 0 ∷ (n + 1) ∷ 0 ∷ 0 ∷ 0 ∷ []) out)
  kind_7_ends e g h =
      end_told h (n + 1) Boundary (in_value (call (end ∷ []) (n + 1) Boundary) e (value_ends n (length s) n refl g))

-- the first bytes at a boundary, and the next byte of a header
module _ (a : ℕ) where
  one_byte : (h : Part) → first_of a ≡ h → take_of Boundary (a ∷ []) ≡ call [] 1 (Header h)
  one_byte h e =
      let s = a ∷ [] in
      header_starts s (omega arith) ∙ ap (λ h. rest_call h s 1) e ∙ header_used_up h s 1 (omega arith)

  module _ (b : ℕ) (s : List ℕ) where
    two_bytes : (h : Part) → first_of a ≡ h → take_of Boundary (a ∷ b ∷ s) ≡ rest_call h (a ∷ b ∷ s) 1
    two_bytes h e = header_starts (a ∷ b ∷ s) (omega arith) ∙ ap (λ h. rest_call h (a ∷ b ∷ s) 1) e

    two_complete : (h : Part) (u l : ℕ) → first_of a ≡ h → byte_of h b ≡ Ok (byte.Complete u l) → take_of Boundary (a ∷ b ∷ s) ≡ head_call u l 2
    two_complete h u l e f = two_bytes h e ∙ header_complete h (a ∷ b ∷ s) 1 u l (omega arith) f

    two_unreadable : (h : Part) → first_of a ≡ h → byte_of h b ≡ Err stop.Unreadable
        → take_of Boundary (a ∷ b ∷ s) ≡ call (refusal 12 ∷ []) 2 (Stopped stop.Unreadable)
    two_unreadable h e f = two_bytes h e ∙ header_unreadable h (a ∷ b ∷ s) 1 stop.Unreadable (omega arith) f

module _ (h : Part) (b : ℕ) where
  next_goes_on : (g : Part) → byte_of h b ≡ Ok (byte.More g) → take_of (Header h) (b ∷ []) ≡ call [] 1 (Header g)
  unfolding take_of
  next_goes_on g e =
      let s = b ∷ [] in
      from_the_start h s ∙ header_goes_on h s 0 g (omega arith) e ∙ header_used_up g s 1 (omega arith)

  next_complete : (s : List ℕ) (u l : ℕ) → byte_of h b ≡ Ok (byte.Complete u l) → take_of (Header h) (b ∷ s) ≡ head_call u l 1
  unfolding take_of
  next_complete s u l e = from_the_start h (b ∷ s) ∙ header_complete h (b ∷ s) 0 u l (omega arith) e

  next_unreadable : (s : List ℕ) → byte_of h b ≡ Err stop.Unreadable → take_of (Header h) (b ∷ s) ≡ call (refusal 12 ∷ []) 1 (Stopped stop.Unreadable)
  unfolding take_of
  next_unreadable s e = from_the_start h (b ∷ s) ∙ header_unreadable h (b ∷ s) 0 stop.Unreadable (omega arith) e

-- with a row of 8 numbers or more
module _ (t n : ℕ) (out : List ℕ) (h : 8 ≤ length out) (r : ℕ) (out' : List ℕ) where
  -- from kind 0, at a boundary: no byte; the first byte of a tag, which has more or has not; such a tag and a length up
  -- to 127; such a tag and a byte that is no first byte of a length
  start : (s : List ℕ) (c : Call) → take_of Boundary s ≡ c → take_of (walk_by_numbers 0 t n) s ≡ c
  start s c e = ap (λ w. take_of w s) (at_a_boundary 0 t n refl) ∙ e

  pub kind_0_no_byte : ChunkTold 0 t n [] out r out' → (r ≡ 0) × (out' ≡ over (0 ∷ 0 ∷ 0 ∷ 0 ∷ 0 ∷ 0 ∷ 0 ∷ 0 ∷ []) out)
  kind_0_no_byte p = more_needed 0 t n [] out r out' p h 0 Boundary (start [] (call [] 0 Boundary) (no_byte [] (omega arith)))

  module _ (a : ℕ) where
    pub kind_0_more_tag : a % 32 ≡ 31 → ChunkTold 0 t n (a ∷ []) out r out'
        → (r ≡ 0) × (out' ≡ over (0 ∷ 0 ∷ 0 ∷ 0 ∷ 1 ∷ 1 ∷ a ∷ 0 ∷ []) out)
    kind_0_more_tag e p =
        let w = Header (Tag1 a) in
        let s = a ∷ [] in
        more_needed 0 t n s out r out' p h 1 w (start s (call [] 1 w) (one_byte a (Tag1 a) (first_of_more a e)))

    module _ (g : a % 32 ≡ 31 → ⊥) where
      pub kind_0_tag : ChunkTold 0 t n (a ∷ []) out r out' → (r ≡ 0) × (out' ≡ over (0 ∷ 0 ∷ 0 ∷ 0 ∷ 1 ∷ 3 ∷ a ∷ 0 ∷ []) out)
      kind_0_tag p =
          let w = Header (Tag a) in
          let s = a ∷ [] in
          more_needed 0 t n s out r out' p h 1 w (start s (call [] 1 w) (one_byte a (Tag a) (first_alone a g)))

      module _ (b : ℕ) (s : List ℕ) (p : ChunkTold 0 t n (a ∷ b ∷ s) out r out') where
        pub kind_0_complete : b ≤ 0x7F → (r ≡ 0) × (out' ≡ over (head_row a b 2) out)
        kind_0_complete l =
            let e = two_complete a b s (Tag a) a b (first_alone a g) (length_alone a b l) in
            complete_told 0 t n (a ∷ b ∷ s) out r out' p h a b 2 (start (a ∷ b ∷ s) (head_call a b 2) e)

        pub kind_0_unreadable : 0x7F < b → (b ≡ 0x81 → ⊥) → (b ≡ 0x82 → ⊥)
            → (r ≡ 12) × (out' ≡ over (0 ∷ 0 ∷ 0 ∷ 0 ∷ 2 ∷ 9 ∷ 0 ∷ 0 ∷ []) out)
        kind_0_unreadable l m q =
            let c = call (refusal 12 ∷ []) 2 (Stopped stop.Unreadable) in
            let e = two_unreadable a b s (Tag a) (first_alone a g) (length_refused a b l m q) in
            refusal_told 0 t n (a ∷ b ∷ s) out r out' p h 12 2 (Stopped stop.Unreadable) (start (a ∷ b ∷ s) c e)

  -- from kinds 1 to 6, in a header: the next byte
  module _ (k : ℕ) (x : Part) (e : walk_by_numbers k t n ≡ Header x) (b : ℕ) where
    goes_on : (g : Part) → byte_of x b ≡ Ok (byte.More g) → ChunkTold k t n (b ∷ []) out r out'
        → (r ≡ 0) × (out' ≡ over (0 ∷ 0 ∷ 0 ∷ 0 ∷ 1 ∷ walk_numbers (Header g)) out)
    goes_on g f p =
        let s = b ∷ [] in more_needed k t n s out r out' p h 1 (Header g) (ap (λ w. take_of w s) e ∙ next_goes_on x b g f)

    module _ (s : List ℕ) (p : ChunkTold k t n (b ∷ s) out r out') where
      complete : (u l : ℕ) → byte_of x b ≡ Ok (byte.Complete u l) → (r ≡ 0) × (out' ≡ over (head_row u l 1) out)
      complete u l f =
          complete_told k t n (b ∷ s) out r out' p h u l 1 (ap (λ w. take_of w (b ∷ s)) e ∙ next_complete x b s u l f)

      unreadable : byte_of x b ≡ Err stop.Unreadable → (r ≡ 12) × (out' ≡ over (0 ∷ 0 ∷ 0 ∷ 0 ∷ 1 ∷ 9 ∷ 0 ∷ 0 ∷ []) out)
      unreadable f =
          refusal_told k t n (b ∷ s) out r out' p h 12 1 (Stopped stop.Unreadable) (ap (λ w. take_of w (b ∷ s)) e ∙ next_unreadable x b s f)

  module _ (b : ℕ) where
    pub kind_1_tag : crate_tag_size b ≡ 2 → ChunkTold 1 t n (b ∷ []) out r out'
        → (r ≡ 0) × (out' ≡ over (0 ∷ 0 ∷ 0 ∷ 0 ∷ 1 ∷ 3 ∷ (t % 256 * 256 + b) ∷ 0 ∷ []) out)
    kind_1_tag e = goes_on 1 (Tag1 (t % 256)) (kind_1 t n) b (Tag (t % 256 * 256 + b)) (second_last (t % 256) b e)

    pub kind_1_more_tag : (crate_tag_size b ≡ 0 → ⊥) → (crate_tag_size b ≡ 2 → ⊥) → ChunkTold 1 t n (b ∷ []) out r out'
        → (r ≡ 0) × (out' ≡ over (0 ∷ 0 ∷ 0 ∷ 0 ∷ 1 ∷ 2 ∷ (t % 256 * 256 + b) ∷ 0 ∷ []) out)
    kind_1_more_tag e f = goes_on 1 (Tag1 (t % 256)) (kind_1 t n) b (Tag2 (t % 256) b) (second_of_three (t % 256) b e f)

    pub kind_1_unreadable : crate_tag_size b ≡ 0 → (s : List ℕ) → ChunkTold 1 t n (b ∷ s) out r out'
        → (r ≡ 12) × (out' ≡ over (0 ∷ 0 ∷ 0 ∷ 0 ∷ 1 ∷ 9 ∷ 0 ∷ 0 ∷ []) out)
    kind_1_unreadable e s p = unreadable 1 (Tag1 (t % 256)) (kind_1 t n) b s p (second_refused (t % 256) b e)

    pub kind_2_tag : crate_third_byte b ≡ true → ChunkTold 2 t n (b ∷ []) out r out'
        → (r ≡ 0) × (out' ≡ over (0 ∷ 0 ∷ 0 ∷ 0 ∷ 1 ∷ 3 ∷ ((t / 256 % 256 * 256 + t % 256) * 256 + b) ∷ 0 ∷ []) out)
    kind_2_tag e =
        let a = t / 256 % 256 in
        let c = t % 256 in
        goes_on 2 (Tag2 a c) (kind_2 t n) b (Tag ((a * 256 + c) * 256 + b)) (third_last a c b e)

    pub kind_2_unreadable : crate_third_byte b ≡ false → (s : List ℕ) → ChunkTold 2 t n (b ∷ s) out r out'
        → (r ≡ 12) × (out' ≡ over (0 ∷ 0 ∷ 0 ∷ 0 ∷ 1 ∷ 9 ∷ 0 ∷ 0 ∷ []) out)
    kind_2_unreadable e s p =
        let a = t / 256 % 256 in
        let c = t % 256 in
        unreadable 2 (Tag2 a c) (kind_2 t n) b s p (third_refused a c b e)

    pub kind_3_complete : b ≤ 0x7F → (s : List ℕ) → ChunkTold 3 t n (b ∷ s) out r out' → (r ≡ 0) × (out' ≡ over (head_row t b 1) out)
    kind_3_complete l s p = complete 3 (Tag t) (kind_3 t n) b s p t b (length_alone t b l)

    pub kind_3_81 : b ≡ 0x81 → ChunkTold 3 t n (b ∷ []) out r out' → (r ≡ 0) × (out' ≡ over (0 ∷ 0 ∷ 0 ∷ 0 ∷ 1 ∷ 4 ∷ t ∷ 0 ∷ []) out)
    kind_3_81 e = goes_on 3 (Tag t) (kind_3 t n) b (Length81 t) (length_81 t b e)

    pub kind_3_82 : b ≡ 0x82 → ChunkTold 3 t n (b ∷ []) out r out' → (r ≡ 0) × (out' ≡ over (0 ∷ 0 ∷ 0 ∷ 0 ∷ 1 ∷ 5 ∷ t ∷ 0 ∷ []) out)
    kind_3_82 e = goes_on 3 (Tag t) (kind_3 t n) b (Length82 t) (length_82 t b e)

    pub kind_3_unreadable : 0x7F < b → (b ≡ 0x81 → ⊥) → (b ≡ 0x82 → ⊥) → (s : List ℕ) → ChunkTold 3 t n (b ∷ s) out r out'
        → (r ≡ 12) × (out' ≡ over (0 ∷ 0 ∷ 0 ∷ 0 ∷ 1 ∷ 9 ∷ 0 ∷ 0 ∷ []) out)
    kind_3_unreadable l e f s p = unreadable 3 (Tag t) (kind_3 t n) b s p (length_refused t b l e f)

    pub kind_4_complete : (s : List ℕ) → ChunkTold 4 t n (b ∷ s) out r out' → (r ≡ 0) × (out' ≡ over (head_row t b 1) out)
    kind_4_complete s p = complete 4 (Length81 t) (kind_4 t n) b s p t b (after_81 t b)

    pub kind_5_goes_on : ChunkTold 5 t n (b ∷ []) out r out' → (r ≡ 0) × (out' ≡ over (0 ∷ 0 ∷ 0 ∷ 0 ∷ 1 ∷ 6 ∷ t ∷ b ∷ []) out)
    kind_5_goes_on = goes_on 5 (Length82 t) (kind_5 t n) b (Length82High t b) (high_after_82 t b)

    pub kind_6_complete : (s : List ℕ) → ChunkTold 6 t n (b ∷ s) out r out' → (r ≡ 0) × (out' ≡ over (head_row t (n % 256 * 256 + b) 1) out)
    kind_6_complete s p =
        let a = n % 256 in complete 6 (Length82High t a) (kind_6 t n) b s p t (a * 256 + b) (low_after_82 t a b)

-- closing: 11 at a boundary, kind 0, and the state is kind 8 then; 12 in a header or in a value, kinds 1 to 7, and the
-- state is kind 9 then; kind 8, and kinds 9 and above, repeat their number. A row that is too short stays
module _ (k t n : ℕ) (out : List ℕ) (r : ℕ) (out' : List ℕ) (p : CloseTold k t n out r out') where
  closed : (w : ChunkWalk) (j : ℕ) → walk_by_numbers k t n ≡ w → (row_of (close_of w)).status ≡ j → short_status (row_of (close_of w)).status ≡ j
      → (r ≡ j) × (8 ≤ length out → out' ≡ over (row_of (close_of w)).numbers out) × (length out < 8 → out' ≡ out)
  closed w j e f g =
      let q : RowTold (row_of (close_of w)) out r out' = told_as _ _ out r out' (ap (λ w. row_of (close_of w)) e) p in
      let long = told (close_of w) out r out' q in
      let short = not_told (close_of w) out r out' q in
      let status : r ≡ j = elim (dec_le 8 (length out)) [ yes h ↦ (long h).0 ∙ f | no h ↦ (short (omega arith)).0 ∙ g ] in
      (status, λ h. (long h).1, λ h. (short h).1)

  pub closed_at_a_boundary : k ≡ 0
      → (r ≡ 11) × (8 ≤ length out → out' ≡ over (0 ∷ 0 ∷ 0 ∷ 0 ∷ 0 ∷ 8 ∷ 0 ∷ 0 ∷ []) out) × (length out < 8 → out' ≡ out)
  closed_at_a_boundary e = closed Boundary 11 (at_a_boundary k t n e) refl refl

  pub closed_in_a_header : 1 ≤ k → k ≤ 6
      → (r ≡ 12) × (8 ≤ length out → out' ≡ over (0 ∷ 0 ∷ 0 ∷ 0 ∷ 0 ∷ 9 ∷ 0 ∷ 0 ∷ []) out) × (length out < 8 → out' ≡ out)
  closed_in_a_header g h = closed (Header (header_by_numbers k t n)) 12 (in_a_header k t n g h) refl refl

  pub closed_in_a_value : k ≡ 7
      → (r ≡ 12) × (8 ≤ length out → out' ≡ over (0 ∷ 0 ∷ 0 ∷ 0 ∷ 0 ∷ 9 ∷ 0 ∷ 0 ∷ []) out) × (length out < 8 → out' ≡ out)
  closed_in_a_value e = closed (Value n) 12 (in_a_value k t n e) refl refl

  pub closed_after_11 : k ≡ 8
      → (r ≡ 11) × (8 ≤ length out → out' ≡ over (0 ∷ 0 ∷ 0 ∷ 0 ∷ 0 ∷ 8 ∷ 0 ∷ 0 ∷ []) out) × (length out < 8 → out' ≡ out)
  closed_after_11 e = closed (Stopped stop.End) 11 (stopped_with_11 k t n e) refl refl

  pub closed_after_12 : 9 ≤ k
      → (r ≡ 12) × (8 ≤ length out → out' ≡ over (0 ∷ 0 ∷ 0 ∷ 0 ∷ 0 ∷ 9 ∷ 0 ∷ 0 ∷ []) out) × (length out < 8 → out' ≡ out)
  closed_after_12 h = closed (Stopped stop.Unreadable) 12 (stopped_with_12 k t n h) refl refl
