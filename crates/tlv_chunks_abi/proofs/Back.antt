-- The numbers of a state, handed in again, are that state (rule 18.10). So a host that keeps the three numbers between
-- two calls loses nothing, and no two states have the same numbers.
use Prim.Native.Nat.{ℕ, zero, suc, ◌+◌, ◌*◌, ◌/◌, ◌%◌, ◌<◌}
use mathlib.Core.Path.{◌≡◌, refl, sym, ap, ◌∙◌}
use mathlib.Core.Bool.{Bool, cond}
use mathlib.Core.List.{List, [], ◌∷◌}
use native.Mathlib.Omega.{arith}
use lib.Dec.{leb, eqb}
use Rattle.basis.specs.Number.{Bytes}
use Rattle.basis.proofs.Truth.{on_cond}
use Rattle.tlv.specs.Tag.{crate_tag_size, crate_third_byte}
use Rattle.std.specs.Prelude.{Result, Ok, Err}
use Rattle.tlv.specs.declared.stop.Stop.{Stop}
use Rattle.tlv.specs.declared.stop.Stop.TheVariants as stop
use Rattle.tlv_chunks.specs.Header.{first_of, second_of, third_of, length_of, byte_of}
use Rattle.tlv_chunks.specs.Run.{Event, header_byte, step}
use Rattle.tlv_chunks.specs.Call.{Call, after_byte, up_to_reply, take_of}
use Rattle.tlv_chunks.specs.declared.header.Header.{Header as Part}
use Rattle.tlv_chunks.specs.declared.header.Header.TheVariants.{Tag1, Tag2, Tag, Length81, Length82, Length82High}
use Rattle.tlv_chunks.specs.declared.header.HeaderByte.{HeaderByte}
use Rattle.tlv_chunks.specs.declared.header.HeaderByte.TheVariants as byte
use Rattle.tlv_chunks.specs.declared.walk.ChunkWalk.{ChunkWalk}
use Rattle.tlv_chunks.specs.declared.walk.ChunkWalk.TheVariants.{Boundary, Header, Value, Stopped}
use Rattle.tlv_chunks_abi.specs.Numbers.{length_by_numbers, header_by_numbers, walk_by_numbers, walk_numbers, walk_of}
use Rattle.tlv_chunks_abi.specs.Numbers.{PartHoldsBytes, HoldsBytes}
use Rattle.tlv_chunks_abi.proofs.States.{at_a_boundary, kind_1, kind_2, kind_3, kind_4, kind_5, kind_6}
use Rattle.tlv_chunks_abi.proofs.States.{in_a_value, stopped_with_11, stopped_with_12}

header_back : (h : Part) → PartHoldsBytes h → walk_of (walk_numbers (Header h)) ≡ Header h
header_back (Tag1 a) p =
    let low : a % 256 ≡ a = omega (arith, p) in
    kind_1 a 0 ∙ ap (λ b. Header (Tag1 b)) low
header_back (Tag2 a b) p =
    let high : (a * 256 + b) / 256 % 256 ≡ a = omega (arith, p.0, p.1) in
    let low : (a * 256 + b) % 256 ≡ b = omega (arith, p.0, p.1) in
    kind_2 (a * 256 + b) 0 ∙ (λ i. Header (Tag2 (high i) (low i)))
header_back (Tag t) p = kind_3 t 0
header_back (Length81 t) p = kind_4 t 0
header_back (Length82 t) p = kind_5 t 0
header_back (Length82High t a) p =
    let low : a % 256 ≡ a = omega (arith, p) in
    kind_6 t a ∙ ap (λ b. Header (Length82High t b)) low

-- a state whose bytes are below 256 is the state that its numbers stand for
pub numbers_there_and_back : (w : ChunkWalk) → HoldsBytes w → walk_of (walk_numbers w) ≡ w
numbers_there_and_back Boundary p = at_a_boundary 0 0 0 refl
numbers_there_and_back (Header h) p = header_back h p
numbers_there_and_back (Value n) p = in_a_value 7 0 n refl
numbers_there_and_back (Stopped stop.End) p = stopped_with_11 8 0 0 refl
numbers_there_and_back (Stopped stop.Unreadable) p = stopped_with_12 9 0 0 (omega arith)

-- two such states with the same numbers are one state
pub numbers_apart : (v w : ChunkWalk) → HoldsBytes v → HoldsBytes w → walk_numbers v ≡ walk_numbers w → v ≡ w
numbers_apart v w p q e = sym (numbers_there_and_back v p) ∙ ap walk_of e ∙ numbers_there_and_back w q

-- P holds of both, so it holds of the one that is chosen
chosen : {A : Type 0} (P : A → Type 0) (b : Bool) (x y : A) → P x → P y → P (cond b x y)
chosen P b x y p q = on_cond P b x y (λ _. p) (λ _. q)

-- any three numbers are a state whose bytes are below 256
module _ (k t n : ℕ) where
  length_bytes : PartHoldsBytes (length_by_numbers k t n)
  unfolding length_by_numbers
  length_bytes =
      let low : n % 256 < 256 = omega arith in
      let others = cond (eqb k 5) (Length82 t) (Length82High t (n % 256)) in
      chosen PartHoldsBytes (eqb k 4) (Length81 t) others tt
      (chosen PartHoldsBytes (eqb k 5) (Length82 t) (Length82High t (n % 256)) tt low)

  header_bytes : PartHoldsBytes (header_by_numbers k t n)
  unfolding header_by_numbers
  header_bytes =
      let high : t / 256 % 256 < 256 = omega arith in
      let low : t % 256 < 256 = omega arith in
      let two = Tag2 (t / 256 % 256) (t % 256) in
      let more = cond (eqb k 3) (Tag t) (length_by_numbers k t n) in
      chosen PartHoldsBytes (eqb k 1) (Tag1 (t % 256)) (cond (eqb k 2) two more) low
      (chosen PartHoldsBytes (eqb k 2) two more (high, low)
      (chosen PartHoldsBytes (eqb k 3) (Tag t) (length_by_numbers k t n) tt length_bytes))

  pub state_bytes : HoldsBytes (walk_by_numbers k t n)
  unfolding walk_by_numbers
  state_bytes =
      let h = Header (header_by_numbers k t n) in
      let stopped = Stopped (cond (eqb k 8) stop.End stop.Unreadable) in
      let others = cond (eqb k 7) (Value n) stopped in
      chosen HoldsBytes (eqb k 0) Boundary (cond (leb k 6) h others) tt
      (chosen HoldsBytes (leb k 6) h others header_bytes
      (chosen HoldsBytes (eqb k 7) (Value n) stopped tt tt))

-- a header and one byte more, if it goes on
abbrev MoreHoldsBytes : Result HeaderByte Stop → Type 0
MoreHoldsBytes (Ok (byte.More h)) = PartHoldsBytes h
MoreHoldsBytes (Ok (byte.Complete t n)) = Unit {0}
MoreHoldsBytes (Err e) = Unit {0}

module _ (b : ℕ) (l : b < 256) where
  first_bytes : PartHoldsBytes (first_of b)
  unfolding first_of
  first_bytes = chosen PartHoldsBytes (eqb (b % 32) 31) (Tag1 b) (Tag b) l tt

  second_bytes : (a : ℕ) → a < 256 → MoreHoldsBytes (second_of a b)
  unfolding second_of
  second_bytes a p =
      let last = Ok (byte.More (Tag (a * 256 + b))) in
      let more = Ok (byte.More (Tag2 a b)) in
      chosen MoreHoldsBytes (eqb (crate_tag_size b) 0) (Err stop.Unreadable) (cond (eqb (crate_tag_size b) 2) last more) tt
      (chosen MoreHoldsBytes (eqb (crate_tag_size b) 2) last more tt (p, l))

  third_bytes : (a c : ℕ) → MoreHoldsBytes (third_of a c b)
  unfolding third_of
  third_bytes a c = chosen MoreHoldsBytes (crate_third_byte b) (Ok (byte.More (Tag ((a * 256 + c) * 256 + b)))) (Err stop.Unreadable) tt tt

  length_byte : (t : ℕ) → MoreHoldsBytes (length_of t b)
  unfolding length_of
  length_byte t =
      let after-81 = Ok (byte.More (Length81 t)) in
      let after-82 = Ok (byte.More (Length82 t)) in
      let last = cond (eqb b 0x82) after-82 (Err stop.Unreadable) in
      chosen MoreHoldsBytes (leb b 0x7F) (Ok (byte.Complete t b)) (cond (eqb b 0x81) after-81 last) tt
      (chosen MoreHoldsBytes (eqb b 0x81) after-81 last tt (chosen MoreHoldsBytes (eqb b 0x82) after-82 (Err stop.Unreadable) tt tt))

  next_bytes : (h : Part) → PartHoldsBytes h → MoreHoldsBytes (byte_of h b)
  unfolding byte_of
  next_bytes (Tag1 a) p = second_bytes a p
  next_bytes (Tag2 a c) p = third_bytes a c
  next_bytes (Tag t) p = length_byte t
  next_bytes (Length81 t) p = tt
  next_bytes (Length82 t) p = l
  next_bytes (Length82High t a) p = tt

  after_header : (x : Result HeaderByte Stop) → MoreHoldsBytes x → HoldsBytes (header_byte x).walk
  after_header (Ok (byte.More h)) p = p
  after_header (Ok (byte.Complete t zero)) p = tt
  after_header (Ok (byte.Complete t (suc n))) p = tt
  after_header (Err e) p = tt

  step_bytes : (w : ChunkWalk) → HoldsBytes w → HoldsBytes (step w b).walk
  unfolding step
  step_bytes Boundary p = first_bytes
  step_bytes (Header h) p = after_header (byte_of h b) (next_bytes h p)
  step_bytes (Value zero) p = tt
  step_bytes (Value (suc n)) p = tt
  step_bytes (Stopped e) p = tt

after_bytes : (es : List Event) (w : ChunkWalk) (c : Call) → HoldsBytes w → HoldsBytes c.walk → HoldsBytes (after_byte es w c).walk
after_bytes [] w c p q = q
after_bytes (e ∷ es) w c p q = p

up_bytes : (w : ChunkWalk) (s : List ℕ) → HoldsBytes w → Bytes s → HoldsBytes (up_to_reply w s).walk
unfolding up_to_reply
up_bytes w [] p q = p
up_bytes w (b ∷ s) p q =
    let x = step w b in
    let h = step_bytes b (q 0) w p in
    after_bytes x.tells x.walk (up_to_reply x.walk s) h (up_bytes x.walk s h (λ i. q (suc i)))

take_bytes : (w : ChunkWalk) (s : List ℕ) → HoldsBytes w → Bytes s → HoldsBytes (take_of w s).walk
unfolding take_of
take_bytes Boundary s p q = up_bytes Boundary s p q
take_bytes (Header h) s p q = up_bytes (Header h) s p q
take_bytes (Value n) s p q = up_bytes (Value n) s p q
take_bytes (Stopped e) s p q = tt

-- the three numbers after a chunk stand for the state after it: the next call goes on there
pub state_handed_back : (k t n : ℕ) (s : List ℕ) → Bytes s
    → walk_of (walk_numbers (take_of (walk_by_numbers k t n) s).walk) ≡ (take_of (walk_by_numbers k t n) s).walk
state_handed_back k t n s q =
    let w = walk_by_numbers k t n in numbers_there_and_back (take_of w s).walk (take_bytes w s (state_bytes k t n) q)
