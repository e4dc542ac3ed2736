-- What a call comes to, for the code: a header byte by byte, and a value in one step (rules 18.1, 18.3 and 18.8).
use Prim.Native.Nat.{ℕ, zero, suc, ◌+◌, ◌-◌, ◌≤◌, ◌<◌}
use mathlib.Core.Path.{◌≡◌, refl, sym, ap, ◌∙◌}
use mathlib.Core.List.{List, [], ◌∷◌}
use native.Mathlib.Decide.{dec_le}
use native.Mathlib.Numerals.{add-one}
use native.Mathlib.Omega.{arith}
use borrow.Author.Tests.{le-leb, lt-leb}
use lib.ListN.{length, drop, get_or, drop_of_length-le}
use lib.Seq.{drop-cons}
use Rattle.std.specs.Prelude.{Result, Ok, Err}
use Rattle.tlv.specs.declared.stop.Stop.{Stop}
use Rattle.tlv_chunks.specs.Header.{first_of, byte_of}
use Rattle.tlv_chunks.specs.Run.{head, end, headed, header_byte, step}
use Rattle.tlv_chunks.specs.Call.{Call, later, after_byte, up_to_reply, take_of, Says, call_of, stopped_call, head_call, rest_call, value_call}
use Rattle.tlv_chunks.specs.declared.header.Header.{Header as Part}
use Rattle.tlv_chunks.specs.declared.header.HeaderByte.{HeaderByte}
use Rattle.tlv_chunks.specs.declared.header.HeaderByte.TheVariants as byte
use Rattle.tlv_chunks.specs.declared.walk.ChunkWalk.TheVariants.{Boundary, Header, Value}
use Rattle.tlv_chunks.specs.declared.walk.ChunkTaken.{ChunkTaken}

-- an answer says one call
pub call_said : (c : Call) (x : ChunkTaken) → Says c x → c ≡ call_of x
call_said c x h = sym (λ i. record { tells = h.tells i; taken = h.taken i; walk = h.walk i })

-- a call whose first byte is a byte of a header, by what that byte comes to
first_byte : (h : Part) (b : ℕ) (s : List ℕ) (x : Result HeaderByte Stop) → byte_of h b ≡ x
    → up_to_reply (Header h) (b ∷ s) ≡ after_byte (header_byte x).tells (header_byte x).walk (up_to_reply (header_byte x).walk s)
unfolding up_to_reply step
first_byte h b s x e = ap (λ (x : Result HeaderByte Stop). after_byte (header_byte x).tells (header_byte x).walk (up_to_reply (header_byte x).walk s)) e

-- a header that is complete
complete : (t n k : ℕ) (c : Call) → later k (after_byte (headed t n).tells (headed t n).walk c) ≡ head_call t n (k + 1)
complete t zero k c = refl
complete t (suc n) k c = refl

-- the byte of a header at a place of the chunk: the header goes on, is complete, or cannot be read; no byte is left
module _ (h : Part) (s : List ℕ) (at : ℕ) where
  by_byte : (x : Result HeaderByte Stop) → at < length s → byte_of h (get_or s at 0) ≡ x
      → rest_call h s at ≡ later at (after_byte (header_byte x).tells (header_byte x).walk (up_to_reply (header_byte x).walk (drop (suc at) s)))
  by_byte x l e = rw (drop-cons s at 0 l) (ap (later at) (first_byte h (get_or s at 0) (drop (suc at) s) x e))

  pub header_goes_on : (g : Part) → at < length s → byte_of h (get_or s at 0) ≡ Ok (byte.More g) → rest_call h s at ≡ rest_call g s (at + 1)
  header_goes_on g l e =
      let c = up_to_reply (Header g) (drop (suc at) s) in
      let n : at + suc c.taken ≡ suc at + c.taken = omega arith in
      by_byte (Ok (byte.More g)) l e ∙ rw (add-one at) (λ i. record { tells = c.tells; taken = n i; walk = c.walk })

  pub header_complete : (t n : ℕ) → at < length s → byte_of h (get_or s at 0) ≡ Ok (byte.Complete t n) → rest_call h s at ≡ head_call t n (at + 1)
  header_complete t n l e = by_byte (Ok (byte.Complete t n)) l e ∙ complete t n at _

  pub header_unreadable : (r : Stop) → at < length s → byte_of h (get_or s at 0) ≡ Err r → rest_call h s at ≡ stopped_call r (at + 1)
  header_unreadable r l e = by_byte (Err r) l e

  pub header_used_up : length s ≤ at → rest_call h s at ≡ record { tells = []; taken = at; walk = Header h }
  unfolding up_to_reply
  header_used_up l = let n : at + 0 ≡ at = omega arith in rw (drop_of_length-le s l) (λ i. record { tells = []; taken = n i; walk = Header h })

-- a header from the start of a chunk
pub from_the_start : (h : Part) (s : List ℕ) → up_to_reply (Header h) s ≡ rest_call h s 0
from_the_start h s =
    let c = up_to_reply (Header h) s in
    let n : c.taken ≡ 0 + c.taken = omega arith in
    λ i. record { tells = c.tells; taken = n i; walk = c.walk }

-- a chunk where an object may start: none of it, or the first byte of a header
pub no_byte : (s : List ℕ) → length s < 1 → take_of Boundary s ≡ record { tells = []; taken = 0; walk = Boundary }
unfolding take_of up_to_reply
no_byte [] h = refl
no_byte (b ∷ s) h = absurd (omega arith)

pub header_starts : (s : List ℕ) → 1 ≤ length s → take_of Boundary s ≡ rest_call (first_of (get_or s 0 0)) s 1
unfolding take_of up_to_reply step
header_starts [] h = absurd (omega arith)
header_starts (b ∷ s) h =
    let c = up_to_reply (Header (first_of b)) s in
    let n : suc c.taken ≡ 1 + c.taken = omega arith in
    λ i. record { tells = c.tells; taken = n i; walk = c.walk }

-- a header that is complete: with a value of no bytes, or of some
pub head_empty : (t n k : ℕ) → n ≡ 0 → head_call t n k ≡ record { tells = head t 0 ∷ end ∷ []; taken = k; walk = Boundary }
head_empty t zero k e = refl
head_empty t (suc n) k e = absurd (omega arith)

pub head_some : (t n k : ℕ) → (n ≡ 0 → ⊥) → head_call t n k ≡ record { tells = head t n ∷ []; taken = k; walk = Value (n - 1) }
head_some t zero k e = absurd (e refl)
head_some t (suc n) k e = let m : suc n - 1 ≡ n = omega arith in rw m

-- the bytes of a value, one after the other, are passed over in one step: all that are missing, or fewer (rule 18.8)
abbrev one_more : Call → Call
one_more c = record { tells = c.tells; taken = suc c.taken; walk = c.walk }

value_all : (n : ℕ) (s : List ℕ) → n < length s → up_to_reply (Value n) s ≡ record { tells = end ∷ []; taken = suc n; walk = Boundary }
unfolding up_to_reply step
value_all n [] h = absurd (omega arith)
value_all zero (b ∷ s) h = refl
value_all (suc n) (b ∷ s) h = ap one_more (value_all n s (omega arith))

value_part : (n : ℕ) (s : List ℕ) → length s ≤ n
    → up_to_reply (Value n) s ≡ record { tells = []; taken = length s; walk = Value (n - length s) }
unfolding up_to_reply step
value_part n [] h = let e : n - 0 ≡ n = omega arith in rw e
value_part zero (b ∷ s) h = absurd (omega arith)
value_part (suc n) (b ∷ s) h =
    let e : suc n - suc (length s) ≡ n - length s = omega arith in
    rw e (ap one_more (value_part n s (omega arith)))

-- in a chunk of m bytes, where the number w is n
module _ (n m w : ℕ) (e : w ≡ n) where
  pub value_needs_more : m ≤ w → value_call n m ≡ record { tells = []; taken = m; walk = Value (w - m) }
  unfolding value_call
  value_needs_more h = rw (← e, le-leb m w h)

  pub value_ends : w < m → value_call n m ≡ record { tells = end ∷ []; taken = w + 1; walk = Boundary }
  unfolding value_call
  value_ends h = rw (← e, lt-leb m w h)

pub value_in_one_step : (n : ℕ) (s : List ℕ) → value_call n (length s) ≡ take_of (Value n) s
unfolding value_call take_of
value_in_one_step n s =
    elim (dec_le (length s) n) [
      | yes h ↦ rw (le-leb (length s) n h) (sym (value_part n s h))
      | no h ↦ rw (lt-leb (length s) n (omega arith), add-one) (sym (value_all n s (omega arith)))
    ]
