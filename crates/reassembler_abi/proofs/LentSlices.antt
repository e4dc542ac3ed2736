-- Laws of what the exported functions leave in the lent slices.
use Prim.Native.Nat.{ℕ, ◌+◌, ◌-◌, ◌≤◌}
use mathlib.Core.Path.{◌≡◌, refl, sym, ap, ◌∙◌, subst}
use mathlib.Core.Bool.{Bool, true, false, cond}
use mathlib.Core.List.{List, [], ◌∷◌, ◌++◌, append-nil}
use borrow.Author.Tests.{le-ltb, ltb-false}
use native.Mathlib.Omega.{arith}
use lib.Dec.{ltb}
use lib.ListN.{length, take, drop, length-drop, drop_of_length-le}
use lib.Seq.{take-length}
use Rattle.std.specs.Prelude.{Option, Some, None}
use Rattle.basis.specs.Reply.{Reply, ok, refused, status}
use Rattle.basis.specs.Over.{over, over_at}
use Rattle.basis.proofs.Over.{rest_is, length_over_at, next_over, length_over}
use Rattle.class.specs.declared.Reading.TheVariants.{Crate}
use Rattle.command.specs.Command.{parse, data_in}
use Rattle.command.specs.Owned.{extend_of}
use Rattle.command.specs.declared.CommandView.{CommandView}
use Rattle.reassembler.specs.Join.{continues, held_len, length_of, taken_in, view_in, parsed_in, join_of, as_reply, JoinIs}
use Rattle.reassembler.specs.declared.Reassembler.{Reassembler}
use Rattle.reassembler.specs.declared.OpenChain.{OpenChain}
use Rattle.reassembler.specs.declared.Joined.{Joined}
use Rattle.abi.specs.Answers.{too_short, out_after, room_after, usable_len, NumbersWritten}
use Rattle.abi.proofs.AnswerLaws.{row_status_0, row_all, after_short}
use Rattle.reassembler_abi.specs.Numbers.{open_chain_numbers, state_numbers, join_reply, state_met, joined_by, PieceJoined}

-- a slice that is too short for the numbers stays, and so does the room
written_short : (x : Reply (List ℕ)) (out : List ℕ) → out ≡ out_after (too_short x) out
written_short x out = after_short (λ y. out_after y out) out x (λ k. refl)

room_short : (x : Reply (List ℕ)) (after room : List ℕ) → room ≡ room_after (too_short x) after room
room_short x after room = after_short (λ y. room_after y after room) room x (λ k. refl)

no_length : (ys : List ℕ) → length ys ≡ 0 → ys ≡ []
no_length [] e = refl
no_length (y ∷ ys) e = absurd (omega arith)

-- 16 is a smaller number than 17 and 18, and a greater one than those of the parser (rule 1.22)
module _ (r : Reassembler) (room : List ℕ) where
  short_taken : (v : CommandView) (d : List ℕ) (b w : Bool) (n : ℕ)
      → let o = taken_in r room v d (cond b (cond w (refused 18) (ok n)) (refused 17)) in too_short (join_reply o.reply o.state) ≡ refused 16
  short_taken v d true true n = refl
  short_taken v d true false n = refl
  short_taken v d false w n = refl

  short_view : (v : CommandView) (d : List ℕ) → let o = view_in r room v d in too_short (join_reply o.reply o.state) ≡ refused 16
  unfolding length_of extend_of
  short_view v d =
      let n = held_len r + length d in short_taken v d (continues r v) (ltb (length room) n) n

  short_parsed : (s : List ℕ) (y : Reply CommandView)
      → let o = parsed_in r room s y in status (too_short y) ≡ status (too_short (join_reply o.reply o.state))
  short_parsed s (ok v) = sym (ap status (short_view v (data_in s (ok v))))
  short_parsed s (refused k) = refl

  short_joined : (s : List ℕ) → status (too_short (parse Crate s)) ≡ status (too_short (joined_by (ok r) room s))
  unfolding join_of
  short_joined s = short_parsed s (parse Crate s)

  -- a refusal leaves the room
  room_taken : (v : CommandView) (d : List ℕ) (z : Reply ℕ)
      → let o = taken_in r room v d z in o.room ≡ room_after (join_reply o.reply o.state) o.room room
  room_taken v d (ok n) = refl
  room_taken v d (refused k) = refl

  room_parsed : (s : List ℕ) (y : Reply CommandView)
      → let o = parsed_in r room s y in o.room ≡ room_after (join_reply o.reply o.state) o.room room
  room_parsed s (ok v) = let d = data_in s (ok v) in room_taken v d (length_of r v (length d) (length room))
  room_parsed s (refused k) = refl

  room_joined : (s : List ℕ) → let o = join_of r room s in o.room ≡ room_after (join_reply o.reply o.state) o.room room
  unfolding join_of
  room_joined s = room_parsed s (parse Crate s)

-- a room of no bytes has none after a piece
module _ (r : Reassembler) where
  none_taken : (v : CommandView) (d : List ℕ) (b w : Bool) → ltb 0 (held_len r + length d) ≡ w
      → (taken_in r [] v d (cond b (cond w (refused 18) (ok (held_len r + length d))) (refused 17))).room ≡ []
  none_taken v d true true e = refl
  none_taken v d true false e =
      no_length (over_at (held_len r) d []) (length_over_at (held_len r) d [] (ltb-false 0 (held_len r + length d) e))
  none_taken v d false w e = refl

  none_view : (v : CommandView) (d : List ℕ) → (view_in r [] v d).room ≡ []
  unfolding length_of extend_of
  none_view v d = none_taken v d (continues r v) (ltb 0 (held_len r + length d)) refl

  none_parsed : (s : List ℕ) (y : Reply CommandView) → (parsed_in r [] s y).room ≡ []
  none_parsed s (ok v) = none_view v (data_in s (ok v))
  none_parsed s (refused k) = refl

  room_none : (s : List ℕ) → (join_of r [] s).room ≡ []
  unfolding join_of
  room_none s = none_parsed s (parse Crate s)

-- a piece of at least 4 bytes in the state x
module _ (x : Reply Reassembler) (s room out : List ℕ) where
  module _ (h : 4 ≤ length s) where
    -- joined in the part of the room that may be written: all of it if the numbers fit, else nothing
    module _ (r : Reassembler) (f : x ≡ ok r) (n : ℕ) (ys : List ℕ) (q : ℕ) (out' : List ℕ)
        (u : n ≡ usable_len (length room) (length out) 14) where
      all_used : ltb (length out) 14 ≡ false → ys ≡ (join_of r (take n room) s).room → NumbersWritten 14 (joined_by (ok r) (take n room) s) out q out'
          → PieceJoined (state_met s x) s room out q (ys ++ drop n room) out'
      all_used m g a =
          let e = le-ltb (length s) 4 h in
          let k : n ≡ length room = rw m at u in
          let all : take n room ≡ room = rw k (take-length room) in
          let none : drop n room ≡ [] = drop_of_length-le room {i = n} (omega arith) in
          record {
            says = rw (e, f) (rw all at a);
            bytes = rw (e, f, m, none, append-nil) (rw all at g ∙ room_joined r room s);
          }

      none_used : ltb (length out) 14 ≡ true → ys ≡ (join_of r (take n room) s).room → NumbersWritten 14 (joined_by (ok r) (take n room) s) out q out'
          → PieceJoined (state_met s x) s room out q (ys ++ drop n room) out'
      none_used m g a =
          let e = le-ltb (length s) 4 h in
          let k : n ≡ 0 = rw m at u in
          let empty : ys ≡ [] = rw k at g ∙ room_none r s in
          let y = joined_by (ok r) room s in
          let z = joined_by (ok r) (take n room) s in
          let as_reply : q ≡ status (too_short z) = rw m at a.reply in
          let row : out' ≡ out_after (too_short z) out = rw m at a.row in
          record {
            says =
                rw (e, f)
                (record {
                  reply = rw m (as_reply ∙ sym (short_joined r (take n room) s) ∙ short_joined r room s);
                  row = rw m (row ∙ sym (written_short z out) ∙ written_short y out);
                });
            bytes = rw (e, f, m, empty, k) (room_short y (join_of r room s).room room);
          }

      by_numbers : (b : Bool) → ltb (length out) 14 ≡ b → ys ≡ (join_of r (take n room) s).room
          → NumbersWritten 14 (joined_by (ok r) (take n room) s) out q out' → PieceJoined (state_met s x) s room out q (ys ++ drop n room) out'
      by_numbers true m g a = none_used m g a
      by_numbers false m g a = all_used m g a

      pub joined : (j : Joined) → JoinIs r s (take n room) j ys → NumbersWritten 14 (join_reply (as_reply j.answer) j.state) out q out'
          → PieceJoined (state_met s x) s room out q (ys ++ drop n room) out'
      joined j g a =
          let o = join_of r (take n room) s in
          by_numbers (ltb (length out) 14) refl g.buffer
          (subst (λ y. NumbersWritten 14 (join_reply o.reply y) out q out') g.says.state
          (subst (λ y. NumbersWritten 14 (join_reply y j.state) out q out') g.says.reply a))

-- a state has six numbers
six_numbers : (h : Option OpenChain) → length (state_numbers (record { «open» = h })) ≡ 6
unfolding open_chain_numbers
six_numbers None = refl
six_numbers (Some h) = refl

-- eight numbers written, and six in the part after them
pub row_written : (vs : List ℕ) (r : Reassembler) (out l ws ys : List ℕ) (a b : ℕ) → length vs ≡ 8 → 14 ≤ length out
    → NumbersWritten (length vs) (ok vs) out a l → ws ≡ state_numbers r
    → NumbersWritten (length ws) (ok ws) (take (length l - 8) (drop 8 l)) b ys
    → NumbersWritten 14 (ok (vs ++ state_numbers r)) out b (take 8 l ++ (ys ++ drop (length l - 8) (drop 8 l)))
row_written vs r out l ws ys a b n h t e u =
    let k : length ws ≡ 6 = ap length e ∙ six_numbers r.«open» in
    let first : l ≡ over vs out = row_all vs out a l t (omega arith) in
    let long : length l ≡ length out = rw first (length_over vs out (omega arith)) in
    let room : length ws ≤ length (take (length l - 8) (drop 8 l)) = rw rest_is (omega (arith, length-drop 8 l)) in
    let f = le-ltb (length out) 14 h in
    record {
      reply = rw f (row_status_0 ws (take (length l - 8) (drop 8 l)) b ys u room);
      row =
          rw f
          (next_over 8 out l vs ws ys first (sym n) (omega arith) (row_all ws (take (length l - 8) (drop 8 l)) b ys u room)
          ∙ ap (λ z. over (vs ++ z) out) e);
    }
