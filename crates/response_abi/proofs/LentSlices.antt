-- What the exported functions leave in the slices that a host lends.
use Prim.Native.Nat.{ℕ, ◌≤◌, ◌<◌}
use mathlib.Core.Path.{◌≡◌, refl, subst}
use mathlib.Core.Bool.{Bool, true, false, cond}
use mathlib.Core.List.{List, [], ◌∷◌}
use borrow.Author.Tests.{lt-ltb, le-ltb}
use lib.Dec.{ltb}
use lib.ListN.{length}
use Rattle.basis.specs.Reply.{Reply, ok, refused, then}
use Rattle.std.specs.Prelude.{Result}
use Rattle.basis.specs.Refusal.{as_reply}
use Rattle.basis.specs.declared.refusal.Refusal.{Refusal}
use Rattle.abi.specs.Answers.{too_short, NumbersWritten, BytesCopied}
use Rattle.abi.proofs.AnswerLaws.{after_short}
use Rattle.response.specs.Response.{data_of, split_of, held_of, append_of, room_after, AppendIs}
use Rattle.response.specs.declared.Response.{Response}
use Rattle.response_abi.specs.Numbers.{response_reply, Appended}

-- 16 is a smaller number than 22 and 23: it is given whatever else is refused (rule 1.22)
short_held : (r : Response) (w : Bool) → too_short (response_reply (cond w (refused 23) (ok r))) ≡ refused 16
short_held r true = refl
short_held r false = refl

short_split : (held m : ℕ) (r : Response) (b : Bool)
    → too_short (response_reply (then (cond b (refused 22) (ok r)) (held_of held m))) ≡ refused 16
unfolding held_of
short_split held m r true = refl
short_split held m r false = short_held _ (ltb m _)

module _ (s : List ℕ) (held : ℕ) (room out : List ℕ) where
  short_append : too_short (response_reply (append_of s held (length room))) ≡ refused 16
  unfolding append_of split_of
  short_append = short_split held (length room) _ (ltb (length s) 2)

  -- the slice for the numbers is too short; it is long enough
  pub too_short_lem : length out < 3 → Appended s held room out 16 room out
  too_short_lem h =
      let e = lt-ltb (length out) 3 h in
      record {
        says = record { reply = rw (e, short_append); row = rw (e, short_append) };
        bytes = rw e (after_short (λ y. room_after y held (data_of s) room) room (append_of s held (length room)) (λ k. refl));
      }

  pub appended : (x : Result Response Refusal) (room' : List ℕ) (r : ℕ) (out' : List ℕ) → 3 ≤ length out → AppendIs s held room x room'
      → NumbersWritten 3 (response_reply (as_reply x)) out r out' → Appended s held room out r room' out'
  appended x room' r out' h a w =
      record {
        says = subst (λ y. NumbersWritten 3 (response_reply y) out r out') a.reply w;
        bytes = rw (le-ltb (length out) 3 h) a.buffer;
      }

-- the row of a copy: how many bytes were copied
abbrev pub one : ℕ → Reply (List ℕ)
one n = ok (n ∷ [])

-- a name d: the slice for its length is too short; it is long enough
module _ (d to out : List ℕ) where
  pub no_row : length out < 1 → BytesCopied d to out 16 to out
  no_row h = let e = lt-ltb (length out) 1 h in record { reply = rw e; bytes = rw e; row = rw e }
