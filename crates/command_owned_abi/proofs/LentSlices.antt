-- What the exported functions leave in the lent slices, case by case.
use Prim.Native.Nat.{ℕ, ◌≤◌, ◌<◌}
use mathlib.Core.Path.{◌≡◌, refl, sym, ap, ◌∙◌}
use mathlib.Core.List.{List}
use lib.ListN.{length}
use borrow.Author.Tests.{lt-ltb, le-ltb}
use Rattle.std.specs.Prelude.{Result, Ok, Err}
use Rattle.basis.specs.Reply.{Reply, ok, refused, then, status}
use Rattle.basis.specs.Refusal.{refusal_number, as_reply}
use Rattle.basis.specs.declared.refusal.Refusal.{Refusal}
use Rattle.class.specs.declared.Reading.{Reading}
use Rattle.command.specs.Command.{parse, data_in}
use Rattle.command.specs.Owned.{owned_of, copied_room, OwnedIs, extend_of, done, ExtendFromCommandViewIs}
use Rattle.command.specs.declared.CommandView.{CommandView}
use Rattle.command.specs.declared.owned.Command.{Command}
use Rattle.command.specs.declared.owned.Extended.{Extended}
use Rattle.abi.specs.Answers.{too_short, out_after, NumbersWritten}
use Rattle.abi.specs.Commands.{command_numbers, command_of_length}
use Rattle.abi.proofs.AnswerLaws.{after_short}
use Rattle.command_owned_abi.specs.Copies.{OwnedCopied, Extends}

-- a reply without its number has the same status
status_done : (x : Reply ℕ) → status (done x) ≡ status x
status_done (ok n) = refl
status_done (refused k) = refl

-- an owned copy: the slice is too short for its numbers; it is refused; its numbers are written
module _ (r : Reading) (s room out : List ℕ) where
  abbrev x : Reply Command
  x = then (parse r s) (owned_of (length room))

  pub owned_short : length out < 7 → (k : ℕ) → k ≡ status (too_short x) → OwnedCopied r s room out k room out
  owned_short h k e =
      let n = lt-ltb (length out) 7 h in
      record {
        reply = rw n e;
        bytes = rw n (after_short (λ y. copied_room y (data_in s (parse r s)) room) room x (λ i. refl));
        row = rw n (after_short (λ y. out_after (then y (λ c. ok (command_numbers c))) out) out x (λ i. refl));
      }

  pub owned_refused : 7 ≤ length out → (o : Result Command Refusal) (k : Refusal) (after : List ℕ) → OwnedIs r s room o after → o ≡ Err k
      → OwnedCopied r s room out (refusal_number k) after out
  owned_refused h o k after g e =
      let n = le-ltb (length out) 7 h in
      let known : x ≡ refused (refusal_number k) = sym g.reply ∙ ap as_reply e in
      record { reply = rw (n, known); bytes = rw n g.buffer; row = rw (n, known) }

  pub owned_row : 7 ≤ length out → (o : Result Command Refusal) (c : Command) (after : List ℕ) → OwnedIs r s room o after → o ≡ Ok c
      → (k : ℕ) (out' : List ℕ) → NumbersWritten 7 (ok (command_numbers c)) out k out' → OwnedCopied r s room out k after out'
  owned_row h o c after g e k out' a =
      let n = le-ltb (length out) 7 h in
      let made : x ≡ ok c = sym g.reply ∙ ap as_reply e in
      record { reply = rw (n, made) (rw n at a.reply); bytes = rw n g.buffer; row = rw (n, made) (rw n at a.row) }

-- an extension, whose numbers are written
pub extends : (n : ℕ) (v : CommandView) (d room out : List ℕ) (x : Extended) (after : List ℕ) → ExtendFromCommandViewIs (command_of_length n) v d room x after
    → (k : ℕ) → k ≡ status (as_reply x.answer) → (y : ℕ) (out' : List ℕ) → NumbersWritten 7 (ok (command_numbers x.command)) out y out'
    → 7 ≤ length out → Extends n v d room out k after out'
extends n v d room out x after h k e y out' a l =
    record {
      reply = e ∙ ap status h.reply ∙ status_done (extend_of n (length d) (length room));
      bytes = h.buffer;
      row = rw (← h.command) (rw (le-ltb (length out) 7 l) at a.row);
    }
