-- What the code did with a piece is what the promise of `join` says.
use Prim.Native.Nat.{ℕ}
use mathlib.Core.Path.{◌≡◌, refl, sym, ap, ◌∙◌}
use mathlib.Core.Bool.{true, false}
use mathlib.Core.List.{List}
use lib.ListN.{length}
use Rattle.basis.specs.Reply.{Reply, ok, refused, status}
use Rattle.std.specs.Prelude.{Ok, Err}
use Rattle.basis.specs.Refusal.{refusal_number, as_reply}
use Rattle.basis.specs.declared.refusal.Refusal.{Refusal}
use Rattle.basis.specs.declared.refusal.Refusal.TheVariants.{OtherChain}
use Rattle.basis.proofs.Reply.{refused_not_ok}
use Rattle.command.specs.Owned.{taken_of, extend_of, done, held_after, extended_room, ExtendFromCommandViewIs}
use Rattle.command.specs.declared.CommandView.{CommandView}
use Rattle.command.specs.declared.owned.Command.{Command}
use Rattle.command.specs.declared.owned.Extended.{Extended}
use Rattle.reassembler.specs.Join.{continues, held_len, extended_in, command_in, length_of, answer_of, state_of, taken_in, view_in, Says, Joins}
use Rattle.reassembler.specs.declared.Reassembler.{Reassembler}
use Rattle.reassembler.specs.declared.Joined.{Joined}

-- a piece that was parsed as v, with data d
module _ (r : Reassembler) (v : CommandView) (d room : List ℕ) where
  -- it does not continue the chain
  pub not_continued : continues r v ≡ false → Joins (view_in r room v d) (record { answer = Err OtherChain; state = r }) room
  unfolding length_of
  not_continued e = record { says = record { reply = rw e; state = rw e }; buffer = rw e }

  -- it continues the chain: by what `extend_of` says of the data held and its own
  module _ (x : Joined) (after : List ℕ) where
    by_refused : (z : Reply ℕ) (k : ℕ) → done z ≡ refused k → Says (refused k) r x → after ≡ extended_room z (held_len r) d room
        → Joins (taken_in r room v d z) x after
    by_refused (ok n) k e s a = absurd (refused_not_ok k tt (sym e))
    by_refused (refused j) k e s a = let n : j ≡ k = ap status e in record { says = rw n s; buffer = a }

    by_taken : (z : Reply ℕ) (c : Command) → done z ≡ ok tt → c ≡ taken_of v (held_after z (held_len r)) (extended_in r v)
        → Says (ok (answer_of v c)) (state_of v c.len) x → after ≡ extended_room z (held_len r) d room → Joins (taken_in r room v d z) x after
    by_taken (ok n) c e f s a = record { says = rw f at s; buffer = a }
    by_taken (refused j) c e f s a = absurd (refused_not_ok j tt e)

    -- the code extended the command before by the data of the piece
    module _ (c : continues r v ≡ true) (before : Command) (y : Extended) (b : before ≡ command_in r v (held_len r))
        (e : ExtendFromCommandViewIs before v d room y after) where
      abbrev z : Reply ℕ
      z = extend_of (held_len r) (length d) (length room)

      when_continued : Joins (taken_in r room v d z) x after → Joins (view_in r room v d) x after
      unfolding length_of
      when_continued j = rw c j

      extended_as : ExtendFromCommandViewIs (command_in r v (held_len r)) v d room y after
      extended_as = rw b at e

      pub not_extended : (k : Refusal) → y.answer ≡ Err k → x ≡ record { answer = Err k; state = r } → Joins (view_in r room v d) x after
      not_extended k g f =
          let says : Says (refused (refusal_number k)) r x = rw f (record { reply = refl; state = refl }) in
          when_continued (by_refused z (refusal_number k) (sym extended_as.reply ∙ ap as_reply g) says extended_as.buffer)

      -- the extended command, with the flag of the command before
      abbrev with_flag : Command
      with_flag =
          let t = y.command in
          record { class = t.class; instruction = t.instruction; p1 = t.p1; p2 = t.p2; len = t.len; le = t.le; extended = before.extended }

      with_flag_is : with_flag ≡ taken_of v (held_after z (held_len r)) (extended_in r v)
      with_flag_is i =
          let t = extended_as.command i in
          record { class = t.class; instruction = t.instruction; p1 = t.p1; p2 = t.p2; len = t.len; le = t.le; extended = (b i).extended }

      pub data_joined : y.answer ≡ Ok tt → Says (ok (answer_of v with_flag)) (state_of v with_flag.len) x → Joins (view_in r room v d) x after
      data_joined g s = when_continued (by_taken z with_flag (sym extended_as.reply ∙ ap as_reply g) with_flag_is s extended_as.buffer)
