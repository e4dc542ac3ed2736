-- A copy in a lent room and its extension: when they are refused, and what they leave in the room.
use Prim.Native.Nat.{ℕ, ◌+◌, ◌-◌, ◌≤◌, ◌<◌}
use mathlib.Core.Path.{◌≡◌, ◌∙◌}
use mathlib.Core.Bool.{true}
use mathlib.Core.List.{List}
use borrow.Author.Tests.{lt-ltb, le-ltb}
use lib.ListN.{length, take, drop}
use Rattle.std.specs.Prelude.{Ok, Err}
use Rattle.basis.specs.Reply.{ok, refused}
use Rattle.basis.specs.Refusal.{refusal_number}
use Rattle.basis.specs.declared.refusal.Refusal.{Refusal}
use Rattle.basis.specs.declared.refusal.Refusal.TheVariants.{CopyTooLong}
use Rattle.basis.specs.Over.{over, over_at}
use Rattle.class.specs.declared.Reading.{Reading}
use Rattle.command.specs.Command.{parse}
use Rattle.command.specs.Owned.{taken_of, refused_extension, owned_of, OwnedIs, extend_of, ExtendFromCommandViewIs}
use Rattle.command.specs.declared.CommandView.{CommandView}
use Rattle.command.specs.declared.owned.Command.{Command}
use Rattle.command.specs.declared.owned.Extended.{Extended}
use Rattle.command.proofs.Parsing.{part_is_data}

-- a copy: the command is refused, its data do not fit, or they stand at the beginning of the room
module _ (r : Reading) (s room : List ℕ) where
  pub not_read : (k : Refusal) → refused (refusal_number k) ≡ parse r s → OwnedIs r s room (Err k) room
  not_read k e = record { reply = rw (← e); buffer = rw (← e) }

  pub too_long : (v : CommandView) → parse r s ≡ ok v → length room < v.len → OwnedIs r s room (Err CopyTooLong) room
  unfolding owned_of
  too_long v e h = record { reply = rw (e, lt-ltb (length room) v.len h); buffer = rw (e, lt-ltb (length room) v.len h) }

  pub copy : (v : CommandView) (c : Command) (after : List ℕ) → parse r s ≡ ok v → v.len ≤ length room → c ≡ taken_of v v.len v.extended
      → after ≡ over (take (v.at + v.len - v.at) (drop v.at s)) room → OwnedIs r s room (Ok c) after
  unfolding owned_of
  copy v c after e h f g =
      record {
        reply = rw (e, le-ltb (length room) v.len h, f);
        buffer = g ∙ rw (part_is_data r s v e, e, le-ltb (length room) v.len h);
      }

-- held and new data that fit a room, and that exceed it
pub extend_ok : (held n m : ℕ) → held + n ≤ m → extend_of held n m ≡ ok (held + n)
unfolding extend_of
extend_ok held n m h = rw (le-ltb m (held + n) h)

pub extend_refused : (held n m : ℕ) → m < held + n → extend_of held n m ≡ refused 18
unfolding extend_of
extend_refused held n m h = rw (lt-ltb m (held + n) h)

-- an extension: the new data do not fit, or stand after those held
module _ (c : Command) (v : CommandView) (d room : List ℕ) where
  pub no_room : (x : Extended) → length room < c.len + length d → x ≡ refused_extension v c.len → ExtendFromCommandViewIs c v d room x room
  unfolding extend_of
  no_room x h e =
      let f = lt-ltb (length room) (c.len + length d) h in record { reply = rw (e, f); command = rw (e, f); buffer = rw f }

  pub extended : (y : Command) (after : List ℕ) → c.len + length d ≤ length room → y ≡ taken_of v (c.len + length d) true
      → after ≡ over_at c.len d room → ExtendFromCommandViewIs c v d room (record { answer = Ok tt; command = y }) after
  unfolding extend_of
  extended y after h e g =
      let f = le-ltb (length room) (c.len + length d) h in record { reply = rw f; command = rw f e; buffer = rw f g }
