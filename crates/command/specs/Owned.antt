-- An owned copy of a command in a lent room, and its extension. Rules 1.2, 1.18, 1.26, 2.9 and 2.10.
use Rattle.std.specs.Prelude.{ℕ, ◌+◌, ◌≡◌, Bool, true, cond, List, Result, Err, ltb, length}
use Rattle.basis.specs.Reply.{Reply, ok, refused, then}
use Rattle.basis.specs.Over.{over, over_at}
use Rattle.basis.specs.Refusal.{as_reply}
use Rattle.basis.specs.declared.refusal.Refusal.{Refusal}
use Rattle.basis.specs.declared.refusal.Refusal.TheVariants.{RoomExceeded}
use Rattle.class.specs.declared.Reading.{Reading}
use Rattle.command.specs.Command.{parse, data_in}
use Rattle.command.specs.declared.CommandView.{CommandView}
use Rattle.command.specs.declared.owned.Command.{Command}
use Rattle.command.specs.declared.owned.Extended.{Extended}

-- the header and expected length of a view, with n data bytes and the flag x
abbrev pub taken_of : CommandView → ℕ → Bool → Command
taken_of v n x =
    record { class = v.class; instruction = v.instruction; p1 = v.p1; p2 = v.p2; len = n; le = v.le; extended = x }

-- the promise of `from`: the numbers of a view without the place of its data
abbrev pub FromIs : CommandView → Command → Type 0
FromIs v x = x ≡ taken_of v v.len v.extended

-- a copy in a room of m bytes: 2 if the data do not fit (rule 1.2)
unfoldable pub owned_of : ℕ → CommandView → Reply Command
owned_of m v = cond (ltb m v.len) (refused 2) (ok (taken_of v v.len v.extended))

-- the room after it: the data from its beginning, bytes past them as they were (rule 2.9); a refusal changes no byte
abbrev pub copied_room : Reply Command → List ℕ → List ℕ → List ℕ
copied_room (ok c) d room = over d room
copied_room (refused k) d room = room

-- the promise of `Command::try_from`: what reading refuses is refused before 2 (rule 1.23)
pub record OwnedIs (r : Reading) (s room : List ℕ) (x : Result Command Refusal) (after : List ℕ) : Type 0 where
  pub reply : as_reply x ≡ then (parse r s) (owned_of (length room))
  pub buffer : after ≡ copied_room (then (parse r s) (owned_of (length room))) (data_in s (parse r s)) room

-- how many data bytes are held after n new ones, in a room of m bytes: 18 if they exceed it together (rule 1.18)
unfoldable pub extend_of : ℕ → ℕ → ℕ → Reply ℕ
extend_of held n m = cond (ltb m (held + n)) (refused 18) (ok (held + n))

-- a reply without its number
abbrev pub done : Reply ℕ → Reply (Unit {0})
done x = then x (λ n. ok tt)

-- how many data bytes are held after an extension: a refusal leaves those held before
abbrev pub held_after : Reply ℕ → ℕ → ℕ
held_after (ok n) held = n
held_after (refused k) held = held

-- the room after an extension: the new data after those held, bytes past them as they were (rule 2.10)
abbrev pub extended_room : Reply ℕ → ℕ → List ℕ → List ℕ → List ℕ
extended_room (ok n) held d room = over_at held d room
extended_room (refused k) held d room = room

-- the promise of `extend_from_command_view`: header and expected length are those of v and the flag is true, also with
-- a refusal (rule 1.26)
pub record ExtendFromCommandViewIs (c : Command) (v : CommandView) (d room : List ℕ) (x : Extended) (after : List ℕ) : Type 0 where
  pub reply : as_reply x.answer ≡ done (extend_of c.len (length d) (length room))
  pub command : x.command ≡ taken_of v (held_after (extend_of c.len (length d) (length room)) c.len) true
  pub buffer : after ≡ extended_room (extend_of c.len (length d) (length room)) c.len d room

-- a refused extension: the held data stay (rule 1.26)
abbrev pub refused_extension : CommandView → ℕ → Extended
refused_extension v held = record { answer = Err RoomExceeded; command = taken_of v held true }
