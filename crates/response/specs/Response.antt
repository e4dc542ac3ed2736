-- A response split into data and status (rules 13.1 and 13.2), and its data appended to a lent room (rule 13.6).
-- Refusals 22 and 23.
use Rattle.std.specs.Prelude.{ℕ, ◌+◌, ◌-◌, ◌≡◌, Result, cond, List, ltb, length, take, get_or}
use Rattle.basis.specs.Reply.{Reply, ok, refused, then}
use Rattle.basis.specs.Refusal.{as_reply}
use Rattle.basis.specs.declared.refusal.Refusal.{Refusal}
use Rattle.basis.specs.Over.{over_at}
use Rattle.response.specs.declared.status.Status.{Status}
use Rattle.response.specs.declared.Response.{Response}

-- the data of a response: all its bytes but the last two (rules 13.1 and 13.2)
unfoldable pub data_of : List ℕ → List ℕ
data_of s = take (length s - 2) s

-- its status: the last two bytes, SW1 and SW2 (rule 13.1)
unfoldable pub status_of : List ℕ → Status
status_of s = record { sw1 = get_or s (length s - 2) 0; sw2 = get_or s (length s - 1) 0 }

-- a response: 22 if it has under two bytes, else how many bytes of data it has, and its status (rules 1.28 and 13.1)
unfoldable pub split_of : List ℕ → Reply Response
split_of s = cond (ltb (length s) 2) (refused 22) (ok (record { len = length s - 2; status = status_of s }))

-- a response whose data follow those held in a room of m bytes: 23 if they exceed it together (rules 1.29 and 13.6)
unfoldable pub held_of : ℕ → ℕ → Response → Reply Response
held_of held m r = cond (ltb m (held + r.len)) (refused 23) (ok (record { len = held + r.len; status = r.status }))

-- the data of a response appended to those held in a room of m bytes: 22 is tested before 23 (rules 1.22 and 13.6)
unfoldable pub append_of : List ℕ → ℕ → ℕ → Reply Response
append_of s held m = then (split_of s) (held_of held m)

-- the room after it: the data d behind those held; a refusal changes no byte (rules 1.25 and 13.6)
abbrev pub room_after : Reply Response → ℕ → List ℕ → List ℕ → List ℕ
room_after (ok r) held d room = over_at held d room
room_after (refused k) held d room = room

-- the promises of `split` and `data`
abbrev pub SplitIs : List ℕ → Result Response Refusal → Type 0
SplitIs s x = as_reply x ≡ split_of s

abbrev pub DataIs : List ℕ → List ℕ → Type 0
DataIs s x = x ≡ data_of s

-- the contract of the private `hold`: data d with the status t
pub record Holds (t : Status) (d : List ℕ) (held : ℕ) (room : List ℕ) (x : Result Response Refusal) (after : List ℕ) : Type 0 where
  pub reply : as_reply x ≡ held_of held (length room) (record { len = length d; status = t })
  pub buffer : after ≡ room_after (held_of held (length room) (record { len = length d; status = t })) held d room

-- the promise of `append`
pub record AppendIs (s : List ℕ) (held : ℕ) (room : List ℕ) (x : Result Response Refusal) (after : List ℕ) : Type 0 where
  pub reply : as_reply x ≡ append_of s held (length room)
  pub buffer : after ≡ room_after (append_of s held (length room)) held (data_of s) room
