-- One response to a collection, in numbers: it is refused with 22 or with 23, or its data are held. Rules 14.5 and
-- 14.6.
use Prim.Native.Nat.{ℕ, ◌+◌, ◌-◌, ◌≤◌, ◌<◌}
use mathlib.Core.Path.{◌≡◌}
use mathlib.Core.List.{List}
use native.Mathlib.Omega.{arith}
use lib.ListN.{length}
use Rattle.basis.specs.Reply.{ok, refused}
use Rattle.basis.specs.Over.{over_at}
use Rattle.response.specs.Response.{data_of, status_of, append_of}
use Rattle.response.proofs.Splitting.{data_length, append_22, append_23, append_ok}
use Rattle.collect.specs.Collect.{next_of, going_by, step_of, step_room}
use Rattle.collect.specs.declared.Collection.{Collection}

module _ (c : Collection) (s : List ℕ) where
  -- 22: it has under two bytes, whatever is left of the room
  pub refused_22 : (m : ℕ) → length s < 2 → step_of c s m ≡ refused 22
  unfolding step_of
  refused_22 m h = rw (append_22 s c.len m h)

  -- 23: it has a status, and its data and those held exceed the room
  pub refused_23 : (m : ℕ) → 2 ≤ length s → m < c.len + (length s - 2) → step_of c s m ≡ refused 23
  unfolding step_of
  refused_23 m h g = rw (append_23 s c.len m h g)

  -- else its data are held behind the others, whatever its status is
  append_held : (m : ℕ) → 2 ≤ length s → c.len + length (data_of s) ≤ m
      → append_of s c.len m ≡ ok (record { len = c.len + length (data_of s); status = status_of s })
  append_held m h g = let e = data_length s in rw e (append_ok s c.len m h (omega arith))

  pub held : (m : ℕ) → 2 ≤ length s → c.len + length (data_of s) ≤ m
      → step_of c s m
      ≡ ok (going_by (next_of c.sent (status_of s)) (record { len = c.len + length (data_of s); status = status_of s }))
  unfolding step_of
  held m h g = rw (append_held m h g)

  pub held_room : (room : List ℕ) → 2 ≤ length s → c.len + length (data_of s) ≤ length room
      → step_room c s room ≡ over_at c.len (data_of s) room
  unfolding step_room
  held_room room h g = rw (append_held (length room) h g)
