use Prim.Native.Nat.{◌≤◌}
use mathlib.Core.Path.{◌≡◌}
use lib.ListN.{length, drop}
use Rattle.tlv.specs.Lookup.{between, follow, lookup}
use Rattle.tlv.proofs.lookup.get_data_object.Given as goal

-- the invariant: what the path leads to in the record is what the rest of the path leads to in the part from `at` to
-- `end`, to which the tags before it led
abbrev pub invariant-loop-matched : goal.invariant-loop-matched
invariant-loop-matched l = (lookup l.reading l.record l.path ≡ follow l.reading l.record l.matched (between l.at l.end) (drop l.matched l.path))
    × (l.at ≤ l.end) × (l.end ≤ length l.record)
