use Prim.Native.Nat.{◌-◌, ◌≤◌}
use mathlib.Core.Path.{◌≡◌}
use Rattle.tlv.specs.Lookup.{between, part, seek}
use Rattle.tlv.proofs.lookup.seek_by.Given as goal

-- the invariant: the search from the start on is the search from `at` on
abbrev pub invariant-loop-stop : goal.invariant-loop-stop
invariant-loop-stop g l = (seek l.reading l.tag l.start (part l.record (between l.start l.end)) ≡ seek l.reading l.tag l.at (part l.record (between l.at l.end))) × (l.at ≤ l.end)

abbrev pub decreases-loop-stop : goal.decreases-loop-stop
decreases-loop-stop g l = l.end - l.at
