use Prim.Native.Nat.{ℕ, ◌+◌, ◌-◌, ◌≤◌}
use mathlib.Core.Path.{◌≡◌}
use mathlib.Core.List.{List}
use lib.ListN.{length, drop}
use Rattle.tlv.specs.Walk.{Walk, walk}
use Rattle.tlv.specs.declared.Reading.TheVariants.{Crate}
use Rattle.tlv_index.proofs.build.count_objects.Given as goal

-- the walk from a place of the record on
abbrev pub from : List ℕ → ℕ → Walk
from s a = walk Crate a (drop a s)

-- so many objects were met up to place `at`, and the walk goes on there
abbrev pub invariant-loop-stop : goal.invariant-loop-stop
invariant-loop-stop l =
    record {
      within : l.at ≤ length l.record;
      few : l.objects ≤ 255;
      met : length (from l.record 0).items ≡ l.objects + length (from l.record l.at).items;
      stops : (from l.record 0).stop ≡ (from l.record l.at).stop;
    }

abbrev pub decreases-loop-stop : goal.decreases-loop-stop
decreases-loop-stop l = length l.record - l.at
