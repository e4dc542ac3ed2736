use Prim.Native.Nat.{ℕ, ◌+◌, ◌≤◌}
use mathlib.Core.Path.{◌≡◌}
use mathlib.Core.List.{List, map}
use lib.ListN.{length, drop}
use Rattle.tlv.specs.Walk.{Walk, walk}
use Rattle.tlv.specs.declared.Reading.TheVariants.{Crate}
use Rattle.tlv_index.specs.Index.{Entry, entry_of}
use Rattle.tlv_index.specs.Steps.{entries_put}
use Rattle.tlv_index.proofs.build.put_entries.Given as goal

-- the walk from a place of the record on, and its entries
abbrev pub from : List ℕ → ℕ → Walk
from s a = walk Crate a (drop a s)

abbrev pub entries : List ℕ → ℕ → List Entry
entries s a = map entry_of (from s a).items

-- i entries were written, and the entries from place `at` on are left to be written
abbrev pub invariant-loop-i : goal.invariant-loop-i
invariant-loop-i l =
    record {
      within : l.at ≤ length l.record;
      left : l.i + length (from l.record l.at).items ≡ l.n;
      put : entries_put 2 l.n l.i (entries l.record l.at) l.file ≡ entries_put 2 l.n 0 (entries l.record 0) l.initial.file;
    }
