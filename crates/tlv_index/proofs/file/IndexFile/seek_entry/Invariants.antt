use Prim.Native.Nat.{◌-◌}
use mathlib.Core.Path.{◌≡◌}
use Rattle.tlv_index.specs.File.{entries_from, stop_in}
use Rattle.tlv_index.specs.Lookup.{first_entry}
use Rattle.tlv_index.proofs.file.IndexFile.seek_entry.Given as goal

-- the entry used is the first with the tag from number i on
abbrev pub invariant-loop-i : goal.invariant-loop-i
invariant-loop-i l =
    first_entry l.tag (entries_from 2 l.self.n l.self.bytes.now 0 l.self.n) (stop_in 2 l.self.n l.self.bytes.now)
    ≡ first_entry l.tag (entries_from 2 l.self.n l.self.bytes.now l.i (l.self.n - l.i)) (stop_in 2 l.self.n l.self.bytes.now)
