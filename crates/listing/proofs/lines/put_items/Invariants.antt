use Prim.Native.Nat.{◌+◌, ◌-◌, ◌≤◌}
use lib.ListN.{length, drop}
use Rattle.listing.specs.Input.{items, items_size}
use Rattle.listing.specs.Text.{items_text}
use Rattle.listing.proofs.Writing.{ToWrite}
use Rattle.listing.proofs.lines.put_items.Given as goal

-- the items from the place on are still to be written, and lie in the input
abbrev pub invariant-loop-k : goal.invariant-loop-k
invariant-loop-k l =
    ToWrite (items_text l.section 1 (items l.count (drop l.from l.input))) l.start l.initial.out
    (items_text l.section l.k (items (l.count + 1 - l.k) (drop l.at l.input))) l.place l.out
    × (l.at + items_size (l.count + 1 - l.k) (drop l.at l.input) ≤ length l.input)
