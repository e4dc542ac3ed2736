use Prim.Native.Nat.{◌+◌, ◌-◌, ◌*◌, ◌≤◌}
use mathlib.Core.Path.{◌≡◌}
use lib.ListN.{drop}
use Rattle.listing.specs.Input.{items_size}
use Rattle.listing.proofs.input.pass_items.Given as goal

-- the place after all items is the place after those that are left
abbrev pub invariant-loop : goal.invariant-loop
invariant-loop l = (l.start + items_size l.count (drop l.start l.input) ≡ l.at + items_size (l.count - l.counter) (drop l.at l.input)) × (l.at ≤ l.start + 65537 * l.counter) × (l.counter ≤ l.count)
