-- The walk in the crate reading as it was before request 3, which gave the standard reading its padding (rule 16.2).
use Rattle.std.specs.Prelude.{ℕ, zero, suc, ◌+◌, List, [], length, drop}
use Rattle.basis.specs.Reply.{Reply, ok, refused}
use Rattle.tlv.specs.Object.{Object, object_of, item_at}
use Rattle.tlv.specs.Walk.{Walk, with_item}
use Rattle.tlv.specs.declared.Reading.TheVariants.{Crate}

-- a walk that stops at once at place a with number k
abbrev pub stopped : ℕ → ℕ → Walk
stopped a k = record { items = []; stop = record { number = k; place = a } }

-- the object read at place a and the walk after it, or the stop there
abbrev pub walk_on : ℕ → (Object → Walk) → Reply Object → Walk
walk_on a rest (ok o) = with_item (item_at a o) (rest o)
walk_on a rest (refused k) = stopped a k

-- the walk of bytes s that start at place a of the record, of at most n objects, and of all objects
unfoldable pub walk_in : ℕ → ℕ → List ℕ → Walk
walk_in zero a s = stopped a 11
walk_in (suc n) a s = walk_on a (λ o. walk_in n (a + (o.at + o.len)) (drop (o.at + o.len) s)) (object_of Crate s)

unfoldable pub crate_walk : ℕ → List ℕ → Walk
crate_walk a s = walk_in (length s) a s
