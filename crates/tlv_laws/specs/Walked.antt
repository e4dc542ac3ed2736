-- What a walk of a record reads (rules 6.11, 1.11 and 1.12).
use Rattle.std.specs.Prelude.{ℕ, ◌+◌, ◌≡◌, List, [], ◌∷◌, drop}
use Rattle.basis.specs.Reply.{ok, refused}
use Rattle.tlv.specs.Object.{Item, Stop, next_of, moved}
use Rattle.tlv.specs.declared.Reading.{Reading}

-- an object of a record s is read from place a on
abbrev pub ReadAt : Reading → List ℕ → ℕ → Item → Type 0
ReadAt r s a i = moved a (next_of r (drop a s)) ≡ ok i

-- objects read one after another in a record s: the first from place a on, each next one from where the value before it
-- ends; and the stop after the last, where the next object is refused
abbrev pub ReadOn : Reading → List ℕ → ℕ → List Item → Stop → Type 0
ReadOn r s a [] e = moved a (next_of r (drop a s)) ≡ refused e
ReadOn r s a (i ∷ rest) e = ReadAt r s a i × ReadOn r s (i.at + i.len) rest e

-- the same up to one more object, in place of the stop
abbrev pub ReadTo : Reading → List ℕ → ℕ → List Item → Item → Type 0
ReadTo r s a [] i = ReadAt r s a i
ReadTo r s a (j ∷ rest) i = ReadAt r s a j × ReadTo r s (j.at + j.len) rest i
