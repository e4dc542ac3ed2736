-- What is written is read back: writing, then reading, return tag and value (rule 7.4).
use Rattle.std.specs.Prelude.{ℕ, ◌-◌, ◌≡◌, List, ◌++◌, length, drop}
use Rattle.basis.specs.Reply.{ok}
use Rattle.basis.specs.Number.{be}
use Rattle.tlv.specs.Object.{Item, next_of, size_of}
use Rattle.tlv.specs.Lookup.{part}
use Rattle.tlv.specs.declared.Reading.{Reading}
use Rattle.tlv_write.specs.Written.{object_bytes}

-- an object as the writer writes it, with the number of the tag as three bytes; and that object as it is read
abbrev pub written : ℕ → List ℕ → List ℕ
written t v = object_bytes (be 3 t) v

abbrev pub object_for : ℕ → List ℕ → Item
object_for t v = record { place = 0; tag = t; at = length (written t v) - length v; len = length v }

-- with any bytes u after it: tag, value and remainder are read (rule 7.4)
pub record ReadsBack (r : Reading) (t : ℕ) (v u : List ℕ) : Type 0 where
  pub object : next_of r (written t v ++ u) ≡ ok (object_for t v)
  pub value : part (written t v ++ u) (record { at = (object_for t v).at; len = (object_for t v).len }) ≡ v
  pub rest : drop (size_of (object_for t v)) (written t v ++ u) ≡ u
