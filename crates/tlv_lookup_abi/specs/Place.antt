-- The numbers of a lookup that a host program gets (rules 6.10, 15.3 and 15.4).
use Rattle.std.specs.Prelude.{ℕ, List}
use Rattle.tlv.specs.Lookup.{lookup}
use Rattle.abi.specs.Answers.{Row}
use Rattle.abi.specs.Lookups.{lookup_row}
use Rattle.abi.specs.Readings.{tlv_reading_by_number}

-- what `gorvisclen_get_data_object` tells, in the reading with number n
unfoldable pub get_data_object_row : ℕ → List ℕ → List ℕ → Row
get_data_object_row n s path = lookup_row (lookup (tlv_reading_by_number n) s path)
