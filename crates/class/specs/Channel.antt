-- The logical channel in both readings (rules 8.6 and 8.7). ISO/IEC 7816-4:2005 5.1.1, tables 2 and 3.
use Rattle.std.specs.Prelude.{ℕ, ◌+◌, ◌%◌, ◌≡◌}
use Rattle.std.proofs.Math.Option.{Option, none, some}
use Rattle.std.specs.Prelude as std
use Rattle.basis.specs.Refusal.{as_option}
use Rattle.class.specs.Range.{range_of, by_range}
use Rattle.class.specs.declared.Class.{Class}
use Rattle.class.specs.declared.Reading.{Reading}
use Rattle.class.specs.declared.Reading.TheVariants.{Crate, Standard}

-- further interindustry (rule 8.7): the standard adds 4 to bits 4 to 1, the Rust keeps three bits of that sum
unfoldable pub further_of : Reading → ℕ → ℕ
further_of Crate c = (4 + c) % 8
further_of Standard c = 4 + c % 16

-- the channel of a class: bits 2 and 1 of a first interindustry class; reserved and proprietary classes have none (rule
-- 8.6)
unfoldable pub channel_of : Reading → ℕ → Option ℕ
channel_of r c = by_range (range_of c) (some (c % 4)) (some (further_of r c)) none

-- the promise of `channel`
abbrev pub ChannelIs : Reading → Class → std.Option ℕ → Type 0
ChannelIs r c x = as_option x ≡ channel_of r c.cla
