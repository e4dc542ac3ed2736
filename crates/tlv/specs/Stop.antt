-- Why no object is read, as numbers (rules 1.11 and 1.12).
use Rattle.std.specs.Prelude.{ℕ, ◌≡◌}
use Rattle.tlv.specs.declared.stop.Stop.{Stop}
use Rattle.tlv.specs.declared.stop.Stop.TheVariants.{End, Unreadable}

-- 11 at the end, 12 for what cannot be read
abbrev pub stop_number : Stop → ℕ
stop_number End = 11
stop_number Unreadable = 12

-- the promise of `number`
abbrev pub StopNumberIs : Stop → ℕ → Type 0
StopNumberIs s n = n ≡ stop_number s
