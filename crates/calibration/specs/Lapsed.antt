-- Whether a calibration has lapsed on a date (rule 19.6).
use Rattle.std.specs.Prelude.{◌≡◌, Bool, Result, cond, List, ℕ}
use Rattle.basis.specs.Reply.{Reply, ok, refused, then}
use Rattle.basis.specs.Refusal.{as_reply}
use Rattle.basis.specs.declared.refusal.Refusal.{Refusal}
use Rattle.calibration.specs.Date.{is_real, is_earlier}
use Rattle.calibration.specs.Profile.{fields_of}
use Rattle.calibration.specs.declared.date.Date.{Date}

-- whether a record has lapsed on a date: its refusals, then 27 if there is no such date (rule 19.6)
unfoldable pub lapsed_of : List ℕ → Date → Reply Bool
lapsed_of s on = then (fields_of s) (λ f. cond (is_real on) (ok (is_earlier f.due on)) (refused 27))

-- the promise of `has_lapsed`
abbrev pub HasLapsedIs : List ℕ → Date → Result Bool Refusal → Type 0
HasLapsedIs s on x = as_reply x ≡ lapsed_of s on
