-- The numbers of a calibration record, as a host program gets them, and what its bytes are copied to (rule 19.12).
use Rattle.std.specs.Prelude.{ℕ, ◌≡◌, cond, List, [], ◌∷◌, ltb, length}
use Rattle.basis.specs.Reply.{Reply, ok, refused, then, status}
use Rattle.abi.specs.Answers.{flag_of, out_after}
use Rattle.calibration.specs.Profile.{Fields, fields, fields_of, profile_of}
use Rattle.calibration.specs.Lapsed.{lapsed_of}
use Rattle.calibration.specs.Shown.{Whose, card, desk, whose_of, shown_in}
use Rattle.calibration.specs.Put.{put_of, buffer_after}
use Rattle.calibration.specs.declared.date.Date.{Date}
use Rattle.calibration.specs.declared.profile.Profile.{Profile}

-- a date by its three numbers, and the fields of a record by a serial and four numbers (rule 19.2)
abbrev pub date_by : ℕ → ℕ → ℕ → Date
date_by y m d = record { year = y; month = m; day = d }

abbrev pub fields_by : List ℕ → ℕ → ℕ → ℕ → ℕ → Fields
fields_by serial y m d capacity = fields serial (date_by y m d) capacity

-- the numbers of a record: how many bytes the serial has, year, month, day, capacity (rules 19.2 and 19.12)
unfoldable pub profile_numbers : Profile → List ℕ
profile_numbers p = p.serial ∷ p.due.year ∷ p.due.month ∷ p.due.day ∷ p.capacity ∷ []

-- what `gorvisclen_read_profile` writes (rules 19.5 and 19.12)
abbrev pub read_reply : List ℕ → Reply (List ℕ)
read_reply s = then (fields_of s) (λ f. ok (profile_numbers (profile_of f)))

-- what `gorvisclen_profile_serial` copies (rules 19.2 and 19.12)
abbrev pub serial_reply : List ℕ → Reply (List ℕ)
serial_reply s = then (fields_of s) (λ f. ok f.serial)

-- what `gorvisclen_has_lapsed` writes: 1 if the record has lapsed on the date, else 0 (rules 19.6 and 19.12)
abbrev pub lapsed_reply : List ℕ → Date → Reply (List ℕ)
lapsed_reply s on = then (lapsed_of s on) (λ b. ok (flag_of b ∷ []))

-- what `gorvisclen_due_shown` copies, of the card's record c and the desk's d (rules 19.7 and 19.12)
abbrev pub shown_reply : List ℕ → List ℕ → Reply (List ℕ)
shown_reply c d = then (whose_of c d) (λ w. ok (shown_in c d (ok w)))

-- the numbers of a due date shown: 0 for the card or 1 for the desk, and its place (rules 19.8 and 19.12)
abbrev pub whose_numbers : Whose → List ℕ
whose_numbers (card at) = 0 ∷ at ∷ []
whose_numbers (desk at) = 1 ∷ at ∷ []

-- what `gorvisclen_due_shown_from` writes (rules 19.8 and 19.12)
abbrev pub shown_from_reply : List ℕ → List ℕ → Reply (List ℕ)
shown_from_reply c d = then (whose_of c d) (λ w. ok (whose_numbers w))

-- a record is written from a place of a buffer of m bytes, and the number of its bytes to a slice of n numbers: 16 if
-- that slice is too short, before 26 and 27 (rules 19.9 and 19.12)
abbrev pub putting : Fields → ℕ → ℕ → ℕ → Reply ℕ
putting f at m n = cond (ltb n 1) (refused 16) (put_of at m f)

-- the promise of `gorvisclen_put_profile` (rules 19.9 and 19.12)
pub record ProfilePut (f : Fields) (at : ℕ) (buffer out : List ℕ) (r : ℕ) (buffer' out' : List ℕ) : Type 0 where
  pub reply : r ≡ status (putting f at (length buffer) (length out))
  pub bytes : buffer' ≡ buffer_after (putting f at (length buffer) (length out)) at f buffer
  pub row : out' ≡ out_after (then (putting f at (length buffer) (length out)) (λ n. ok (n ∷ []))) out
