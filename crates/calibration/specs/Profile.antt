-- The form of a calibration record (rules 19.1 and 19.2), the record of some fields, and the fields of a record (rule
-- 19.5).
use Rattle.std.specs.Prelude.{ℕ, ◌+◌, ◌-◌, ◌≡◌, Bool, Result, cond, ◌&&◌, List, [], ◌∷◌, ◌++◌, leb, eqb, length, get_or, take, drop}
use Rattle.basis.specs.Reply.{Reply, ok, refused, then}
use Rattle.basis.specs.Refusal.{as_reply}
use Rattle.basis.specs.declared.refusal.Refusal.{Refusal}
use Rattle.basis.specs.Number.{be, number}
use Rattle.byte_slices.specs.Slices.{same}
use Rattle.calibration.specs.Date.{date_of, date_bytes}
use Rattle.calibration.specs.declared.date.Date.{Date}
use Rattle.calibration.specs.declared.profile.Profile.{Profile}

-- the fields of a record: the bytes of the serial, the due date, the capacity in milligrams (rule 19.2)
pub record Fields : Type 0 where
  pub serial : List ℕ
  pub due : Date
  pub capacity : ℕ

abbrev pub fields : List ℕ → Date → ℕ → Fields
fields serial due capacity = record { serial = serial; due = due; capacity = capacity }

-- an object whose tag and length take one byte each
unfoldable pub object : ℕ → List ℕ → List ℕ
object t v = t ∷ length v ∷ v

-- template E1, in it C1, C2 and C3 in that order, and nothing else (rule 19.1)
unfoldable pub template : List ℕ → List ℕ → List ℕ → List ℕ
template serial due capacity = object 0xE1 (object 0xC1 serial ++ (object 0xC2 due ++ object 0xC3 capacity))

-- whether a serial may have n bytes (rule 19.2)
unfoldable pub is_serial_len : ℕ → Bool
is_serial_len n = leb 1 n && leb n 16

-- the record of some fields: the date in packed decimal, the capacity in four bytes (rules 19.2 and 19.3)
unfoldable pub record_of : Fields → List ℕ
record_of f = template f.serial (date_bytes f.due) (be 4 f.capacity)

-- the places of the fields in a record of this form: all its bytes but 16 are the serial. A lookup of E1, C2 finds the
-- due date at its place, too (rule 19.11)
abbrev pub serial_len : List ℕ → ℕ
serial_len s = length s - 16

abbrev pub serial_of : List ℕ → List ℕ
serial_of s = take (serial_len s) (drop 4 s)

abbrev pub due_place : List ℕ → ℕ
due_place s = serial_len s + 6

abbrev pub due_of : List ℕ → List ℕ
due_of s = take 4 (drop (due_place s) s)

abbrev pub capacity_of : List ℕ → List ℕ
capacity_of s = take 4 (drop (due_place s + 6) s)

-- the contracts of the private `is_head` and `has_heads`: a tag and a length stand at a place, and the four of a record
-- whose serial has n bytes
abbrev pub head_test : List ℕ → ℕ → ℕ → ℕ → Bool
head_test s at t l = eqb (get_or s at 0) t && eqb (get_or s (at + 1) 0) l

abbrev pub heads_test : List ℕ → ℕ → Bool
heads_test s n = head_test s 0 0xE1 (n + 14) && head_test s 2 0xC1 n && head_test s (n + 4) 0xC2 4 && head_test s (n + 10) 0xC3 4

-- whether bytes are of this form: they are the template of what stands at these places (rule 19.1)
unfoldable pub is_profile : List ℕ → Bool
is_profile s = is_serial_len (serial_len s) && same s (template (serial_of s) (due_of s) (capacity_of s))

-- the fields of a record: 26 if it is not of this form, then 27 if there is no such date (rules 1.32, 1.33 and 19.5)
unfoldable pub fields_of : List ℕ → Reply Fields
fields_of s =
    cond (is_profile s) (then (date_of (due_of s)) (λ due. ok (fields (serial_of s) due (number (capacity_of s))))) (refused 26)

-- the fields as the code has them: of the serial, how many bytes it has
abbrev pub profile_of : Fields → Profile
profile_of f = record { serial = length f.serial; due = f.due; capacity = f.capacity }

-- the promise of `read_profile`
abbrev pub ReadProfileIs : List ℕ → Result Profile Refusal → Type 0
ReadProfileIs s x = as_reply x ≡ then (fields_of s) (λ f. ok (profile_of f))

-- the promise of `serial`: no bytes if the record is refused (rule 19.2)
abbrev pub serial_in : Reply Fields → List ℕ
serial_in (ok f) = f.serial
serial_in (refused k) = []

abbrev pub SerialIs : List ℕ → List ℕ → Type 0
SerialIs s x = x ≡ serial_in (fields_of s)
