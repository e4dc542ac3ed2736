-- The due date shown: the card's or, if its record is refused, the desk's (rules 19.7 and 19.8).
use Rattle.std.specs.Prelude.{ℕ, ◌≡◌, Result, Ok, Err, List, [], take, drop}
use Rattle.basis.specs.Reply.{Reply, ok, refused, then}
use Rattle.basis.specs.Refusal.{refusal_number}
use Rattle.basis.specs.declared.refusal.Refusal.{Refusal}
use Rattle.calibration.specs.Profile.{due_place, fields_of}
use Rattle.calibration.specs.declared.shown.DueShownFrom.{DueShownFrom}
use Rattle.calibration.specs.declared.shown.DueShownFrom.TheVariants as from

-- whose due date is shown, and its place in that record
pub data Whose : Type 0 where
  card : ℕ → Whose
  desk : ℕ → Whose

-- the first reply or, if that is a refusal, the second
abbrev pub or_else : {A : Type 0} → Reply A → Reply A → Reply A
or_else (ok a) y = ok a
or_else (refused k) y = y

-- whose due date is shown: with both records refused, the desk's refusal (rule 19.8)
unfoldable pub whose_of : List ℕ → List ℕ → Reply Whose
whose_of c d = or_else (then (fields_of c) (λ f. ok (card (due_place c)))) (then (fields_of d) (λ f. ok (desk (due_place d))))

-- its four bytes, in the card's record c or in the desk's d; no bytes if both are refused (rule 19.7)
abbrev pub shown_in : List ℕ → List ℕ → Reply Whose → List ℕ
shown_in c d (ok (card at)) = take 4 (drop at c)
shown_in c d (ok (desk at)) = take 4 (drop at d)
shown_in c d (refused k) = []

-- an answer of the code as a reply
abbrev pub as_reply : Result DueShownFrom Refusal → Reply Whose
as_reply (Ok (from.Card at)) = ok (card at)
as_reply (Ok (from.Desk at)) = ok (desk at)
as_reply (Err k) = refused (refusal_number k)

-- the promises of `due_shown_from` and `due_shown`
abbrev pub DueShownFromIs : List ℕ → List ℕ → Result DueShownFrom Refusal → Type 0
DueShownFromIs c d x = as_reply x ≡ whose_of c d

abbrev pub DueShownIs : List ℕ → List ℕ → List ℕ → Type 0
DueShownIs c d x = x ≡ shown_in c d (whose_of c d)
