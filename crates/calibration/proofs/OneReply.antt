-- One reply and one content of the lent buffer: any two that a promise allows are equal (rule 11.1).
use Prim.Native.Nat.{ℕ}
use mathlib.Core.Path.{◌≡◌, refl, ap, ◌∙⁻¹◌}
use mathlib.Core.Bool.{Bool}
use mathlib.Core.List.{List}
use Rattle.basis.specs.Reply.{Reply, ok, refused}
use Rattle.basis.specs.declared.refusal.Refusal.{Refusal}
use Rattle.basis.proofs.Reply.{apart}
use Rattle.basis.proofs.OneReply.{refusal_back, number_there_and_back, one_reply}
use Rattle.std.specs.Prelude.{Result, Ok, Err}
use Rattle.calibration.specs.Profile.{Fields, ReadProfileIs, SerialIs}
use Rattle.calibration.specs.Lapsed.{HasLapsedIs}
use Rattle.calibration.specs.Shown.{Whose, card, desk, DueShownFromIs, DueShownIs, as_reply as whose_reply}
use Rattle.calibration.specs.Put.{PutProfileIs}
use Rattle.calibration.specs.declared.date.Date.{Date}
use Rattle.calibration.specs.declared.profile.Profile.{Profile}
use Rattle.calibration.specs.declared.shown.DueShownFrom.{DueShownFrom}
use Rattle.calibration.specs.declared.shown.DueShownFrom.TheVariants as from

-- the way back from a reply to whose due date is shown, and that it leads back to the same answer
abbrev whose_back : Reply Whose → Result DueShownFrom Refusal
whose_back (ok (card at)) = Ok (from.Card at)
whose_back (ok (desk at)) = Ok (from.Desk at)
whose_back (refused k) = Err (refusal_back k)

whose_there_and_back : (x : Result DueShownFrom Refusal) → whose_back (whose_reply x) ≡ x
whose_there_and_back (Ok (from.Card at)) = refl
whose_there_and_back (Ok (from.Desk at)) = refl
whose_there_and_back (Err k) = ap (λ (k : Refusal). Err k) (number_there_and_back k)

pub read_profile : (s : List ℕ) (x y : Result Profile Refusal) → ReadProfileIs s x → ReadProfileIs s y → x ≡ y
read_profile s x y p q = one_reply x y p q

pub serial : (s x y : List ℕ) → SerialIs s x → SerialIs s y → x ≡ y
serial s x y p q = p ∙⁻¹ q

pub has_lapsed : (s : List ℕ) (on : Date) (x y : Result Bool Refusal) → HasLapsedIs s on x → HasLapsedIs s on y → x ≡ y
has_lapsed s on x y p q = one_reply x y p q

pub due_shown_from : (c d : List ℕ) (x y : Result DueShownFrom Refusal) → DueShownFromIs c d x → DueShownFromIs c d y → x ≡ y
due_shown_from c d x y p q = apart whose_reply whose_back whose_there_and_back x y (p ∙⁻¹ q)

pub due_shown : (c d x y : List ℕ) → DueShownIs c d x → DueShownIs c d y → x ≡ y
due_shown c d x y p q = p ∙⁻¹ q

pub put_profile : (f : Fields) (b : List ℕ) (at : ℕ) (x y : Result ℕ Refusal) (after after' : List ℕ)
    → PutProfileIs f b at x after → PutProfileIs f b at y after' → (x ≡ y) × (after ≡ after')
put_profile f b at x y after after' p q =
    (one_reply x y p.reply q.reply, p.buffer ∙⁻¹ q.buffer)
