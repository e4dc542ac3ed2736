-- What `due_shown` and `due_shown_from` answer, in plain words, over their promises and that of `read_profile` (rules
-- 19.7 and 19.8).
use Prim.Native.Nat.{ℕ, ◌+◌}
use mathlib.Core.Path.{◌≡◌, refl, sym, ap, ◌∙◌}
use mathlib.Core.List.{List, []}
use lib.ListN.{take, drop}
use Rattle.basis.specs.Reply.{ok}
use Rattle.std.specs.Prelude.{Result, Ok, Err}
use Rattle.basis.specs.Refusal.{as_reply, refusal_number}
use Rattle.basis.specs.declared.refusal.Refusal.{Refusal}
use Rattle.calibration.specs.Date.{date_in}
use Rattle.calibration.specs.Profile.{Fields, due_of, fields_of, ReadProfileIs}
use Rattle.calibration.specs.Shown.{shown_in, DueShownFromIs, DueShownIs}
use Rattle.calibration.specs.declared.profile.Profile.{Profile}
use Rattle.calibration.specs.declared.shown.DueShownFrom.{DueShownFrom}
use Rattle.calibration.specs.declared.shown.DueShownFrom.TheVariants as from
use Rattle.calibration.proofs.OneReply.{due_shown_from}
use Rattle.calibration.proofs.Form.{profile_formed, due_size}
use Rattle.calibration.proofs.Digits.{bytes_back}
use Rattle.calibration.proofs.Read.{read_says, profile_reply, fields_told}
use Rattle.calibration.proofs.Due.{card_shown, desk_shown, none_shown}
use Rattle.calibration_laws.specs.Plain.{digit_bytes}
use Rattle.calibration_laws.proofs.RealDates.{date_digits}
use Rattle.calibration_laws.proofs.Readings.{read_as}

-- the bytes at the place of the due date in a record that was read are its digits
pub due_there : (s : List ℕ) (p : Profile) → profile_reply (fields_of s) ≡ ok p → take 4 (drop (p.serial + 6) s) ≡ digit_bytes p.due
due_there s p e =
    let t = fields_told s p e in
    let r = read_says s _ t.fields_are in
    let due : p.due ≡ date_in (due_of s) = ap (λ (f : Fields). f.due) r.same in
    let b = bytes_back (due_of s) (due_size s (profile_formed s r.form).least) r.digits in
    ap (λ (n : ℕ). take 4 (drop (n + 6) s)) t.serial_is ∙ sym b ∙ date_digits (date_in (due_of s)) ∙ ap digit_bytes (sym due)

-- the card's record and the desk's, what `read_profile` answers of each, whose due date is shown, and its bytes
module _ (c d : List ℕ) (yc yd : Result Profile Refusal) (pc : ReadProfileIs c yc) (pd : ReadProfileIs d yd) (w : Result DueShownFrom Refusal)
    (pw : DueShownFromIs c d w) (b : List ℕ) (pb : DueShownIs c d b) where
  -- the card's, if its record is accepted, whatever the desk's is
  pub shows_card : (p : Profile) → yc ≡ Ok p
      → (w ≡ Ok (from.Card (p.serial + 6))) × (b ≡ take 4 (drop (p.serial + 6) c)) × (b ≡ digit_bytes p.due)
  shows_card p e =
      let r = read_as c yc pc p e in
      let whose = card_shown c d p (p.serial + 6) r refl in
      let bytes : b ≡ take 4 (drop (p.serial + 6) c) = pb ∙ ap (shown_in c d) (sym whose) in
      (due_shown_from c d w (Ok (from.Card (p.serial + 6))) pw whose, bytes, bytes ∙ due_there c p r)

  -- the desk's, if the card's is refused, with 26 or 27
  pub shows_desk : (k : Refusal) → yc ≡ Err k → (p : Profile) → yd ≡ Ok p
      → (w ≡ Ok (from.Desk (p.serial + 6))) × (b ≡ take 4 (drop (p.serial + 6) d)) × (b ≡ digit_bytes p.due)
  shows_desk k n p e =
      let r = read_as d yd pd p e in
      let whose = desk_shown c d (refusal_number k) p (p.serial + 6) (sym pc ∙ ap as_reply n) r refl in
      let bytes : b ≡ take 4 (drop (p.serial + 6) d) = pb ∙ ap (shown_in c d) (sym whose) in
      (due_shown_from c d w (Ok (from.Desk (p.serial + 6))) pw whose, bytes, bytes ∙ due_there d p r)

  -- if both are refused, no bytes, and the desk's refusal, whatever the card's was
  pub shows_none : (k l : Refusal) → yc ≡ Err k → yd ≡ Err l → (w ≡ Err l) × (b ≡ [])
  shows_none k l n e =
      let whose = none_shown c d (refusal_number k) (refusal_number l) (sym pc ∙ ap as_reply n) (sym pd ∙ ap as_reply e) in
      (due_shown_from c d w (Err l) pw whose, pb ∙ ap (shown_in c d) (sym whose))
