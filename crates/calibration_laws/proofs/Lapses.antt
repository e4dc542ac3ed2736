-- What `has_lapsed` answers, in plain words, over its promise and that of `read_profile` (rule 19.6).
use Prim.Native.Nat.{ℕ, ◌≤◌, ◌<◌}
use mathlib.Core.Path.{◌≡◌, sym, ap, ◌∙◌}
use mathlib.Core.Logic.{◌↔◌}
use mathlib.Core.Bool.{Bool, true, false}
use mathlib.Core.List.{List}
use native.Mathlib.Omega.{arith}
use lib.Dec.{ltb}
use borrow.Author.Tests.{ltb-true, ltb-false, lt-ltb, le-ltb}
use Rattle.std.specs.Prelude.{Result, Ok, Err}
use Rattle.basis.specs.Refusal.{refusal_number}
use Rattle.basis.specs.declared.refusal.Refusal.{Refusal}
use Rattle.basis.specs.declared.refusal.Refusal.TheVariants as refusal
use Rattle.calibration.specs.Date.{is_real, day_number, is_earlier}
use Rattle.calibration.specs.Profile.{ReadProfileIs}
use Rattle.calibration.specs.Lapsed.{HasLapsedIs}
use Rattle.calibration.specs.declared.date.Date.{Date}
use Rattle.calibration.specs.declared.profile.Profile.{Profile}
use Rattle.calibration.proofs.OneReply.{has_lapsed}
use Rattle.calibration.proofs.Read.{Told, fields_told}
use Rattle.calibration.proofs.Lapsing as law
use Rattle.calibration_laws.specs.Plain.{RealDate, Earlier}
use Rattle.calibration_laws.proofs.RealDates.{real_date, unreal}
use Rattle.calibration_laws.proofs.Days.{order_of_days}
use Rattle.calibration_laws.proofs.Readings.{read_as, refused_as}

-- a record s, what `read_profile` answers, a given date, and what `has_lapsed` answers
module _ (s : List ℕ) (y : Result Profile Refusal) (py : ReadProfileIs s y) (on : Date) (x : Result Bool Refusal) (px : HasLapsedIs s on x) where
  -- the refusal of the record comes first, 26 and 27 alike
  pub lapsed_refused : (k : Refusal) → y ≡ Err k → x ≡ Err k
  lapsed_refused k e = has_lapsed s on x (Err k) px (sym (law.lapsed_refused s on (refusal_number k) (refused_as s y py k e)))

  module _ (p : Profile) (e : y ≡ Ok p) where
    told : Told s p
    told = fields_told s p (read_as s y py p e)

    -- 27 if there is no such date as the given one
    pub lapsed_no_date : (RealDate on → ⊥) → x ≡ Err refusal.NoSuchDate
    lapsed_no_date n = has_lapsed s on x (Err refusal.NoSuchDate) px (sym (law.lapsed_unreal s on _ told.fields_are (unreal on n)))

    module _ (r : RealDate on) where
      answer : x ≡ Ok (ltb (day_number p.due) (day_number on))
      unfolding is_earlier
      answer =
          has_lapsed s on x (Ok (ltb (day_number p.due) (day_number on))) px
          (sym (law.lapsed_real s on _ told.fields_are ((real_date on).1 r)))

      -- it has lapsed exactly if the due date's day has the smaller number; otherwise it has not
      pub lapsed_days : (x ≡ Ok true) ↔ (day_number p.due < day_number on)
      lapsed_days = (
        λ t.
            let u : ◌≡◌ {A = Result Bool Refusal} (Ok (ltb (day_number p.due) (day_number on))) (Ok true) = sym answer ∙ t in
            let b : ltb (day_number p.due) (day_number on) ≡ true = cc in ltb-true (day_number p.due) (day_number on) b,
        λ h. answer ∙ ap (λ (b : Bool). Ok b) (lt-ltb (day_number p.due) (day_number on) h),
      )

      pub not_lapsed_days : (x ≡ Ok false) ↔ (day_number on ≤ day_number p.due)
      not_lapsed_days = (
        λ t.
            let u : ◌≡◌ {A = Result Bool Refusal} (Ok (ltb (day_number p.due) (day_number on))) (Ok false) = sym answer ∙ t in
            let b : ltb (day_number p.due) (day_number on) ≡ false = cc in ltb-false (day_number p.due) (day_number on) b,
        λ h. answer ∙ ap (λ (b : Bool). Ok b) (le-ltb (day_number p.due) (day_number on) h),
      )

      -- that is: exactly if the due date is earlier, by year, then by month, then by day
      pub lapsed_earlier : (x ≡ Ok true) ↔ Earlier p.due on
      lapsed_earlier =
          let order = order_of_days p.due on ((real_date p.due).0 told.real) r in
          (λ t. order.1 (lapsed_days.0 t), λ h. lapsed_days.1 (order.0 h))

    -- on the due date itself it has not
    pub not_on_the_day : on ≡ p.due → x ≡ Ok false
    not_on_the_day d =
        let r : RealDate on = (real_date on).0 (ap is_real d ∙ told.real) in
        (not_lapsed_days r).1 (omega (arith, ap day_number d))
