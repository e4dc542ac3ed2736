-- Laws of whether a record has lapsed on a date (rule 19.6).
use Prim.Native.Nat.{ℕ}
use mathlib.Core.Path.{◌≡◌, sym, ap, ◌∙◌}
use mathlib.Core.Bool.{Bool, true, false, cond}
use mathlib.Core.List.{List}
use Rattle.basis.specs.Reply.{Reply, ok, refused, then}
use Rattle.basis.specs.Refusal.{refusal_number}
use Rattle.basis.specs.declared.refusal.Refusal.{Refusal}
use Rattle.basis.proofs.Truth.{on_cond}
use Rattle.calibration.specs.Date.{is_real, is_earlier, precedes}
use Rattle.calibration.specs.Profile.{Fields, fields_of}
use Rattle.calibration.specs.Lapsed.{lapsed_of}
use Rattle.calibration.specs.declared.date.Date.{Date}
use Rattle.calibration.specs.declared.profile.Profile.{Profile}
use Rattle.calibration.proofs.Calendar.{ordered}
use Rattle.calibration.proofs.Read.{by_form, profile_reply, fields_told, refusal_told}

module _ (s : List ℕ) (on : Date) where
  -- the record is refused; there is no such date as the given one; there is
  pub lapsed_refused : (k : ℕ) → fields_of s ≡ refused k → lapsed_of s on ≡ refused k
  unfolding lapsed_of
  lapsed_refused k e = rw e

  pub lapsed_unreal : (f : Fields) → fields_of s ≡ ok f → is_real on ≡ false → lapsed_of s on ≡ refused 27
  unfolding lapsed_of
  lapsed_unreal f e n = rw (e, n)

  pub lapsed_real : (f : Fields) → fields_of s ≡ ok f → is_real on ≡ true → lapsed_of s on ≡ ok (is_earlier f.due on)
  unfolding lapsed_of
  lapsed_real f e r = rw (e, r)

  -- there is a truth value, or 26, or 27
  pub by_lapsed : (P : Reply Bool → Type 0) → ((b : Bool) → P (ok b)) → P (refused 26) → P (refused 27) → P (lapsed_of s on)
  unfolding lapsed_of
  by_lapsed P h no-form no-date =
      let held : Fields → Reply Bool = λ f. cond (is_real on) (ok (is_earlier f.due on)) (refused 27) in
      by_form (λ (x : Reply Fields). P (then x held)) s
      (λ form digits real. on_cond P (is_real on) _ (refused 27) (λ _. h _) (λ _. no-date)) (λ form other. no-date) (λ other. no-form)

-- the same by what the code's reading of the record says
module _ (s : List ℕ) (on : Date) where
  pub told_refused : (k : Refusal) → refused (refusal_number k) ≡ profile_reply (fields_of s) → refused (refusal_number k) ≡ lapsed_of s on
  told_refused k e = sym (lapsed_refused s on (refusal_number k) (refusal_told s (refusal_number k) (sym e)))

  pub told_unreal : (p : Profile) → ok p ≡ profile_reply (fields_of s) → is_real on ≡ false → refused 27 ≡ lapsed_of s on
  told_unreal p e n = sym (lapsed_unreal s on _ (fields_told s p (sym e)).fields_are n)

  pub told_compared : (p : Profile) (r : Bool) → ok p ≡ profile_reply (fields_of s) → is_real on ≡ true
      → r ≡ precedes p.due on → ok r ≡ lapsed_of s on
  told_compared p r e n q =
      let told = fields_told s p (sym e) in
      ap (λ (b : Bool). ok b) (q ∙ ordered p.due on told.real n) ∙ sym (lapsed_real s on _ told.fields_are n)
