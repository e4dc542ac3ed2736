-- Laws of the due date shown (rules 19.7 and 19.8).
use Prim.Native.Nat.{ℕ, ◌+◌, ◌≤◌}
use mathlib.Core.Path.{◌≡◌, sym, ap, ◌∙◌}
use mathlib.Core.List.{List}
use native.Mathlib.Omega.{arith}
use lib.ListN.{length}
use Rattle.basis.specs.Reply.{Reply, ok, refused, then}
use Rattle.basis.proofs.Reply.{All, all_is}
use Rattle.calibration.specs.Profile.{Fields, due_place, fields_of}
use Rattle.calibration.specs.Shown.{Whose, card, desk, or_else, whose_of}
use Rattle.calibration.specs.declared.profile.Profile.{Profile}
use Rattle.calibration.proofs.Form.{profile_formed}
use Rattle.calibration.proofs.Read.{by_form, profile_reply, fields_told, refusal_told}

-- a due date that is shown stands in its record
abbrev Inside : List ℕ → List ℕ → Whose → Type 0
Inside c d (card at) = at + 4 ≤ length c
Inside c d (desk at) = at + 4 ≤ length d

-- of one record alone
inside_one : (s c d : List ℕ) (w : ℕ → Whose) → (17 ≤ length s → Inside c d (w (due_place s)))
    → All (Inside c d) (then (fields_of s) (λ f. ok (w (due_place s))))
inside_one s c d w h =
    by_form (λ (x : Reply Fields). All (Inside c d) (then x (λ f. ok (w (due_place s))))) s
    (λ form digits real. h (profile_formed s form).least) (λ form no. tt) (λ no. tt)

inside_either : (c d : List ℕ) (x y : Reply Whose) → All (Inside c d) x → All (Inside c d) y → All (Inside c d) (or_else x y)
inside_either c d (ok w) y h g = h
inside_either c d (refused k) y h g = g

pub shown_inside : (c d : List ℕ) (w : Whose) → whose_of c d ≡ ok w → Inside c d w
unfolding whose_of
shown_inside c d w e =
    let x : Reply Whose = then (fields_of c) (λ f. ok (card (due_place c))) in
    let y : Reply Whose = then (fields_of d) (λ f. ok (desk (due_place d))) in
    all_is (Inside c d) (or_else x y) w
    (inside_either c d x y (inside_one c c d card (λ lo. omega (arith, lo))) (inside_one d c d desk (λ lo. omega (arith, lo)))) e

-- whose it is, by the reply to each record
module _ (c d : List ℕ) where
  pub whose_card : (f : Fields) → fields_of c ≡ ok f → whose_of c d ≡ ok (card (due_place c))
  unfolding whose_of
  whose_card f e = rw e

  pub whose_desk : (k : ℕ) (f : Fields) → fields_of c ≡ refused k → fields_of d ≡ ok f → whose_of c d ≡ ok (desk (due_place d))
  unfolding whose_of
  whose_desk k f n e = rw (n, e)

  pub whose_none : (k l : ℕ) → fields_of c ≡ refused k → fields_of d ≡ refused l → whose_of c d ≡ refused l
  unfolding whose_of
  whose_none k l n e = rw (n, e)

  -- it is someone's, or 26, or 27
  pub by_whose : (P : Reply Whose → Type 0) → ((w : Whose) → P (ok w)) → P (refused 26) → P (refused 27) → P (whose_of c d)
  unfolding whose_of
  by_whose P h no-form no-date =
      let cards : Reply Fields → Reply Whose = λ x. then x (λ f. ok (card (due_place c))) in
      let desks : Reply Fields → Reply Whose = λ x. then x (λ f. ok (desk (due_place d))) in
      let desk-alone : P (desks (fields_of d)) =
      by_form (λ (x : Reply Fields). P (desks x)) d (λ form digits real. h (desk (due_place d))) (λ form other. no-date) (λ other. no-form) in
      by_form (λ (x : Reply Fields). P (or_else (cards x) (desks (fields_of d)))) c
      (λ form digits real. h (card (due_place c))) (λ form other. desk-alone) (λ other. desk-alone)

-- the same by what the code's reading of each record says
module _ (c d : List ℕ) where
  pub card_shown : (p : Profile) (at : ℕ) → profile_reply (fields_of c) ≡ ok p → at ≡ p.serial + 6 → ok (card at) ≡ whose_of c d
  card_shown p at e n =
      let t = fields_told c p e in
      let place : at ≡ due_place c = omega (arith, n, t.serial_is) in
      ap (λ (a : ℕ). ok (card a)) place ∙ sym (whose_card c d _ t.fields_are)

  pub desk_shown : (k : ℕ) (p : Profile) (at : ℕ) → profile_reply (fields_of c) ≡ refused k → profile_reply (fields_of d) ≡ ok p
      → at ≡ p.serial + 6 → ok (desk at) ≡ whose_of c d
  desk_shown k p at r e n =
      let t = fields_told d p e in
      let place : at ≡ due_place d = omega (arith, n, t.serial_is) in
      ap (λ (a : ℕ). ok (desk a)) place ∙ sym (whose_desk c d k _ (refusal_told c k r) t.fields_are)

  pub none_shown : (k l : ℕ) → profile_reply (fields_of c) ≡ refused k → profile_reply (fields_of d) ≡ refused l → refused l ≡ whose_of c d
  none_shown k l r e = sym (whose_none c d k l (refusal_told c k r) (refusal_told d l e))
