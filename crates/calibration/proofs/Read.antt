-- What the reading of a record says: the ways that it can go, and what is so of a record that was read (rule 19.5).
use Prim.Native.Nat.{ℕ}
use mathlib.Core.Path.{◌≡◌, refl, sym, ap, ◌∙◌}
use mathlib.Core.Bool.{true, false, ◌&&◌}
use mathlib.Core.List.{List}
use Rattle.basis.specs.Reply.{Reply, ok, refused, then}
use Rattle.basis.specs.Number.{number}
use Rattle.basis.proofs.Reply.{refused_not_ok}
use Rattle.basis.proofs.Truth.{on_cond}
use Rattle.calibration.specs.Date.{is_real, are_packed, date_in, date_of}
use Rattle.calibration.specs.Profile.{Fields, fields, serial_len, serial_of, due_of, capacity_of, is_profile, fields_of, profile_of}
use Rattle.calibration.specs.declared.date.Date.{Date}
use Rattle.calibration.specs.declared.profile.Profile.{Profile}
use Rattle.calibration.proofs.Form.{Formed, profile_formed, serial_size}
use Rattle.calibration.proofs.Digits.{by_date}

-- the fields that a record of this form has with a due date
abbrev pub fields_with : List ℕ → Date → Fields
fields_with s d = fields (serial_of s) d (number (capacity_of s))

-- a record is read, or refused with 27, or with 26
pub by_form : (P : Reply Fields → Type 0) (s : List ℕ)
    → (is_profile s ≡ true → are_packed (due_of s) ≡ true → is_real (date_in (due_of s)) ≡ true → P (ok (fields_with s (date_in (due_of s)))))
    → (is_profile s ≡ true → (are_packed (due_of s) && is_real (date_in (due_of s))) ≡ false → P (refused 27))
    → (is_profile s ≡ false → P (refused 26)) → P (fields_of s)
unfolding fields_of
by_form P s h g n =
    let read : Reply Date → Reply Fields = λ x. then x (λ d. ok (fields_with s d)) in
    on_cond P (is_profile s) (read (date_of (due_of s))) (refused 26)
    (λ e. by_date (λ (x : Reply Date). P (read x)) (due_of s) (h e) (g e)) n

-- what is so of a record with these fields
pub record Read (s : List ℕ) (f : Fields) : Type 0 where
  pub form : is_profile s ≡ true
  pub digits : are_packed (due_of s) ≡ true
  pub real : is_real (date_in (due_of s)) ≡ true
  pub same : f ≡ fields_with s (date_in (due_of s))

pub read_says : (s : List ℕ) (f : Fields) → fields_of s ≡ ok f → Read s f
read_says s f e =
    by_form (λ (x : Reply Fields). x ≡ ok f → Read s f) s
    (λ form digits real g. record { form = form; digits = digits; real = real; same = cc })
    (λ form no g. absurd (refused_not_ok 27 f g))
    (λ no g. absurd (refused_not_ok 26 f g)) e

-- the fields as the code has them, of a reply
abbrev pub profile_reply : Reply Fields → Reply Profile
profile_reply x = then x (λ f. ok (profile_of f))

-- how a record is refused: 26, then 27
module _ (s : List ℕ) where
  pub form_26 : is_profile s ≡ false → fields_of s ≡ refused 26
  unfolding fields_of
  form_26 e = rw e

  pub date_27 : is_profile s ≡ true → date_of (due_of s) ≡ refused 27 → fields_of s ≡ refused 27
  unfolding fields_of
  date_27 e f = rw (e, f)

-- how the code may answer: 26, then 27, then the fields
module _ (s : List ℕ) where
  pub told_26 : is_profile s ≡ false → refused 26 ≡ profile_reply (fields_of s)
  told_26 e = sym (ap profile_reply (form_26 s e))

  pub told_27 : is_profile s ≡ true → date_of (due_of s) ≡ refused 27 → refused 27 ≡ profile_reply (fields_of s)
  told_27 e f = sym (ap profile_reply (date_27 s e f))

  pub told_fields : is_profile s ≡ true → (p : Profile) → date_of (due_of s) ≡ ok p.due → p.serial ≡ serial_len s
      → p.capacity ≡ number (capacity_of s) → ok p ≡ profile_reply (fields_of s)
  unfolding fields_of
  told_fields e p f n k =
      let size = n ∙ sym (serial_size s (profile_formed s e).least) in
      rw (e, f) (λ i. ok (record { serial = size i; due = p.due; capacity = k i }))

-- what such an answer says of the record
pub record Told (s : List ℕ) (p : Profile) : Type 0 where
  pub formed : Formed s
  pub fields_are : fields_of s ≡ ok (fields_with s p.due)
  pub serial_is : p.serial ≡ serial_len s
  pub capacity_is : p.capacity ≡ number (capacity_of s)
  pub real : is_real p.due ≡ true

pub fields_told : (s : List ℕ) (p : Profile) → profile_reply (fields_of s) ≡ ok p → Told s p
fields_told s p e =
    by_form (λ (x : Reply Fields). fields_of s ≡ x → profile_reply x ≡ ok p → Told s p) s
    (λ form digits real same g.
    let f = fields_with s (date_in (due_of s)) in
    let q : profile_of f ≡ p = cc in
    let due : date_in (due_of s) ≡ p.due = ap (λ (x : Profile). x.due) q in
    record {
      formed = profile_formed s form;
      fields_are = same ∙ ap (λ (d : Date). ok (fields_with s d)) due;
      serial_is = sym (ap (λ (x : Profile). x.serial) q) ∙ serial_size s (profile_formed s form).least;
      capacity_is = sym (ap (λ (x : Profile). x.capacity) q);
      real = rw due at real;
    })
    (λ form no same g. absurd (refused_not_ok 27 p g))
    (λ no same g. absurd (refused_not_ok 26 p g)) refl e

pub refusal_told : (s : List ℕ) (k : ℕ) → profile_reply (fields_of s) ≡ refused k → fields_of s ≡ refused k
refusal_told s k e =
    by_form (λ (x : Reply Fields). profile_reply x ≡ refused k → x ≡ refused k) s
    (λ form digits real g. absurd (refused_not_ok k _ (sym g)))
    (λ form no g. let e : ◌≡◌ {A = ℕ} 27 k = cc in ap (λ (n : ℕ). refused n) e)
    (λ no g. let e : ◌≡◌ {A = ℕ} 26 k = cc in ap (λ (n : ℕ). refused n) e) e
