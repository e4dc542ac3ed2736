-- The form of a record in plain words, and when a record is refused (rules 19.1 and 19.5).
use Prim.Native.Nat.{ℕ, ◌+◌, ◌≤◌}
use mathlib.Core.Path.{◌≡◌, refl, sym, ap, ◌∙◌, subst}
use mathlib.Core.Logic.{◌↔◌, ◌⊎◌, inl, inr}
use mathlib.Core.Bool.{true, false, true≢false, ◌&&◌}
use mathlib.Core.List.{List, ◌∷◌, ◌++◌}
use native.Mathlib.Omega.{arith}
use lib.ListN.{length, take, drop}
use Rattle.basis.specs.Reply.{Reply, refused}
use Rattle.basis.proofs.Reply.{refused_not_ok}
use Rattle.calibration.specs.Date.{is_real, are_packed, date_in, date_bytes}
use Rattle.calibration.specs.Profile.{Fields, object, template, serial_len, serial_of, due_of, capacity_of, is_profile, fields_of}
use Rattle.calibration.proofs.Form.{Heads, profile_formed, all_heads, inside_size, template_size, template_parts, serial_size, due_size, capacity_size}
use Rattle.calibration.proofs.Digits.{date_back, date_packed, bytes_back}
use Rattle.calibration.proofs.Read.{by_form}
use Rattle.calibration_laws.specs.Plain.{form_bytes, OfForm, NoDate}
use Rattle.calibration_laws.proofs.RealDates.{real_date, bounds, date_digits}

-- the template in plain bytes
pub template_bytes : (v d c : List ℕ) → length d ≡ 4 → length c ≡ 4 → template v d c ≡ form_bytes v d c
unfolding template object
template_bytes v d c hd hc =
    let size = inside_size v d c hd hc in
    λ i. 0xE1 ∷ size i ∷ 0xC1 ∷ length v ∷ (v ++ (0xC2 ∷ hd i ∷ (d ++ (0xC3 ∷ hc i ∷ c))))

-- the values of bytes of this form stand at the places where the definition looks for them
pub record ThereIn (s v d c : List ℕ) : Type 0 where
  pub form : is_profile s ≡ true
  pub serial : serial_of s ≡ v
  pub due : due_of s ≡ d
  pub capacity : capacity_of s ≡ c

pub there : (s v d c : List ℕ) → 1 ≤ length v → length v ≤ 16 → length d ≡ 4 → length c ≡ 4 → s ≡ form_bytes v d c → ThereIn s v d c
there s v d c lo hi hd hc e =
    let whole : s ≡ template v d c = e ∙ sym (template_bytes v d c hd hc) in
    let size : length s ≡ length v + 16 = ap length whole ∙ template_size v d c hd hc in
    let n : length v ≡ serial_len s = omega (arith, size) in
    let p = template_parts v d c hd hc s whole in
    record {
      form = all_heads s (omega (arith, size, lo)) (omega (arith, size, hi)) (subst (Heads s) n p.heads);
      serial = ap (λ (k : ℕ). take k (drop 4 s)) (sym n) ∙ p.serial_there;
      due = ap (λ (k : ℕ). take 4 (drop (k + 6) s)) (sym n) ∙ p.due_there;
      capacity = ap (λ (k : ℕ). take 4 (drop (k + 6 + 6) s)) (sym n) ∙ p.capacity_there;
    }

module _ (s : List ℕ) where
  of_form : is_profile s ≡ true → OfForm s
  of_form e =
      let f = profile_formed s e in
      let size = serial_size s f.least in
      record {
        serial = serial_of s;
        due = due_of s;
        capacity = capacity_of s;
        least = omega (arith, size, f.least);
        most = omega (arith, size, f.most);
        four_of_date = due_size s f.least;
        four_of_capacity = capacity_size s f.least;
        whole = f.whole ∙ template_bytes (serial_of s) (due_of s) (capacity_of s) (due_size s f.least) (capacity_size s f.least);
      }

  form_there : (o : OfForm s) → ThereIn s o.serial o.due o.capacity
  form_there o = there s o.serial o.due o.capacity o.least o.most o.four_of_date o.four_of_capacity o.whole

  -- bytes are of this form exactly if they are, byte by byte (rule 19.1)
  pub form_says : (is_profile s ≡ true) ↔ OfForm s
  form_says = (of_form, λ o. (form_there o).form)

  -- 26 exactly if the bytes are not of this form (rules 1.32 and 19.5)
  pub refused_26 : (fields_of s ≡ refused 26) ↔ (OfForm s → ⊥)
  refused_26 = (
    λ e o.
        by_form (λ (x : Reply Fields). x ≡ refused 26 → ⊥) s
        (λ form digits real g. refused_not_ok 26 _ (sym g))
        (λ form no g. let z : ◌≡◌ {A = ℕ} 27 26 = cc in omega (arith, z))
        (λ no g. true≢false (sym (form_there o).form ∙ no)) e,
    λ n.
        by_form (λ (x : Reply Fields). x ≡ refused 26) s
        (λ form digits real. absurd (n (of_form form)))
        (λ form no. absurd (n (of_form form)))
        (λ no. refl),
  )

  no_date : is_profile s ≡ true → (are_packed (due_of s) && is_real (date_in (due_of s))) ≡ false → NoDate s
  unfolding of_form
  no_date form other =
      record {
        form = of_form form;
        none =
            λ d r same.
            let b : due_of s ≡ date_bytes d = same ∙ sym (date_digits d) in
            let packed : are_packed (due_of s) ≡ true = ap are_packed b ∙ date_packed d (bounds d r) in
            let real : is_real (date_in (due_of s)) ≡ true =
            ap (λ (l : List ℕ). is_real (date_in l)) b ∙ ap is_real (date_back d (bounds d r)) ∙ (real_date d).1 r in
            true≢false (sym (rw (packed, real)) ∙ other);
      }

  -- 27 exactly if they are, and the date's bytes are those of no real date (rules 1.33 and 19.5)
  pub refused_27 : (fields_of s ≡ refused 27) ↔ NoDate s
  refused_27 = (
    λ e.
        by_form (λ (x : Reply Fields). x ≡ refused 27 → NoDate s) s
        (λ form digits real g. absurd (refused_not_ok 27 _ (sym g)))
        (λ form no g. no_date form no)
        (λ no g. let z : ◌≡◌ {A = ℕ} 26 27 = cc in absurd (omega (arith, z))) e,
    λ n.
        let t = form_there n.form in
        by_form (λ (x : Reply Fields). x ≡ refused 27) s
        (λ form digits real.
        let b = bytes_back (due_of s) (due_size s (profile_formed s form).least) digits in
        absurd (n.none (date_in (due_of s)) ((real_date (date_in (due_of s))).0 real) (sym t.due ∙ sym b ∙ date_digits (date_in (due_of s)))))
        (λ form no. refl)
        (λ no. absurd (true≢false (sym t.form ∙ no))),
  )

  -- no other number is given
  pub no_other_refusal : (k : ℕ) → fields_of s ≡ refused k → (k ≡ 26) ⊎ (k ≡ 27)
  no_other_refusal k e =
      by_form (λ (x : Reply Fields). x ≡ refused k → (k ≡ 26) ⊎ (k ≡ 27)) s
      (λ form digits real g. absurd (refused_not_ok k _ (sym g)))
      (λ form no g. inr cc)
      (λ no g. inl cc) e
