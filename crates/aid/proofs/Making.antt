-- Which names make an AID and which are refused, number by number (rules 1.6 to 1.10 and 9.1).
use Prim.Native.Nat.{ℕ, ◌/◌, ◌≤◌, ◌<◌}
use mathlib.Core.Path.{◌≡◌, refl, sym, ◌∙◌}
use mathlib.Core.Bool.{Bool, true, false, cond}
use mathlib.Core.List.{List}
use native.Mathlib.Omega.{arith}
use native.Mathlib.Decide.{dec_le}
use borrow.Author.Tests.{eq-eqb, ne_eqb, lt-ltb, le-ltb}
use lib.Dec.{eqb}
use lib.ListN.{length, get_or, replicate}
use Rattle.basis.specs.Over.{over}
use Rattle.basis.specs.Reply.{Reply, ok, refused}
use Rattle.basis.specs.Refusal.{refusal_number}
use Rattle.basis.specs.declared.refusal.Refusal.{Refusal}
use Rattle.basis.proofs.Reply.{refused_not_ok}
use Rattle.std.specs.Prelude.{Ok, Err}
use Rattle.aid.specs.Category.{category_of}
use Rattle.aid.specs.Making.{under_five, tested, try_new, blank, TryNewTruncatableIs}
use Rattle.aid.proofs.Categories.{is_international, is_national}

-- names of under five bytes, by the high half of the first (rules 1.9 and 1.10)
module _ (b : ℕ) where
  pub national_short : b / 16 ≡ 0xD → under_five b ≡ refused 9
  unfolding under_five
  national_short h = rw (is_national b h)

  pub international_short : b / 16 ≡ 0xA → under_five b ≡ refused 10
  unfolding under_five
  international_short h = rw (is_international b h)

  pub other_short : (b / 16 ≡ 0xA → ⊥) → (b / 16 ≡ 0xD → ⊥) → under_five b ≡ ok tt
  unfolding under_five category_of
  other_short h g = rw (ne_eqb (b / 16) 0xA h, ne_eqb (b / 16) 0xD g) (pick (eqb (b / 16) 0xE) (eqb (b / 16) 0xF))
    where
      pick : (x y : Bool) → ◌≡◌ {A = Reply (Unit {0})}
          (cond (eqb (cond x 2 (cond y 3 4)) 1) (refused 9) (cond (eqb (cond x 2 (cond y 3 4)) 0) (refused 10) (ok tt))) (ok tt)
      pick true y = refl
      pick false true = refl
      pick false false = refl

-- a name that makes an AID with a truncated length
pub record ValidName (name : List ℕ) (t : ℕ) : Type 0 where
  pub some : 1 ≤ length name
  pub most : length name ≤ 16
  pub cut : t ≤ length name
  pub international : length name < 5 → get_or name 0 0 / 16 ≡ 0xA → ⊥
  pub national : length name < 5 → get_or name 0 0 / 16 ≡ 0xD → ⊥

module _ (name : List ℕ) (t : ℕ) where
  pub empty_name : length name ≡ 0 → tested name t ≡ refused 6
  unfolding tested
  empty_name h = rw (eq-eqb (length name) 0 h)

  pub too_long : 16 < length name → tested name t ≡ refused 7
  unfolding tested
  too_long h = rw (ne_eqb (length name) 0 (omega arith), lt-ltb 16 (length name) h)

  pub truncated_above : 1 ≤ length name → length name ≤ 16 → length name < t → tested name t ≡ refused 8
  unfolding tested
  truncated_above s m h = rw (ne_eqb (length name) 0 (omega arith), le-ltb 16 (length name) m, lt-ltb (length name) t h)

  pub under_five_by_first : 1 ≤ length name → t ≤ length name → length name < 5 → tested name t ≡ under_five (get_or name 0 0)
  unfolding tested
  under_five_by_first s c h =
      rw (ne_eqb (length name) 0 (omega arith), le-ltb 16 (length name) (omega arith), le-ltb (length name) t c, lt-ltb (length name) 5 h)

  pub from_five_bytes : length name ≤ 16 → t ≤ length name → 5 ≤ length name → tested name t ≡ ok tt
  unfolding tested
  from_five_bytes m c h =
      rw (ne_eqb (length name) 0 (omega arith), le-ltb 16 (length name) m, le-ltb (length name) t c, le-ltb (length name) 5 h)

  -- exactly these names pass the tests (rule 9.1)
  pub valid_passes : ValidName name t → tested name t ≡ ok tt
  valid_passes h =
      elim (dec_le 5 (length name)) [
        | yes g ↦ from_five_bytes (omega arith) (omega arith) g
        | no g ↦
            under_five_by_first (omega arith) (omega arith) (omega arith)
            ∙ other_short (get_or name 0 0) (h.international (omega arith)) (h.national (omega arith))
      ]

  pub passing_valid : tested name t ≡ ok tt → ValidName name t
  passing_valid e =
      let s : 1 ≤ length name = elim (dec_le 1 (length name)) [ yes p ↦ p | no p ↦ absurd (never 6 (empty_name (omega arith))) ] in
      let m : length name ≤ 16 = elim (dec_le (length name) 16) [ yes p ↦ p | no p ↦ absurd (never 7 (too_long (omega arith))) ] in
      let c : t ≤ length name = elim (dec_le t (length name)) [ yes p ↦ p | no p ↦ absurd (never 8 (truncated_above s m (omega arith))) ] in
      record {
        some = omega arith;
        most = omega arith;
        cut = omega arith;
        international = λ g h. never 10 (under_five_by_first s c g ∙ international_short _ h);
        national = λ g h. never 9 (under_five_by_first s c g ∙ national_short _ h);
      }
    where
      never : (k : ℕ) → tested name t ≡ refused k → ⊥
      never k h = refused_not_ok k tt (sym h ∙ e)

  -- what the code returns for a name that passes, and for one that is refused
  pub made_from_name : tested name t ≡ ok tt → (bs : List ℕ) (n u : ℕ) → bs ≡ over name (replicate 16 0) → n ≡ length name → u ≡ t
      → TryNewTruncatableIs name t (record { answer = Ok tt; aid = record { bytes = bs; len = n; truncated = u } })
  unfolding try_new
  made_from_name e bs n u eb en eu = record { answered = rw (e, eb, en, eu); from_name = rw (e, eb, en, eu) }

  pub name_refused : (k : Refusal) → tested name t ≡ refused (refusal_number k) → TryNewTruncatableIs name t (record { answer = Err k; aid = blank })
  unfolding try_new
  name_refused k e = record { answered = rw e; from_name = rw e }
