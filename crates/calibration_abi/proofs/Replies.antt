-- The promise of each exported function, from what the function of `calibration` that it calls has answered.
use Prim.Native.Nat.{ℕ, ◌≤◌, ◌<◌}
use mathlib.Core.Path.{◌≡◌, refl, sym, ap, ◌∙◌}
use mathlib.Core.Bool.{Bool}
use mathlib.Core.List.{List, [], ◌∷◌}
use borrow.Author.Tests.{lt-ltb, le-ltb}
use lib.ListN.{length}
use Rattle.basis.specs.Reply.{Reply, ok, refused, then}
use Rattle.std.specs.Prelude.{Ok, Err}
use Rattle.basis.specs.Refusal.{refusal_number}
use Rattle.basis.specs.declared.refusal.Refusal.{Refusal}
use Rattle.abi.specs.Answers.{flag_of, NumbersWritten}
use Rattle.calibration.specs.Profile.{Fields, fields_of, profile_of, serial_in}
use Rattle.calibration.specs.Lapsed.{lapsed_of}
use Rattle.calibration.specs.Shown.{Whose, whose_of, shown_in}
use Rattle.calibration.specs.Put.{PutProfileIs}
use Rattle.calibration.specs.declared.date.Date.{Date}
use Rattle.calibration.specs.declared.profile.Profile.{Profile}
use Rattle.calibration.proofs.Read.{profile_reply}
use Rattle.calibration_abi.specs.Numbers.{profile_numbers, read_reply, serial_reply, lapsed_reply}
use Rattle.calibration_abi.specs.Numbers.{shown_reply, whose_numbers, shown_from_reply, ProfilePut}

-- first f, then g, is the one after the other
in_two_steps : {A B C : Type 0} (x : Reply A) (f : A → B) (g : B → C) → then (then x (λ a. ok (f a))) (λ b. ok (g b)) ≡ then x (λ a. ok (g (f a)))
in_two_steps (ok a) f g = refl
in_two_steps (refused k) f g = refl

-- the reading of a record, by what `read_profile` answers
serial_by : (x : Reply Fields) (y : Reply Profile) → profile_reply x ≡ y → then x (λ f. ok f.serial) ≡ then y (λ p. ok (serial_in x))
serial_by (ok f) y e = ap (λ (z : Reply Profile). then z (λ p. ok f.serial)) e
serial_by (refused k) y e = ap (λ (z : Reply Profile). then z (λ p. ok [])) e

module _ (s : List ℕ) (y : Reply Profile) (e : profile_reply (fields_of s) ≡ y) where
  pub numbers_by : read_reply s ≡ then y (λ p. ok (profile_numbers p))
  numbers_by = sym (in_two_steps (fields_of s) profile_of profile_numbers) ∙ ap (λ (z : Reply Profile). then z (λ p. ok (profile_numbers p))) e

  pub serial_of : serial_reply s ≡ then y (λ p. ok (serial_in (fields_of s)))
  serial_of = serial_by (fields_of s) y e

-- whether it has lapsed, by what `has_lapsed` answers
pub lapsed_by : (s : List ℕ) (on : Date) (y : Reply Bool) → lapsed_of s on ≡ y → lapsed_reply s on ≡ then y (λ b. ok (flag_of b ∷ []))
lapsed_by s on y e = ap (λ (z : Reply Bool). then z (λ b. ok (flag_of b ∷ []))) e

-- the due date shown, by what `due_shown_from` answers
shown_by : (c d : List ℕ) (x y : Reply Whose) → x ≡ y → then x (λ w. ok (shown_in c d (ok w))) ≡ then y (λ w. ok (shown_in c d x))
shown_by c d (ok w) y e = ap (λ (z : Reply Whose). then z (λ v. ok (shown_in c d (ok w)))) e
shown_by c d (refused k) y e = ap (λ (z : Reply Whose). then z (λ v. ok [])) e

module _ (c d : List ℕ) (y : Reply Whose) (e : whose_of c d ≡ y) where
  pub shown_of : shown_reply c d ≡ then y (λ w. ok (shown_in c d (whose_of c d)))
  shown_of = shown_by c d (whose_of c d) y e

  pub whose_by : shown_from_reply c d ≡ then y (λ w. ok (whose_numbers w))
  whose_by = ap (λ (z : Reply Whose). then z (λ w. ok (whose_numbers w))) e

-- the record that is put: no room for its number; room for it
module _ (f : Fields) (at : ℕ) (b out : List ℕ) where
  pub no_row : length out < 1 → ProfilePut f at b out 16 b out
  no_row h = let n = lt-ltb (length out) 1 h in record { reply = rw n; bytes = rw n; row = rw n }

  module _ (h : 1 ≤ length out) (after : List ℕ) where
    pub put_refused : (k : Refusal) → PutProfileIs f b at (Err k) after → ProfilePut f at b out (refusal_number k) after out
    put_refused k p =
        let n = le-ltb (length out) 1 h in
        let told = sym p.reply in
        record { reply = rw (n, told); bytes = rw n p.buffer; row = rw (n, told) }

    pub profile_written : (k : ℕ) (r : ℕ) (out' : List ℕ) → PutProfileIs f b at (Ok k) after → NumbersWritten 1 (ok (k ∷ [])) out r out'
        → ProfilePut f at b out r after out'
    profile_written k r out' p w =
        let n = le-ltb (length out) 1 h in
        let told = sym p.reply in
        record { reply = rw (n, told) (rw n at w.reply); bytes = rw n p.buffer; row = rw (n, told) (rw n at w.row) }
