-- Laws of a record that is written from a place (rule 19.9).
use Prim.Native.Nat.{ℕ, ◌+◌, ◌/◌, ◌%◌, ◌≤◌, ◌<◌}
use mathlib.Core.Path.{◌≡◌, refl, sym, ap, ◌∙◌}
use mathlib.Core.Bool.{true, false}
use mathlib.Core.List.{List, [], ◌∷◌, ◌++◌, append_assoc}
use native.Mathlib.Omega.{arith}
use lib.ListN.{length}
use borrow.Author.Tests.{lt-ltb, le-ltb}
use Rattle.std.specs.Int.{w32, to_be_bytes}
use Rattle.basis.specs.Number.{be}
use Rattle.basis.specs.Over.{over, over_at}
use Rattle.basis.proofs.Number.{length_be}
use Rattle.basis.proofs.Truth.{same_truth}
use Rattle.calibration.specs.Date.{is_real, date_bytes}
use Rattle.calibration.specs.Profile.{Fields, object, template, is_serial_len, record_of}
use Rattle.calibration.specs.Put.{put_of, PutProfileIs}
use Rattle.basis.specs.declared.refusal.Refusal.TheVariants as refusal
use Rattle.std.specs.Prelude.{Ok, Err}
use Rattle.calibration.proofs.Form.{inside_size, template_size, serial_len_lem, len_serial}

-- a number in four bytes
pub be_four : (n : ℕ) → be 4 n ≡ n / 16777216 % 256 ∷ n / 65536 % 256 ∷ n / 256 % 256 ∷ n % 256 ∷ []
unfolding be
be_four n =
    let a : n / 256 / 256 / 256 ≡ n / 16777216 = omega arith in
    let b : n / 256 / 256 ≡ n / 65536 = omega arith in
    rw (a, b)

pub be_bytes : (n : ℕ) → to_be_bytes w32 n ≡ be 4 n
be_bytes n = sym (be_four n)

pub date_size : (f : Fields) → length (date_bytes f.due) ≡ 4
unfolding date_bytes
date_size f = refl

-- how many bytes a record has, and its parts in the order in which they are written
pub record_size : (f : Fields) → length (record_of f) ≡ length f.serial + 16
unfolding record_of
record_size f = template_size f.serial (date_bytes f.due) (be 4 f.capacity) (date_size f) (length_be 4 f.capacity)

pub record_parts : (f : Fields) → let n = length f.serial in
    record_of f
    ≡ (((0xE1 ∷ (n + 14) ∷ 0xC1 ∷ n ∷ []) ++ f.serial) ++ object 0xC2 (date_bytes f.due)) ++ object 0xC3 (be 4 f.capacity)
unfolding record_of template object
record_parts f =
    let n = length f.serial in
    let d = object 0xC2 (date_bytes f.due) in
    let c = object 0xC3 (be 4 f.capacity) in
    let size = inside_size f.serial (date_bytes f.due) (be 4 f.capacity) (date_size f) (length_be 4 f.capacity) in
    rw size (sym (append_assoc ((0xE1 ∷ (n + 14) ∷ 0xC1 ∷ n ∷ []) ++ f.serial) d c) ∙ refl)

-- an object that was written with a value of these bytes
pub value_known : (t : ℕ) (b v l after : List ℕ) → b ≡ v → after ≡ over (object t b) l → after ≡ over (object t v) l
value_known t b v l after e h = h ∙ ap (λ (x : List ℕ). over (object t x) l) e

-- how the code may answer: 26, then 27, then 16, then that it is written
module _ (f : Fields) (b : List ℕ) (at : ℕ) where
  pub no_serial : (1 ≤ length f.serial → length f.serial ≤ 16 → ⊥) → PutProfileIs f b at (Err refusal.NotAProfile) b
  unfolding put_of
  no_serial h =
      let n = length f.serial in
      let e : is_serial_len n ≡ false = sym (same_truth false (is_serial_len n) (λ t. cc) (λ t. let k = len_serial n t in absurd (h k.0 k.1))) in
      record { reply = rw e; buffer = rw e }

  module _ (lo : 1 ≤ length f.serial) (hi : length f.serial ≤ 16) where
    is_serial : is_serial_len (length f.serial) ≡ true
    is_serial = serial_len_lem (length f.serial) lo hi

    pub no_date : is_real f.due ≡ false → PutProfileIs f b at (Err refusal.NoSuchDate) b
    unfolding put_of
    no_date e = record { reply = rw (is_serial, e); buffer = rw (is_serial, e) }

    module _ (real : is_real f.due ≡ true) where
      pub no_room : length b < at + (length f.serial + 16) → PutProfileIs f b at (Err refusal.DoesNotFit) b
      unfolding put_of
      no_room h =
          let m = lt-ltb (length b) (at + (length f.serial + 16)) h in
          record { reply = rw (is_serial, real, record_size f, m); buffer = rw (is_serial, real, record_size f, m) }

      pub written : (after : List ℕ) → at + (length f.serial + 16) ≤ length b → after ≡ over_at at (record_of f) b
          → PutProfileIs f b at (Ok (length f.serial + 16)) after
      unfolding put_of
      written after h e =
          let m = le-ltb (length b) (at + (length f.serial + 16)) h in
          record { reply = rw (is_serial, real, record_size f, m); buffer = e ∙ rw (is_serial, real, record_size f, m) }
