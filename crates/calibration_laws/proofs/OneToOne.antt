-- Fields and bytes correspond one to one: a record is accepted exactly if it is built of some fields (rule 19.10).
use Prim.Native.Nat.{ℕ, ◌+◌, ◌/◌, ◌%◌, ◌<◌}
use mathlib.Core.Path.{◌≡◌, refl, sym, ap, ◌∙◌, subst}
use mathlib.Core.Logic.{◌↔◌}
use mathlib.Core.List.{List, [], ◌∷◌}
use native.Mathlib.Omega.{arith}
use lib.ListN.{length, drop, get_or}
use Rattle.basis.specs.Reply.{ok}
use Rattle.basis.specs.Number.{Bytes, be, number}
use Rattle.basis.proofs.Number.{length_be, number_be, bytes_take, bytes_drop}
use Rattle.calibration.specs.Date.{date_in, date_of, date_bytes}
use Rattle.calibration.specs.Profile.{Fields, fields, serial_len, serial_of, due_place, due_of, capacity_of, record_of, fields_of}
use Rattle.calibration.proofs.Form.{profile_formed, serial_size, due_size, capacity_size}
use Rattle.calibration.proofs.Digits.{four, number_of_four, bytes_back, date_read}
use Rattle.calibration.proofs.Read.{read_says}
use Rattle.calibration.proofs.Written.{be_four, date_size}
use Rattle.calibration_laws.specs.Plain.{digit_bytes, form_bytes, InRange, plain_record}
use Rattle.calibration_laws.proofs.RealDates.{real_date, date_digits}
use Rattle.calibration_laws.proofs.Forms.{template_bytes, there}

-- four bytes and the number in them
module _ (b : List ℕ) (size : length b ≡ 4) (bytes : Bytes b) where
  four_below : number b < 4294967296
  four_below = omega (arith, number_of_four b size, bytes 0, bytes 1, bytes 2, bytes 3)

  four_back : (number b / 16777216 % 256 ∷ number b / 65536 % 256 ∷ number b / 256 % 256 ∷ number b % 256 ∷ []) ≡ b
  four_back =
      let n = number_of_four b size in
      let w : number b / 16777216 % 256 ≡ get_or b 0 0 = omega (arith, n, bytes 0, bytes 1, bytes 2, bytes 3) in
      let x : number b / 65536 % 256 ≡ get_or b 1 0 = omega (arith, n, bytes 0, bytes 1, bytes 2, bytes 3) in
      let y : number b / 256 % 256 ≡ get_or b 2 0 = omega (arith, n, bytes 0, bytes 1, bytes 2, bytes 3) in
      let z : number b % 256 ≡ get_or b 3 0 = omega (arith, n, bytes 0, bytes 1, bytes 2, bytes 3) in
      rw (w, x, y, z) (sym (four b size))

-- the record that the builder writes, in plain bytes
pub record_bytes : (f : Fields) → record_of f ≡ plain_record f
unfolding record_of
record_bytes f =
    template_bytes f.serial (date_bytes f.due) (be 4 f.capacity) (date_size f) (length_be 4 f.capacity)
    ∙ ap (λ (d : List ℕ). form_bytes f.serial d (be 4 f.capacity)) (date_digits f.due)
    ∙ ap (λ (c : List ℕ). form_bytes f.serial (digit_bytes f.due) c) (be_four f.capacity)

-- building what was read gives the bytes
module _ (s : List ℕ) (bytes : Bytes s) (f : Fields) (e : fields_of s ≡ ok f) where
  pub built_read : s ≡ plain_record f
  built_read =
      let r = read_says s f e in
      let m = profile_formed s r.form in
      let d = bytes_back (due_of s) (due_size s m.least) r.digits in
      let c = four_back (capacity_of s) (capacity_size s m.least) (bytes_take 4 (drop (due_place s + 6) s) (bytes_drop (due_place s + 6) s bytes)) in
      m.whole ∙ template_bytes (serial_of s) (due_of s) (capacity_of s) (due_size s m.least) (capacity_size s m.least)
      ∙ ap (λ (x : List ℕ). form_bytes (serial_of s) x (capacity_of s)) (sym d ∙ date_digits (date_in (due_of s)))
      ∙ ap (λ (x : List ℕ). form_bytes (serial_of s) (digit_bytes (date_in (due_of s))) x) (sym c)
      ∙ ap plain_record (sym r.same)

  pub read_in_range : InRange f
  read_in_range =
      let r = read_says s f e in
      let m = profile_formed s r.form in
      let size = serial_size s m.least in
      let same = r.same in
      let from : InRange (fields (serial_of s) (date_in (due_of s)) (number (capacity_of s))) =
      record {
        bytes = bytes_take (serial_len s) (drop 4 s) (bytes_drop 4 s bytes);
        least = omega (arith, size, m.least);
        most = omega (arith, size, m.most);
        real = (real_date (date_in (due_of s))).0 r.real;
        four_bytes = four_below (capacity_of s) (capacity_size s m.least) (bytes_take 4 (drop (due_place s + 6) s) (bytes_drop (due_place s + 6) s bytes));
      } in
      subst InRange (sym same) from

-- reading what was built gives the fields
pub read_built : (s : List ℕ) (f : Fields) → InRange f → s ≡ plain_record f → fields_of s ≡ ok f
unfolding fields_of
read_built s f r e =
    let t = there s f.serial (digit_bytes f.due) _ (omega (arith, r.least)) (omega (arith, r.most)) refl refl e in
    let date : date_of (due_of s) ≡ ok f.due =
    ap date_of (t.due ∙ sym (date_digits f.due)) ∙ date_read f.due ((real_date f.due).1 r.real) in
    let capacity : number (capacity_of s) ≡ f.capacity =
    ap number (t.capacity ∙ sym (be_four f.capacity)) ∙ number_be 4 f.capacity r.four_bytes in
    rw (t.form, date) (λ i. ok (fields (t.serial i) f.due (capacity i)))

-- accepted are exactly those bytes that are built of some fields, and these are the fields that are read (rule 19.10)
pub accepted : (s : List ℕ) → Bytes s → (f : Fields) → (fields_of s ≡ ok f) ↔ (InRange f × (s ≡ plain_record f))
accepted s bytes f =
    (λ e. (read_in_range s bytes f e, built_read s bytes f e), λ h. read_built s f h.0 h.1)

-- so different fields have different bytes, and different bytes different fields
pub fields_apart : (f g : Fields) → InRange f → InRange g → plain_record f ≡ plain_record g → f ≡ g
fields_apart f g hf hg e =
    let a = read_built (plain_record f) f hf refl in
    let b = read_built (plain_record f) g hg e in
    let c : ok f ≡ ok g = sym a ∙ b in
    cc

pub bytes_apart : (s t : List ℕ) → Bytes s → Bytes t → (f : Fields) → fields_of s ≡ ok f → fields_of t ≡ ok f → s ≡ t
bytes_apart s t hs ht f a b = built_read s hs f a ∙ sym (built_read t ht f b)
