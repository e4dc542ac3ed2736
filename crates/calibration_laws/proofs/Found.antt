-- An accepted record is found by the lookup: E1, C2 leads to the due date, at the place where it is shown, in every
-- reading (rule 19.11).
use Prim.Native.Nat.{ℕ, ◌+◌, ◌-◌, ◌≤◌, ◌<◌}
use mathlib.Core.Path.{◌≡◌, refl, sym, ap, ◌∙◌}
use mathlib.Core.List.{List, [], ◌∷◌, ◌++◌, append-nil}
use native.Mathlib.Omega.{arith}
use lib.ListN.{length, take, drop, get_or, length-append, get_or-append}
use lib.Seq.{drop_at, take-length}
use Rattle.basis.specs.Reply.{ok, refused}
use Rattle.basis.specs.Number.{be}
use Rattle.basis.proofs.Number.{bytes_none, bytes_more}
use Rattle.tlv.specs.Padding.{padding, zeros}
use Rattle.tlv.specs.Tag.{tag_of, tag_alone}
use Rattle.tlv.specs.Object.{Item, next_of}
use Rattle.tlv.specs.Lookup.{seek, follow, lookup, GetDataObjectIs, value_in, ValueIs}
use Rattle.tlv.specs.declared.Reading.{Reading}
use Rattle.tlv.specs.declared.Reading.TheVariants.{Crate, Standard}
use Rattle.tlv.specs.declared.lookup.Found as code_found
use Rattle.tlv.specs.declared.lookup.Halt as code_halt
use Rattle.tlv.proofs.Walk.{seek_here, seek_next}
use Rattle.tlv.proofs.OneReply.{get_data_object}
use Rattle.tlv_write.specs.Written.{tag_bytes, object_bytes}
use Rattle.tlv_write.proofs.Shown.{len_one}
use Rattle.tlv_laws.specs.Padding.{zero_bytes, moved_lookup}
use Rattle.tlv_laws.specs.ReadBack.{written}
use Rattle.tlv_laws.proofs.ZeroBytes.{zeros_lookup}
use Rattle.tlv_laws.proofs.ReadBack.{written_read}
use Rattle.std.specs.Prelude.{Result, Ok}
use Rattle.basis.specs.declared.refusal.Refusal.{Refusal}
use Rattle.calibration.specs.Profile.{Fields, object, template, serial_of, due_of, capacity_of, fields_of, ReadProfileIs}
use Rattle.calibration.specs.declared.profile.Profile.{Profile}
use Rattle.calibration.proofs.Form.{Formed, profile_formed, inside, inside_size, template_size, serial_size, due_size, capacity_size}
use Rattle.calibration.proofs.Read.{read_says, fields_told}
use Rattle.calibration_laws.specs.Plain.{digit_bytes}
use Rattle.calibration_laws.proofs.Forms.{template_bytes, refused_26}
use Rattle.calibration_laws.proofs.Readings.{read_as}
use Rattle.calibration_laws.proofs.DueShown.{due_there}

-- each tag of the profile takes one byte, in every reading
abbrev OneByte : ℕ → Type 0
OneByte t = (r : Reading) → tag_alone r (t ∷ []) ≡ ok (record { number = t; size = 1 })

tag_e1 : OneByte 0xE1
unfolding tag_alone padding zeros tag_of
tag_e1 Crate = refl
tag_e1 Standard = refl

tag_c1 : OneByte 0xC1
unfolding tag_alone padding zeros tag_of
tag_c1 Crate = refl
tag_c1 Standard = refl

tag_c2 : OneByte 0xC2
unfolding tag_alone padding zeros tag_of
tag_c2 Crate = refl
tag_c2 Standard = refl

-- an object of the profile is what the writer of objects writes
object_written : (t : ℕ) (v : List ℕ) → tag_bytes (be 3 t) ≡ t ∷ [] → length v ≤ 127 → written t v ≡ object t v
unfolding object_bytes object
object_written t v e h = rw (e, len_one (length v) h)

bytes_e1 : tag_bytes (be 3 0xE1) ≡ 0xE1 ∷ []
unfolding tag_bytes be
bytes_e1 = refl

bytes_c1 : tag_bytes (be 3 0xC1) ≡ 0xC1 ∷ []
unfolding tag_bytes be
bytes_c1 = refl

bytes_c2 : tag_bytes (be 3 0xC2) ≡ 0xC2 ∷ []
unfolding tag_bytes be
bytes_c2 = refl

-- so it is read, with anything after it: its value stands after two bytes
object_size : (t : ℕ) (v : List ℕ) → length (object t v) ≡ 2 + length v
unfolding object
object_size t v = omega arith

module _ (r : Reading) (t : ℕ) (below : t < 256) (one : OneByte t) (bytes : tag_bytes (be 3 t) ≡ t ∷ []) (v u : List ℕ) (h : length v ≤ 127) where
  abbrev item : Item
  item = record { place = 0; tag = t; at = 2; len = length v }

  object_read : next_of r (object t v ++ u) ≡ ok item
  object_read =
      let w = object_written t v bytes h in
      let back = written_read r (t ∷ []) (bytes_more t [] below bytes_none) (record { number = t; size = 1 }) (one r) v u (omega (arith, h)) in
      let at : length (written t v) - length v ≡ 2 = omega (arith, ap length w, object_size t v) in
      ap (λ (s : List ℕ). next_of r (s ++ u)) (sym w) ∙ back.object ∙ (λ i. ok (record { place = 0; tag = t; at = at i; len = length v }))

  -- a lookup of its tag finds it; one of another tag goes on after it
  object_here : (a : ℕ) → seek r t a (object t v ++ u) ≡ ok (record { at = a + 2; len = length v })
  object_here a = seek_here r t a (object t v ++ u) item object_read refl

  object_passed : (n a : ℕ) → (t ≡ n → ⊥) → seek r n a (object t v ++ u) ≡ seek r n (a + (2 + length v)) u
  object_passed n a other =
      seek_next r n a (object t v ++ u) item object_read other ∙ ap (seek r n (a + (2 + length v))) (drop_at (object t v) u (2 + length v) (object_size t v))

-- the lookup of E1, C2 in a template
module _ (r : Reading) (v d c : List ℕ) (hi : length v ≤ 16) (hd : length d ≡ 4) (hc : length c ≡ 4) where
  outer_found : seek r 0xE1 0 (template v d c) ≡ ok (record { at = 2; len = length (inside v d c) })
  unfolding template
  outer_found =
      ap (seek r 0xE1 0) (sym (append-nil (object 0xE1 (inside v d c))))
      ∙ object_here r 0xE1 (omega arith) tag_e1 bytes_e1 (inside v d c) [] (omega (arith, inside_size v d c hd hc, hi)) 0

  inner_found : seek r 0xC2 2 (inside v d c) ≡ ok (record { at = length v + 6; len = 4 })
  inner_found =
      let place : 2 + (2 + length v) + 2 ≡ length v + 6 = omega arith in
      object_passed r 0xC1 (omega arith) tag_c1 bytes_c1 v (object 0xC2 d ++ object 0xC3 c) (omega (arith, hi)) 0xC2 2 (λ e. omega (arith, e))
      ∙ object_here r 0xC2 (omega arith) tag_c2 bytes_c2 d (object 0xC3 c) (omega (arith, hd)) (2 + (2 + length v))
      ∙ (λ i. ok (record { at = place i; len = hd i }))

  value_inside : take (length (inside v d c)) (drop 2 (template v d c)) ≡ (inside v d c)
  unfolding template object
  value_inside = take-length (inside v d c)

  template_found : lookup r (template v d c) (0xE1 ∷ 0xC2 ∷ []) ≡ ok (record { at = length v + 6; len = 4; matched = 2 })
  unfolding follow
  template_found = rw (take-length (template v d c), outer_found, value_inside, inner_found)

-- bytes before an accepted record, or behind it, are another form
module _ (s : List ℕ) (f : Fields) (e : fields_of s ≡ ok f) where
  formed : Formed s
  formed = profile_formed s (read_says s f e).form

  pub byte_before : (b : ℕ) → fields_of (b ∷ s) ≡ refused 26
  byte_before b =
      (refused_26 (b ∷ s)).1
      (λ o.
      let second : get_or s 0 0 ≡ length o.serial + 14 = ap (λ (l : List ℕ). get_or l 1 0) o.whole in
      omega (arith, second, formed.heads.outer.0, o.most))

  pub bytes_behind : (b : ℕ) (u : List ℕ) → fields_of (s ++ (b ∷ u)) ≡ refused 26
  bytes_behind b u =
      (refused_26 (s ++ (b ∷ u))).1
      (λ o.
      let lo = formed.least in
      let there = get_or-append s (b ∷ u) 0 1 (omega (arith, lo)) in
      let second : get_or (s ++ (b ∷ u)) 1 0 ≡ length o.serial + 14 = ap (λ (l : List ℕ). get_or l 1 0) o.whole in
      let whole : s ++ (b ∷ u) ≡ template o.serial o.due o.capacity =
      o.whole ∙ sym (template_bytes o.serial o.due o.capacity o.four_of_date o.four_of_capacity) in
      let size : length (s ++ (b ∷ u)) ≡ length o.serial + 16 =
      ap length whole ∙ template_size o.serial o.due o.capacity o.four_of_date o.four_of_capacity in
      omega (arith, there, second, size, length-append s (b ∷ u), formed.heads.outer.1, lo))

-- in a record that was read, the lookup finds the due date at the place where it is shown, whatever the reading is
module _ (s : List ℕ) (y : Result Profile Refusal) (py : ReadProfileIs s y) (p : Profile) (e : y ≡ Ok p) (r : Reading) where
  found : lookup r s (0xE1 ∷ 0xC2 ∷ []) ≡ ok (record { at = p.serial + 6; len = 4; matched = 2 })
  found =
      let t = fields_told s p (read_as s y py p e) in
      let lo = t.formed.least in
      let size : length (serial_of s) ≡ p.serial = serial_size s lo ∙ sym t.serial_is in
      let few : length (serial_of s) ≤ 16 = omega (arith, serial_size s lo, t.formed.most) in
      ap (λ (l : List ℕ). lookup r l (0xE1 ∷ 0xC2 ∷ [])) t.formed.whole
      ∙ template_found r (serial_of s) (due_of s) (capacity_of s) few (due_size s lo) (capacity_size s lo)
      ∙ (λ i. ok (record { at = size i + 6; len = 4; matched = 2 }))

  pub due_found : (g : Result code_found.Found code_halt.Halt) → GetDataObjectIs r s (0xE1 ∷ 0xC2 ∷ []) g → g ≡ Ok (record { at = p.serial + 6; len = 4; matched = 2 })
  due_found g pg = get_data_object r s (0xE1 ∷ 0xC2 ∷ []) g (Ok (record { at = p.serial + 6; len = 4; matched = 2 })) pg (sym found)

  pub due_value : (x : List ℕ) → ValueIs r s (0xE1 ∷ 0xC2 ∷ []) x → x ≡ digit_bytes p.due
  due_value x px = px ∙ ap (value_in s) found ∙ due_there s p (read_as s y py p e)

-- so a record is not what a lookup finds: with a zero byte in front it is refused with 26, and the lookup in the
-- standard reading finds the date as before, one byte further on (rule 19.1)
pub not_by_lookup : (s : List ℕ) (y : Result Profile Refusal) → ReadProfileIs s y → (p : Profile) → y ≡ Ok p
    → (fields_of (0 ∷ s) ≡ refused 26)
    × (lookup Standard (0 ∷ s) (0xE1 ∷ 0xC2 ∷ []) ≡ ok (record { at = p.serial + 7; len = 4; matched = 2 }))
unfolding zero_bytes
not_by_lookup s y py p e =
    let place : 1 + (p.serial + 6) ≡ p.serial + 7 = omega arith in
    let moved = zeros_lookup 1 s 0xE1 (0xC2 ∷ []) ∙ ap (moved_lookup 1) (found s y py p e Standard) in
    (byte_before s _ (fields_told s p (read_as s y py p e)).fields_are 0, moved ∙ (λ i. ok (record { at = place i; len = 4; matched = 2 })))
