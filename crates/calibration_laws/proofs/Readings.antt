-- What `read_profile`, `serial` and `put_profile` answer, in plain words, over their promises (rules 19.1 to 19.5, 19.9
-- and 19.10).
use Prim.Native.Nat.{ℕ, ◌+◌, ◌≤◌, ◌<◌}
use mathlib.Core.Path.{◌≡◌, refl, sym, ap, ◌∙◌}
use mathlib.Core.Logic.{◌↔◌, ◌⊎◌, inl, inr}
use mathlib.Core.List.{List, [], ◌++◌}
use native.Mathlib.Omega.{arith}
use lib.ListN.{length, take, drop}
use lib.Seq.{take_at, drop_at, length-take-le}
use Rattle.basis.specs.Reply.{ok, refused}
use Rattle.basis.specs.Number.{Bytes}
use Rattle.basis.specs.Over.{over_at}
use Rattle.std.specs.Prelude.{Result, Ok, Err}
use Rattle.basis.specs.Refusal.{as_reply, refusal_number}
use Rattle.basis.specs.declared.refusal.Refusal.{Refusal}
use Rattle.basis.specs.declared.refusal.Refusal.TheVariants as refusal
use Rattle.calibration.specs.Profile.{Fields, fields, serial_of, fields_of, profile_of, serial_in, ReadProfileIs, SerialIs, record_of}
use Rattle.calibration.specs.Put.{PutProfileIs}
use Rattle.calibration.specs.declared.profile.Profile.{Profile}
use Rattle.calibration.proofs.OneReply.{read_profile, put_profile}
use Rattle.calibration.proofs.Read.{profile_reply, fields_told, refusal_told}
use Rattle.calibration.proofs.Written.{no_serial, no_date, no_room, written, record_size}
use Rattle.calibration_laws.specs.Plain.{RealDate, OfForm, NoDate, InRange, plain_record}
use Rattle.calibration_laws.proofs.RealDates.{real_date, unreal}
use Rattle.calibration_laws.proofs.Forms.{refused_26, refused_27}
use Rattle.calibration_laws.proofs.OneToOne.{record_bytes, built_read, read_in_range, read_built}

-- a record s, what `read_profile` answers, and what `serial` hands back
module _ (s : List ℕ) (y : Result Profile Refusal) (py : ReadProfileIs s y) where
  -- an answer as what the definition says
  pub read_as : (p : Profile) → y ≡ Ok p → profile_reply (fields_of s) ≡ ok p
  read_as p e = sym py ∙ ap as_reply e

  pub refused_as : (k : Refusal) → y ≡ Err k → fields_of s ≡ refused (refusal_number k)
  refused_as k e = refusal_told s (refusal_number k) (sym py ∙ ap as_reply e)

  refused_answer : (k : Refusal) → fields_of s ≡ refused (refusal_number k) → y ≡ Err k
  refused_answer k e = read_profile s y (Err k) py (sym (ap profile_reply e))

  -- 26 exactly if the bytes are not of this form, 27 exactly if they are and there is no such date (rule 19.5)
  pub read_refused_26 : (y ≡ Err refusal.NotAProfile) ↔ (OfForm s → ⊥)
  read_refused_26 = (λ e. (refused_26 s).0 (refused_as refusal.NotAProfile e), λ n. refused_answer refusal.NotAProfile ((refused_26 s).1 n))

  pub read_refused_27 : (y ≡ Err refusal.NoSuchDate) ↔ NoDate s
  read_refused_27 = (λ e. (refused_27 s).0 (refused_as refusal.NoSuchDate e), λ n. refused_answer refusal.NoSuchDate ((refused_27 s).1 n))

  module _ (z : List ℕ) (pz : SerialIs s z) where
    serial_read : (p : Profile) → y ≡ Ok p → fields_of s ≡ ok (fields z p.due p.capacity)
    serial_read p e =
        let t = fields_told s p (read_as p e) in
        let serial : z ≡ serial_of s = pz ∙ ap serial_in t.fields_are in
        t.fields_are ∙ (λ i. ok (fields (sym serial i) p.due (sym t.capacity_is i)))

    -- of a refused record there is no serial (rule 19.2)
    pub serial_none : (k : Refusal) → y ≡ Err k → z ≡ []
    serial_none k e = pz ∙ ap serial_in (refused_as k e)

    -- a record is read as these fields exactly if it is built of them (rule 19.10)
    pub read_exactly : Bytes s → (p : Profile) → let f = fields z p.due p.capacity in
        (y ≡ Ok p) ↔ (InRange f × (s ≡ plain_record f) × (p.serial ≡ length z))
    read_exactly bytes p =
        let f = fields z p.due p.capacity in (
          λ e.
              let g = serial_read p e in
              let size : ok p ≡ ok (profile_of f) = sym (read_as p e) ∙ ap profile_reply g in
              let same : p ≡ profile_of f = cc in
              (read_in_range s bytes f g, built_read s bytes f g, ap (λ (x : Profile). x.serial) same),
          λ h.
              let g = read_built s f h.0 h.1 in
              let same : profile_of f ≡ p = λ i. record { serial = sym h.2 i; due = p.due; capacity = p.capacity } in
              read_profile s y (Ok p) py (sym (ap profile_reply g ∙ ap (λ (x : Profile). ok x) same)),
        )

-- `put_profile` of some fields into a buffer from a place: its answer and the buffer after it, case by case (rule 19.9)
module _ (f : Fields) (buffer : List ℕ) (at : ℕ) (x : Result ℕ Refusal) (after : List ℕ) (px : PutProfileIs f buffer at x after) where
  pub put_refused_26 : (length f.serial < 1) ⊎ (16 < length f.serial) → (x ≡ Err refusal.NotAProfile) × (after ≡ buffer)
  put_refused_26 (inl h) = put_profile f buffer at x (Err refusal.NotAProfile) after buffer px (no_serial f buffer at (λ lo hi. omega (arith, h, lo)))
  put_refused_26 (inr h) = put_profile f buffer at x (Err refusal.NotAProfile) after buffer px (no_serial f buffer at (λ lo hi. omega (arith, h, hi)))

  module _ (lo : 1 ≤ length f.serial) (hi : length f.serial ≤ 16) where
    pub put_refused_27 : (RealDate f.due → ⊥) → (x ≡ Err refusal.NoSuchDate) × (after ≡ buffer)
    put_refused_27 n =
        put_profile f buffer at x (Err refusal.NoSuchDate) after buffer px (no_date f buffer at lo hi (unreal f.due n))

    module _ (r : RealDate f.due) where
      pub put_refused_16 : length buffer < at + (length f.serial + 16) → (x ≡ Err refusal.DoesNotFit) × (after ≡ buffer)
      put_refused_16 h =
          put_profile f buffer at x (Err refusal.DoesNotFit) after buffer px (no_room f buffer at lo hi ((real_date f.due).1 r) h)

      pub put_written : at + (length f.serial + 16) ≤ length buffer → let n = length f.serial + 16 in
          (x ≡ Ok n) × (after ≡ take at buffer ++ (plain_record f ++ drop (at + n) buffer))
      unfolding over_at
      put_written h =
          let n = length f.serial + 16 in
          let w = put_profile f buffer at x (Ok n) after (over_at at (record_of f) buffer) px
          (written f buffer at lo hi ((real_date f.due).1 r) (over_at at (record_of f) buffer) h refl) in
          (w.0, w.1 ∙ rw (record_size f, record_bytes f))

-- what was written is read back: the part of the buffer from the place on has these fields (rule 19.10)
pub put_then_read : (f : Fields) → InRange f → (buffer : List ℕ) (at : ℕ) (x : Result ℕ Refusal) (after : List ℕ)
    → PutProfileIs f buffer at x after → let n = length f.serial + 16 in
    at + n ≤ length buffer → (y : Result Profile Refusal) → ReadProfileIs (take n (drop at after)) y → (z : List ℕ) → SerialIs (take n (drop at after)) z
    → (y ≡ Ok (record { serial = length f.serial; due = f.due; capacity = f.capacity })) × (z ≡ f.serial)
put_then_read f r buffer at x after px h y py z pz =
    let n = length f.serial + 16 in
    let p = plain_record f in
    let w = (put_written f buffer at x after px r.least r.most r.real h).1 in
    let size : length p ≡ n = ap length (sym (record_bytes f)) ∙ record_size f in
    let behind : drop at after ≡ p ++ drop (at + n) buffer =
    ap (drop at) w ∙ drop_at (take at buffer) (p ++ drop (at + n) buffer) at (length-take-le at buffer (omega (arith, h))) in
    let there : take n (drop at after) ≡ p = ap (take n) behind ∙ take_at p (drop (at + n) buffer) n size in
    let g = read_built (take n (drop at after)) f r there in
    (read_profile (take n (drop at after)) y _ py (sym (ap profile_reply g)), pz ∙ ap serial_in g)

-- and what was read is written again as the same bytes, wherever there is room
pub read_then_put : (s : List ℕ) → Bytes s → (y : Result Profile Refusal) → ReadProfileIs s y → (z : List ℕ) → SerialIs s z → (p : Profile)
    → y ≡ Ok p → (buffer : List ℕ) (at : ℕ) (x : Result ℕ Refusal) (after : List ℕ)
    → PutProfileIs (fields z p.due p.capacity) buffer at x after → at + length s ≤ length buffer
    → (x ≡ Ok (length s)) × (after ≡ take at buffer ++ (s ++ drop (at + length s) buffer))
read_then_put s bytes y py z pz p e buffer at x after px h =
    let f = fields z p.due p.capacity in
    let k = (read_exactly s y py z pz bytes p).0 e in
    let size : length s ≡ length z + 16 = ap length (k.1 ∙ sym (record_bytes f)) ∙ record_size f in
    let w = put_written f buffer at x after px k.0.least k.0.most k.0.real (omega (arith, h, size)) in (
      w.0 ∙ ap (λ (n : ℕ). Ok n) (sym size),
      w.1 ∙ (λ i. take at buffer ++ (sym k.1 i ++ drop (at + sym size i) buffer)),
    )
