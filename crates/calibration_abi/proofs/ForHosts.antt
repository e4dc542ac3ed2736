-- What a host program sees of each function, in plain words: the status, the bytes and the numbers (rule 19.12). The
-- statements are over the promises. A date is written out here by its three numbers, and so are the bytes of a record.
use Prim.Native.Nat.{ℕ, ◌+◌, ◌/◌, ◌%◌, ◌≤◌, ◌<◌}
use mathlib.Core.Path.{◌≡◌, refl, sym, ap, ◌∙◌}
use mathlib.Core.Bool.{true, false}
use mathlib.Core.List.{List, [], ◌∷◌, ◌++◌}
use native.Mathlib.Omega.{arith}
use borrow.Author.Tests.{lt-ltb, le-ltb}
use lib.ListN.{length, take, drop, length-drop}
use lib.Seq.{length-take-le}
use Rattle.basis.specs.Reply.{ok, refused}
use Rattle.basis.specs.Over.{over, over_at}
use Rattle.abi.specs.Answers.{NumbersWritten, ReplyCopied}
use Rattle.calibration.specs.Date.{is_real, day_number, date_of, packed, date_bytes, is_earlier}
use Rattle.calibration.specs.Profile.{Fields, fields, object, is_profile, due_place, due_of, fields_of, record_of}
use Rattle.calibration.specs.Lapsed.{lapsed_of}
use Rattle.calibration.specs.Shown.{card, desk, whose_of}
use Rattle.calibration.specs.Put.{put_of}
use Rattle.calibration.specs.declared.date.Date.{Date}
use Rattle.calibration.proofs.Form.{profile_formed, serial_size}
use Rattle.calibration.proofs.Read.{form_26, date_27, read_says}
use Rattle.calibration.proofs.Lapsing as law
use Rattle.calibration.proofs.Due as shown
use Rattle.calibration.proofs.Written.{be_four, record_parts, no_serial, no_date, no_room, written}
use Rattle.calibration_abi.specs.Numbers.{date_by, fields_by, profile_numbers, read_reply, serial_reply, lapsed_reply}
use Rattle.calibration_abi.specs.Numbers.{shown_reply, shown_from_reply, ProfilePut}
use Rattle.calibration_abi.proofs.Promises.{above_then, fields_above, lapsed_above, whose_above}
use Rattle.calibration_abi.proofs.Promises.{numbers, no_numbers, short_row, bytes, short_room, no_bytes, no_number}

-- when a record is refused: 26 if it is not of the form; 27 if it is, and there is no such date (rule 19.5)
module _ (s : List ℕ) where
  pub no_form_26 : is_profile s ≡ false → fields_of s ≡ refused 26
  no_form_26 = form_26 s

  pub no_date_27 : is_profile s ≡ true → date_of (due_of s) ≡ refused 27 → fields_of s ≡ refused 27
  no_date_27 = date_27 s

-- a record is read: its five numbers, or its refusal; 16 for every record if these cannot be written (rule 19.5)
module _ (s out : List ℕ) (r : ℕ) (out' : List ℕ) (p : NumbersWritten 5 (read_reply s) out r out') where
  pub fields_told : (f : Fields) → fields_of s ≡ ok f → 5 ≤ length out
      → (r ≡ 0) × (out' ≡ over (length f.serial ∷ f.due.year ∷ f.due.month ∷ f.due.day ∷ f.capacity ∷ []) out)
  unfolding profile_numbers
  fields_told f e h = numbers 5 (read_reply s) out r out' p _ (rw e) h

  pub fields_refused : (k : ℕ) → fields_of s ≡ refused k → 5 ≤ length out → (r ≡ k) × (out' ≡ out)
  fields_refused k e h = no_numbers 5 (read_reply s) out r out' p k (rw e) h

  pub fields_not_told : length out < 5 → (r ≡ 16) × (out' ≡ out)
  fields_not_told h = short_row 5 (read_reply s) out r out' p (above_then (fields_of s) _ (fields_above s) (λ f. tt)) h

-- the serial is copied: 16 for the row, the record's refusal, 16 for the room (rule 19.2)
module _ (s to out : List ℕ) (r : ℕ) (to' out' : List ℕ) (p : ReplyCopied (serial_reply s) to out r to' out') where
  pub serial_not_told : length out < 1 → (r ≡ 16) × (to' ≡ to) × (out' ≡ out)
  serial_not_told h = no_number to out r to' out' (serial_reply s) (above_then (fields_of s) _ (fields_above s) (λ f. tt)) h p

  module _ (h : 1 ≤ length out) where
    pub serial_refused : (k : ℕ) → fields_of s ≡ refused k → (r ≡ k) × (to' ≡ to) × (out' ≡ out)
    serial_refused k e = no_bytes to out r to' out' (serial_reply s) p h k (rw e)

    pub serial_too_long : (f : Fields) → fields_of s ≡ ok f → length to < length f.serial → (r ≡ 16) × (to' ≡ to) × (out' ≡ out)
    serial_too_long f e g = short_room to out r to' out' (serial_reply s) p h f.serial (rw e) g

    pub serial_told : (f : Fields) → fields_of s ≡ ok f → length f.serial ≤ length to
        → (r ≡ 0) × (to' ≡ over f.serial to) × (out' ≡ over (length f.serial ∷ []) out)
    serial_told f e g = bytes to out r to' out' (serial_reply s) p h f.serial (rw e) g

-- the date of a year, a month and a day
abbrev pub day : ℕ → ℕ → ℕ → Date
day y m d = record { year = y; month = m; day = d }

-- lapsed on the date y, m, d: 1, not lapsed: 0; 16 for the row, the record's refusal, 27 for the date (rule 19.6)
module _ (s : List ℕ) (y m d : ℕ) (out : List ℕ) (r : ℕ) (out' : List ℕ) (p : NumbersWritten 1 (lapsed_reply s (date_by y m d)) out r out') where
  on_that_day : NumbersWritten 1 (lapsed_reply s (day y m d)) out r out'
  on_that_day = p

  pub lapsed_not_told : length out < 1 → (r ≡ 16) × (out' ≡ out)
  lapsed_not_told h =
      short_row 1 (lapsed_reply s (day y m d)) out r out' on_that_day
      (above_then (lapsed_of s (day y m d)) _ (lapsed_above s (day y m d)) (λ b. tt)) h

  module _ (h : 1 ≤ length out) where
    pub lapsed_refused : (k : ℕ) → fields_of s ≡ refused k → (r ≡ k) × (out' ≡ out)
    lapsed_refused k e =
        no_numbers 1 (lapsed_reply s (day y m d)) out r out' on_that_day k (rw (law.lapsed_refused s (day y m d) k e)) h

    module _ (f : Fields) (e : fields_of s ≡ ok f) where
      pub no_such_date : is_real (day y m d) ≡ false → (r ≡ 27) × (out' ≡ out)
      no_such_date n =
          no_numbers 1 (lapsed_reply s (day y m d)) out r out' on_that_day 27 (rw (law.lapsed_unreal s (day y m d) f e n)) h

      pub lapsed_told : is_real (day y m d) ≡ true → day_number f.due < day_number (day y m d) → (r ≡ 0) × (out' ≡ over (1 ∷ []) out)
      unfolding is_earlier
      lapsed_told n l =
          let earlier = lt-ltb (day_number f.due) (day_number (day y m d)) l in
          numbers 1 (lapsed_reply s (day y m d)) out r out' on_that_day (1 ∷ []) (rw (law.lapsed_real s (day y m d) f e n, earlier)) h

      pub not_lapsed_told : is_real (day y m d) ≡ true → day_number (day y m d) ≤ day_number f.due → (r ≡ 0) × (out' ≡ over (0 ∷ []) out)
      unfolding is_earlier
      not_lapsed_told n l =
          let not-Earlier = le-ltb (day_number f.due) (day_number (day y m d)) l in
          numbers 1 (lapsed_reply s (day y m d)) out r out' on_that_day (0 ∷ []) (rw (law.lapsed_real s (day y m d) f e n, not-Earlier)) h

-- the due date of a record that was read: behind the serial and six more bytes, and four bytes long
module _ (s : List ℕ) (f : Fields) (e : fields_of s ≡ ok f) where
  due_place_lem : due_place s ≡ length f.serial + 6
  due_place_lem =
      let t = read_says s f e in
      let size = serial_size s (profile_formed s t.form).least in
      sym (ap (λ (g : Fields). length g.serial + 6) t.same ∙ ap (λ (n : ℕ). n + 6) size)

  due_size : length (take 4 (drop (length f.serial + 6) s)) ≡ 4
  due_size =
      let least = (profile_formed s (read_says s f e).form).least in
      length-take-le 4 (drop (length f.serial + 6) s) (simp length-drop (omega (arith, least, due_place_lem)))

-- whose due date is shown, by what the reading of the two records says
module _ (c d : List ℕ) where
  whose_card : (f : Fields) → fields_of c ≡ ok f → whose_of c d ≡ ok (card (length f.serial + 6))
  whose_card f e = shown.whose_card c d f e ∙ ap (λ (n : ℕ). ok (card n)) (due_place_lem c f e)

  whose_desk : (k : ℕ) (f : Fields) → fields_of c ≡ refused k → fields_of d ≡ ok f → whose_of c d ≡ ok (desk (length f.serial + 6))
  whose_desk k f n e = shown.whose_desk c d k f n e ∙ ap (λ (n : ℕ). ok (desk n)) (due_place_lem d f e)

-- the due date shown is copied: 16 for the row, the desk's refusal if both are refused, 16 for the room (rule 19.7)
module _ (c d to out : List ℕ) (r : ℕ) (to' out' : List ℕ) (p : ReplyCopied (shown_reply c d) to out r to' out') where
  pub shown_not_told : length out < 1 → (r ≡ 16) × (to' ≡ to) × (out' ≡ out)
  shown_not_told h = no_number to out r to' out' (shown_reply c d) (above_then (whose_of c d) _ (whose_above c d) (λ w. tt)) h p

  module _ (h : 1 ≤ length out) where
    pub shown_refused : (j k : ℕ) → fields_of c ≡ refused j → fields_of d ≡ refused k → (r ≡ k) × (to' ≡ to) × (out' ≡ out)
    shown_refused j k n e = no_bytes to out r to' out' (shown_reply c d) p h k (rw (shown.whose_none c d j k n e))

    module _ (f : Fields) (e : fields_of c ≡ ok f) where
      pub card_too_long : length to < 4 → (r ≡ 16) × (to' ≡ to) × (out' ≡ out)
      card_too_long g =
          short_room to out r to' out' (shown_reply c d) p h (take 4 (drop (length f.serial + 6) c)) (rw (whose_card c d f e))
          (omega (arith, g, due_size c f e))

      pub card_told : 4 ≤ length to
          → (r ≡ 0) × (to' ≡ over (take 4 (drop (length f.serial + 6) c)) to) × (out' ≡ over (4 ∷ []) out)
      card_told g =
          rw (due_size c f e) at
          (bytes to out r to' out' (shown_reply c d) p h (take 4 (drop (length f.serial + 6) c)) (rw (whose_card c d f e))
          (omega (arith, g, due_size c f e)))

    module _ (k : ℕ) (f : Fields) (n : fields_of c ≡ refused k) (e : fields_of d ≡ ok f) where
      pub desk_too_long : length to < 4 → (r ≡ 16) × (to' ≡ to) × (out' ≡ out)
      desk_too_long g =
          short_room to out r to' out' (shown_reply c d) p h (take 4 (drop (length f.serial + 6) d)) (rw (whose_desk c d k f n e))
          (omega (arith, g, due_size d f e))

      pub desk_told : 4 ≤ length to
          → (r ≡ 0) × (to' ≡ over (take 4 (drop (length f.serial + 6) d)) to) × (out' ≡ over (4 ∷ []) out)
      desk_told g =
          rw (due_size d f e) at
          (bytes to out r to' out' (shown_reply c d) p h (take 4 (drop (length f.serial + 6) d)) (rw (whose_desk c d k f n e))
          (omega (arith, g, due_size d f e)))

-- whose it is and where: 0 and the place in the card's record, 1 and the place in the desk's (rule 19.8)
module _ (c d out : List ℕ) (r : ℕ) (out' : List ℕ) (p : NumbersWritten 2 (shown_from_reply c d) out r out') where
  pub place_not_told : length out < 2 → (r ≡ 16) × (out' ≡ out)
  place_not_told h = short_row 2 (shown_from_reply c d) out r out' p (above_then (whose_of c d) _ (whose_above c d) (λ w. tt)) h

  module _ (h : 2 ≤ length out) where
    pub place_refused : (j k : ℕ) → fields_of c ≡ refused j → fields_of d ≡ refused k → (r ≡ k) × (out' ≡ out)
    place_refused j k n e = no_numbers 2 (shown_from_reply c d) out r out' p k (rw (shown.whose_none c d j k n e)) h

    pub card_place_told : (f : Fields) → fields_of c ≡ ok f → (r ≡ 0) × (out' ≡ over (0 ∷ (length f.serial + 6) ∷ []) out)
    card_place_told f e =
        numbers 2 (shown_from_reply c d) out r out' p (0 ∷ (length f.serial + 6) ∷ []) (rw (whose_card c d f e)) h

    pub desk_place_told : (k : ℕ) (f : Fields) → fields_of c ≡ refused k → fields_of d ≡ ok f
        → (r ≡ 0) × (out' ≡ over (1 ∷ (length f.serial + 6) ∷ []) out)
    desk_place_told k f n e =
        numbers 2 (shown_from_reply c d) out r out' p (1 ∷ (length f.serial + 6) ∷ []) (rw (whose_desk c d k f n e)) h

-- the bytes of a record, written out (rules 19.1 to 19.3)
abbrev pub profile_bytes : List ℕ → ℕ → ℕ → ℕ → ℕ → List ℕ
profile_bytes v y m d capacity =
    (((0xE1 ∷ (length v + 14) ∷ 0xC1 ∷ length v ∷ []) ++ v)
    ++ (0xC2 ∷ 4 ∷ packed (y / 100) ∷ packed (y % 100) ∷ packed m ∷ packed d ∷ []))
    ++ (0xC3 ∷ 4 ∷ capacity / 16777216 % 256 ∷ capacity / 65536 % 256 ∷ capacity / 256 % 256 ∷ capacity % 256 ∷ [])

profile_bytes_lem : (v : List ℕ) (y m d capacity : ℕ) → record_of (fields v (day y m d) capacity) ≡ profile_bytes v y m d capacity
unfolding object date_bytes
profile_bytes_lem v y m d capacity =
    record_parts (fields v (day y m d) capacity) ∙ rw (be_four capacity)

-- a record is put: 16 for the row, 26, 27, 16 for the buffer; else its bytes, and how many these are (rule 19.9)
module _ (v : List ℕ) (y m d capacity at : ℕ) (b out : List ℕ) (r : ℕ) (b' out' : List ℕ)
    (p : ProfilePut (fields_by v y m d capacity) at b out r b' out') where
  of_these_fields : ProfilePut (fields v (day y m d) capacity) at b out r b' out'
  of_these_fields = p

  pub put_not_told : length out < 1 → (r ≡ 16) × (b' ≡ b) × (out' ≡ out)
  put_not_told h = let n = lt-ltb (length out) 1 h in let q = of_these_fields in (rw n at q.reply, rw n at q.bytes, rw n at q.row)

  module _ (h : 1 ≤ length out) where
    put_refused : (k : ℕ) → put_of at (length b) (fields v (day y m d) capacity) ≡ refused k → (r ≡ k) × (b' ≡ b) × (out' ≡ out)
    put_refused k e =
        let n = le-ltb (length out) 1 h in
        let q = of_these_fields in
        (rw (n, e) at q.reply, rw (n, e) at q.bytes, rw (n, e) at q.row)

    pub no_serial_26 : length v ≡ 0 → (r ≡ 26) × (b' ≡ b) × (out' ≡ out)
    no_serial_26 e = put_refused 26 (sym (no_serial (fields v (day y m d) capacity) b at (λ lo hi. omega (arith, lo, e))).reply)

    pub long_serial_26 : 16 < length v → (r ≡ 26) × (b' ≡ b) × (out' ≡ out)
    long_serial_26 e = put_refused 26 (sym (no_serial (fields v (day y m d) capacity) b at (λ lo hi. omega (arith, hi, e))).reply)

    module _ (lo : 1 ≤ length v) (hi : length v ≤ 16) where
      pub put_no_date_27 : is_real (day y m d) ≡ false → (r ≡ 27) × (b' ≡ b) × (out' ≡ out)
      put_no_date_27 e = put_refused 27 (sym (no_date (fields v (day y m d) capacity) b at lo hi e).reply)

      module _ (real : is_real (day y m d) ≡ true) where
        pub put_no_room_16 : length b < at + (length v + 16) → (r ≡ 16) × (b' ≡ b) × (out' ≡ out)
        put_no_room_16 g = put_refused 16 (sym (no_room (fields v (day y m d) capacity) b at lo hi real g).reply)

        pub put_told : at + (length v + 16) ≤ length b
            → (r ≡ 0) × (b' ≡ over_at at (profile_bytes v y m d capacity) b) × (out' ≡ over ((length v + 16) ∷ []) out)
        put_told g =
            let f = fields v (day y m d) capacity in
            let n = le-ltb (length out) 1 h in
            let e = sym (written f b at lo hi real (over_at at (record_of f) b) g refl).reply in
            let q = of_these_fields in (
              rw (n, e) at q.reply,
              (rw (n, e) at q.bytes) ∙ ap (λ (u : List ℕ). over_at at u b) (profile_bytes_lem v y m d capacity),
              rw (n, e) at q.row,
            )
