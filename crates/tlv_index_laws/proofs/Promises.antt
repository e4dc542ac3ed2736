-- What the three operations reply, in plain words, and what `build_index` leaves in the buffer (rules 17.4 to 17.12).
-- The statements are over the promises and name the answers, so that no promise can say another thing than the
-- definitions that it cites.
use Prim.Native.Nat.{ℕ, ◌+◌, ◌≤◌, ◌<◌}
use mathlib.Core.Path.{◌≡◌, sym, ap, ◌∙◌}
use mathlib.Core.List.{List, [], ◌∷◌, ◌++◌, map}
use lib.ListN.{length, take, drop}
use Rattle.std.specs.Prelude.{Result, Ok, Err}
use Rattle.basis.specs.Reply.{ok, refused}
use Rattle.basis.specs.declared.refusal.Refusal.{Refusal}
use Rattle.basis.specs.declared.refusal.Refusal.TheVariants.{NotAnIndex}
use Rattle.basis.specs.Over.{over_at}
use Rattle.basis.proofs.Reply.{by_reply, refused_not_ok}
use Rattle.tlv.specs.Walk.{walk}
use Rattle.tlv.specs.Lookup.{part, lookup, GetDataObjectIs}
use Rattle.tlv.specs.declared.Reading.TheVariants.{Crate}
use Rattle.tlv.specs.declared.lookup.Found.{Found}
use Rattle.tlv.specs.declared.lookup.Halt.{Halt}
use Rattle.tlv.specs.declared.stop.Stop.TheVariants.{End, Unreadable}
use Rattle.tlv.proofs.Entered.{entered_by, follow_entered}
use Rattle.tlv_index.specs.Index.{crate_kind, Entry, Index, built}
use Rattle.tlv_index.specs.File.{file_of, decoded, checked, CheckIndexIs}
use Rattle.tlv_index.specs.Build.{written, BuildIndexIs}
use Rattle.tlv_index.specs.Lookup.{through, GetIndexedIs, indexed_reply}
use Rattle.tlv_index.proofs.OneReply.{check_index, get_indexed}
use Rattle.tlv_index_laws.specs.Used.{Others, Uses}
use Rattle.tlv_index_laws.proofs.Used.{empty_path, value_used, value_past, end_used, end_past}
use Rattle.tlv_index_laws.proofs.Lookups.{built_says, file_lookup}
use Rattle.tlv_index_laws.proofs.Encoded.{no_file}
use Rattle.tlv_index_laws.proofs.Built.{written_says}
use Rattle.tlv_index_laws.proofs.Operations.{through_file, no_form, file_unseen}

-- `check_index`: how many entries the index in the file has; 25 for all other bytes (rule 17.6)
module _ (f : List ℕ) (y : Result ℕ Refusal) (p : CheckIndexIs f y) where
  pub check_entries : (x : Index) → decoded 2 f ≡ ok x → y ≡ Ok (length x.entries)
  unfolding checked
  check_entries x g = check_index f y (Ok (length x.entries)) p (rw g)

  pub check_no_form : (j : ℕ) → decoded 2 f ≡ refused j → y ≡ Err NotAnIndex
  unfolding checked
  check_no_form j g = check_index f y (Err NotAnIndex) p (rw (g, (no_file 2 f j g).0))

-- `build_index`: the file of the record's walk stands from the place on, and the bytes before and after it stay (rule
-- 17.4)
pub build_content : (s b : List ℕ) (at n : ℕ) (after : List ℕ) → BuildIndexIs s b at (Ok n) after
    → after ≡ take at b
    ++ (file_of 2 (record { entries = map (λ i. record { tag = i.tag; at = i.at; len = i.len }) (walk Crate 0 s).items; stop = (walk Crate 0 s).stop })
    ++ drop (at + n) b)
unfolding over_at
build_content s b at n after p =
    let told = sym p.reply in
    by_reply (written crate_kind at (length b) s) (λ f e.
    let w = written_says crate_kind at (length b) s f e in
    let size : length f ≡ n = cc (rw e at told) in
    let content : after ≡ over_at at f b = p.buffer ∙ rw e in
    content ∙ rw (size, w.2, (built_says crate_kind s w.0 w.1).2))
    (λ j e. absurd (refused_not_ok j n (rw e at told)))

-- the answers of `get_indexed`: a value, its place and its length; the end that was reached; an object that cannot be
-- read
abbrev value : ℕ → ℕ → ℕ → Result (Result Found Halt) Refusal
value a n m = Ok (Ok (record { at = a; len = n; matched = m }))

abbrev ended : ℕ → ℕ → Result (Result Found Halt) Refusal
ended a m = Ok (Err (record { stop = End; place = a; matched = m }))

abbrev unreadable : ℕ → ℕ → Result (Result Found Halt) Refusal
unreadable a m = Ok (Err (record { stop = Unreadable; place = a; matched = m }))

module _ (f s : List ℕ) (y : Result (Result Found Halt) Refusal) where
  -- 25 for bytes of another form, for every path (rule 17.10)
  pub get_no_form : (path : List ℕ) (j : ℕ) → decoded 2 f ≡ refused j → GetIndexedIs f s path y → y ≡ Err NotAnIndex
  get_no_form path j g p = get_indexed f s path y (Err NotAnIndex) p (sym (no_form crate_kind f s path j g))

  module _ (x : Index) (g : decoded 2 f ≡ ok x) where
    as_through : (path : List ℕ) (c : Result (Result Found Halt) Refusal) → GetIndexedIs f s path y → through Crate x s path ≡ indexed_reply c → y ≡ c
    as_through path c p h = get_indexed f s path y c p (sym (through_file crate_kind f s path x g ∙ h))

    -- an empty path leads to the whole record (rule 17.8)
    pub get_empty : GetIndexedIs f s [] y → y ≡ value 0 (length s) 0
    get_empty p = as_through [] (value 0 (length s) 0) p (empty_path Crate x s)

    module _ (t : ℕ) (path : List ℕ) (p : GetIndexedIs f s (t ∷ path) y) where
      -- the first entry with the tag is used: 25 if its value ends after the record (rule 17.9); else the rest of the
      -- path is looked up in its value, with places moved by its place, and one tag more has matched (rule 17.8)
      module _ (e : Entry) (u : Uses x t e) where
        pub get_past : length s < e.at + e.len → y ≡ Err NotAnIndex
        get_past h = as_through (t ∷ path) (Err NotAnIndex) p (value_past Crate x s t path e u h)

        module _ (h : e.at + e.len ≤ length s) where
          entered : through Crate x s (t ∷ path) ≡ ok (entered_by e.at 1 (lookup Crate (part s (record { at = e.at; len = e.len })) path))
          entered = value_used Crate x s t path e u h ∙ ap ok (follow_entered Crate s 1 e.at e.len path h)

          pub get_value : (a n m : ℕ) → lookup Crate (part s (record { at = e.at; len = e.len })) path ≡ ok (record { at = a; len = n; matched = m })
              → y ≡ value (e.at + a) n (1 + m)
          get_value a n m l = as_through (t ∷ path) (value (e.at + a) n (1 + m)) p (entered ∙ rw l)

          pub get_end_inside : (a m : ℕ) → lookup Crate (part s (record { at = e.at; len = e.len })) path ≡ refused (record { number = 11; place = a; matched = m })
              → y ≡ ended (e.at + a) (1 + m)
          get_end_inside a m l = as_through (t ∷ path) (ended (e.at + a) (1 + m)) p (entered ∙ rw l)

          pub get_unreadable_inside : (a m : ℕ) → lookup Crate (part s (record { at = e.at; len = e.len })) path ≡ refused (record { number = 12; place = a; matched = m })
              → y ≡ unreadable (e.at + a) (1 + m)
          get_unreadable_inside a m l = as_through (t ∷ path) (unreadable (e.at + a) (1 + m)) p (entered ∙ rw l)

      -- no entry has the tag: the end that is kept, or 25 if its place is after the record (rules 17.7 and 17.9)
      module _ (o : Others t x.entries) where
        pub get_end : x.stop.number ≡ 11 → x.stop.place ≤ length s → y ≡ ended x.stop.place 0
        get_end k h = as_through (t ∷ path) (ended x.stop.place 0) p (end_used Crate x s t path o h ∙ rw k)

        pub get_unreadable : x.stop.number ≡ 12 → x.stop.place ≤ length s → y ≡ unreadable x.stop.place 0
        get_unreadable k h = as_through (t ∷ path) (unreadable x.stop.place 0) p (end_used Crate x s t path o h ∙ rw k)

        pub get_end_past : length s < x.stop.place → y ≡ Err NotAnIndex
        get_end_past h = as_through (t ∷ path) (Err NotAnIndex) p (end_past Crate x s t path o h)

    -- through any file that has the entries of the record's own index, the answer is that of `get_data_object` (rule
    -- 17.11)
    module _ (b : built crate_kind s ≡ ok x) (path : List ℕ) (p : GetIndexedIs f s path y) where
      as_full : (c : Result (Result Found Halt) Refusal) → indexed_reply c ≡ ok (lookup Crate s path) → y ≡ c
      as_full c h = get_indexed f s path y c p (h ∙ sym (file_lookup crate_kind s x b f path g))

      pub same_value : (a n m : ℕ) → GetDataObjectIs Crate s path (Ok (record { at = a; len = n; matched = m })) → y ≡ value a n m
      same_value a n m q = as_full (value a n m) (ap ok q)

      pub same_end : (a m : ℕ) → GetDataObjectIs Crate s path (Err (record { stop = End; place = a; matched = m })) → y ≡ ended a m
      same_end a m q = as_full (ended a m) (ap ok q)

      pub same_unreadable : (a m : ℕ) → GetDataObjectIs Crate s path (Err (record { stop = Unreadable; place = a; matched = m })) → y ≡ unreadable a m
      same_unreadable a m q = as_full (unreadable a m) (ap ok q)

-- two records of one length that agree on the value of the entry used, if there is one, have one answer through any
-- file (rule 17.12)
pub get_unseen : (f s s' : List ℕ) (t : ℕ) (path : List ℕ) (y y' : Result (Result Found Halt) Refusal) → length s' ≡ length s
    → ((x : Index) (e : Entry) → decoded 2 f ≡ ok x → Uses x t e
    → part s' (record { at = e.at; len = e.len }) ≡ part s (record { at = e.at; len = e.len }))
    → GetIndexedIs f s (t ∷ path) y → GetIndexedIs f s' (t ∷ path) y' → y' ≡ y
get_unseen f s s' t path y y' long same p q =
    get_indexed f s (t ∷ path) y' y (q ∙ file_unseen crate_kind f s s' t path long same) p
