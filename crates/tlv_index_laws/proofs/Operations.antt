-- The theorems about the index, of the operations and with the numbers of request 4 (rules 17.3 to 17.12).
use Prim.Native.Nat.{ℕ, ◌+◌, ◌*◌, ◌≤◌, ◌<◌}
use mathlib.Core.Path.{◌≡◌, refl, sym, ap, ◌∙◌}
use mathlib.Core.Logic.{◌⊎◌, inl, inr}
use mathlib.Core.List.{List, [], ◌∷◌, ◌++◌}
use native.Mathlib.Decide.{dec_le}
use native.Mathlib.Omega.{arith}
use borrow.Author.Tests.{ltb-true}
use lib.Dec.{ltb}
use lib.ListN.{length, length-map}
use Rattle.basis.specs.Reply.{ok, refused}
use Rattle.basis.specs.Number.{be}
use Rattle.basis.specs.Every.{Every}
use Rattle.basis.proofs.Every.{every_weaken}
use Rattle.basis.proofs.Reply.{by_reply, refused_not_ok}
use Rattle.tlv.specs.Walk.{walk}
use Rattle.tlv.specs.Lookup.{part}
use Rattle.std.specs.Prelude.{Ok, Err}
use Rattle.basis.specs.Refusal.{refusal_number}
use Rattle.basis.specs.declared.refusal.Refusal.{Refusal}
use Rattle.tlv.specs.declared.Reading.TheVariants.{Crate}
use Rattle.tlv_laws.proofs.TruthValues.{by_test}
use Rattle.tlv_index.specs.Index.{Kind, crate_kind, Entry, Index, entry_of, built}
use Rattle.tlv_index.specs.File.{fields, section, end_section, file_of, decoded}
use Rattle.tlv_index.specs.Build.{written, BuildIndexIs}
use Rattle.tlv_index.specs.Lookup.{through, indexed, GetIndexedIs}
use Rattle.tlv_index.proofs.Builds.{built_long, built_many}
use Rattle.tlv_index.proofs.Sections.{length_file}
use Rattle.tlv_index_laws.specs.Used.{Others, Uses}
use Rattle.tlv_index_laws.proofs.Used.{used_or_none, only_25}
use Rattle.tlv_index_laws.proofs.Lookups.{built_says, only_24, value_alone, end_alone}
use Rattle.tlv_index_laws.specs.Fits.{EntryFits, Fits}
use Rattle.tlv_index_laws.proofs.Files.{file_read}
use Rattle.tlv_index_laws.proofs.Encoded.{no_file}
use Rattle.tlv_index_laws.proofs.Built.{written_says}

-- the form is checked first, for every path: 25 for other bytes, else the lookup through the index in the file
module _ (k : Kind) (f s path : List ℕ) where
  pub through_file : (x : Index) → decoded k.width f ≡ ok x → indexed k f s path ≡ through k.reading x s path
  unfolding indexed
  through_file x g = rw g

  pub no_form : (j : ℕ) → decoded k.width f ≡ refused j → indexed k f s path ≡ refused 25
  unfolding indexed
  no_form j g = rw (g, (no_file k.width f j g).0)

-- so for any file two records of one length that agree on the value of the entry used have one reply
pub file_unseen : (k : Kind) (f s s' : List ℕ) (t : ℕ) (path : List ℕ) → length s' ≡ length s
    → ((x : Index) (e : Entry) → decoded k.width f ≡ ok x → Uses x t e
    → part s' (record { at = e.at; len = e.len }) ≡ part s (record { at = e.at; len = e.len }))
    → indexed k f s' (t ∷ path) ≡ indexed k f s (t ∷ path)
file_unseen k f s s' t path long same =
    by_reply (decoded k.width f) (λ x g.
    through_file k f s' (t ∷ path) x g
    ∙ elim (used_or_none x t) [
      | inl u ↦ value_alone k.reading x s s' long t path u.0 u.1 (same x u.0 g u.1)
      | inr o ↦ end_alone k.reading x s s' long t path o
    ]
    ∙ sym (through_file k f s (t ∷ path) x g))
    (λ j g. no_form k f s' (t ∷ path) j g ∙ sym (no_form k f s (t ∷ path) j g))

-- 24 for more than 65,535 bytes, and for more than 255 objects (the other half of crate_24)
pub crate_long : (s : List ℕ) → 65535 < length s → built crate_kind s ≡ refused 24
crate_long s h = built_long crate_kind s (omega (arith, h))

pub crate_many : (s : List ℕ) → 255 < length (walk Crate 0 s).items → built crate_kind s ≡ refused 24
crate_many s h =
    elim (dec_le (length s) 65535) [
      | yes g ↦ built_many crate_kind s (omega (arith, g)) h
      | no g ↦ crate_long s (omega arith)
    ]

-- how many bytes a file has: none is missing and none stands behind
pub file_length : (x : Index) → length (file_of 2 x) ≡ 12 + 7 * length x.entries
file_length x = omega (arith, length_file 2 x (length x.entries) refl)

-- every index of fitting numbers, these written out, is read in its file
pub plain_file : (x : Index) → length x.entries ≤ 255 → Every (λ e. (e.tag < 16777216) × (e.at < 65536) × (e.len < 65536)) x.entries
    → (x.stop.number ≡ 11) ⊎ (x.stop.number ≡ 12) → x.stop.place < 65536 → decoded 2 (file_of 2 x) ≡ ok x
plain_file x few entries reason place =
    file_read 2 x (record {
      few = few;
      entries = every_weaken (EntryFits 2) (λ e. (e.tag < 16777216) × (e.at < 65536) × (e.len < 65536)) x.entries
          (λ e h. (omega (arith, h.0), omega (arith, h.1), omega (arith, h.2))) entries;
      reason = reason;
      place = omega (arith, place);
    })

-- the bytes of a file of two entries for every width
pub file_parts_of_two : (w t a n t' a' n' k p : ℕ)
    → file_of w (record {
      entries = record { tag = t; at = a; len = n } ∷ record { tag = t'; at = a'; len = n' } ∷ [];
      stop = record { number = k; place = p };
    })
    ≡ (be 2 2 ++ (be 3 t ++ (be 3 t' ++ [])))
    ++ ((be 2 2 ++ (be w a ++ (be w a' ++ []))) ++ ((be 2 2 ++ (be w n ++ (be w n' ++ []))) ++ (be 2 1 ++ (be 2 k ++ be w p))))
unfolding file_of section fields end_section
file_parts_of_two w t a n t' a' n' k p = refl

-- what `build_index` replies: each reply has its own reason, and no two of the reasons hold at once. 24 comes before 16
module _ (s b : List ℕ) (at : ℕ) (after : List ℕ) where
  abbrev objects : ℕ
  objects = length (walk Crate 0 s).items

  pub build_written : (n : ℕ) → BuildIndexIs s b at (Ok n) after
      → (length s ≤ 65535) × (length (walk Crate 0 s).items ≤ 255) × (n ≡ 12 + 7 * length (walk Crate 0 s).items) × (at + n ≤ length b)
  build_written n p =
      let told = sym p.reply in
      by_reply (written crate_kind at (length b) s) (λ f e.
      let w = written_says crate_kind at (length b) s f e in
      let says = built_says crate_kind s w.0 w.1 in
      let size : length f ≡ n = cc (rw e at told) in
      let count : length w.0.entries ≡ objects = ap (λ (x : Index). length x.entries) says.2 ∙ length-map (walk Crate 0 s).items entry_of in
      let long : length f ≡ 12 + 7 * length w.0.entries = ap length w.2 ∙ file_length w.0 in
      (omega (arith, says.0), omega (arith, says.1), omega (arith, size, long, count), omega (arith, size, w.3)))
      (λ j e. absurd (refused_not_ok j n (rw e at told)))

  abbrev Why : ℕ → Type 0
  Why j =
      ((j ≡ 24) × ((65535 < length s) ⊎ (255 < length (walk Crate 0 s).items)))
      ⊎ ((j ≡ 16) × (length s ≤ 65535) × (length (walk Crate 0 s).items ≤ 255) × (length b < at + (12 + 7 * length (walk Crate 0 s).items)))

  pub build_refused : (k : Refusal) → BuildIndexIs s b at (Err k) after → (after ≡ b) × Why (refusal_number k)
  unfolding written
  build_refused k p =
      let j = refusal_number k in
      let told = sym p.reply in
      by_reply (built crate_kind s) (λ x e.
      by_test (ltb (length b) (at + length (file_of 2 x))) (λ t.
      let says = built_says crate_kind s x e in
      let count : length x.entries ≡ objects = ap (λ (y : Index). length y.entries) says.2 ∙ length-map (walk Crate 0 s).items entry_of in
      let past = ltb-true (length b) (at + length (file_of 2 x)) t in
      let number : 16 ≡ j = cc (rw (e, t) at told) in
      (p.buffer ∙ rw (e, t), inr (sym number, omega (arith, says.0), omega (arith, says.1), omega (arith, past, file_length x, count))))
      (λ t. absurd (refused_not_ok j _ (sym (rw (e, t) at told)))))
      (λ i e.
      let number : i ≡ j = cc (rw e at told) in
      let why = only_24 crate_kind s i e in
      (p.buffer ∙ rw e, inl (sym number ∙ why.0, why.1)))

-- what `get_indexed` refuses: 25, for bytes that are no file, or for the entry used
module _ (f s : List ℕ) (k : Refusal) where
  abbrev NoFile : Type 0
  NoFile = (x : Index) → Fits 2 x → file_of 2 x ≡ f → ⊥

  abbrev Past : ℕ → Index → Type 0
  Past t x = ((e : Entry) × Uses x t e × (length s < e.at + e.len)) ⊎ (Others t x.entries × (length s < x.stop.place))

  pub get_refused : (t : ℕ) (path : List ℕ) → GetIndexedIs f s (t ∷ path) (Err k)
      → (refusal_number k ≡ 25) × (NoFile ⊎ ((x : Index) × (decoded 2 f ≡ ok x) × Past t x))
  get_refused t path p =
      by_reply (decoded 2 f) (λ x g.
      let h = only_25 Crate x s t path (refusal_number k) (sym (p ∙ through_file crate_kind f s (t ∷ path) x g)) in
      (h.0, inr (x, g, h.1)))
      (λ j g.
      let same : refusal_number k ≡ 25 = cc (p ∙ no_form crate_kind f s (t ∷ path) j g) in
      (same, inl (no_file 2 f j g).1))
