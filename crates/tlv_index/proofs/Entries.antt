-- The entry used, entry by entry of a file; and the lookup through a file, test by test (rules 17.7 to 17.10).
use Prim.Native.Nat.{ℕ, suc, ◌+◌, ◌-◌, ◌*◌, ◌≤◌, ◌<◌}
use native.Mathlib.Nat.{add-sub_cancel_left}
use mathlib.Core.Path.{◌≡◌, refl, sym, ap, ◌∙◌, subst}
use mathlib.Core.Bool.{Bool, true, false}
use mathlib.Core.List.{List, [], ◌∷◌}
use native.Mathlib.Omega.{arith}
use borrow.Author.Tests.{eq-eqb, ne_eqb, le-leb, lt-leb}
use lib.Dec.{eqb}
use lib.ListN.{length, get_or, take, drop, length-take, length-drop}
use Rattle.basis.specs.Reply.{Told, ok, refused}
use Rattle.basis.proofs.Reply.{by_reply, refused_not_ok}
use Rattle.basis.proofs.Over.{rest_is}
use Rattle.tlv.specs.Object.{Stop}
use Rattle.tlv.specs.Lookup.{Span, part, Found, Halt, follow, lookup}
use Rattle.tlv.specs.declared.Reading.{Reading}
use Rattle.tlv.specs.declared.Reading.TheVariants.{Crate}
use Rattle.tlv.proofs.Entered.{Tells, entered_by, follow_entered, lookup_tells}
use Rattle.tlv_index.specs.Index.{Kind, crate_kind}
use Rattle.tlv_index.specs.File.{field, end_count, file_size, entry_in, entries_from, index_in, is_reason, is_file, decoded, checked}
use Rattle.tlv_index.specs.Lookup.{value_of, first_entry, used_in, through, indexed}
use Rattle.tlv_index.proofs.Files.{entries_end, entries_next, file_parts, file_reason, checked_ok}

module _ (w n : ℕ) (f : List ℕ) (t i : ℕ) (e : Stop) where
  -- entry number i has the tag, has another tag, or there are no more entries
  module _ (h : i < n) where
    from_here : entries_from w n f i (n - i) ≡ entry_in w n f i ∷ entries_from w n f (i + 1) (n - (i + 1))
    from_here =
        let more : n - i ≡ suc (n - (i + 1)) = omega arith in
        rw more (entries_next w n f i (n - (i + 1)))

    pub entry_here : field 3 (2 + 3 * i) f ≡ t → first_entry t (entries_from w n f i (n - i)) e ≡ ok (value_of (entry_in w n f i))
    unfolding first_entry
    entry_here g = rw (from_here, eq-eqb (field 3 (2 + 3 * i) f) t g)

    pub entry_next : (field 3 (2 + 3 * i) f ≡ t → ⊥)
        → first_entry t (entries_from w n f i (n - i)) e ≡ first_entry t (entries_from w n f (i + 1) (n - (i + 1))) e
    unfolding first_entry
    entry_next g = rw (from_here, ne_eqb (field 3 (2 + 3 * i) f) t g)

  pub entry_none : n ≤ i → first_entry t (entries_from w n f i (n - i)) e ≡ refused e
  unfolding first_entry
  entry_none h = rw (entries_end w n f i (n - i) (omega arith))

-- a path without a tag, and one with a first tag
none : (path : List ℕ) → length path ≡ 0 → path ≡ []
none [] h = refl
none (t ∷ path) h = absurd (omega arith)

first : (path : List ℕ) → eqb (length path) 0 ≡ false → path ≡ get_or path 0 0 ∷ drop 1 path
first [] h = cc
first (t ∷ path) h = refl

module _ (k : Kind) (f : List ℕ) where
  -- a file that is checked has the form, and its first count is how many entries it has
  pub checked_file : (n : ℕ) → checked k f ≡ ok n → (is_file k.width f ≡ true) × (n ≡ field 2 0 f)
  unfolding checked decoded
  checked_file n = by_form (is_file k.width f) refl
    where
      by_form : (b : Bool) → is_file k.width f ≡ b → checked k f ≡ ok n → (is_file k.width f ≡ true) × (n ≡ field 2 0 f)
      by_form true h e = (h, cc (sym (checked_ok k.width (field 2 0 f) f refl k refl h) ∙ e))
      by_form false h e = absurd (refused_not_ok 25 n (rw h at e))

  -- a lookup through a file of another form
  module _ (s path : List ℕ) where
    pub indexed_refused : (j : ℕ) → checked k f ≡ refused j → indexed k f s path ≡ refused j
    unfolding checked indexed
    indexed_refused j e = by_reply (decoded k.width f) (λ x g. absurd (refused_not_ok j _ (sym (rw g at e)))) (λ i g. let same : i ≡ j = cc (rw g at e) in rw (g, same))

    -- through a file of n entries: of an empty path, and of a path with a first tag
    module _ (n : ℕ) (e : checked k f ≡ ok n) where
      decoded_file : decoded k.width f ≡ ok (index_in k.width n f)
      unfolding decoded
      decoded_file = let c = checked_file n e in rw (c.0, c.1)

      pub indexed_empty : length path ≡ 0 → indexed k f s path ≡ ok (ok (record { at = 0; len = length s; matched = 0 }))
      unfolding indexed through
      indexed_empty h = rw (decoded_file, none path h)

      pub indexed_used : eqb (length path) 0 ≡ false
          → indexed k f s path ≡ used_in k.reading s (drop 1 path) (first_entry (get_or path 0 0) (index_in k.width n f).entries (index_in k.width n f).stop)
      unfolding indexed through
      indexed_used h = rw (decoded_file, first path h)

-- what holds of a file of n entries
pub entries_of_file : (n : ℕ) (f : List ℕ) → checked crate_kind f ≡ ok n
    → (file_size 2 n ≡ length f) × (is_reason (field 2 (end_count 2 n + 2) f) ≡ true)
entries_of_file n f e =
    let c = checked_file crate_kind f n e in
    let p = file_parts 2 n f c.1 c.0 in
    (sym p.1, file_reason 2 n f c.1 c.0)

-- a value in the record that is entered: the lookup in its bytes, with its places moved and one tag more that matched
module _ (s path : List ℕ) (a n : ℕ) (h : a + n ≤ length s) (x : Told Halt Found) where
  pub entered : x ≡ lookup Crate (take (a + n - a) (drop a s)) (take (length path - 1) (drop 1 path))
      → (follow Crate s 1 (record { at = a; len = n }) (drop 1 path) ≡ entered_by a 1 x) × Tells n (length (drop 1 path)) x
  entered e =
      let bytes = part s (record { at = a; len = n }) in
      let in-value : take (a + n - a) (drop a s) ≡ bytes = rw add-sub_cancel_left in
      let found : x ≡ lookup Crate bytes (drop 1 path) = e ∙ (λ j. lookup Crate (in-value j) (rest_is 1 path j)) in
      let size : length bytes ≡ n = omega (arith, length-take n (drop a s), length-drop a s) in (
        follow_entered Crate s 1 a n (drop 1 path) h ∙ ap (entered_by a 1) (sym found),
        rw size at (subst (Tells (length bytes) (length (drop 1 path))) (sym found) (lookup_tells Crate bytes (drop 1 path))),
      )

-- from the entry used on: its value lies in the record or not, or the place of the end does
module _ (r : Reading) (s path : List ℕ) {x : Told Stop Span} where
  pub value_inside : (p : Span) → x ≡ ok p → p.at + p.len ≤ length s → used_in r s path x ≡ ok (follow r s 1 p path)
  value_inside p e h = rw (e, le-leb (p.at + p.len) (length s) h)

  pub value_outside : (p : Span) → x ≡ ok p → length s < p.at + p.len → used_in r s path x ≡ refused 25
  value_outside p e h = rw (e, lt-leb (p.at + p.len) (length s) h)

  pub end_inside : (e : Stop) → x ≡ refused e → e.place ≤ length s
      → used_in r s path x ≡ ok (refused (record { number = e.number; place = e.place; matched = 0 }))
  end_inside e g h = rw (g, le-leb e.place (length s) h)

  pub end_outside : (e : Stop) → x ≡ refused e → length s < e.place → used_in r s path x ≡ refused 25
  end_outside e g h = rw (g, lt-leb e.place (length s) h)
