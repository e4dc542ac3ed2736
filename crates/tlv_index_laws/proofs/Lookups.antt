-- A lookup through the index of a record is the lookup in the record (rules 17.7, 17.8 and 17.11), and no byte outside
-- of the entry used alters it (rule 17.12).
use Prim.Native.Nat.{ℕ, ◌+◌, ◌≤◌, ◌<◌}
use mathlib.Core.Path.{◌≡◌, refl, sym, ap, ◌∙◌}
use mathlib.Core.Logic.{◌⊎◌, inl, inr}
use mathlib.Core.List.{List, [], ◌∷◌, map}
use native.Mathlib.Decide.{dec_le}
use native.Mathlib.Omega.{arith}
use lib.ListN.{length}
use lib.Seq.{take-length}
use Rattle.basis.specs.Reply.{ok, refused}
use Rattle.basis.proofs.Reply.{by_reply, refused_not_ok}
use Rattle.tlv.specs.Object.{Item, Stop}
use Rattle.tlv.specs.Walk.{walk}
use Rattle.tlv.specs.Lookup.{part, first_value, seek, follow, lookup}
use Rattle.tlv.specs.declared.Reading.{Reading}
use Rattle.tlv.proofs.Walk.{seek_inside}
use Rattle.tlv.proofs.Entered.{seek_ends, follow_entered}
use Rattle.tlv_index.specs.Index.{Kind, Entry, Index, entry_of, index_of, built}
use Rattle.tlv_index.specs.File.{decoded}
use Rattle.tlv_index.specs.Lookup.{first_entry, through, indexed}
use Rattle.tlv_index.proofs.Entries.{value_inside, end_inside}
use Rattle.tlv_index.proofs.Builds.{built_long, built_many, built_few}
use Rattle.tlv_index_laws.specs.Used.{Others, Uses}
use Rattle.tlv_index_laws.proofs.Used.{empty_path, value_used, value_past, end_used, end_past}

-- the entry used among the objects of a walk is the object that a search finds
same_first : (t : ℕ) (is : List Item) (e : Stop) → first_entry t (map entry_of is) e ≡ first_value t is e
unfolding first_entry first_value
same_first t [] e = refl
same_first t (i ∷ is) e = rw (same_first t is e)

module _ (k : Kind) (s : List ℕ) where
  -- a record has an index if it is not too long and has at most 255 objects; the index is that of its walk
  pub built_says : (x : Index) → built k s ≡ ok x
      → (length s ≤ k.longest) × (length (walk k.reading 0 s).items ≤ 255) × (x ≡ index_of (walk k.reading 0 s))
  built_says x g =
      elim (dec_le (length s) k.longest) [
        | no h ↦ absurd (refused_not_ok 24 x (sym (built_long k s (omega arith)) ∙ g))
        | yes h ↦
            elim (dec_le (length (walk k.reading 0 s).items) 255) [
              | no few ↦ absurd (refused_not_ok 24 x (sym (built_many k s h (omega arith)) ∙ g))
              | yes few ↦ (h, few, cc (sym g ∙ built_few k s h few))
            ]
      ]

  -- else it is 24, for one of these reasons (rule 17.3)
  pub only_24 : (j : ℕ) → built k s ≡ refused j → (j ≡ 24) × ((k.longest < length s) ⊎ (255 < length (walk k.reading 0 s).items))
  only_24 j g =
      elim (dec_le (length s) k.longest) [
        | no h ↦
            let far : k.longest < length s = omega arith in
            (cc (sym g ∙ built_long k s far), inl far)
        | yes h ↦
            elim (dec_le (length (walk k.reading 0 s).items) 255) [
              | no few ↦
                  let many : 255 < length (walk k.reading 0 s).items = omega arith in
                  (cc (sym g ∙ built_many k s h many), inr many)
              | yes few ↦ absurd (refused_not_ok j _ (sym g ∙ built_few k s h few))
            ]
      ]

-- the lookup through the objects of a walk
walk_lookup : (r : Reading) (s path : List ℕ) → through r (index_of (walk r 0 s)) s path ≡ ok (lookup r s path)
unfolding through follow seek
walk_lookup r s [] = refl
walk_lookup r s (t ∷ path) =
    by_reply (seek r t 0 s) (λ p e.
    let used = same_first t (walk r 0 s).items (walk r 0 s).stop ∙ e in
    value_inside r s path p used (omega (arith, seek_inside r s t 0 p e)) ∙ rw (take-length s, e)) (λ h e.
    let used = same_first t (walk r 0 s).items (walk r 0 s).stop ∙ e in
    end_inside r s path h used (omega (arith, seek_ends r t 0 s h e)) ∙ rw (take-length s, e))

module _ (k : Kind) (s : List ℕ) (x : Index) (b : built k s ≡ ok x) where
  -- through the index that is built from a record, the lookup is the lookup
  pub index_lookup : (path : List ℕ) → through k.reading x s path ≡ ok (lookup k.reading s path)
  index_lookup path = rw (built_says k s x b).2 (walk_lookup k.reading s path)

  -- and through any file that has the same entries (rule 17.11)
  pub file_lookup : (f path : List ℕ) → decoded k.width f ≡ ok x → indexed k f s path ≡ ok (lookup k.reading s path)
  unfolding indexed
  file_lookup f path g = rw g (index_lookup path)

-- records of one length that agree on the value of the entry used have one reply, whatever the index is (rule 17.12)
module _ (r : Reading) (x : Index) (s s' : List ℕ) (long : length s' ≡ length s) where
  pub value_alone : (t : ℕ) (path : List ℕ) (e : Entry) → Uses x t e
      → part s' (record { at = e.at; len = e.len }) ≡ part s (record { at = e.at; len = e.len })
      → through r x s' (t ∷ path) ≡ through r x s (t ∷ path)
  value_alone t path e u same =
      elim (dec_le (e.at + e.len) (length s)) [
        | yes h ↦
            value_used r x s' t path e u (omega (arith, long))
            ∙ ap ok (follow_entered r s' 1 e.at e.len path (omega (arith, long)) ∙ rw same (sym (follow_entered r s 1 e.at e.len path h)))
            ∙ sym (value_used r x s t path e u h)
        | no h ↦ value_past r x s' t path e u (omega (arith, long)) ∙ sym (value_past r x s t path e u (omega arith))
      ]

  -- with no entry used, any two
  pub end_alone : (t : ℕ) (path : List ℕ) → Others t x.entries → through r x s' (t ∷ path) ≡ through r x s (t ∷ path)
  end_alone t path o =
      elim (dec_le x.stop.place (length s)) [
        | yes h ↦ end_used r x s' t path o (omega (arith, long)) ∙ sym (end_used r x s t path o h)
        | no h ↦ end_past r x s' t path o (omega (arith, long)) ∙ sym (end_past r x s t path o (omega arith))
      ]

  pub none_alone : through r x s' [] ≡ through r x s []
  none_alone = empty_path r x s' ∙ rw long (sym (empty_path r x s))

-- so through the index of a record s the lookup in a record of its length, with the same bytes in the value of the
-- entry used, is the lookup in s: bytes of a skipped object, its tag and length too, never alter it
module _ (k : Kind) (s : List ℕ) (x : Index) (b : built k s ≡ ok x) (s' : List ℕ) (long : length s' ≡ length s) (t : ℕ) (path : List ℕ) where
  pub skipped_unseen : (e : Entry) → Uses x t e → part s' (record { at = e.at; len = e.len }) ≡ part s (record { at = e.at; len = e.len })
      → through k.reading x s' (t ∷ path) ≡ ok (lookup k.reading s (t ∷ path))
  skipped_unseen e u same = value_alone k.reading x s s' long t path e u same ∙ index_lookup k s x b (t ∷ path)

  pub record_unseen : Others t x.entries → through k.reading x s' (t ∷ path) ≡ ok (lookup k.reading s (t ∷ path))
  record_unseen o = end_alone k.reading x s s' long t path o ∙ index_lookup k s x b (t ∷ path)
