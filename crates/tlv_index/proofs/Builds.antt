-- An index that is built, by the length of the record, the count of its objects, and the room (rules 17.3 and 17.4).
use Prim.Native.Nat.{ℕ, ◌+◌, ◌*◌, ◌≤◌, ◌<◌}
use mathlib.Core.Path.{◌≡◌, refl, sym, ap, ◌∙◌}
use mathlib.Core.Bool.{Bool, true, false}
use mathlib.Core.List.{List}
use native.Mathlib.Omega.{arith}
use borrow.Author.Tests.{lt-ltb, le-ltb, ltb-true, ltb-false}
use lib.Dec.{ltb}
use lib.ListN.{length, length-map}
use Rattle.std.specs.Prelude.{Result, Ok, Err}
use Rattle.basis.specs.Reply.{ok, refused}
use Rattle.basis.specs.Refusal.{as_reply}
use Rattle.basis.specs.declared.refusal.Refusal.{Refusal}
use Rattle.basis.specs.declared.refusal.Refusal.TheVariants.{DoesNotFit, RecordTooLarge}
use Rattle.basis.specs.Over.{over_at}
use Rattle.basis.proofs.Reply.{refused_not_ok}
use Rattle.tlv.specs.Object.{Item, Stop}
use Rattle.tlv.specs.Walk.{Walk, walk}
use Rattle.tlv.specs.declared.Reading.TheVariants.{Crate}
use Rattle.tlv_index.specs.Index.{Kind, crate_kind, Index, entry_of, index_of, built}
use Rattle.tlv_index.specs.File.{file_of}
use Rattle.tlv_index.specs.Build.{written, IndexWritten, BuildIndexIs}
use Rattle.tlv_index.specs.Steps.{Count, counted, index_to}
use Rattle.tlv_index.proofs.Sections.{length_file}
use Rattle.tlv_index.proofs.Walks.{counted_many}

-- the index of n objects: 16 if its file does not fit, else it is written
module _ (items : List Item) (e : Stop) (n : ℕ) (h : length items ≡ n) (b : List ℕ) (at : ℕ) where
  abbrev x : Index
  x = index_to items e

  pub size : length (file_of 2 x) ≡ 12 + 7 * n
  size = omega (arith, length_file 2 x n (length-map items entry_of ∙ h))

  pub no_room : length b < at + (12 + 7 * n) → IndexWritten (index_to items e) b at (Err DoesNotFit) b
  no_room g = let t = lt-ltb _ _ g in record { reply = rw (size, t); buffer = rw (size, t) }

  pub has_room : (after : List ℕ) → at + (12 + 7 * n) ≤ length b → after ≡ over_at at (file_of 2 x) b
      → IndexWritten x b at (Ok (12 + 7 * n)) after
  has_room after g f = let t = le-ltb _ _ g in record { reply = rw (size, t) (ap ok (sym size)); buffer = f ∙ rw (size, t) }

-- what the count of a walk says
module _ (w : Walk) where
  pub counted_says : (c : Count) → counted w ≡ ok c → (length w.items ≡ c.objects) × (c.objects ≤ 255) × (w.stop ≡ c.stop)
  unfolding counted
  counted_says c = by_number (ltb 255 (length w.items)) refl
    where
      by_number : (t : Bool) → ltb 255 (length w.items) ≡ t → counted w ≡ ok c
          → (length w.items ≡ c.objects) × (c.objects ≤ 255) × (w.stop ≡ c.stop)
      by_number true e g = absurd (refused_not_ok 24 c (rw e at g))
      by_number false e g =
          let same : record { objects = length w.items; stop = w.stop } ≡ c = cc (rw e at g) in
          let few = ltb-false 255 (length w.items) e in
          let count = ap (λ (y : Count). y.objects) same in
          (count, omega (arith, few, count), ap (λ (y : Count). y.stop) same)

  pub counted_24 : (k : ℕ) → counted w ≡ refused k → 255 < length w.items
  unfolding counted
  counted_24 k = by_number (ltb 255 (length w.items)) refl
    where
      by_number : (t : Bool) → ltb 255 (length w.items) ≡ t → counted w ≡ refused k → 255 < length w.items
      by_number true e g = ltb-true 255 (length w.items) e
      by_number false e g = absurd (refused_not_ok k _ (sym (rw e at g)))

-- 24 for a record that is too long, or has more than 255 objects; else its index
module _ (k : Kind) (s : List ℕ) where
  pub built_long : k.longest < length s → built k s ≡ refused 24
  unfolding built
  built_long h = rw (lt-ltb _ _ h)

  pub built_many : length s ≤ k.longest → 255 < length (walk k.reading 0 s).items → built k s ≡ refused 24
  unfolding built
  built_many h g = rw (le-ltb _ _ h, lt-ltb _ _ g)

  pub built_few : length s ≤ k.longest → length (walk k.reading 0 s).items ≤ 255 → built k s ≡ ok (index_of (walk k.reading 0 s))
  unfolding built
  built_few h g = rw (le-ltb _ _ h, le-ltb _ _ g)

-- the promise of `build_index`, from its steps
module _ (s b : List ℕ) (at : ℕ) where
  abbrev objects : Walk
  objects = walk Crate 0 s

  pub too_long : 65535 < length s → BuildIndexIs s b at (Err RecordTooLarge) b
  unfolding written
  too_long h = let e = built_long crate_kind s h in record { reply = rw e; buffer = rw e }

  module _ (h : length s ≤ 65535) where
    pub too_many : (y : Result ℕ Refusal) (k : ℕ) → counted objects ≡ refused k → as_reply y ≡ refused k → BuildIndexIs s b at y b
    unfolding written
    too_many y k g f =
        let more = counted_24 objects k g in
        let e = built_many crate_kind s h more in
        let number : k ≡ 24 = cc (sym g ∙ counted_many objects more) in
        record { reply = f ∙ rw (number, e); buffer = rw e }

    pub as_counted : (c : Count) (y : Result ℕ Refusal) (after : List ℕ) → counted objects ≡ ok c
        → IndexWritten (index_to objects.items c.stop) b at y after → BuildIndexIs s b at y after
    unfolding written
    as_counted c y after g f =
        let says = counted_says objects c g in
        let few = built_few crate_kind s h (omega (arith, says.0, says.1)) in
        let same : ◌≡◌ {A = Index} (index_of objects) (index_to objects.items c.stop) = ap (λ (e : Stop). record { entries = (index_of objects).entries; stop = e }) says.2 in
        record { reply = f.reply ∙ rw (few, same); buffer = f.buffer ∙ rw (few, same) }
