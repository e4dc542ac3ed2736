-- On which tags exactly the crate and the standard reading differ, in front of an object and read alone (rules 6.5 and
-- 16.7).
use Prim.Native.Nat.{ℕ, ◌%◌, ◌≤◌, ◌<◌}
use mathlib.Core.Path.{◌≡◌, refl, sym, ◌∙◌}
use mathlib.Core.Bool.{Bool, true, false, cond, true≢false, false≢true}
use mathlib.Core.List.{List, [], ◌∷◌}
use native.Mathlib.Omega.{arith}
use native.Mathlib.Decide.{dec_lt, dec_le}
use lib.Dec.{ltb, leb, eqb}
use lib.ListN.{length, get_or}
use borrow.Author.Tests.{le-ltb, ltb-false, leb-true, leb-false, eqb-true, eqb-false, le-leb, lt-leb, eq-eqb, ne_eqb}
use Rattle.basis.specs.Differ.{Differ}
use Rattle.basis.proofs.Reply.{All, all_is, refused_not_ok}
use Rattle.basis.proofs.Truth.{both_true, on_cond}
use Rattle.tlv.specs.Padding.{zeros, padding}
use Rattle.tlv.specs.Tag.{Tag, in_range, tag_size, crate_tag_size, standard_tag_size, third_byte, crate_third_byte, three_bytes, long_tag, tag_of, tag_alone}
use Rattle.tlv.proofs.InRange.{inside, below, above}
use Rattle.tlv.proofs.Zeros.{zeros_nothing, zeros_by_first, first_zero, crate_padding, standard_padding}
use Rattle.tlv.proofs.Tags.{tag_one, tag_two, tag_three, by_tag, alone_unpadded, alone_padded}
use Rattle.tlv.specs.declared.Reading.TheVariants.{Crate, Standard}
use Rattle.tlv_laws.specs.Readings.{is_or_ff, second_differs, third_differs, tag_differs, starts_zero, tag_alone_differs}
use Rattle.tlv_laws.proofs.TruthValues.{by_test, same_cond, neither, not_true_false}

-- a byte b is k or at least FF: what the test says
module _ (k b : ℕ) where
  is_k : b ≡ k → is_or_ff k b ≡ true
  unfolding is_or_ff
  is_k e = rw (eq-eqb b k e)

  is_ff : 0xFF ≤ b → is_or_ff k b ≡ true
  unfolding is_or_ff
  is_ff h = on_cond (λ x. x ≡ true) (eqb b k) _ _ (λ _. refl) (λ _. le-leb _ b (omega arith))

  is_neither : (b ≡ k → ⊥) → b < 0xFF → is_or_ff k b ≡ false
  unfolding is_or_ff
  is_neither n h = rw (ne_eqb b k n) (lt-leb _ b (omega arith))

  neither_k_nor_ff : is_or_ff k b ≡ false → (b ≡ k → ⊥) × (b < 0xFF)
  neither_k_nor_ff e = (
    λ z. true≢false (sym (is_k z) ∙ e),
    elim (dec_lt b 0xFF) [ yes h ↦ h | no h ↦ absurd (true≢false (sym (is_ff (omega arith)) ∙ e)) ],
  )

  at_least_ff : is_or_ff k b ≡ true → (b ≡ k → ⊥) → 0xFF ≤ b
  at_least_ff e n = elim (dec_lt b 0xFF) [ yes h ↦ absurd (true≢false (sym e ∙ is_neither n h)) | no h ↦ omega arith ]

-- a second byte on which the readings differ: the tag ends there in the crate reading, and not in the standard reading
module _ (b : ℕ) (e : second_differs b ≡ true) where
  two_from : eqb b 0x1E ≡ false → 0xFF ≤ b
  two_from h = at_least_ff _ b e (λ z. eqb-false b 0x1E h (omega (arith, z)))

  two_crate : crate_tag_size b ≡ 2
  unfolding crate_tag_size in_range
  two_crate =
      by_test (eqb b 0x1E) (λ h. rw (eqb-true b 0x1E h)) (λ h.
      let g = two_from h in
      rw (above 0 0x1D b (omega arith) (omega arith), ne_eqb b 0x80 (omega arith), above 0x81 0xFE b (omega arith) g))

  two_standard : eqb (standard_tag_size b) 2 ≡ false
  unfolding standard_tag_size in_range
  two_standard =
      by_test (eqb b 0x1E) (λ h. rw (eqb-true b 0x1E h)) (λ h.
      let g = two_from h in
      rw (above 0x1F 0x7F b (omega arith) (omega arith)) (by_test (in_range 0x81 0xFF b) (λ k. rw k) (λ k. rw k)))

-- on any other second or third byte they agree; on a differing third byte only the crate reading accepts it
two_alike : (b : ℕ) → second_differs b ≡ false → crate_tag_size b ≡ standard_tag_size b
unfolding crate_tag_size standard_tag_size
two_alike b e =
    let n = neither_k_nor_ff _ b e in
    elim (dec_lt b 0x1F) [
      | yes p ↦ rw (inside 0 0x1D b (omega arith) (omega arith), below 0x1F 0x7F b p, below 0x81 0xFF b (omega arith))
      | no p ↦
          elim (dec_le b 0x7F) [
            | yes q ↦
                rw (
                  above 0 0x1D b (omega arith) (omega arith),
                  ne_eqb b 0x80 (omega arith),
                  below 0x81 0xFE b (omega arith),
                  inside 0x1F 0x7F b (omega arith) q,
                )
            | no q ↦
                elim (dec_le b 0x80) [
                  | yes k ↦
                      rw (
                        above 0 0x1D b (omega arith) (omega arith),
                        eq-eqb b 0x80 (omega arith),
                        above 0x1F 0x7F b (omega arith) (omega arith),
                        below 0x81 0xFF b (omega arith),
                      )
                  | no k ↦
                      rw (
                        above 0 0x1D b (omega arith) (omega arith),
                        ne_eqb b 0x80 (omega arith),
                        inside 0x81 0xFE b (omega arith) (omega arith),
                        above 0x1F 0x7F b (omega arith) (omega arith),
                        inside 0x81 0xFF b (omega arith) (omega arith),
                      )
                ]
          ]
    ]

three_alike : (b : ℕ) → third_differs b ≡ false → crate_third_byte b ≡ leb b 0x7F
unfolding crate_third_byte
three_alike b e =
    let n = neither_k_nor_ff _ b e in
    elim (dec_le b 0x7F) [
      | yes p ↦ rw (below 0x81 0xFE b (omega arith), le-leb b 0x7F p)
      | no p ↦ rw (inside 0x81 0xFE b (omega arith) (omega arith), lt-leb b 0x7F (omega arith))
    ]

three_differ : (b : ℕ) → third_differs b ≡ true → (crate_third_byte b ≡ true) × (leb b 0x7F ≡ false)
unfolding crate_third_byte in_range
three_differ b e =
    by_test (eqb b 0x80) (λ h. let g : b ≡ 0x80 = eqb-true b 0x80 h in (rw g, rw g)) (λ h.
    let g = at_least_ff _ b e (λ z. eqb-false b 0x80 h (omega (arith, z))) in
    (rw (above 0x81 0xFE b (omega arith) g), lt-leb b 0x7F (omega arith)))

-- a second byte asks for a third in the crate reading exactly if it is in 81 to FE
three_in_range : (b : ℕ) → eqb (crate_tag_size b) 0 ≡ false → eqb (crate_tag_size b) 2 ≡ false → in_range 0x81 0xFE b ≡ true
unfolding crate_tag_size
three_in_range b = go (in_range 0 0x1D b) (eqb b 0x80) (in_range 0x81 0xFE b)
  where
    go : (x y z : Bool) → eqb (cond x 0 (cond y 0 (cond z 3 2))) 0 ≡ false → eqb (cond x 0 (cond y 0 (cond z 3 2))) 2 ≡ false
        → z ≡ true
    go true y z h g = absurd (true≢false h)
    go false true z h g = absurd (true≢false h)
    go false false true h g = refl
    go false false false h g = absurd (true≢false g)

range_has_three : (b : ℕ) → in_range 0x81 0xFE b ≡ true → crate_tag_size b ≡ 3
unfolding crate_tag_size in_range
range_has_three b h =
    let g = both_true (leb 0x81 b) (leb b 0xFE) h in
    let f : 0x81 ≤ b = leb-true 0x81 b g.0 in
    rw (above 0 0x1D b (omega arith) (omega arith), ne_eqb b 0x80 (omega arith), h)

module _ (s : List ℕ) where
  -- if the readings do not differ they read the same tag
  pub tags_alike : tag_differs s ≡ false → tag_of Crate s ≡ tag_of Standard s
  unfolding tag_differs tag_of long_tag three_bytes tag_size third_byte
  tags_alike e =
      let b2 = get_or s 1 0 in
      same_cond (ltb (length s) 1) _ _ _ _ (λ _. refl) (λ _.
      same_cond (eqb (get_or s 0 0 % 32) 31) _ _ _ _ (λ f.
      same_cond (ltb (length s) 2) _ _ _ _ (λ _. refl) (λ h.
      let n = neither (second_differs b2) _ (rw (h, f) at e) in
      rw (← two_alike b2 n.0)
      (same_cond (eqb (crate_tag_size b2) 0) _ _ _ _ (λ _. refl) (λ z.
      same_cond (eqb (crate_tag_size b2) 2) _ _ _ _ (λ _. refl) (λ w.
      same_cond (ltb (length s) 3) _ _ _ _ (λ _. refl) (λ g.
      rw (three_alike (get_or s 2 0) (rw (three_in_range b2 z w, g) at n.1))))))))
      (λ _. refl))

  -- if they differ, one reads a tag that the other does not read
  module _ (h : 2 ≤ length s) (f : get_or s 0 0 % 32 ≡ 31) (q : tag_of Crate s ≡ tag_of Standard s) where
    second_differs_lem : second_differs (get_or s 1 0) ≡ true → ⊥
    unfolding tag_size
    second_differs_lem e =
        let other = eqb-false (standard_tag_size (get_or s 1 0)) 2 (two_standard (get_or s 1 0) e) in
        let long : All (λ t. t.size ≡ 3) (tag_of Standard s) =
        by_tag Standard s (All (λ t. t.size ≡ 3)) (λ _. tt) (λ _. tt) (λ _ n. absurd (n f)) (λ _ _ z. absurd (other z)) (λ _ _ _ _ _. refl) in
        omega (arith, all_is (λ t. t.size ≡ 3) (tag_of Standard s) _ long (sym q ∙ tag_two Crate s f h (two_crate (get_or s 1 0) e)))

    third_differs_lem : second_differs (get_or s 1 0) ≡ false → in_range 0x81 0xFE (get_or s 1 0) ≡ true → 3 ≤ length s → third_differs (get_or s 2 0) ≡ true → ⊥
    unfolding tag_size third_byte
    third_differs_lem e a g p =
        let asks-third : crate_tag_size (get_or s 1 0) ≡ 3 = range_has_three (get_or s 1 0) a in
        let same : standard_tag_size (get_or s 1 0) ≡ 3 = sym (two_alike (get_or s 1 0) e) ∙ asks-third in
        let d = three_differ (get_or s 2 0) p in
        let none : All (λ (t : Tag). ⊥) (tag_of Standard s) =
        by_tag Standard s (All (λ (t : Tag). ⊥)) (λ _. tt) (λ _. tt) (λ _ n. n f) (λ _ _ z. omega (arith, z, same))
        (λ _ _ _ _ t. true≢false (sym t ∙ d.1)) in
        let taken = tag_three Crate s f g (λ z. omega (arith, z, asks-third)) (λ z. omega (arith, z, asks-third)) d.0 in
        all_is (λ (t : Tag). ⊥) (tag_of Standard s) _ none (sym q ∙ taken)

pub differing_tags : (s : List ℕ) → tag_differs s ≡ true → tag_of Crate s ≡ tag_of Standard s → ⊥
unfolding tag_differs
differing_tags s e q =
    let b2 = get_or s 1 0 in
    by_test (ltb (length s) 2) (λ h. false≢true (rw h at e)) (λ h.
    by_test (eqb (get_or s 0 0 % 32) 31)
    (λ f.
    let two = ltb-false (length s) 2 h in
    let long = eqb-true (get_or s 0 0 % 32) 31 f in
    by_test (second_differs b2) (second_differs_lem s two long q) (λ p.
    by_test (in_range 0x81 0xFE b2)
    (λ a. by_test (ltb (length s) 3) (λ g. false≢true (rw (h, f, p, a, g) at e)) (λ g.
    third_differs_lem s two long q p a (ltb-false (length s) 3 g) (rw (h, f, p, a, g) at e)))
    (λ a. false≢true (rw (h, f, p, a) at e))))
    (λ f. false≢true (rw (h, f) at e)))

pub tags_differ : (s : List ℕ) → Differ (tag_differs s ≡ true) (tag_of Crate s) (tag_of Standard s)
tags_differ s = record { differ = differing_tags s; equal = λ h. tags_alike s (not_true_false (tag_differs s) h) }

-- padding stands in front exactly if the first byte is 00
pub starts_zero_lem : (s : List ℕ) → starts_zero s ≡ leb 1 (zeros s)
unfolding starts_zero
starts_zero_lem [] = rw zeros_nothing
starts_zero_lem (b ∷ s) = rw (le-ltb (length (b ∷ s)) 1 (omega arith)) (sym (zeros_by_first (b ∷ s) (omega arith)))

-- a tag read alone: also if the first byte is 00 (rule 16.7)
pub no_padding : (s : List ℕ) → leb 1 (zeros s) ≡ false → padding Standard s ≡ 0
no_padding s z = standard_padding s ∙ omega (arith, leb-false 1 (zeros s) z)

alone_apart : (s : List ℕ) → 1 ≤ zeros s → tag_of Crate s ≡ tag_alone Standard s → ⊥
alone_apart s h e =
    let first = first_zero s h in
    let read = tag_one Crate s first.1 (λ z. omega (arith, z, first.0)) in
    let none = alone_padded Standard s (omega (arith, standard_padding s, h)) in
    refused_not_ok 12 _ (sym none ∙ sym e ∙ read)

pub tags_alone_differ : (s : List ℕ) → Differ (tag_alone_differs s ≡ true) (tag_alone Crate s) (tag_alone Standard s)
unfolding tag_alone_differs
tags_alone_differ s = record {
  differ = λ d e.
      let crate = alone_unpadded Crate s (crate_padding s) in
      by_test (leb 1 (zeros s))
      (λ z. alone_apart s (leb-true 1 (zeros s) z) (sym crate ∙ e))
      (λ z. differing_tags s (rw (starts_zero_lem s, z) at d) (sym crate ∙ e ∙ alone_unpadded Standard s (no_padding s z)));
  equal = λ h.
      let n = neither (leb 1 (zeros s)) (tag_differs s) (rw (starts_zero_lem s) at (not_true_false _ h)) in
      alone_unpadded Crate s (crate_padding s) ∙ tags_alike s n.1 ∙ sym (alone_unpadded Standard s (no_padding s n.0));
}
