-- On which classes exactly the crate and the standard reading differ (rules 8.4 to 8.7; docs/DIFFERENCES.md).
use Prim.Native.Nat.{ℕ, ◌+◌, ◌*◌, ◌/◌, ◌%◌, ◌≤◌, ◌<◌}
use mathlib.Core.Path.{◌≡◌, ap, ◌∙⁻¹◌}
use mathlib.Core.Logic.{◌⊎◌, inl, inr, ⊎_elim}
use mathlib.Core.Option.{none, some}
use native.Mathlib.Omega.{arith}
use native.Mathlib.Decide.{dec_lt, dec_le}
use borrow.Author.Tests.{lt-ltb, le-ltb, eq-eqb, ne_eqb}
use lib.Bits.{bit_or}
use lib.Dec.{ltb}
use Rattle.basis.specs.Differ.{Differ}
use Rattle.basis.specs.Reply.{refused}
use Rattle.class.specs.Class.{from_byte}
use Rattle.class.specs.Range.{range_of, by_range}
use Rattle.class.specs.SecureMessaging.{secure_messaging_of}
use Rattle.class.specs.SecureMessaging as sm
use Rattle.class.specs.Chain.{chained, AsChainedIs}
use Rattle.class.specs.Channel.{channel_of, further_of}
use Rattle.class.specs.declared.Class.{Class}
use Rattle.class.specs.declared.Reading.{Reading}
use Rattle.class.specs.declared.Reading.TheVariants.{Crate, Standard}
use Rattle.class.proofs.Bits.{chained_or}
use Rattle.class.proofs.Bytes.{no_class}
use Rattle.class.proofs.Ranges.{is_first, is_reserved, is_further, is_proprietary}

-- what the two readings say of 40 to 7F (rules 8.5 and 8.7)
module _ (c : ℕ) (from : 0x40 ≤ c) (to : c ≤ 0x7F) where
  pub further_channels : (channel_of Crate c ≡ some ((4 + c) % 8)) × (channel_of Standard c ≡ some (4 + c % 16))
  unfolding channel_of further_of
  further_channels = let h = is_further c from (omega arith) in (rw h, rw h)

  -- 2 is `Standard`, 0 is `None`
  pub crate_says_standard : secure_messaging_of Crate c ≡ 2
  unfolding secure_messaging_of sm.further_of
  crate_says_standard = rw (is_further c from (omega arith))

  pub standard_says_none : c ≤ 0x5F → secure_messaging_of Standard c ≡ 0
  unfolding secure_messaging_of sm.further_of
  standard_says_none h = rw (is_further c from (omega arith), eq-eqb (c / 32 % 2) 0 (omega arith))

  pub standard_says_standard : 0x5F < c → secure_messaging_of Standard c ≡ 2
  unfolding secure_messaging_of sm.further_of
  standard_says_standard h = rw (is_further c from (omega arith), ne_eqb (c / 32 % 2) 0 (omega arith))

-- what both readings say of a first interindustry class: bits 2 and 1 are the channel (rule 8.6), bits 4 and 3 secure
-- messaging (rule 8.4)
module _ (r : Reading) (c : ℕ) where
  pub first_channel : c < 0x20 → channel_of r c ≡ some (c % 4)
  unfolding channel_of
  first_channel h = rw (is_first c h)

  pub first_secure_messaging : c < 0x20 → secure_messaging_of r c ≡ c / 4 % 4
  unfolding secure_messaging_of
  first_secure_messaging h = rw (is_first c h)

  -- and of a reserved or a proprietary one: no channel (rule 8.6), and 4, `Unknown` (rule 8.4)
  pub no_channel : ((0x20 ≤ c) × (c < 0x40)) ⊎ (0x80 ≤ c) → channel_of r c ≡ none
  unfolding channel_of
  no_channel (inl h) = rw (is_reserved c (omega arith) (omega arith))
  no_channel (inr h) = rw (is_proprietary c h)

  pub unknown_secure_messaging : ((0x20 ≤ c) × (c < 0x40)) ⊎ (0x80 ≤ c) → secure_messaging_of r c ≡ 4
  unfolding secure_messaging_of
  unknown_secure_messaging (inl h) = rw (is_reserved c (omega arith) (omega arith))
  unknown_secure_messaging (inr h) = rw (is_proprietary c h)

-- outside 40 to 7F the reading does not matter
same_outside_further : {A : Type 0} (c : ℕ) (a b b' o : A) → (c < 0x40) ⊎ (0x7F < c) → by_range (range_of c) a b o ≡ by_range (range_of c) a b' o
same_outside_further c a b b' o (inl p) = elim (dec_lt c 0x20) [ yes q ↦ rw (is_first c q) | no q ↦ rw (is_reserved c (omega arith) p) ]
same_outside_further c a b b' o (inr p) = rw (is_proprietary c (omega arith))

-- a byte lies in 40 to 7F, below or above
further_or_outside : (c : ℕ) → ((0x40 ≤ c) × (c ≤ 0x7F)) ⊎ ((c < 0x40) ⊎ (0x7F < c))
further_or_outside c =
    elim (dec_lt c 0x40) [
      | yes p ↦ inr (inl p)
      | no p ↦ elim (dec_le c 0x7F) [ yes q ↦ inl (omega arith, q) | no q ↦ inr (inr (omega arith)) ]
    ]

pub channels_differ : (c : ℕ) → Differ ((0x40 ≤ c) × (c ≤ 0x7F) × (4 ≤ c % 16)) (channel_of Crate c) (channel_of Standard c)
unfolding channel_of
channels_differ c =
    record {
      differ = λ h e. (let s = further_channels c (omega arith) (omega arith) in let n : (4 + c) % 8 ≡ 4 + c % 16 = cc in omega arith);
      equal = λ h.
          ⊎_elim
          (λ f.
          elim (dec_le 4 (c % 16)) [
            | yes p ↦ absurd (h (omega arith, omega arith, p))
            | no p ↦
                let s = further_channels c (omega arith) (omega arith) in let n : (4 + c) % 8 ≡ 4 + c % 16 = omega arith in rw (s.0, s.1, n)
          ])
          (λ o. same_outside_further c _ _ _ _ o)
          (further_or_outside c);
    }

pub secure_messaging_differs : (c : ℕ) → Differ ((0x40 ≤ c) × (c ≤ 0x5F)) (secure_messaging_of Crate c) (secure_messaging_of Standard c)
unfolding secure_messaging_of
secure_messaging_differs c =
    record {
      differ = λ h e.
          omega (
            arith,
            e,
            crate_says_standard c (omega arith) (omega arith),
            standard_says_none c (omega arith) (omega arith) (omega arith),
          );
      equal = λ h.
          ⊎_elim
          (λ f.
          elim (dec_le c 0x5F) [
            | yes p ↦ absurd (h (omega arith, p))
            | no p ↦ crate_says_standard c (omega arith) (omega arith) ∙⁻¹ standard_says_standard c (omega arith) (omega arith) (omega arith)
          ])
          (λ o. same_outside_further c _ _ _ _ o)
          (further_or_outside c);
    }

-- setting the chaining bit does not change the range (rule 8.3)
chained_below : (c k : ℕ) → ltb (chained c) (32 * k) ≡ ltb c (32 * k)
chained_below c k =
    elim (dec_lt c (32 * k)) [
      | yes p ↦ lt-ltb (chained c) (32 * k) (omega arith) ∙⁻¹ lt-ltb c (32 * k) p
      | no p ↦ le-ltb (chained c) (32 * k) (omega arith) ∙⁻¹ le-ltb c (32 * k) (omega arith)
    ]

pub chained_range : (c : ℕ) → range_of (bit_or c 0x10) ≡ range_of c
unfolding range_of
chained_range c = rw (chained_or c, chained_below c 1, chained_below c 2, chained_below c 4)

-- the class EF with its chaining bit set is the byte FF, which is no class (rule 8.3)
pub chained_ef : (r : Class) → AsChainedIs (record { cla = 0xEF }) r → (r.cla ≡ 0xFF) × (from_byte r.cla ≡ refused 3)
chained_ef r e = let b : r.cla ≡ 0xFF = ap (λ (c : Class). c.cla) e in (b, no_class r.cla b)
