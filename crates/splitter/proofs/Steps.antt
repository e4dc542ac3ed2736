-- What one step replies, case by case. With a buffer of ten bytes and at most 65,535 data bytes it is never a refusal.
use Prim.Native.Nat.{ℕ, ◌+◌, ◌-◌, ◌≤◌, ◌<◌, min}
use mathlib.Core.Path.{◌≡◌, refl, sym, ap, ◌∙◌}
use mathlib.Core.Option.{none, some}
use native.Mathlib.Decide.{dec_le}
use native.Mathlib.Omega.{arith}
use borrow.Author.Tests.{lt-ltb, le-ltb, le-leb, lt-leb, eq-eqb, ne_eqb}
use Rattle.basis.specs.Reply.{ok, refused}
use Rattle.basis.proofs.Reply.{refused_not_ok}
use Rattle.builder.specs.declared.CommandBuilder.{CommandBuilder}
use Rattle.builder.specs.declared.ExtendedLen.{ExtendedLen}
use Rattle.builder.specs.declared.ExtendedLen.TheVariants.{Unsupported, Supported, Forced}
use Rattle.builder.proofs.Data.{too_many, few_enough, value_few, refusal_many}
use Rattle.builder.proofs.Lengths.{lengths_few, required_is}
use Rattle.builder.specs.Builder.{unless_long}
use Rattle.builder.specs.Bytes.{lowered_of, lc_len, le_len, required_len}
use Rattle.splitter.specs.Step.{most_data, room_in, room_of, first_of, step_of}

-- a part may have 255 data bytes in every mode
most_from_255 : (m : ExtendedLen) → 255 ≤ most_data m
most_from_255 Unsupported = omega arith
most_from_255 Supported = omega arith
most_from_255 Forced = omega arith

module _ (b : CommandBuilder) (n m : ℕ) where
  -- the room next to header, Lc and Le (rule 4.1)
  pub room_is : room_of b n m ≡ min (m - (4 + lc_len b n + le_len b n)) (most_data b.mode)
  unfolding room_of room_in
  room_is = refl

  -- it is not empty for a buffer of ten bytes
  pub room_not_zero : 10 ≤ m → 1 ≤ room_of b n m
  room_not_zero h = rw room_is (omega (arith, lengths_few b n, most_from_255 b.mode))

  -- too many data; a buffer under four bytes; a room that covers the data; no room; a split (rules 4.3 to 4.6)
  pub step_long : 65535 < n → step_of b n m ≡ refused 13
  unfolding step_of
  step_long h = too_many n _ h

  module _ (h : n ≤ 65535) where
    pub step_small : m < 4 → step_of b n m ≡ refused 14
    unfolding step_of
    step_small g = few_enough n _ h ∙ rw (lt-ltb m 4 g)

    module _ (g : 4 ≤ m) where
      pub step_whole : n ≤ room_of b n m → step_of b n m ≡ ok none
      unfolding step_of
      step_whole f = few_enough n _ h ∙ rw (le-ltb m 4 g, le-leb n (room_of b n m) f)

      module _ (f : room_of b n m < n) where
        pub step_no_room : room_of b n m ≡ 0 → step_of b n m ≡ refused 14
        unfolding step_of
        step_no_room e = few_enough n _ h ∙ rw (le-ltb m 4 g, lt-leb n (room_of b n m) f, eq-eqb (room_of b n m) 0 e)

        pub step_split : (room_of b n m ≡ 0 → ⊥)
            → step_of b n m ≡ ok (some (record { first = first_of b; len = room_of b n m; rest = lowered_of b }))
        unfolding step_of
        step_split e = few_enough n _ h ∙ rw (le-ltb m 4 g, lt-leb n (room_of b n m) f, ne_eqb (room_of b n m) 0 e)

  -- no step is refused, for any mode, class, expected length and number of data bytes left (rule 4.6)
  pub never_refused : 10 ≤ m → n ≤ 65535 → (k : ℕ) → step_of b n m ≡ refused k → ⊥
  never_refused ten few k e =
      elim (dec_le n (room_of b n m)) [
        | yes h ↦ refused_not_ok k none (sym e ∙ step_whole few (omega arith) h)
        | no h ↦ refused_not_ok k _ (sym e ∙ step_split few (omega arith) (omega arith) (λ z. omega (arith, room_not_zero ten)))
      ]

-- what `should_split` replies, by the length that the builder replies
module _ (b : CommandBuilder) (n m t r : ℕ) where
  -- a refused length
  pub length_refused : (x k : ℕ) → refused k ≡ unless_long n (ok x) → refused k ≡ step_of b n m
  length_refused x k e =
      let many = refusal_many n x k (sym e) in
      rw many.1 (sym (step_long b n m many.0))

  module _ (e : ok t ≡ unless_long n (ok (required_len b n))) where
    length_is : (n ≤ 65535) × (t ≡ 4 + lc_len b n + n + le_len b n)
    length_is = let few = value_few n _ t (sym e) in (few.0, sym few.1 ∙ required_is b n)

    pub data_counted : n ≤ t
    data_counted = omega (arith, length_is.1)

    pub small_refused : m < 4 → refused 14 ≡ step_of b n m
    small_refused g = sym (step_small b n m length_is.0 g)

    module _ (g : 4 ≤ m) (is : r ≡ room_in b.mode (t - n) m) where
      room_found : r ≡ room_of b n m
      unfolding room_of
      room_found =
          let others : t - n ≡ 4 + lc_len b n + le_len b n = omega (arith, length_is.1) in
          is ∙ ap (λ (x : ℕ). room_in b.mode x m) others

      pub whole_fits : n ≤ r → ok none ≡ step_of b n m
      whole_fits f = sym (step_whole b n m length_is.0 g (omega (arith, room_found)))

      pub no_room_refused : r < n → r ≡ 0 → refused 14 ≡ step_of b n m
      no_room_refused f z = sym (step_no_room b n m length_is.0 g (omega (arith, room_found)) (sym room_found ∙ z))

      pub split_found : (first rest : CommandBuilder) → r < n → (r ≡ 0 → ⊥) → first ≡ first_of b → rest ≡ lowered_of b
          → ok (some (record { first = first; len = r; rest = rest })) ≡ step_of b n m
      split_found first rest f z first_is rest_is =
          rw (first_is, rest_is, room_found) (sym (step_split b n m length_is.0 g (omega (arith, room_found)) (λ e. z (room_found ∙ e))))
