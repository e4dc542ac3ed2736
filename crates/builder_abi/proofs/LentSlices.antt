-- What the exported functions write of a builder that is given by numbers. If it is made, its data are at most 65,535
-- bytes, so no test of them after that refuses.
use Prim.Native.Nat.{ℕ, ◌≤◌}
use mathlib.Core.Path.{◌≡◌, refl, ap, ◌∙◌, subst}
use mathlib.Core.Bool.{Bool}
use mathlib.Core.List.{List, [], ◌∷◌}
use borrow.Author.Tests.{le-ltb}
use lib.ListN.{length}
use Rattle.basis.specs.Reply.{Reply, ok, refused, then}
use Rattle.basis.proofs.Reply.{all_then, all_every}
use Rattle.class.specs.declared.Reading.TheVariants.{Crate}
use Rattle.command.specs.Command.{parse, data_in}
use Rattle.command.specs.declared.CommandView.{CommandView}
use Rattle.abi.specs.Answers.{flag_of, NumbersWritten}
use Rattle.builder.specs.Builder.{unless_long, forced_of}
use Rattle.builder.specs.Bytes.{required_len}
use Rattle.builder_compare.specs.Compare.{equal_to}
use Rattle.builder.specs.declared.CommandBuilder.{CommandBuilder}
use Rattle.abi.specs.Builders.{builder_by_numbers}
use Rattle.abi.proofs.BuilderLaws.{Few, few}
use Rattle.builder_abi.specs.Numbers.{required_len_reply, force_extended_reply, with_both, builder_eq_reply}
use Rattle.builder_abi.specs.Steps.{forcing, requiring, comparing, equal_numbers}

-- a builder with extended lengths forced has the same data
few_forced : (n : ℕ) (x : Reply CommandBuilder) → Few n x → Few n (forcing x)
few_forced n x h =
    all_then (λ b. n ≤ 65535) (λ b. n ≤ 65535) x _ h (λ b g. all_every (λ f. n ≤ 65535) (forced_of b b.mode) (λ f. g))

-- forcing extended lengths and going on, in one step
then_forced : {A : Type 0} (x : Reply CommandBuilder) (f : CommandBuilder → Reply A)
    → then (forcing x) f ≡ then x (λ b. then (forced_of b b.mode) f)
then_forced (ok b) f = refl
then_forced (refused k) f = refl

-- without the test of n data bytes: a row with a length, and a row with the result of a comparison
module _ (n : ℕ) where
  row : (x : Reply CommandBuilder) (f : CommandBuilder → ℕ) → Few n x
      → then x (λ b. then (unless_long n (ok (f b))) (λ k. ok (k ∷ []))) ≡ then x (λ b. ok (f b ∷ []))
  row (ok b) f h = rw (le-ltb 65535 n h)
  row (refused k) f h = refl

  row_equal : (x : Reply CommandBuilder) (y : Reply CommandView) (f : CommandBuilder → CommandView → Bool) → Few n x
      → equal_numbers (with_both x y (λ b v. unless_long n (ok (f b v)))) ≡ with_both x y (λ b v. ok (flag_of (f b v) ∷ []))
  row_equal (ok b) (ok v) f h = rw (le-ltb 65535 n h)
  row_equal (refused k) (ok v) f h = refl
  row_equal x (refused j) f h = refl

-- what the exported functions write, from what the private ones wrote
module _ (c i p q e m : ℕ) (d : List ℕ) where
  abbrev x : Reply CommandBuilder
  x = builder_by_numbers c i p q e m d

  module _ (b : Reply CommandBuilder) (known : b ≡ x) (out : List ℕ) (r : ℕ) (after : List ℕ) where
    pub required_row : NumbersWritten 1 (requiring b d) out r after → NumbersWritten 1 (required_len_reply c i p q e m d) out r after
    unfolding required_len_reply
    required_row a =
        let f = row (length d) x (λ b. required_len b (length d)) (few c i p q e m d) in
        subst (λ z. NumbersWritten 1 z out r after) (ap (λ z. requiring z d) known ∙ f) a

    pub forced_row : (z : Reply CommandBuilder) → z ≡ forcing b → NumbersWritten 1 (requiring z d) out r after
        → NumbersWritten 1 (force_extended_reply c i p q e m d) out r after
    unfolding force_extended_reply
    forced_row z g a =
        let f = row (length d) (forcing x) (λ b. required_len b (length d)) (few_forced (length d) x (few c i p q e m d)) in
        let t = then_forced x (λ b. ok (required_len b (length d) ∷ [])) in
        subst (λ z. NumbersWritten 1 z out r after) (ap (λ z. requiring z d) (g ∙ ap forcing known) ∙ f ∙ t) a

    pub equal_row : (s : List ℕ) (y : Reply Bool) → y ≡ comparing b d s → NumbersWritten 1 (equal_numbers y) out r after
        → NumbersWritten 1 (builder_eq_reply c i p q e m d s) out r after
    unfolding builder_eq_reply
    equal_row s y h a =
        let f = row_equal (length d) x (parse Crate s) (λ b v. equal_to b d v (data_in s (parse Crate s))) (few c i p q e m d) in
        subst (λ z. NumbersWritten 1 z out r after) (ap equal_numbers (h ∙ ap (λ z. comparing z d s) known) ∙ f) a
