-- The length of a command: four plus the bytes of Lc, data and Le (rule 11.9).
use Prim.Native.Nat.{ℕ, zero, suc, ◌+◌, ◌≤◌}
use mathlib.Core.Path.{◌≡◌, refl, sym, ap, ◌∙◌}
use mathlib.Core.List.{List}
use native.Mathlib.Omega.{arith}
use lib.ListN.{length, length-append}
use Rattle.basis.specs.Number.{be}
use Rattle.builder.specs.Cases.{Case, case1, case2_s, case3_s, case4_s, case2_e, case3_e, case4_e, lc_bytes, le_bytes}
use Rattle.builder.specs.Bytes.{le_written, case_of, lc_len, le_len, command_of, required_len}
use Rattle.builder.specs.Sizes.{field}
use Rattle.builder.specs.declared.CommandBuilder.{CommandBuilder}
use Rattle.builder.proofs.Cases.{laid_out_is}

-- Lc and Le have at most three bytes each, and five together
pub case_few : (x : Case) → (lc_bytes x ≤ 3) × (le_bytes x ≤ 3) × (lc_bytes x + le_bytes x ≤ 5)
case_few case1 = omega arith
case_few case2_s = omega arith
case_few case3_s = omega arith
case_few case4_s = omega arith
case_few case2_e = omega arith
case_few case3_e = omega arith
case_few case4_e = omega arith

module _ (b : CommandBuilder) (n : ℕ) where
  pub lengths_few : (lc_len b n ≤ 3) × (le_len b n ≤ 3) × (lc_len b n + le_len b n ≤ 5)
  unfolding lc_len le_len
  lengths_few = case_few (case_of b n)

-- a length field of k bytes has k bytes
pub length_field_lem : (k n : ℕ) → k ≤ 3 → length (field k n) ≡ k
unfolding field be
length_field_lem zero n h = refl
length_field_lem (suc zero) n h = refl
length_field_lem (suc (suc zero)) n h = refl
length_field_lem (suc (suc (suc k))) n h = omega arith

-- the bytes of a command are as many as its length says
pub length_command : (b : CommandBuilder) (d : List ℕ) → length (command_of b d) ≡ required_len b (length d)
unfolding required_len
length_command b d =
    let n = length d in
    let few = lengths_few b n in
    sym (ap length (laid_out_is b d))
    ∙ simp (length-append, length_field_lem (lc_len b n) n few.0, length_field_lem (le_len b n) (le_written b) few.1) (omega arith)

-- its length as a sum
pub required_is : (b : CommandBuilder) (n : ℕ) → required_len b n ≡ 4 + lc_len b n + n + le_len b n
unfolding required_len
required_is b n = refl
