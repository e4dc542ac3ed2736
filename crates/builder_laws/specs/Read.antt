-- What a written command is read back as, in both readings: the same header, data and expected length. Short mode has
-- lowered that to at most 256, and Max is read as 65,536 (rule 11.3).
use Rattle.std.specs.Prelude.{ℕ, ◌+◌, ◌≤◌, ◌<◌, ◌≡◌, Bool, true, false}
use Rattle.command.specs.declared.CommandView.{CommandView}
use Rattle.builder.specs.Cases.{Case, case1, case2_s, case3_s, case4_s, case2_e, case3_e, case4_e}
use Rattle.builder.specs.Bytes.{le_written, case_of, lc_len}
use Rattle.builder.specs.declared.ExpectedLen.{ExpectedLen}
use Rattle.builder.specs.declared.ExpectedLen.TheVariants.{Ne, Max}
use Rattle.builder.specs.declared.ExtendedLen.TheVariants.{Unsupported, Forced}
use Rattle.builder.specs.declared.CommandBuilder.{CommandBuilder}

-- an expected length: 0 to 65,535, or Max (rule 3.1)
abbrev pub Expected : ExpectedLen → Type 0
Expected (Ne n) = n ≤ 65535
Expected Max = Unit {0}

-- whether the lengths of a case are extended
abbrev pub is_extended : Case → Bool
is_extended case1 = false
is_extended case2_s = false
is_extended case3_s = false
is_extended case4_s = false
is_extended case2_e = true
is_extended case3_e = true
is_extended case4_e = true

-- whether those of a builder's command with n data bytes are
unfoldable pub extended_for : CommandBuilder → ℕ → Bool
extended_for b n = is_extended (case_of b n)

-- what it is read as: the builder's header and expected length, and n data bytes after the header and Lc
abbrev pub view_for : CommandBuilder → ℕ → CommandView
view_for b n =
    record {
      class = b.class;
      instruction = b.instruction;
      p1 = b.p1;
      p2 = b.p2;
      at = 4 + lc_len b n;
      len = n;
      le = le_written b;
      extended = extended_for b n;
    }

-- which expected length that is (rule 3.3)
pub record LeRead (b : CommandBuilder) : Type 0 where
  pub number : (n : ℕ) → b.le ≡ Ne n → (b.mode ≡ Unsupported → n ≤ 256) → le_written b ≡ n
  pub number_lowered : (n : ℕ) → b.le ≡ Ne n → b.mode ≡ Unsupported → 256 < n → le_written b ≡ 256
  pub most : b.le ≡ Max → (b.mode ≡ Unsupported → ⊥) → le_written b ≡ 65536
  pub most_lowered : b.le ≡ Max → b.mode ≡ Unsupported → le_written b ≡ 256

-- when its lengths are extended (rules 3.4 and 3.7)
pub record ExtendedRead (b : CommandBuilder) (n : ℕ) : Type 0 where
  pub data_long : 255 < n → extended_for b n ≡ true
  pub le_large : 256 < le_written b → extended_for b n ≡ true
  pub forced : b.mode ≡ Forced → 1 ≤ n + le_written b → extended_for b n ≡ true
  pub short : n ≤ 255 → le_written b ≤ 256 → (b.mode ≡ Forced → n + le_written b ≡ 0) → extended_for b n ≡ false
