-- The sizes of Lc and Le by one flag, whether lengths are extended, as the code computes them. Rules 3.4 to 3.8. That
-- the cases of specs/Cases.antt say the same is proved in proofs/Cases.antt.
use Rattle.std.specs.Prelude.{ℕ, zero, suc, ◌+◌, ◌≤◌, Bool, true, false, cond, List, [], ◌∷◌, ◌++◌, ltb, eqb, length}
use Rattle.basis.specs.Number.{be}
use Rattle.builder.specs.Bytes.{le_written, lc_len, le_len, header}
use Rattle.builder.specs.declared.ExtendedLen.{ExtendedLen}
use Rattle.builder.specs.declared.ExtendedLen.TheVariants.{Unsupported, Supported, Forced}
use Rattle.builder.specs.declared.CommandBuilder.{CommandBuilder}
use Rattle.builder.specs.declared.sizes.Fields.{Fields}

-- whether extended lengths are forced
abbrev pub is_forced : ExtendedLen → Bool
is_forced Unsupported = false
is_forced Supported = false
is_forced Forced = true

-- whether lengths are extended: for data from 256 bytes, for Le above 256, and when they are forced (rules 3.4 and 3.7)
unfoldable pub extended : ExtendedLen → ℕ → ℕ → Bool
extended m n e = cond (ltb 255 n) true (cond (ltb 256 e) true (is_forced m))

-- how many bytes Lc takes for n data bytes: none without data, else three or one (rules 3.4 and 3.5)
unfoldable pub lc_size : Bool → ℕ → ℕ
lc_size w n = cond (eqb n 0) 0 (cond w 3 1)

-- how many bytes Le takes: none for 0; if extended, three without data and two after Lc; else one (rules 3.6 and 3.7)
unfoldable pub le_size : Bool → ℕ → ℕ → ℕ
le_size w n e = cond (eqb e 0) 0 (cond w (cond (eqb n 0) 3 2) 1)

-- the sizes of Lc and Le for n data bytes, and the Le that is written
abbrev pub fields_of : CommandBuilder → ℕ → Fields
fields_of b n = record { lc = lc_len b n; le = le_len b n; written = le_written b }

-- a length field of k bytes: none, one, two, or a zero byte and two (rule 3.8)
unfoldable pub field : ℕ → ℕ → List ℕ
field zero n = []
field (suc zero) n = be 1 n
field (suc (suc zero)) n = be 2 n
field (suc (suc (suc k))) n = 0 ∷ be 2 n

-- a command with fields of these sizes: header, Lc, data, Le (rule 3.9)
abbrev pub laid_out : CommandBuilder → Fields → List ℕ → List ℕ
laid_out b z d = (header b ++ (field z.lc (length d) ++ d)) ++ field z.le z.written

-- fields of these sizes, with n data bytes, fit into m bytes
pub record Fits (z : Fields) (n m : ℕ) : Type 0 where
  pub lc_few : z.lc ≤ 3
  pub le_few : z.le ≤ 3
  pub room : 4 + z.lc + n + z.le ≤ m
