-- What a builder writes is read back, in both readings, as `view_for` says and with its data (rule 11.3).
use Prim.Native.Nat.{ℕ, zero, suc, ◌+◌, ◌*◌, ◌/◌, ◌%◌, ◌≤◌}
use mathlib.Core.Path.{◌≡◌, refl, sym, ap, subst, ◌∙◌}
use mathlib.Core.Bool.{Bool}
use mathlib.Core.List.{List, [], ◌∷◌}
use native.Mathlib.Omega.{arith}
use lib.ListN.{length}
use Rattle.basis.specs.Reply.{refused}
use Rattle.basis.specs.Number.{be}
use Rattle.class.specs.declared.Reading.{Reading}
use Rattle.command.specs.Body.{or_most}
use Rattle.command.specs.Command.{parse}
use Rattle.command.proofs.Cases.{ReadAs, view_of_numbers, class_ff, no_fields}
use Rattle.command.proofs.Cases.{short_le, short_data, short_data_le, extended_le, extended_data, extended_data_le}
use Rattle.builder.specs.Cases.{Case, case1, case2_s, case3_s, case4_s, case2_e, case3_e, case4_e, case_bytes, lc_bytes}
use Rattle.builder.specs.Bytes.{le_written, case_of, lc_len, command_of}
use Rattle.builder.specs.declared.CommandBuilder.{CommandBuilder}
use Rattle.builder_laws.specs.Read.{Expected, is_extended, extended_for, view_for}
use Rattle.builder_laws.proofs.Cases.{Used, case_used}
use Rattle.builder_laws.proofs.LeWritten.{written_le}

-- a number that is read back: zero means the most
zero_means_most : (most x e : ℕ) → (x ≡ 0 → most ≡ e) → (1 ≤ x → x ≡ e) → or_most most x ≡ e
zero_means_most most zero e h g = h refl
zero_means_most most (suc x) e h g = g (omega arith)

-- an expected length written in one byte, and in two, is read back
le_in_one_byte : (e : ℕ) → 1 ≤ e → e ≤ 256 → or_most 256 (e % 256) ≡ e
le_in_one_byte e h g = zero_means_most 256 (e % 256) e (λ z. omega arith) (λ z. omega arith)

le_in_two_bytes : (e : ℕ) → 1 ≤ e → e ≤ 65536 → or_most 65536 (e / 256 % 256 * 256 + e % 256) ≡ e
le_in_two_bytes e h g = zero_means_most 65536 (e / 256 % 256 * 256 + e % 256) e (λ z. omega arith) (λ z. omega arith)

-- a command that is read with an Le of e is read with an equal Le
with_le : {r : Reading} {s d : List ℕ} {c i p q at n e e' : ℕ} {x : Bool} → e ≡ e'
    → ReadAs r s (view_of_numbers c i p q at n e x) d → ReadAs r s (view_of_numbers c i p q at n e' x) d
with_le {r} {s} {d} {c} {i} {p} {q} {at} {n} {e} {e'} {x} g h = subst (λ (m : ℕ). ReadAs r s (view_of_numbers c i p q at n m x) d) g h

-- the bytes of each case are read back (rule 3.8)
module _ (r : Reading) (c i p q : ℕ) (k : c ≡ 0xFF → ⊥) where
  case_read : (x : Case) (d : List ℕ) (e : ℕ) → Used x (length d) e → length d ≤ 65535 → e ≤ 65536
      → ReadAs r (case_bytes x (c ∷ i ∷ p ∷ q ∷ []) d e) (view_of_numbers c i p q (4 + lc_bytes x) (length d) e (is_extended x)) d
  unfolding be
  case_read case1 [] e u o l = with_le (sym u.1) (no_fields r c i p q k)
  case_read case1 (y ∷ d) e u o l = absurd (omega (arith, u.0))
  case_read case2_s [] e u o l = with_le (le_in_one_byte e u.1 u.2) (short_le r c i p q k (e % 256))
  case_read case2_s (y ∷ d) e u o l = absurd (omega (arith, u.0))
  case_read case3_s d e u o l = with_le (sym u.2) (short_data r c i p q k (length d % 256) d (omega (arith, u.1)) (omega (arith, u.0, u.1)))
  case_read case4_s d e u o l =
      with_le (le_in_one_byte e u.2 u.3) (short_data_le r c i p q k (length d % 256) d (e % 256) (omega (arith, u.1)) (omega (arith, u.0, u.1)))
  case_read case2_e [] e u o l = with_le (le_in_two_bytes e u.1 l) (extended_le r c i p q k (e / 256 % 256) (e % 256))
  case_read case2_e (y ∷ d) e u o l = absurd (omega (arith, u.0))
  case_read case3_e d e u o l =
      with_le (sym u.1) (extended_data r c i p q k (length d / 256 % 256) (length d % 256) d (omega arith) u.0)
  case_read case4_e d e u o l =
      with_le (le_in_two_bytes e u.1 l)
      (extended_data_le r c i p q k (length d / 256 % 256) (length d % 256) d (omega arith) u.0 (e / 256 % 256) (e % 256))

-- a header of class 0xFF is refused in each case
case_ff : (r : Reading) (i p q : ℕ) (x : Case) (d : List ℕ) (e : ℕ) → parse r (case_bytes x (0xFF ∷ i ∷ p ∷ q ∷ []) d e) ≡ refused 3
case_ff r i p q case1 d e = class_ff r i p q _
case_ff r i p q case2_s d e = class_ff r i p q _
case_ff r i p q case3_s d e = class_ff r i p q _
case_ff r i p q case4_s d e = class_ff r i p q _
case_ff r i p q case2_e d e = class_ff r i p q _
case_ff r i p q case3_e d e = class_ff r i p q _
case_ff r i p q case4_e d e = class_ff r i p q _

module _ (r : Reading) (b : CommandBuilder) (d : List ℕ) where
  -- every class byte but 0xFF, every mode, every expected length (Max is 65,536), and data of at most 65,535 bytes
  pub built_read : (b.class.cla ≡ 0xFF → ⊥) → Expected b.le → length d ≤ 65535
      → ReadAs r (command_of b d) (view_for b (length d)) d
  unfolding command_of case_of lc_len extended_for
  built_read k h o =
      case_read r b.class.cla b.instruction b.p1 b.p2 k (case_of b (length d)) d (le_written b)
      (case_used b.mode (length d) (le_written b)) o (written_le b h)

  -- class 0xFF is refused
  pub built_ff : b.class.cla ≡ 0xFF → parse r (command_of b d) ≡ refused 3
  unfolding command_of
  built_ff h =
      let x = case_of b (length d) in
      ap (λ (c : ℕ). parse r (case_bytes x (c ∷ b.instruction ∷ b.p1 ∷ b.p2 ∷ []) d (le_written b))) h
      ∙ case_ff r b.instruction b.p1 b.p2 x d (le_written b)
