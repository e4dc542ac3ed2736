-- The cases of a command and the sizes that the code computes give the same bytes.
use Prim.Native.Nat.{ℕ, zero, suc}
use mathlib.Core.Path.{◌≡◌, refl}
use mathlib.Core.Bool.{Bool, true, false, cond}
use mathlib.Core.List.{List, [], ◌∷◌, ◌++◌, append_assoc, append-nil}
use native.Mathlib.Decide.{dec_le}
use native.Mathlib.Omega.{arith}
use borrow.Author.Tests.{le-leb, lt-leb, lt-ltb, le-ltb, ne_eqb}
use lib.Dec.{eqb}
use lib.ListN.{length}
use Rattle.builder.specs.Cases.{Case, case1, case2_s, case2_e, case_bytes, lc_bytes, le_bytes, unless_forced, after_short, after_extended, case_for}
use Rattle.builder.specs.Bytes.{le_written, case_of, lc_len, le_len, header, command_of}
use Rattle.builder.specs.Sizes.{is_forced, extended, lc_size, le_size, field, fields_of, laid_out}
use Rattle.builder.specs.declared.ExtendedLen.{ExtendedLen}
use Rattle.builder.specs.declared.ExtendedLen.TheVariants.{Unsupported, Supported, Forced}
use Rattle.builder.specs.declared.CommandBuilder.{CommandBuilder}

-- the case by one flag w, whether lengths are extended
abbrev case_by_flag : Bool → ℕ → ℕ → Case
case_by_flag w zero zero = case1
case_by_flag w zero (suc e) = cond w case2_e case2_s
case_by_flag w (suc n) e = cond w (after_extended e) (after_short e)

-- a choice by the mode is a choice by one test
unless_forced_lem : (m : ExtendedLen) (x y : Case) → unless_forced m x y ≡ cond (is_forced m) y x
unless_forced_lem Unsupported x y = refl
unless_forced_lem Supported x y = refl
unless_forced_lem Forced x y = refl

unless_same : (m : ExtendedLen) (x : Case) → unless_forced m x x ≡ x
unless_same Unsupported x = refl
unless_same Supported x = refl
unless_same Forced x = refl

-- the case that is used is the case by that flag
case_by_flag_lem : (m : ExtendedLen) (n e : ℕ) → case_for m n e ≡ case_by_flag (extended m n e) n e
unfolding case_for extended
case_by_flag_lem m zero zero = refl
case_by_flag_lem m zero (suc e) =
    elim (dec_le (suc e) 256) [
      | yes h ↦ rw (le-leb (suc e) 256 h, le-ltb 256 (suc e) h) (unless_forced_lem m case2_s case2_e)
      | no h ↦ rw (lt-leb (suc e) 256 (omega arith), lt-ltb 256 (suc e) (omega arith)) (unless_same m case2_e)
    ]
case_by_flag_lem m (suc n) e =
    elim (dec_le (suc n) 255) [
      | yes h ↦
          elim (dec_le e 256) [
            | yes g ↦ rw (le-ltb 255 (suc n) h, le-ltb 256 e g) (unless_forced_lem m (after_short e) (after_extended e))
            | no g ↦ rw (le-ltb 255 (suc n) h, lt-ltb 256 e (omega arith))
          ]
      | no h ↦ rw (lt-ltb 255 (suc n) (omega arith))
    ]

-- a successor is not zero
suc_not_zero : (n : ℕ) → eqb (suc n) 0 ≡ false
suc_not_zero n = ne_eqb (suc n) 0 (omega arith)

-- the bytes of Lc and of Le by that flag
lc_by_flag : (w : Bool) (n e : ℕ) → lc_bytes (case_by_flag w n e) ≡ lc_size w n
unfolding lc_size
lc_by_flag w zero zero = refl
lc_by_flag true zero (suc e) = refl
lc_by_flag false zero (suc e) = refl
lc_by_flag true (suc n) zero = rw (suc_not_zero n)
lc_by_flag true (suc n) (suc e) = rw (suc_not_zero n)
lc_by_flag false (suc n) zero = rw (suc_not_zero n)
lc_by_flag false (suc n) (suc e) = rw (suc_not_zero n)

le_by_flag : (w : Bool) (n e : ℕ) → le_bytes (case_by_flag w n e) ≡ le_size w n e
unfolding le_size
le_by_flag w zero zero = refl
le_by_flag true zero (suc e) = rw (suc_not_zero e)
le_by_flag false zero (suc e) = rw (suc_not_zero e)
le_by_flag true (suc n) zero = refl
le_by_flag true (suc n) (suc e) = rw (suc_not_zero n, suc_not_zero e)
le_by_flag false (suc n) zero = refl
le_by_flag false (suc n) (suc e) = rw (suc_not_zero e)

-- the bytes of Lc and of Le are the sizes that the code computes
module _ (b : CommandBuilder) (n : ℕ) where
  pub lc_sized : lc_len b n ≡ lc_size (extended b.mode n (le_written b)) n
  unfolding lc_len case_of
  lc_sized = rw (case_by_flag_lem b.mode n (le_written b)) (lc_by_flag (extended b.mode n (le_written b)) n (le_written b))

  pub le_sized : le_len b n ≡ le_size (extended b.mode n (le_written b)) n (le_written b)
  unfolding le_len case_of
  le_sized = rw (case_by_flag_lem b.mode n (le_written b)) (le_by_flag (extended b.mode n (le_written b)) n (le_written b))

-- the bytes of a case by that flag
bytes_by_flag : (w : Bool) (h d : List ℕ) (e : ℕ)
    → (h ++ (field (lc_size w (length d)) (length d) ++ d)) ++ field (le_size w (length d) e) e ≡ case_bytes (case_by_flag w (length d) e) h d e
unfolding lc_size le_size field
bytes_by_flag w h [] zero = rw (append-nil, append-nil)
bytes_by_flag true h [] (suc e) = rw (suc_not_zero e, append-nil)
bytes_by_flag false h [] (suc e) = rw (suc_not_zero e, append-nil)
bytes_by_flag true h (x ∷ d) zero = rw (suc_not_zero (length d), append-nil)
bytes_by_flag true h (x ∷ d) (suc e) = rw (suc_not_zero (length d), suc_not_zero e) (simp append_assoc)
bytes_by_flag false h (x ∷ d) zero = rw (suc_not_zero (length d), append-nil)
bytes_by_flag false h (x ∷ d) (suc e) = rw (suc_not_zero (length d), suc_not_zero e) (simp append_assoc)

-- the fields one after the other are the command
pub laid_out_is : (b : CommandBuilder) (d : List ℕ) → laid_out b (fields_of b (length d)) d ≡ command_of b d
unfolding command_of case_of
laid_out_is b d =
    let n = length d in
    let e = le_written b in
    rw (lc_sized b n, le_sized b n, case_by_flag_lem b.mode n e) (bytes_by_flag (extended b.mode n e) (header b) d e)
