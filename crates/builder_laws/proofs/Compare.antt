-- A builder compared with a command of the same header and data, and with its own command as that is read back. Le
-- decides: the builder's is compared as it was asked for, Max as 65,535; the command's is as it was written. Rules 3.10
-- and 3.11.
use Prim.Native.Nat.{ℕ, ◌+◌, ◌≤◌, ◌<◌}
use mathlib.Core.Path.{◌≡◌, refl}
use mathlib.Core.Bool.{Bool, true, false, cond}
use mathlib.Core.List.{List}
use native.Mathlib.Omega.{arith}
use borrow.Author.Tests.{eq-eqb, ne_eqb}
use lib.Dec.{eqb}
use lib.ListN.{length}
use Rattle.command.proofs.Cases.{view_of_numbers}
use Rattle.builder.specs.Bytes.{le_number, lowered_len, le_written, lc_len}
use Rattle.builder_compare.specs.Compare.{le_compared, same_header, equal_to}
use Rattle.builder.specs.declared.ExpectedLen.TheVariants.{Ne, Max}
use Rattle.builder.specs.declared.ExtendedLen.{ExtendedLen}
use Rattle.builder.specs.declared.ExtendedLen.TheVariants.{Unsupported, Supported, Forced}
use Rattle.builder.specs.declared.CommandBuilder.{CommandBuilder}
use Rattle.byte_slices.proofs.Slices.{same_self}
use Rattle.builder_laws.specs.Read.{extended_for, view_for}
use Rattle.builder_laws.proofs.LeWritten.{le_read}

-- Max is never written as 65,535
max_lowered : (m : ExtendedLen) → eqb 65535 (le_number (lowered_len m Max)) ≡ false
max_lowered Unsupported = refl
max_lowered Supported = refl
max_lowered Forced = refl

cond_true_false : (r : Bool) → cond r true false ≡ r
cond_true_false true = refl
cond_true_false false = refl

module _ (b : CommandBuilder) (d : List ℕ) where
  -- a command of the same header and data, with an Le of e, is equal exactly if Le is
  equal_by_le : (at n e : ℕ) (x r : Bool) → eqb (le_compared b.le) e ≡ r
      → equal_to b d (view_of_numbers b.class.cla b.instruction b.p1 b.p2 at n e x) d ≡ r
  unfolding equal_to same_header
  equal_by_le at n e x r h =
      rw (
        eq-eqb b.class.cla b.class.cla refl,
        eq-eqb b.instruction b.instruction refl,
        eq-eqb b.p1 b.p1 refl,
        eq-eqb b.p2 b.p2 refl,
        same_self d,
        h,
      ) (cond_true_false r)

  own_equal_by_le : (r : Bool) → eqb (le_compared b.le) (le_written b) ≡ r → equal_to b d (view_for b (length d)) d ≡ r
  own_equal_by_le r h = equal_by_le (4 + lc_len b (length d)) (length d) (le_written b) (extended_for b (length d)) r h

  -- Max is equal to 65,535 (rule 3.11)
  pub max_equal : (at n : ℕ) (x : Bool) → b.le ≡ Max
      → equal_to b d (view_of_numbers b.class.cla b.instruction b.p1 b.p2 at n 65535 x) d ≡ true
  max_equal at n x e = equal_by_le at n 65535 x true (rw e)

  -- its own command as it is read back is equal if Le is not lowered
  pub own_equal : (n : ℕ) → b.le ≡ Ne n → (b.mode ≡ Unsupported → n ≤ 256) → equal_to b d (view_for b (length d)) d ≡ true
  own_equal n e h = own_equal_by_le true (rw ((le_read b).number n e h, e) (eq-eqb n n refl))

  -- it is not equal if Le is lowered, nor for Max in any mode
  pub lowered_differs : (n : ℕ) → b.le ≡ Ne n → b.mode ≡ Unsupported → 256 < n → equal_to b d (view_for b (length d)) d ≡ false
  lowered_differs n e m h = own_equal_by_le false (rw ((le_read b).number_lowered n e m h, e) (ne_eqb n 256 (omega arith)))

  pub max_differs : b.le ≡ Max → equal_to b d (view_for b (length d)) d ≡ false
  unfolding le_written
  max_differs e = own_equal_by_le false (rw e (max_lowered b.mode))
