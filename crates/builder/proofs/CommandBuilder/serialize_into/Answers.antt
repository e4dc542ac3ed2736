use native.Mathlib.Omega.{arith}
use Prim.Native.Nat.{ℕ, ◌+◌, ◌-◌}
use mathlib.Core.Path.{◌≡◌, sym, ap, ◌∙◌}
use mathlib.Core.List.{List}
use lib.ListN.{length, take, drop}
use Rattle.basis.specs.Reply.{ok}
use Rattle.basis.specs.Over.{over, over_at}
use Rattle.basis.proofs.Over.{lent}
use Rattle.builder.specs.Bytes.{lc_len, le_len, required_len, command_of}
use Rattle.builder.specs.Sizes.{laid_out}
use Rattle.builder.proofs.Cases.{laid_out_is}
use Rattle.builder.proofs.Lengths.{lengths_few, length_command, required_is}
use Rattle.builder.proofs.Fitting.{data_too_long, buffer_too_short, fits}
use Rattle.builder.proofs.CommandBuilder.serialize_into.Goals as goal

pub returns-then-n-gt65535 : goal.returns-then-n-gt65535
returns-then-n-gt65535 c =
    let e = data_too_long _ _ _ _ c.if-n-gt65535.true in
    record { reply = sym e; buffer = rw e }

pub returns-then-buffer-at : goal.returns-then-buffer-at
returns-then-buffer-at c =
    let a = c.args in
    let e = buffer_too_short a.self a.«data».now (length a.buffer.now) a.at c.if-n-gt65535.false (omega (arith, c.if-buffer-at.true)) in
    record { reply = sym e; buffer = rw e }

pub returns-then-buffer-at-2 : goal.returns-then-buffer-at-2
returns-then-buffer-at-2 c =
    let lc_is : c.sizes-sizes.result.lc ≡ lc_len c.args.self (length c.args.«data».now) = ap (λ z. z.lc) c.sizes-sizes.ensures in
    let le_is : c.sizes-sizes.result.le ≡ le_len c.args.self (length c.args.«data».now) = ap (λ z. z.le) c.sizes-sizes.ensures in
    let sum_is : 4 + c.sizes-sizes.result.lc + length c.args.«data».now + c.sizes-sizes.result.le ≡ required_len c.args.self (length c.args.«data».now) = omega (arith, lc_is, le_is, required_is c.args.self (length c.args.«data».now)) in
    let z = c in
    let e = buffer_too_short z.args.self z.args.«data».now (length z.args.buffer.now) z.args.at z.if-n-gt65535.false (omega (arith, sum_is, z.if-buffer-at.false, c.if-buffer-at-2.true)) in
    record { reply = sym e; buffer = rw e }

pub returns : goal.returns
returns c =
    let lc_is : c.sizes-sizes.result.lc ≡ lc_len c.args.self (length c.args.«data».now) = ap (λ z. z.lc) c.sizes-sizes.ensures in
    let le_is : c.sizes-sizes.result.le ≡ le_len c.args.self (length c.args.«data».now) = ap (λ z. z.le) c.sizes-sizes.ensures in
    let sum_is : 4 + c.sizes-sizes.result.lc + length c.args.«data».now + c.sizes-sizes.result.le ≡ required_len c.args.self (length c.args.«data».now) = omega (arith, lc_is, le_is, required_is c.args.self (length c.args.«data».now)) in
    let command_is : laid_out c.args.self c.sizes-sizes.result c.args.«data».now ≡ command_of c.args.self c.args.«data».now = ap (λ f. laid_out c.args.self f c.args.«data».now) c.sizes-sizes.ensures ∙ laid_out_is c.args.self c.args.«data».now in
    let wrote : let z = c in c.put_command.new.to ≡ over (laid_out z.args.self z.sizes-sizes.result z.args.«data».now) (take (length z.args.buffer.now - z.args.at) (drop z.args.at z.args.buffer.now)) = c.put_command.ensures in
    let z = c in
    let e = fits z.args.self z.args.«data».now (length z.args.buffer.now) z.args.at z.if-n-gt65535.false (omega (arith, sum_is, z.if-buffer-at.false, c.if-buffer-at-2.false)) in
    let long : length (laid_out z.args.self z.sizes-sizes.result z.args.«data».now) ≡ required_len z.args.self (length z.args.«data».now) =
    ap length command_is ∙ length_command z.args.self z.args.«data».now in
    record {
      reply = ap ok sum_is ∙ sym e;
      buffer = rw e
          (lent z.args.buffer.now z.args.at (laid_out z.args.self z.sizes-sizes.result z.args.«data».now) _ (omega (arith, long, sum_is, z.if-buffer-at.false, c.if-buffer-at-2.false))
          wrote
          ∙ ap (λ (l : List ℕ). over_at z.args.at l z.args.buffer.now) command_is);
    }

pub overflow_add-len : goal.overflow_add-len
overflow_add-len c = let lc_is : c.sizes-sizes.result.lc ≡ lc_len c.args.self (length c.args.«data».now) = ap (λ z. z.lc) c.sizes-sizes.ensures in
    omega (arith, lc_is, lengths_few c.args.self (length c.args.«data».now))

pub overflow_add-len-2 : goal.overflow_add-len-2
overflow_add-len-2 c = let lc_is : c.sizes-sizes.result.lc ≡ lc_len c.args.self (length c.args.«data».now) = ap (λ z. z.lc) c.sizes-sizes.ensures in
    omega (arith, lc_is, lengths_few c.args.self (length c.args.«data».now))

pub overflow_add-len-3 : goal.overflow_add-len-3
overflow_add-len-3 c = let lc_is : c.sizes-sizes.result.lc ≡ lc_len c.args.self (length c.args.«data».now) = ap (λ z. z.lc) c.sizes-sizes.ensures in
    let le_is : c.sizes-sizes.result.le ≡ le_len c.args.self (length c.args.«data».now) = ap (λ z. z.le) c.sizes-sizes.ensures in
    let z = c in
    omega (arith, lc_is, le_is, lengths_few z.args.self (length z.args.«data».now))

pub put_command-requires : goal.put_command-requires
put_command-requires c = let lc_is : c.sizes-sizes.result.lc ≡ lc_len c.args.self (length c.args.«data».now) = ap (λ z. z.lc) c.sizes-sizes.ensures in
    let le_is : c.sizes-sizes.result.le ≡ le_len c.args.self (length c.args.«data».now) = ap (λ z. z.le) c.sizes-sizes.ensures in
    let z = c in
    let few = lengths_few z.args.self (length z.args.«data».now) in
    record {
      lc_few = omega (arith, lc_is, few);
      le_few = omega (arith, le_is, few);
      room = omega (arith, z.if-buffer-at.false, c.if-buffer-at-2.false);
    }
