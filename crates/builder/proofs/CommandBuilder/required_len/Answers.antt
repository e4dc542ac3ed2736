use native.Mathlib.Omega.{arith}
use Prim.Native.Nat.{◌+◌}
use mathlib.Core.Path.{◌≡◌, sym, ap, ◌∙◌}
use lib.ListN.{length}
use Rattle.basis.specs.Reply.{ok}
use Rattle.builder.specs.Bytes.{lc_len, le_len, required_len}
use Rattle.builder.proofs.Lengths.{lengths_few, required_is}
use Rattle.builder.proofs.Data.{too_many, few_enough}
use Rattle.builder.proofs.CommandBuilder.required_len.Goals as goal

pub returns-then-n-gt65535 : goal.returns-then-n-gt65535
returns-then-n-gt65535 c =
    sym (too_many _ _ c.if-n-gt65535.true)

pub returns : goal.returns
returns c =
    let lc_is : c.sizes-sizes.result.lc ≡ lc_len c.args.self (length c.args.«data».now) = ap (λ z. z.lc) c.sizes-sizes.ensures in
    let le_is : c.sizes-sizes.result.le ≡ le_len c.args.self (length c.args.«data».now) = ap (λ z. z.le) c.sizes-sizes.ensures in
    let sum_is : 4 + c.sizes-sizes.result.lc + (length c.args.«data».now) + c.sizes-sizes.result.le ≡ required_len c.args.self (length c.args.«data».now) = omega (arith, lc_is, le_is, required_is c.args.self (length c.args.«data».now)) in
    let z = c in
    ap ok sum_is ∙ sym (few_enough (length z.args.«data».now) _ z.if-n-gt65535.false)

pub overflow_add-result : goal.overflow_add-result
overflow_add-result c = let lc_is : c.sizes-sizes.result.lc ≡ lc_len c.args.self (length c.args.«data».now) = ap (λ z. z.lc) c.sizes-sizes.ensures in
    omega (arith, lc_is, lengths_few c.args.self (length c.args.«data».now))

pub overflow_add-result-2 : goal.overflow_add-result-2
overflow_add-result-2 c = let lc_is : c.sizes-sizes.result.lc ≡ lc_len c.args.self (length c.args.«data».now) = ap (λ z. z.lc) c.sizes-sizes.ensures in
    omega (arith, lc_is, lengths_few c.args.self (length c.args.«data».now))

pub overflow_add-result-3 : goal.overflow_add-result-3
overflow_add-result-3 c = let lc_is : c.sizes-sizes.result.lc ≡ lc_len c.args.self (length c.args.«data».now) = ap (λ z. z.lc) c.sizes-sizes.ensures in
    let le_is : c.sizes-sizes.result.le ≡ le_len c.args.self (length c.args.«data».now) = ap (λ z. z.le) c.sizes-sizes.ensures in
    let z = c in
    omega (arith, lc_is, le_is, lengths_few z.args.self (length z.args.«data».now))
