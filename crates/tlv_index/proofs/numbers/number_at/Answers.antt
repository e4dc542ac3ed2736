use Prim.Native.Nat.{◌+◌, ◌*◌, ◌^◌}
use mathlib.Core.Path.{◌≡◌, sym, ap, ◌∙◌}
use native.Mathlib.Nat.{pow-suc}
use native.Mathlib.Numerals.{add-one}
use native.Mathlib.Omega.{arith}
use Rattle.tlv_index.specs.File.{field}
use Rattle.tlv_index.proofs.Fields.{field_none, field_next, few_bytes}
use Rattle.tlv_index.proofs.numbers.number_at.Goals as goal

pub loop-i-init : goal.loop-i-init
loop-i-init g c = record { so_far = sym (field_none _ _); small = omega arith }

pub overflow_mul-number : goal.overflow_mul-number
overflow_mul-number g c = omega (arith, few_bytes c.loop-i.i (omega arith))

pub overflow_add-number : goal.overflow_add-number
overflow_add-number g c = omega (arith, few_bytes c.loop-i.i (omega arith), c.type_inv.file (c.args.at + c.loop-i.i))

pub loop-i-preserved : goal.loop-i-preserved
loop-i-preserved g c =
    let pow : 256 ^ (c.loop-i.i + 1) ≡ 256 ^ c.loop-i.i * 256 = rw (add-one, pow-suc) in
    record {
      so_far = omega (arith, field_next c.loop-i.i c.args.at c.args.file.now (omega arith));
      small = omega (arith, c.type_inv.file (c.args.at + c.loop-i.i));
    }

pub returns : goal.returns
returns g c =
    let all : c.loop-i.i ≡ g.row.N = omega arith in
    c.loop-i.invariant.so_far ∙ ap (λ k. field k c.args.at c.args.file.now) all
