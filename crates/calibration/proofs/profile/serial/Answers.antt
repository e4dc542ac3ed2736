use mathlib.Core.Path.{◌≡◌, sym, ap, ◌∙◌}
use Prim.Native.Nat.{ℕ, ◌+◌, ◌-◌}
use native.Mathlib.Omega.{arith}
use lib.ListN.{take, drop}
use Rattle.calibration.specs.Profile.{serial_len, serial_in}
use Rattle.calibration.proofs.Read.{Told, fields_told}
use Rattle.calibration.proofs.profile.serial.Goals as goal

pub returns-in-Ok : goal.returns-in-Ok
returns-in-Ok c =
    let s = c.args.«record».now in
    let told : Told s c.in-Ok.profile = fields_told s _ (sym c.in-Ok.ensures) in
    let n : 4 + c.in-Ok.profile.serial - 4 ≡ serial_len s = omega (arith, told.serial_is) in
    ap (λ (k : ℕ). take k (drop 4 s)) n ∙ sym (ap serial_in told.fields_are)

pub overflow_add-result : goal.overflow_add-result
overflow_add-result c =
    let told : Told c.args.«record».now c.in-Ok.profile = fields_told c.args.«record».now _ (sym c.in-Ok.ensures) in
    omega (arith, told.serial_is, told.formed.least)

pub slice_bounds-result-end : goal.slice_bounds-result-end
slice_bounds-result-end c =
    let told : Told c.args.«record».now c.in-Ok.profile = fields_told c.args.«record».now _ (sym c.in-Ok.ensures) in
    omega (arith, told.serial_is, told.formed.least)
