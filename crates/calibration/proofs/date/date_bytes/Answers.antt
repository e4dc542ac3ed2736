use Rattle.calibration.specs.Date.{date_bytes}
use Rattle.calibration.proofs.Calendar.{Real, real_says}
use Rattle.calibration.proofs.Digits.{century_below, month_below, day_below}
use Rattle.calibration.proofs.date.date_bytes.Goals as goal

pub returns : goal.returns
unfolding date_bytes
returns c =
    rw (
      c.packed-4.ensures,
      c.packed-3.ensures,
      c.packed-2.ensures,
      c.packed.ensures,
    )

pub packed-requires : goal.packed-requires
packed-requires c = let real : Real c.args.date = real_says c.args.date c.requires in
    century_below c.args.date real

pub packed-requires-3 : goal.packed-requires-3
packed-requires-3 c = let real : Real c.args.date = real_says c.args.date c.requires in
    month_below c.args.date real

pub packed-requires-4 : goal.packed-requires-4
packed-requires-4 c = let real : Real c.args.date = real_says c.args.date c.requires in
    day_below c.args.date real
