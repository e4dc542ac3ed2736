use mathlib.Core.Path.{sym}
use borrow.Author.Rules.{rules}
use native.Mathlib.Omega.{arith}
use Rattle.tlv_index.proofs.Builds.{counted_says, too_long, too_many, as_counted}
use Rattle.tlv_index.proofs.build.build_index.Goals as goal

pub returns-then-record-gt65535 : goal.returns-then-record-gt65535
returns-then-record-gt65535 c = too_long _ _ _ (omega (arith, c.if-record-gt65535.true))

pub write_index-requires : goal.write_index-requires
write_index-requires c = let says = counted_says _ _ (sym c.in_ok-counted.ensures) in (says.0, says.1)

pub returns-in_err-counted : goal.returns-in_err-counted
returns-in_err-counted c =
    too_many _ _ _ (omega (arith, c.if-record-gt65535.false)) _ _ (sym c.in_err-counted.ensures) (search rules)

pub returns : goal.returns
returns c =
    as_counted _ _ _ (omega (arith, c.if-record-gt65535.false)) _ _ _ (sym c.in_ok-counted.ensures)
    (record { reply = c.write_index.ensures.reply; buffer = c.write_index.ensures.buffer })
