use Rattle.std.proofs.Common.{ℕ, ◌/◌, [], ◌∷◌, ◌++◌, length, ap, sym, ◌∙◌, arith}
use Rattle.listing.specs.Text.{decimal}
use Rattle.listing.proofs.Writing.{puts_next, puts_as}
use Rattle.listing.proofs.Decimal.{decimal_one, decimal_more, length_more}
use Rattle.listing.proofs.text.+put_decimal.Goals as goal

pub put_byte-requires : goal.put_byte-requires
put_byte-requires t c = omega (arith, ap length (decimal_one c.args.n c.if-n-lt10.true))

pub returns-then-n-lt10 : goal.returns-then-n-lt10
returns-then-n-lt10 t c =
    puts_as (ap (λ (x : ℕ). x ∷ []) c.hex_digit.ensures ∙ sym (decimal_one c.args.n c.if-n-lt10.true)) c.put_byte.ensures

pub put_decimal-end-requires : goal.put_decimal-end-requires
put_decimal-end-requires t c = (omega arith, omega (arith, length_more c.args.n c.if-n-lt10.false))

pub put_byte-requires-2 : goal.put_byte-requires-2
put_byte-requires-2 t c = omega (arith, length_more c.args.n c.if-n-lt10.false)

pub returns : goal.returns
returns t c =
    let n = c.args.n in
    puts_as (ap (λ (x : ℕ). decimal (n / 10) ++ (x ∷ [])) c.hex_digit-2.ensures ∙ sym (decimal_more n c.if-n-lt10.false))
    (puts_next (omega arith) c.put_decimal-end.ensures c.put_byte-2.ensures)
