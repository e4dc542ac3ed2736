use Rattle.std.proofs.Common.{ℕ, ◌≡◌, [], ◌∷◌, sym, ap, ◌∙◌}
use Rattle.basis.specs.Refusal.{refusal_number}
use Rattle.listing.specs.Text.{line}
use Rattle.listing.proofs.Writing.{puts_as}
use Rattle.listing.proofs.LineLaws.{refused_line, extended_line, short_line}
use Rattle.listing.proofs.lines.command_line.Goals as goal

pub fill-requires : goal.fill-requires
fill-requires c =
    let a = c.args in
    let e : c.from-number.result ≡ refusal_number c.in-Err.refusal = c.from-number.ensures ∙ c.number.ensures in
    rw (e, refused_line a.k a.apdu.now _ (sym c.in-Err.ensures)) c.requires

pub returns-in-Err : goal.returns-in-Err
returns-in-Err c =
    let a = c.args in
    let e : c.from-number.result ≡ refusal_number c.in-Err.refusal = c.from-number.ensures ∙ c.number.ensures in
    puts_as
    (ap (λ (x : ℕ). line "% refused %\n" (a.k ∷ x ∷ [])) e ∙ refused_line a.k a.apdu.now _ (sym c.in-Err.ensures))
    c.fill.ensures

pub fill-requires-then-view : goal.fill-requires-then-view
fill-requires-then-view c =
    rw (extended_line c.args.k c.args.apdu.now c.in-Ok.view _ c.if-view.true c.line_numbers-numbers.ensures (sym c.in-Ok.ensures)) c.requires

pub returns-then-view : goal.returns-then-view
returns-then-view c =
    puts_as
    (extended_line c.args.k c.args.apdu.now c.in-Ok.view _ c.if-view.true c.line_numbers-numbers.ensures (sym c.in-Ok.ensures))
    c.fill-then-view.ensures

pub fill-requires-in-Ok : goal.fill-requires-in-Ok
fill-requires-in-Ok c =
    rw (short_line c.args.k c.args.apdu.now c.in-Ok.view _ c.if-view.false c.line_numbers-numbers.ensures (sym c.in-Ok.ensures)) c.requires

pub returns-else-view : goal.returns-else-view
returns-else-view c =
    puts_as
    (short_line c.args.k c.args.apdu.now c.in-Ok.view _ c.if-view.false c.line_numbers-numbers.ensures (sym c.in-Ok.ensures))
    c.fill-in-Ok.ensures
