use Rattle.listing.proofs.LineLaws.{line_one, line_two, line_three}
use Rattle.listing.proofs.Writing.{puts_as}
use Rattle.listing.proofs.lines.object_line.Goals as goal

pub fill-requires : goal.fill-requires
fill-requires c = let a = c.args in rw (line_one a.k a.j a.tag a.len c.if-t-lt256.true) c.requires

pub returns-then-t-lt256 : goal.returns-then-t-lt256
returns-then-t-lt256 c = let a = c.args in puts_as (line_one a.k a.j a.tag a.len c.if-t-lt256.true) c.fill.ensures

pub fill-requires-then-t-lt65536 : goal.fill-requires-then-t-lt65536
fill-requires-then-t-lt65536 c =
    let a = c.args in rw (line_two a.k a.j a.tag a.len c.if-t-lt256.false c.if-t-lt65536.true) c.requires

pub returns-then-t-lt65536 : goal.returns-then-t-lt65536
returns-then-t-lt65536 c =
    let a = c.args in
    puts_as (line_two a.k a.j a.tag a.len c.if-t-lt256.false c.if-t-lt65536.true) c.fill-then-t-lt65536.ensures

pub fill-requires-2 : goal.fill-requires-2
fill-requires-2 c = let a = c.args in rw (line_three a.k a.j a.tag a.len c.if-t-lt65536.false) c.requires

pub returns : goal.returns
returns c = let a = c.args in puts_as (line_three a.k a.j a.tag a.len c.if-t-lt65536.false) c.fill-2.ensures
