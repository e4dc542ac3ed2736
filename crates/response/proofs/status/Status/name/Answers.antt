use mathlib.Core.Path.{sym}
use Rattle.response.proofs.Table.{name_short}
use Rattle.response.proofs.Names.{place_inside, no_name, named}
use Rattle.response.proofs.status.Status.name.Goals as goal

pub listed_at-requires : goal.listed_at-requires
listed_at-requires c = place_inside _ _ (sym c.in-Some.ensures)

pub copy_name-requires : goal.copy_name-requires
copy_name-requires c =
    let short = name_short _ (place_inside _ _ (sym c.in-Some.ensures)) in
    rw c.listed_at.ensures short

pub returns-in-None : goal.returns-in-None
returns-in-None c = no_name _ _ (sym c.in-None.ensures)

pub returns-in-Some : goal.returns-in-Some
returns-in-Some c =
    named _ _ _ _ _ _ (sym c.in-Some.ensures) c.listed_at.ensures c.copy_name.ensures
