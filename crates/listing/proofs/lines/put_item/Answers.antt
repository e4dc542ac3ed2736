use Rattle.listing.specs.Text.{item_text}
use Rattle.listing.proofs.lines.put_item.Goals as goal

pub command_line-requires : goal.command_line-requires
unfolding item_text
command_line-requires c = rw c.in-Commands.is at c.requires

pub put_objects-requires : goal.put_objects-requires
unfolding item_text
put_objects-requires c = rw c.in-Records.is at c.requires

pub returns-in-Commands : goal.returns-in-Commands
unfolding item_text
returns-in-Commands c = rw c.in-Commands.is c.command_line.ensures

pub returns-in-Records : goal.returns-in-Records
unfolding item_text
returns-in-Records c = rw c.in-Records.is c.put_objects.ensures
