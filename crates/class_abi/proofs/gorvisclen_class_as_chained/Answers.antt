use Rattle.class_abi.specs.Numbers.{class_as_chained_reply, numbers_of, row_of}
use Rattle.class_abi.proofs.gorvisclen_class_as_chained.Goals as goal

pub returns-in-Ok : goal.returns-in-Ok
unfolding class_as_chained_reply numbers_of row_of
returns-in-Ok c = rw (← c.in-Ok.ensures) (rw (c.numbers.ensures, c.as_chained.ensures) at c.write_numbers.ensures)
