use native.Mathlib.Omega.{arith}
use Rattle.class.specs.Channel.{further_of}
use Rattle.class.proofs.channel.further.Goals as goal

pub returns-in-Crate : goal.returns-in-Crate
unfolding further_of
returns-in-Crate c = rw c.in-Crate.is (omega arith)

pub returns-in-Standard : goal.returns-in-Standard
unfolding further_of
returns-in-Standard c = rw c.in-Standard.is (omega arith)
