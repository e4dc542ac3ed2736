use native.Mathlib.Omega.{arith}
use lib.ListN.{length-set}
use Rattle.basis.proofs.Over.{stored}
use Rattle.builder.specs.Bytes.{header}
use Rattle.builder.proofs.write.put_header.Goals as goal

pub returns : goal.returns
returns c = rw c.into_inner.ensures (stored (header c.args.builder) _ (omega arith))

pub bounds-to-1 : goal.bounds-to-1
bounds-to-1 c = simp length-set (omega arith)

pub bounds-to-2 : goal.bounds-to-2
bounds-to-2 c = simp length-set (omega arith)
