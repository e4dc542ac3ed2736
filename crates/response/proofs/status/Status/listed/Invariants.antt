use Rattle.response.proofs.Table.{NotBefore}
use Rattle.response.proofs.status.Status.listed.Given as goal

abbrev pub invariant-loop-place : goal.invariant-loop-place
invariant-loop-place l = NotBefore l.word l.place
