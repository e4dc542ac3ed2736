use Rattle.std.proofs.Common.{◌≤◌, length}
use Rattle.vectors.proofs.text.append_times.Given as goal

abbrev pub invariant-loop : goal.invariant-loop
invariant-loop l = l.at ≤ length l.to
