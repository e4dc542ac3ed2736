use Rattle.std.proofs.Common.{◌≤◌, length}
use Rattle.vectors.proofs.text.long_bytes.Given as goal

abbrev pub invariant-loop-part : goal.invariant-loop-part
invariant-loop-part l = l.at ≤ length l.space
