-- One reply and one content of the lent slice (rule 11.1): any two that a promise allows are equal.
use Prim.Native.Nat.{ℕ}
use mathlib.Core.List.{List}
use Rattle.abi.proofs.OneReply.{One, one}
use Rattle.command_abi.specs.Numbers.{command_reply}

pub gorvisclen_command : (n : ℕ) (s : List ℕ) → One 8 (command_reply n s)
gorvisclen_command n s = one 8 (command_reply n s)
