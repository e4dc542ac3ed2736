-- What writing a command replies: 13, 16, or the length of the command.
use Prim.Native.Nat.{ℕ, ◌+◌, ◌≤◌, ◌<◌}
use mathlib.Core.Path.{◌≡◌}
use mathlib.Core.List.{List}
use borrow.Author.Tests.{lt-ltb, le-ltb}
use lib.ListN.{length}
use Rattle.basis.specs.Reply.{ok, refused}
use Rattle.builder.specs.Bytes.{required_len, serialize_of}
use Rattle.builder.specs.declared.CommandBuilder.{CommandBuilder}
use Rattle.builder.proofs.Lengths.{length_command}

module _ (b : CommandBuilder) (d : List ℕ) (m at : ℕ) where
  pub data_too_long : 65535 < length d → serialize_of b d m at ≡ refused 13
  unfolding serialize_of
  data_too_long h = rw (lt-ltb _ _ h)

  module _ (h : length d ≤ 65535) where
    pub buffer_too_short : m < at + required_len b (length d) → serialize_of b d m at ≡ refused 16
    unfolding serialize_of
    buffer_too_short g = rw (le-ltb _ _ h, length_command b d, lt-ltb _ _ g)

    pub fits : at + required_len b (length d) ≤ m → serialize_of b d m at ≡ ok (required_len b (length d))
    unfolding serialize_of
    fits g = rw (le-ltb _ _ h, length_command b d, le-ltb _ _ g)
