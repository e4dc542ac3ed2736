-- The numbers of a class byte, in the order in which a host program gets them (rules 8.1 to 8.8).
use Rattle.std.specs.Prelude.{ℕ, List, [], ◌∷◌, eqb}
use Rattle.std.proofs.Math.Option.{Option}
use Rattle.basis.specs.Reply.{Reply, ok, then}
use Rattle.class.specs.Class.{from_byte}
use Rattle.class.specs.Range.{range_of, from_cla}
use Rattle.class.specs.SecureMessaging.{secure_messaging_of, none}
use Rattle.class.specs.Chain.{chaining_bit, chained, last_or_only, not_the_last}
use Rattle.class.specs.Channel.{channel_of}
use Rattle.class.specs.declared.Reading.TheVariants as reading
use Rattle.abi.specs.Answers.{flag_of, or_none}

-- byte; range; secure messaging in the crate and the standard reading; whether each is none; chaining and its two
-- tests; the channel in both readings
unfoldable pub row_of : ℕ → ℕ → ℕ → ℕ → ℕ → Option ℕ → Option ℕ → List ℕ
row_of c x m n k a b =
    c
    ∷ x
    ∷ m
    ∷ n
    ∷ flag_of (eqb m none)
    ∷ flag_of (eqb n none)
    ∷ k
    ∷ flag_of (eqb k last_or_only)
    ∷ flag_of (eqb k not_the_last)
    ∷ or_none a
    ∷ or_none b
    ∷ []

-- the eleven numbers of a class byte
unfoldable pub numbers_of : ℕ → List ℕ
numbers_of c =
    row_of c (range_of c) (secure_messaging_of reading.Crate c) (secure_messaging_of reading.Standard c) (chaining_bit c)
    (channel_of reading.Crate c) (channel_of reading.Standard c)

-- what `gorvisclen_class`, `gorvisclen_class_as_chained` and `gorvisclen_range` write for a byte
unfoldable pub class_reply : ℕ → Reply (List ℕ)
class_reply c = then (from_byte c) (λ x. ok (numbers_of x.cla))

unfoldable pub class_as_chained_reply : ℕ → Reply (List ℕ)
class_as_chained_reply c = then (from_byte c) (λ x. ok (numbers_of (chained x.cla)))

unfoldable pub range_reply : ℕ → Reply (List ℕ)
range_reply c = then (from_cla c) (λ x. ok (x ∷ []))

-- the constants ZERO_CLA, NO_SM_CLA and SM_CLA (rule 8.8)
abbrev pub constants : Reply (List ℕ)
constants = ok (0x00 ∷ 0x80 ∷ 0x84 ∷ [])
