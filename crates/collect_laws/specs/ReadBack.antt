-- What the sent bytes are read as (rules 14.2, 14.3 and 14.7).
use Rattle.std.specs.Prelude.{ℕ, zero, suc, ◌+◌, ◌≡◌, false, List, [], ◌∷◌, length}
use Rattle.basis.specs.Reply.{ok}
use Rattle.class.specs.declared.Reading.{Reading}
use Rattle.command.specs.Command.{parse, data_in}
use Rattle.command.specs.declared.CommandView.{CommandView}
use Rattle.builder.specs.Bytes.{lc_len}
use Rattle.builder.specs.declared.CommandBuilder.{CommandBuilder}
use Rattle.builder_laws.specs.Read.{extended_for}
use Rattle.response.specs.declared.status.Status.{Status}
use Rattle.collect.specs.Collect.{with_le}
use Rattle.collect.specs.declared.Sent.{Sent}
use Rattle.collect.specs.declared.Sent.TheVariants.{Command, GetResponse}
use Rattle.collect_laws.specs.Sends.{bytes_of}

-- the expected length xx as a number: 00 means 256 (rules 14.2 and 14.3)
abbrev pub le_asked : ℕ → ℕ
le_asked zero = 256
le_asked (suc n) = suc n

-- these bytes are read as this command, with these data (rule 14.7)
abbrev pub Reads : Reading → List ℕ → CommandView → List ℕ → Type 0
Reads r bytes v d = (parse r bytes ≡ ok v) × (data_in bytes (parse r bytes) ≡ d)

-- what is sent for a command b with the data d, asked for with xx, is read so: the command with its header and its data
-- (rule 14.3), GET RESPONSE with the command's class and without data, in short lengths (rule 14.2); both with Le xx
abbrev pub ReadBack : Reading → CommandBuilder → List ℕ → Sent → ℕ → Type 0
ReadBack r b d (Command a) xx =
    Reads r (bytes_of d (Command a))
    (record {
      class = b.class;
      instruction = b.instruction;
      p1 = b.p1;
      p2 = b.p2;
      at = 4 + lc_len (with_le b xx) (length d);
      len = length d;
      le = le_asked xx;
      extended = extended_for (with_le b xx) (length d);
    })
    d
ReadBack r b d (GetResponse a) xx =
    Reads r (bytes_of d (GetResponse a))
    (record {
      class = b.class;
      instruction = 0xC0;
      p1 = 0;
      p2 = 0;
      at = 4;
      len = 0;
      le = le_asked xx;
      extended = false;
    })
    []

-- P of each that is sent and the status that asked for it (rules 14.2 and 14.3)
abbrev pub EachAsked : (Sent → Status → Type 0) → List Sent → List Status → Type 0
EachAsked P [] ts = Unit {0}
EachAsked P (s ∷ ss) [] = ⊥
EachAsked P (s ∷ ss) (t ∷ ts) = P s t × EachAsked P ss ts
