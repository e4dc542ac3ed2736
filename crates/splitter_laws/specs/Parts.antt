-- What the parts of a command are. Rules 4.4, 4.5 and 4.8.
use Rattle.std.specs.Prelude.{ℕ, ◌≤◌, ◌≡◌, length}
use mathlib.Core.List.{List, [], ◌∷◌, ◌++◌, drop_last}
use Rattle.basis.specs.Reply.{refused}
use Rattle.class.specs.Chain.{chaining_bit}
use Rattle.class.specs.declared.Reading.{Reading}
use Rattle.command.specs.Command.{parse}
use Rattle.builder.specs.Bytes.{lowered_of, le_written}
use Rattle.builder.specs.declared.CommandBuilder.{CommandBuilder}
use Rattle.builder.specs.declared.ExpectedLen.TheVariants.{Ne}
use Rattle.builder.specs.declared.ExtendedLen.TheVariants.{Unsupported}
use Rattle.splitter.specs.Step.{most_data, first_of}
use Rattle.splitter.specs.Pieces.{Part, piece_of}
use Rattle.basis.specs.Every.{Every}

-- the data of parts, joined
abbrev pub data_of : List Part → List ℕ
data_of [] = []
data_of (p ∷ ps) = p.«data» ++ data_of ps

-- a part before the last: class bit 0x10 set, Le 0, some data, instruction, P1, P2 and mode of the builder (rule 4.4)
pub record Front (b : CommandBuilder) (p : Part) : Type 0 where
  pub builder : p.builder ≡ first_of b
  pub chained : chaining_bit p.builder.class.cla ≡ 1
  pub no_le : p.builder.le ≡ Ne 0
  pub some : 1 ≤ length p.«data»
  pub few : length p.«data» ≤ most_data b.mode

-- the builder of the last part: the one of the command if it is the only part
abbrev pub last_of : CommandBuilder → List Part → CommandBuilder
last_of b [] = b
last_of b (p ∷ ps) = lowered_of b

-- the last part: class, instruction, P1, P2 and mode of the builder (rule 4.5). After others, in short mode, its
-- expected length is the one that is written. In every mode the same Le is written, and it has data if the command has
pub record Last (b : CommandBuilder) (d : List ℕ) (fronts : List Part) (p : Part) : Type 0 where
  pub builder : p.builder ≡ last_of b fronts
  pub class : p.builder.class ≡ b.class
  pub le : b.mode ≡ Unsupported → (fronts ≡ [] → ⊥) → p.builder.le ≡ Ne (le_written b)
  pub shows : le_written p.builder ≡ le_written b
  pub some : 1 ≤ length d → 1 ≤ length p.«data»
  pub few : length p.«data» ≤ most_data b.mode

-- the parts of a command with data d: parts before the last and a last one, as above
pub record FrontsAndLast (b : CommandBuilder) (d : List ℕ) (ps : List Part) : Type 0 where
  pub last : Part
  pub all : ps ≡ drop_last ps ++ (last ∷ [])
  pub fronts : Every (Front b) (drop_last ps)
  pub final : Last b d (drop_last ps) last

-- a part whose command the parser refuses for its class (rule 1.27)
abbrev pub RefusedBy : Reading → Part → Type 0
RefusedBy r p = (p.builder.class.cla ≡ 0xFF) × (parse r (piece_of p) ≡ refused 3)
