-- One step of splitting, in every mode. Rules 4.1 to 4.6; refusals 13 and 14.
use Rattle.std.specs.Prelude.{ℕ, Result, Ok, Err, ◌+◌, ◌-◌, min, ◌≡◌, cond, List, ltb, leb, eqb, length}
use Rattle.std.proofs.Math.Option.{Option, none, some}
use Rattle.std.specs.Prelude as std
use Rattle.basis.specs.Reply.{Reply, ok, refused}
use Rattle.basis.specs.Refusal.{refusal_number, as_option}
use Rattle.basis.specs.declared.refusal.Refusal.{Refusal}
use Rattle.class.specs.Chain.{chained}
use Rattle.builder.specs.Builder.{unless_long}
use Rattle.builder.specs.Bytes.{lowered_of, lc_len, le_len}
use Rattle.builder.specs.declared.CommandBuilder.{CommandBuilder}
use Rattle.builder.specs.declared.ExpectedLen.TheVariants.{Ne}
use Rattle.builder.specs.declared.ExtendedLen.{ExtendedLen}
use Rattle.builder.specs.declared.ExtendedLen.TheVariants.{Unsupported, Supported, Forced}
use Rattle.splitter.specs.declared.step.Split.{Split}

-- the most data bytes of a part: 255 in short mode, else 65,535 (rule 4.1)
abbrev pub most_data : ExtendedLen → ℕ
most_data Unsupported = 255
most_data Supported = 65535
most_data Forced = 65535

-- the room for data in a buffer of m bytes, next to x other bytes: not below 0 (rule 4.1)
unfoldable pub room_in : ExtendedLen → ℕ → ℕ → ℕ
room_in mode x m = min (m - x) (most_data mode)

-- the same with n data bytes left: the other bytes are the header, and Lc and Le for all of them (rules 4.1 and 4.2)
unfoldable pub room_of : CommandBuilder → ℕ → ℕ → ℕ
room_of b n m = room_in b.mode (4 + lc_len b n + le_len b n) m

-- the first part: class bit 0x10 set and Le 0, else as the command (rule 4.4)
abbrev pub first_of : CommandBuilder → CommandBuilder
first_of b =
    record {
      class = record { cla = chained b.class.cla };
      instruction = b.instruction;
      p1 = b.p1;
      p2 = b.p2;
      le = Ne 0;
      mode = b.mode;
    }

-- a step for n data bytes and a buffer of m bytes: 13 and 14 (rules 1.14 and 4.6); no split if the room covers the
-- data (rule 4.3); else the first part takes the room (rule 4.4), and the rest keeps class, mode and Le, lowered (rule
-- 4.5)
unfoldable pub step_of : CommandBuilder → ℕ → ℕ → Reply (Option Split)
step_of b n m =
    unless_long n
    (cond (ltb m 4) (refused 14)
    (cond (leb n (room_of b n m)) (ok none)
    (cond (eqb (room_of b n m) 0) (refused 14) (ok (some (record { first = first_of b; len = room_of b n m; rest = lowered_of b }))))))

-- an answer that may be absent as a reply
abbrev pub as_reply : {A : Type 0} → Result (std.Option A) Refusal → Reply (Option A)
as_reply (Ok x) = ok (as_option x)
as_reply (Err k) = refused (refusal_number k)

-- the promise of `should_split`
abbrev pub ShouldSplitIs : CommandBuilder → List ℕ → ℕ → Result (std.Option Split) Refusal → Type 0
ShouldSplitIs b d m x = as_reply x ≡ step_of b (length d) m
