-- The pieces of a command, all at once and one at a time. Rules 4.7 to 4.10 and 12.5; refusals 3, 13, 14 and 16.
use Rattle.std.specs.Prelude.{ℕ, zero, suc, ◌+◌, min, ◌≡◌, Result, Some, None, cond, List, [], ◌∷◌, map, ltb, length, take, drop}
use Rattle.std.proofs.Math.Option.{Option, none, some}
use Rattle.std.specs.Prelude as std
use Rattle.basis.specs.Reply.{Reply, ok, refused, then}
use Rattle.basis.specs.Refusal as answer
use Rattle.basis.specs.declared.refusal.Refusal.{Refusal}
use Rattle.basis.specs.Over.{over_at}
use Rattle.builder.specs.Builder.{unless_long, new_of}
use Rattle.builder.specs.Bytes.{command_of, serialize_of}
use Rattle.builder.specs.declared.CommandBuilder.{CommandBuilder}
use Rattle.builder.specs.declared.ExpectedLen.TheVariants.{Ne}
use Rattle.builder.specs.declared.ExtendedLen.TheVariants.{Unsupported}
use Rattle.splitter.specs.Step.{step_of, as_reply}
use Rattle.splitter.specs.declared.step.Split.{Split}
use Rattle.splitter.specs.declared.pieces.Left.{Left}
use Rattle.splitter.specs.declared.pieces.Pieces.{Pieces}
use Rattle.splitter.specs.declared.pieces.Piece.{Piece}
use Rattle.splitter.specs.declared.pieces.Written.{Written}

-- a part of a command that is sent as a command of its own: its builder and its data
pub record Part : Type 0 where
  pub builder : CommandBuilder
  pub «data» : List ℕ

-- the parts that a step gives: none if it is refused, the whole command, or its first part and the parts of the rest
abbrev pub parts_by : CommandBuilder → List ℕ → Reply (Option Split) → (CommandBuilder → List ℕ → List Part) → List Part
parts_by b d (refused k) further = []
parts_by b d (ok none) further = record { builder = b; «data» = d } ∷ []
parts_by b d (ok (some s)) further =
    record { builder = s.first; «data» = take s.len d } ∷ further s.rest (drop s.len d)

-- the parts of a command for a buffer of m bytes, step after step; at most k parts
unfoldable pub parts_in : ℕ → CommandBuilder → List ℕ → ℕ → List Part
parts_in zero b d m = []
parts_in (suc k) b d m = parts_by b d (step_of b (length d) m) (λ restBuilder rest. parts_in k restBuilder rest m)

-- all parts: each step takes at least one byte, so there is at most one part more than there are bytes (rule 4.8)
unfoldable pub parts : CommandBuilder → List ℕ → ℕ → List Part
parts b d m = parts_in (suc (length d)) b d m

-- a piece: the bytes of a part, as a command
abbrev pub piece_of : Part → List ℕ
piece_of p = command_of p.builder p.«data»

-- the pieces of a command (rule 4.8)
abbrev pub pieces_of : CommandBuilder → List ℕ → ℕ → List (List ℕ)
pieces_of b d m = map piece_of (parts b d m)

-- what is left of a command in short mode before its first piece; 14 for a buffer under 10 (rules 1.14 and 4.7)
unfoldable pub new_pieces_of : ℕ → ℕ → ℕ → ℕ → ℕ → ℕ → ℕ → Reply Pieces
new_pieces_of c i p q n e m =
    then (new_of c i p q n (Ne e) Unsupported) (λ b. cond (ltb m 10) (refused 14) (ok (record { left = Some (record { builder = b; at = 0; available = m }) })))

-- the place where the data that are left start: the end of the data if they are shorter
abbrev pub place_in : Left → List ℕ → ℕ
place_in l d = min l.at (length d)

-- what is left after a part that was split off at a place
abbrev pub pieces_after : Split → ℕ → ℕ → Pieces
pieces_after s at m = record { left = Some (record { builder = s.rest; at = at + s.len; available = m }) }

-- the piece that a step gives, and what is left after it (rule 12.5)
abbrev pub piece_by : Left → ℕ → ℕ → Option Split → Piece
piece_by l at n none = record { builder = l.builder; at = at; len = n; rest = record { left = None } }
piece_by l at n (some s) = record { builder = s.first; at = at; len = s.len; rest = pieces_after s at l.available }

-- the next piece of what is left, in the data d that each call is given again (rule 4.8)
unfoldable pub next_left_of : Left → List ℕ → Reply Piece
next_left_of l d =
    unless_long (length d)
    (then (step_of l.builder (length (drop (place_in l d) d)) l.available)
    (λ s. ok (piece_by l (place_in l d) (length (drop (place_in l d) d)) s)))

-- the next piece: none left whenever it is asked for after the last one (rule 4.9)
abbrev pub next_in : std.Option Left → List ℕ → Reply (Option Piece)
next_in (Some l) d = then (next_left_of l d) (λ p. ok (some p))
next_in None d = ok none

abbrev pub next_of : Pieces → List ℕ → Reply (Option Piece)
next_of c d = next_in c.left d

-- the bytes of a piece
abbrev pub bytes_of : Piece → List ℕ → List ℕ
bytes_of p d = command_of p.builder (take p.len (drop p.at d))

-- a piece written from a place of a buffer of m bytes: 16 if it does not fit (rule 4.10)
abbrev pub writing : Option Piece → List ℕ → ℕ → ℕ → Reply (Option Written)
writing none d m at = ok none
writing (some p) d m at =
    then (serialize_of p.builder (take p.len (drop p.at d)) m at) (λ n. ok (some (record { len = n; rest = p.rest })))

-- the next piece written from a place of a buffer of m bytes (rule 4.10)
abbrev pub write_of : Pieces → List ℕ → ℕ → ℕ → Reply (Option Written)
write_of c d m at = then (next_of c d) (λ p. writing p d m at)

-- the bytes of the next piece; no bytes if there is none
abbrev pub piece_in : Reply (Option Piece) → List ℕ → List ℕ
piece_in (ok (some p)) d = bytes_of p d
piece_in (ok none) d = []
piece_in (refused k) d = []

-- the buffer after it: bytes before the piece and after it stay; a refusal, and none left, change nothing (rule 4.10)
abbrev pub buffer_after : Reply (Option Written) → List ℕ → List ℕ → ℕ → List ℕ
buffer_after (ok (some w)) piece buffer at = over_at at piece buffer
buffer_after (ok none) piece buffer at = buffer
buffer_after (refused k) piece buffer at = buffer

-- the promises of `new_non_extended` and `next`
abbrev pub NewPiecesIs : ℕ → ℕ → ℕ → ℕ → List ℕ → ℕ → ℕ → Result Pieces Refusal → Type 0
NewPiecesIs c i p q d e m x = answer.as_reply x ≡ new_pieces_of c i p q (length d) e m

abbrev pub NextIs : Pieces → List ℕ → Result (std.Option Piece) Refusal → Type 0
NextIs c d x = as_reply x ≡ next_of c d

-- the promise of `next_left`, whose reply y is a piece or a refusal
abbrev pub NextLeftIs : Reply Piece → Result (std.Option Piece) Refusal → Type 0
NextLeftIs y x = as_reply x ≡ then y (λ p. ok (some p))

-- the promise of `write_piece`
pub record WritePieceIs (p : Piece) (d before : List ℕ) (at : ℕ) (x : Result (std.Option Written) Refusal) (after : List ℕ) : Type 0 where
  pub reply : as_reply x ≡ writing (some p) d (length before) at
  pub buffer : after ≡ buffer_after (writing (some p) d (length before) at) (bytes_of p d) before at

-- the promise of `write_next`
pub record WriteNextIs (c : Pieces) (d before : List ℕ) (at : ℕ) (x : Result (std.Option Written) Refusal) (after : List ℕ) : Type 0 where
  pub reply : as_reply x ≡ write_of c d (length before) at
  pub buffer : after ≡ buffer_after (write_of c d (length before) at) (piece_in (next_of c d) d) before at
