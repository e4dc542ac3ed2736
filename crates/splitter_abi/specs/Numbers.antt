-- The numbers that are written for the host: of a step, of pieces and of the next piece. Rules 4.3 to 4.10 and 12.6.
use Rattle.std.specs.Prelude.{ℕ, ◌≡◌, Some, None, cond, List, [], ◌∷◌, eqb, length}
use Rattle.std.proofs.Math.Option.{Option, none, some}
use Rattle.std.specs.Prelude as std
use Rattle.basis.specs.Reply.{Reply, ok, then, status}
use Rattle.abi.specs.Answers.{if_long_enough, out_after}
use Rattle.builder.specs.Bytes.{le_number}
use Rattle.abi.specs.Builders.{builder_by_numbers}
use Rattle.splitter.specs.Step.{step_of}
use Rattle.splitter.specs.Pieces.{new_pieces_of, next_of, write_of, piece_in, buffer_after}
use Rattle.splitter.specs.declared.step.Split.{Split}
use Rattle.splitter.specs.declared.pieces.Pieces.{Pieces}
use Rattle.splitter.specs.declared.pieces.Left.{Left}
use Rattle.splitter.specs.declared.pieces.Written.{Written}

-- the row of a step: 1 if it splits, how many data bytes the first part takes, class byte and expected length of the
-- first part, and those of the rest; zeros if it does not split
abbrev pub split_numbers : Option Split → List ℕ
split_numbers none = 0 ∷ 0 ∷ 0 ∷ 0 ∷ 0 ∷ 0 ∷ []
split_numbers (some s) =
    1 ∷ s.len ∷ s.first.class.cla ∷ le_number s.first.le ∷ s.rest.class.cla ∷ le_number s.rest.le ∷ []

-- a step as a row
abbrev pub splitting : Reply (Option Split) → Reply (List ℕ)
splitting x = then x (λ s. ok (split_numbers s))

-- the step of a builder by numbers, with the data d, for a buffer of n bytes
unfoldable pub should_split_reply : ℕ → ℕ → ℕ → ℕ → ℕ → ℕ → List ℕ → ℕ → Reply (List ℕ)
should_split_reply c i p q e m d n = then (builder_by_numbers c i p q e m d) (λ b. splitting (step_of b (length d) n))

-- the promise of `gorvisclen_new_non_extended`: whether the pieces are made (rule 4.7)
abbrev pub NewNonExtendedIs : ℕ → ℕ → ℕ → ℕ → List ℕ → ℕ → ℕ → ℕ → Type 0
NewNonExtendedIs c i p q d e m r = r ≡ status (new_pieces_of c i p q (length d) e m)

-- the pieces that are left from a place of the data on
abbrev pub left_from_place : ℕ → std.Option Left → std.Option Left
left_from_place at (Some l) = Some (record { builder = l.builder; at = at; available = l.available })
left_from_place at None = None

abbrev pub from_place : ℕ → Pieces → Pieces
from_place at c = record { left = left_from_place at c.left }

-- pieces by numbers: none left if done is not 0; else those that are left from a place of the data d on
unfoldable pub pieces_by_numbers : ℕ → ℕ → ℕ → ℕ → ℕ → ℕ → ℕ → ℕ → List ℕ → Reply Pieces
pieces_by_numbers c i p q e m at done d =
    cond (eqb done 0) (then (new_pieces_of c i p q (length d) e m) (λ x. ok (from_place at x))) (ok (record { left = None }))

-- the row of a piece: 1, how many bytes it takes; then, if some of the command is left after it, 1, the place where the
-- data that are left start, and the expected length; else zeros
abbrev pub left_numbers : ℕ → std.Option Left → List ℕ
left_numbers n (Some l) = 1 ∷ n ∷ 1 ∷ l.at ∷ le_number l.builder.le ∷ []
left_numbers n None = 1 ∷ n ∷ 0 ∷ 0 ∷ 0 ∷ []

abbrev pub piece_numbers : ℕ → Pieces → List ℕ
piece_numbers n c = left_numbers n c.left

-- the row of the next piece; zeros if none is left
abbrev pub written_numbers : Option Written → List ℕ
written_numbers none = 0 ∷ 0 ∷ 0 ∷ 0 ∷ 0 ∷ []
written_numbers (some w) = piece_numbers w.len w.rest

-- a piece that is written, and the next piece, as rows
abbrev pub piece_reply : Written → Reply (List ℕ)
piece_reply w = ok (piece_numbers w.len w.rest)

abbrev pub written_reply : Reply (Option Written) → Reply (List ℕ)
written_reply x = then x (λ w. ok (written_numbers w))

-- the next of the pieces x, written from a place of a buffer of m bytes, with its row in a slice of n numbers
abbrev pub writing : Reply Pieces → List ℕ → ℕ → ℕ → ℕ → Reply (Option Written)
writing x d at m n = if_long_enough 5 n (then x (λ c. write_of c d m at))

-- the bytes of that piece
abbrev pub piece_bytes : Reply Pieces → List ℕ → List ℕ
piece_bytes x d = piece_in (then x (λ c. next_of c d)) d

-- the promise of `gorvisclen_write_next`, for the pieces x (rules 4.8 to 4.10)
pub record PieceWritten (x : Reply Pieces) (d : List ℕ) (at : ℕ) (buffer out : List ℕ) (r : ℕ) (buffer' out' : List ℕ) : Type 0
  where
    pub reply : r ≡ status (writing x d at (length buffer) (length out))
    pub bytes : buffer' ≡ buffer_after (writing x d at (length buffer) (length out)) (piece_bytes x d) buffer at
    pub row : out' ≡ out_after (written_reply (writing x d at (length buffer) (length out))) out
