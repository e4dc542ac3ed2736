-- What is answered when pieces are asked for again and again: each piece, then "none left" for ever. Rules 4.8 and 4.9.
use Rattle.std.specs.Prelude.{ℕ, zero, suc, Some, ◌≤◌, ◌≡◌, List, [], ◌∷◌, ◌++◌, map, replicate}
use Rattle.std.proofs.Math.Option.{Option, none, some}
use Rattle.basis.specs.Reply.{Reply, ok, refused}
use Rattle.builder.specs.declared.CommandBuilder.{CommandBuilder}
use Rattle.builder.specs.declared.ExpectedLen.TheVariants.{Ne}
use Rattle.builder.specs.declared.ExtendedLen.TheVariants.{Unsupported}
use Rattle.splitter.specs.Pieces.{next_of, bytes_of}
use Rattle.splitter.specs.declared.pieces.Piece.{Piece}
use Rattle.splitter.specs.declared.pieces.Pieces.{Pieces}

-- the builder of a command in short mode
abbrev pub short_of : ℕ → ℕ → ℕ → ℕ → ℕ → CommandBuilder
short_of c i p q e =
    record { class = record { cla = c }; instruction = i; p1 = p; p2 = q; le = Ne e; mode = Unsupported }

-- what is left before the first piece: the whole command
abbrev pub start_of : ℕ → ℕ → ℕ → ℕ → ℕ → ℕ → Pieces
start_of c i p q e m = record { left = Some (record { builder = short_of c i p q e; at = 0; available = m }) }

-- what is made for n data bytes and a buffer of m bytes: the class byte is not 0xFF, and the whole command is left
pub record PiecesMade (c i p q n e m : ℕ) (left : Pieces) : Type 0 where
  pub class : c ≡ 0xFF → ⊥
  pub few : n ≤ 65535
  pub ten : 10 ≤ m
  pub start : left ≡ start_of c i p q e m

-- an answer by the bytes of its piece
abbrev pub bytes_in : Reply (Option Piece) → List ℕ → Reply (Option (List ℕ))
bytes_in (ok (some p)) d = ok (some (bytes_of p d))
bytes_in (ok none) d = ok none
bytes_in (refused k) d = refused k

-- what is left after an answer: the same if there was no piece
abbrev pub next_pieces : Pieces → Reply (Option Piece) → Pieces
next_pieces c (ok (some p)) = p.rest
next_pieces c (ok none) = c
next_pieces c (refused k) = c

-- the answers to k questions, one after the other
unfoldable pub answers : ℕ → Pieces → List ℕ → List (Reply (Option (List ℕ)))
answers zero c d = []
answers (suc k) c d = bytes_in (next_of c d) d ∷ answers k (next_pieces c (next_of c d)) d

-- these pieces, one by one, and then j times none
abbrev pub one_by_one : List (List ℕ) → ℕ → List (Reply (Option (List ℕ)))
one_by_one ps j = map (λ p. ok (some p)) ps ++ replicate j (ok none)

-- the pieces among answers, up to the first answer without one
abbrev pub pieces_among : List (Reply (Option (List ℕ))) → List (List ℕ)
pieces_among [] = []
pieces_among (ok (some p) ∷ rs) = p ∷ pieces_among rs
pieces_among (ok none ∷ rs) = []
pieces_among (refused k ∷ rs) = []

-- the pieces among the answers to k questions
abbrev pub collected : ℕ → Pieces → List ℕ → List (List ℕ)
collected k c d = pieces_among (answers k c d)
