-- Noise: pieces put in between others, each of which is refused at its place in the series (rule 11.5).
use Rattle.std.specs.Prelude.{ℕ, ◌≡◌, List, [], ◌∷◌}
use Rattle.std.proofs.Math.Option.{Option}
use Rattle.basis.specs.Reply.{Reply, refused}
use Rattle.reassembler.specs.Join.{join_of}
use Rattle.reassembler.specs.declared.Reassembler.{Reassembler}
use Rattle.roundtrip_laws.specs.Run.{CommandBack}

-- what is sent: a piece of a command, or one that was put in
pub data Sent : Type 0 where
  piece : List ℕ → Sent
  noise : List ℕ → Sent

-- everything that is sent
abbrev pub all_sent : List Sent → List (List ℕ)
all_sent [] = []
all_sent (piece p ∷ ss) = p ∷ all_sent ss
all_sent (noise p ∷ ss) = p ∷ all_sent ss

-- the same without what was put in
abbrev pub pieces_sent : List Sent → List (List ℕ)
pieces_sent [] = []
pieces_sent (piece p ∷ ss) = p ∷ pieces_sent ss
pieces_sent (noise p ∷ ss) = pieces_sent ss

-- from the replies to everything that is sent, those to the pieces of commands
abbrev pub replies_to_pieces : List Sent → List (Reply (Option CommandBack)) → List (Reply (Option CommandBack))
replies_to_pieces [] rs = []
replies_to_pieces (s ∷ ss) [] = []
replies_to_pieces (piece p ∷ ss) (r ∷ rs) = r ∷ replies_to_pieces ss rs
replies_to_pieces (noise p ∷ ss) (r ∷ rs) = replies_to_pieces ss rs

-- each piece that was put in is refused at its place in the series, with any number
unfoldable pub RefusedThere : Reassembler → List ℕ → List Sent → Type 0
RefusedThere r room [] = Unit {0}
RefusedThere r room (piece p ∷ ss) = RefusedThere (join_of r room p).state (join_of r room p).room ss
RefusedThere r room (noise p ∷ ss) =
    ((k : ℕ) × ((join_of r room p).reply ≡ refused k)) × RefusedThere (join_of r room p).state (join_of r room p).room ss
