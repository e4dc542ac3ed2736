-- When pieces are made (rule 4.7). Asked for one after the other, with the data that they were made for, they come in
-- order, and then none is left (rules 4.8 and 4.9).
use Prim.Native.Nat.{ℕ, zero, suc, ◌+◌, ◌-◌, ◌≤◌, ◌<◌}
use mathlib.Core.Path.{◌≡◌, refl, ap, ◌∙◌}
use mathlib.Core.List.{List, [], ◌∷◌, map}
use mathlib.Core.Option.{Option, none, some}
use native.Mathlib.Nat.{min-eq_left}
use native.Mathlib.Omega.{arith}
use borrow.Author.Tests.{lt-ltb, le-ltb, ltb-false}
use lib.Dec.{ltb}
use lib.ListN.{length, take, drop, replicate, length-drop, length-map}
use lib.Seq.{take-length, drop-drop}
use Rattle.std.specs.Prelude.{Some, None}
use Rattle.basis.specs.Reply.{Reply, ok, refused}
use Rattle.basis.proofs.Reply.{refused_not_ok, All, all_is, all_cond, all_then, all_self}
use Rattle.builder.specs.Builder.{new_of}
use Rattle.builder.specs.declared.CommandBuilder.{CommandBuilder}
use Rattle.builder.specs.declared.ExpectedLen.TheVariants.{Ne}
use Rattle.builder.specs.declared.ExtendedLen.TheVariants.{Unsupported}
use Rattle.builder.specs.Bytes.{lowered_of}
use Rattle.builder_laws.proofs.Made.{new_made, new_ff, new_long, new_ok}
use Rattle.splitter.specs.Step.{room_of, first_of}
use Rattle.splitter.specs.Pieces.{Part, parts, piece_of, pieces_of, new_pieces_of, next_left_of, next_of, bytes_of}
use Rattle.splitter.specs.declared.pieces.Piece.{Piece}
use Rattle.splitter.specs.declared.pieces.Pieces.{Pieces}
use Rattle.splitter_laws.specs.Asked.{short_of, start_of, PiecesMade, bytes_in, answers, one_by_one, pieces_among, collected}
use Rattle.splitter_laws.proofs.Cut.{step_whole, step_split, cut}

-- when pieces are made, and when that is refused: 3, 13, and 14 for a buffer under ten (rule 4.7)
module _ (c i p q n e m : ℕ) where
  pub pieces_ff : c ≡ 0xFF → new_pieces_of c i p q n e m ≡ refused 3
  unfolding new_pieces_of
  pieces_ff k = rw (new_ff c i p q n (Ne e) Unsupported k)

  module _ (k : c ≡ 0xFF → ⊥) where
    pub pieces_long : 65535 < n → new_pieces_of c i p q n e m ≡ refused 13
    unfolding new_pieces_of
    pieces_long h = rw (new_long c i p q n (Ne e) Unsupported k h)

    module _ (few : n ≤ 65535) where
      pub pieces_buffer : m < 10 → new_pieces_of c i p q n e m ≡ refused 14
      unfolding new_pieces_of
      pieces_buffer h = rw (new_ok c i p q n (Ne e) Unsupported k few, lt-ltb m 10 h)

      pub pieces_is : 10 ≤ m → new_pieces_of c i p q n e m ≡ ok (start_of c i p q e m)
      unfolding new_pieces_of
      pieces_is h = rw (new_ok c i p q n (Ne e) Unsupported k few, le-ltb m 10 h)

-- what is left after pieces were made: the whole command
module _ (c i p q n e m : ℕ) where
  all_made : All (PiecesMade c i p q n e m) (new_pieces_of c i p q n e m)
  unfolding new_pieces_of
  all_made =
      let new = new_of c i p q n (Ne e) Unsupported in
      all_then (PiecesMade c i p q n e m) (λ b. new ≡ ok b) new _ (all_self new) (λ b h.
      let made = new_made c i p q n (Ne e) Unsupported b h in
      all_cond (PiecesMade c i p q n e m) (ltb m 10) _ _ (λ _. tt) (λ g. record {
        class = λ z. made.class (ap (λ (x : CommandBuilder). x.class.cla) made.fields ∙ z);
        few = made.few;
        ten = ltb-false m 10 g;
        start = ap {B = Pieces} (λ (x : CommandBuilder). record { left = Some (record { builder = x; at = 0; available = m }) }) made.fields;
      }))

  pub pieces_made : (left : Pieces) → new_pieces_of c i p q n e m ≡ ok left → PiecesMade c i p q n e m left
  pieces_made left h = all_is (PiecesMade c i p q n e m) (new_pieces_of c i p q n e m) left all_made h

-- an answer by its bytes is "none left" only if the answer is
pub none_left_only : (x : Reply (Option Piece)) (d : List ℕ) → bytes_in x d ≡ ok none → x ≡ ok none
none_left_only (ok none) d e = refl
none_left_only (ok (some p)) d e = cc e
none_left_only (refused k) d e = absurd (refused_not_ok k none e)

-- if nothing is left, every answer is "none left" (rule 4.9)
none_left : (j : ℕ) (d : List ℕ) → answers j (record { left = None }) d ≡ replicate j (ok none)
unfolding answers
none_left zero d = refl
none_left (suc j) d = ap (λ (l : List (Reply (Option (List ℕ)))). ok none ∷ l) (none_left j d)

-- what is left from a place of the data on
abbrev left_at : CommandBuilder → ℕ → ℕ → Pieces
left_at b at m = record { left = Some (record { builder = b; at = at; available = m }) }

-- one question, if the data left fit and if they are split
module _ (d : List ℕ) (m : ℕ) (few : length d ≤ 65535) (ten : 10 ≤ m) (b : CommandBuilder) (at : ℕ) (inside : at ≤ length d)
  where
    ask_whole : length (drop at d) ≤ room_of b (length (drop at d)) m
        → next_of (left_at b at m) d ≡ ok (some (record { builder = b; at = at; len = length (drop at d); rest = record { left = None } }))
    unfolding next_left_of
    ask_whole h =
        let n = length (drop at d) in
        rw (le-ltb 65535 (length d) few, min-eq_left inside, step_whole b n m (omega (arith, length-drop at d)) (omega arith) h)

    ask_split : (r : ℕ) → r ≡ room_of b (length (drop at d)) m → 1 ≤ r → r < length (drop at d)
        → next_of (left_at b at m) d
        ≡ ok (some (record { builder = first_of b; at = at; len = r; rest = left_at (lowered_of b) (at + r) m }))
    unfolding next_left_of
    ask_split r e g h =
        let n = length (drop at d) in
        rw (
          le-ltb 65535 (length d) few,
          min-eq_left inside,
          step_split b n m (omega (arith, length-drop at d)) (omega arith) (omega arith) (λ z. omega arith),
          e,
        )

-- one question and those after it
answer_is : (k l : ℕ) → k ≡ suc l → (c : Pieces) (d : List ℕ) (p : Piece) → next_of c d ≡ ok (some p)
    → answers k c d ≡ ok (some (bytes_of p d)) ∷ answers l p.rest d
unfolding answers
answer_is k l e c d p h = rw (e, h)

-- the answers if it is asked as often as there are parts, and j times more
abbrev Asked : List ℕ → ℕ → CommandBuilder → List ℕ → List Part → Type 0
Asked d m b rest ps =
    (at : ℕ) → at ≤ length d → rest ≡ drop at d → (k j : ℕ) → k ≡ length ps + j
    → answers k (left_at b at m) d ≡ one_by_one (map piece_of ps) j

-- that holds of a command that fits, and of a split if it holds of the rest
module _ (d : List ℕ) (m : ℕ) (few : length d ≤ 65535) (ten : 10 ≤ m) (b : CommandBuilder) (rest : List ℕ) where
  asked_whole : length rest ≤ room_of b (length rest) m → Asked d m b rest (record { builder = b; «data» = rest } ∷ [])
  asked_whole h at inside q k j e =
      answer_is k j (omega arith) (left_at b at m) d _ (ask_whole d m few ten b at inside (rw q at h))
      ∙ rw (q, take-length (drop at d), none_left j d)

  asked_split : (r : ℕ) (ps : List Part) → r ≡ room_of b (length rest) m → 1 ≤ r → r < length rest
      → Asked d m (lowered_of b) (drop r rest) ps → Asked d m b rest (record { builder = first_of b; «data» = take r rest } ∷ ps)
  asked_split r ps e g h f at inside q k j s =
      let left = rw q at h in
      let nextPieces : drop r rest ≡ drop (at + r) d = rw q (drop-drop r at d) in
      let next = ask_split d m few ten b at inside r (rw q at e) g left in
      answer_is k (length ps + j) (omega arith) (left_at b at m) d _ next
      ∙ rw (q, f (at + r) (omega (arith, length-drop at d)) nextPieces (length ps + j) j refl)

-- the pieces among such answers are the pieces
given_all : (ps : List (List ℕ)) (j : ℕ) → pieces_among (one_by_one ps j) ≡ ps
given_all [] zero = refl
given_all [] (suc j) = refl
given_all (p ∷ ps) j = ap (λ (l : List (List ℕ)). p ∷ l) (given_all ps j)

-- the answers for these data: the pieces of the command, one by one, and then none, however often it is asked; so no
-- step is refused (rules 4.8 and 4.9)
module _ (c i p q e m : ℕ) (d : List ℕ) (left : Pieces) (made : new_pieces_of c i p q (length d) e m ≡ ok left) where
  asked : (k j : ℕ) → k ≡ length (pieces_of (short_of c i p q e) d m) + j
      → answers k left d ≡ one_by_one (pieces_of (short_of c i p q e) d m) j
  asked k j h =
      let start = pieces_made c i p q (length d) e m left made in
      let b = short_of c i p q e in
      let number : k ≡ length (parts b d m) + j = omega (arith, length-map (parts b d m) piece_of) in
      rw start.start
      (cut m start.ten (Asked d m) (asked_whole d m start.few start.ten) (asked_split d m start.few start.ten)
      b d start.few 0 (omega arith) refl k j number)

  pub pieces_answers : (j : ℕ) → answers (length (pieces_of (short_of c i p q e) d m) + j) left d
      ≡ one_by_one (pieces_of (short_of c i p q e) d m) j
  pieces_answers j = asked (length (pieces_of (short_of c i p q e) d m) + j) j refl

  pub pieces_collected : (k : ℕ) → length (pieces_of (short_of c i p q e) d m) ≤ k
      → collected k left d ≡ pieces_of (short_of c i p q e) d m
  pieces_collected k h =
      let ps = pieces_of (short_of c i p q e) d m in
      ap pieces_among (asked k (k - length ps) (omega arith)) ∙ given_all ps (k - length ps)
