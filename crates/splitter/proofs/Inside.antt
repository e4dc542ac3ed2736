-- A part takes fewer bytes than are left, and a piece lies in the data.
use Prim.Native.Nat.{ℕ, ◌+◌, ◌-◌, ◌≤◌, ◌<◌}
use mathlib.Core.Path.{◌≡◌, refl, sym, ap}
use mathlib.Core.List.{List}
use mathlib.Core.Option.{Option, none, some}
use native.Mathlib.Omega.{arith}
use borrow.Author.Tests.{leb-false}
use lib.Dec.{ltb, leb, eqb}
use lib.ListN.{length, take, drop, length-drop}
use Rattle.std.specs.Prelude as std
use Rattle.std.specs.Prelude.{Some, None}
use Rattle.basis.specs.Reply.{Reply, ok, refused, then}
use Rattle.basis.proofs.Reply.{All, all_is, all_cond, all_then}
use Rattle.basis.proofs.Over.{rest_is}
use Rattle.builder.specs.declared.CommandBuilder.{CommandBuilder}
use Rattle.builder.proofs.Data.{few_enough}
use Rattle.splitter.specs.Step.{room_of, step_of}
use Rattle.splitter.specs.Pieces.{place_in, pieces_after, piece_by, next_left_of, next_in, next_of}
use Rattle.splitter.specs.declared.step.Split.{Split}
use Rattle.splitter.specs.declared.pieces.Left.{Left}
use Rattle.splitter.specs.declared.pieces.Piece.{Piece}
use Rattle.splitter.specs.declared.pieces.Pieces.{Pieces}

-- a part of fewer than n bytes
abbrev pub Fewer : ℕ → Option Split → Type 0
Fewer n none = Unit {0}
Fewer n (some s) = s.len < n

-- a step that splits takes fewer bytes than are left
pub step_fewer : (b : CommandBuilder) (n m : ℕ) → All (Fewer n) (step_of b n m)
unfolding step_of
step_fewer b n m =
    let F = Fewer n in
    all_cond F (ltb 65535 n) _ _ (λ _. tt)
    (λ _. all_cond F (ltb m 4) _ _ (λ _. tt)
    (λ _. all_cond F (leb n (room_of b n m)) _ _ (λ _. tt)
    (λ h. all_cond F (eqb (room_of b n m) 0) _ _ (λ _. tt) (λ _. leb-false n (room_of b n m) h))))

-- the same of a split that is replied
pub split_fewer : (b : CommandBuilder) (n m : ℕ) (s : Split) → ok (some s) ≡ step_of b n m → s.len < n
split_fewer b n m s e = all_is (Fewer n) (step_of b n m) (some s) (step_fewer b n m) (sym e)

-- the next piece, and that it lies in the data, by the step for the part of them that starts at its place
then_twice : (x : Reply (Option Split)) (f : Option Split → Piece) → then x (λ s. ok (some (f s))) ≡ then (then x (λ s. ok (f s))) (λ p. ok (some p))
then_twice (ok s) f = refl
then_twice (refused k) f = refl

module _ (l : Left) (d : List ℕ) (at : ℕ) (h : length d ≤ 65535) (is : at ≡ place_in l d) where
  left_by : (x : Reply (Option Split)) → x ≡ step_of l.builder (length (take (length d - at) (drop at d))) l.available
      → then x (λ s. ok (some (piece_by l at (length (take (length d - at) (drop at d))) s))) ≡ then (next_left_of l d) (λ p. ok (some p))
  unfolding next_left_of
  left_by x e =
      let f = rw (rest_is at d) at e in
      rw (few_enough (length d) _ h, ← is, rest_is at d, ← f) (then_twice x _)

  pub left_refused : (k : ℕ) → refused k ≡ step_of l.builder (length (take (length d - at) (drop at d))) l.available
      → refused k ≡ then (next_left_of l d) (λ p. ok (some p))
  left_refused k e = left_by (refused k) e

  pub left_whole : ok none ≡ step_of l.builder (length (take (length d - at) (drop at d))) l.available
      → ok (some (piece_by l at (length (take (length d - at) (drop at d))) none)) ≡ then (next_left_of l d) (λ p. ok (some p))
  left_whole e = left_by (ok none) e

  module _ (s : Split) (e : ok (some s) ≡ step_of l.builder (length (take (length d - at) (drop at d))) l.available) where
    pub left_split : (further : Pieces) → further ≡ pieces_after s at l.available
        → ok (some (record { builder = s.first; at = at; len = s.len; rest = further })) ≡ then (next_left_of l d) (λ p. ok (some p))
    left_split further f = rw f (left_by (ok (some s)) e)

    pub left_ends : at + s.len ≤ length d
    left_ends =
        let fewer = split_fewer _ _ _ s e in
        omega (arith, fewer, ap length (rest_is at d), length-drop at d)

-- a piece that ends within n bytes
abbrev pub EndsWithin : ℕ → Piece → Type 0
EndsWithin n p = p.at + p.len ≤ n

-- the next piece of what is left ends within the data
piece_ends : (l : Left) (d : List ℕ) (s : Option Split) → let at = place_in l d in
    let n = length (drop at d) in Fewer n s → EndsWithin (length d) (piece_by l at n s)
piece_ends l d none h = omega (arith, length-drop (place_in l d) d)
piece_ends l d (some s) h = omega (arith, length-drop (place_in l d) d)

pub left_inside : (l : Left) (d : List ℕ) → All (EndsWithin (length d)) (next_left_of l d)
unfolding next_left_of
left_inside l d =
    let n = length (drop (place_in l d) d) in
    all_cond (EndsWithin (length d)) (ltb 65535 (length d)) _ _ (λ _. tt)
    (λ _. all_then (EndsWithin (length d)) (Fewer n) (step_of l.builder n l.available) _ (step_fewer l.builder n l.available)
    (λ s h. piece_ends l d s h))

-- the same of the next piece, if there is one
abbrev pub NextEndsWithin : ℕ → Option Piece → Type 0
NextEndsWithin n none = Unit {0}
NextEndsWithin n (some p) = EndsWithin n p

in_inside : (l : std.Option Left) (d : List ℕ) → All (NextEndsWithin (length d)) (next_in l d)
in_inside None d = tt
in_inside (Some l) d =
    all_then (NextEndsWithin (length d)) (EndsWithin (length d)) (next_left_of l d) _ (left_inside l d) (λ p h. h)

pub next_inside : (c : Pieces) (d : List ℕ) → All (NextEndsWithin (length d)) (next_of c d)
next_inside c d = in_inside c.left d

-- the same of a piece that is replied
pub next_ends : (c : Pieces) (d : List ℕ) (p : Piece) → ok (some p) ≡ next_of c d → p.at + p.len ≤ length d
next_ends c d p e = all_is (NextEndsWithin (length d)) (next_of c d) (some p) (next_inside c d) (sym e)
