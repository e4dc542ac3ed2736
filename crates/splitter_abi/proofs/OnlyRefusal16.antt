-- Once the pieces of a command are made, writing the next one is refused with 16 only.
use Prim.Native.Nat.{ℕ, ◌+◌, ◌≤◌}
use mathlib.Core.Path.{◌≡◌, refl}
use mathlib.Core.Bool.{Bool, true, false, cond}
use mathlib.Core.List.{List}
use mathlib.Core.Option.{Option, some}
use native.Mathlib.Omega.{arith}
use borrow.Author.Tests.{le-ltb, ltb-false}
use lib.Dec.{ltb, eqb}
use lib.ListN.{length, take, drop, length-take, length-drop}
use Rattle.std.specs.Prelude as std
use Rattle.std.specs.Prelude.{Some, None}
use Rattle.basis.specs.Reply.{Reply, ok, refused, then}
use Rattle.basis.proofs.Reply.{All, all_is, all_cond, all_then}
use Rattle.abi.specs.Answers.{too_short}
use Rattle.builder.specs.Builder.{new_of}
use Rattle.builder.specs.Bytes.{command_of, serialize_of}
use Rattle.builder.specs.declared.CommandBuilder.{CommandBuilder}
use Rattle.builder.specs.declared.ExpectedLen.TheVariants.{Ne}
use Rattle.builder.specs.declared.ExtendedLen.TheVariants.{Unsupported}
use Rattle.splitter.specs.Step.{step_of}
use Rattle.splitter.specs.Pieces.{new_pieces_of, place_in, piece_by, next_left_of, writing, write_of}
use Rattle.splitter.specs.declared.step.Split.{Split}
use Rattle.splitter.specs.declared.pieces.Left.{Left}
use Rattle.splitter.specs.declared.pieces.Piece.{Piece}
use Rattle.splitter.specs.declared.pieces.Pieces.{Pieces}
use Rattle.builder.proofs.Data.{new_few}
use Rattle.splitter.proofs.Steps.{never_refused}
use Rattle.splitter_abi.specs.Numbers.{left_from_place, from_place, pieces_by_numbers}

-- a value, or 16
abbrev pub Only16 : {A : Type 0} → Reply A → Type 0
Only16 (ok a) = Unit {0}
Only16 (refused k) = k ≡ 16

-- then for a slice that is too short the reply is 16
pub only_16_short : {A : Type 0} (x : Reply A) → Only16 x → too_short x ≡ refused 16
only_16_short (ok a) h = refl
only_16_short (refused k) h = rw h

-- a choice, a bind, and a command that is written
only_16_cond : (w : Bool) (n : ℕ) → Only16 (cond w (refused 16) (ok n))
only_16_cond true n = refl
only_16_cond false n = tt

only_16_then : {A B : Type 0} (x : Reply A) (f : A → Reply B) → Only16 x → ((a : A) → Only16 (f a)) → Only16 (then x f)
only_16_then (ok a) f h g = g a
only_16_then (refused k) f h g = h

only_16_written : (b : CommandBuilder) (t : List ℕ) (m at : ℕ) → length t ≤ 65535 → Only16 (serialize_of b t m at)
unfolding serialize_of
only_16_written b t m at h =
    rw (le-ltb 65535 (length t) h) (only_16_cond (ltb m (at + length (command_of b t))) (length (command_of b t)))

-- a step that is never refused
only_16_step : {A : Type 0} (x : Reply (Option Split)) (f : Option Split → A) → ((k : ℕ) → x ≡ refused k → ⊥) → Only16 (then x (λ s. ok (f s)))
only_16_step (ok s) f h = tt
only_16_step (refused k) f h = absurd (h k refl)

-- the next piece, and writing it
module _ (d : List ℕ) (few : length d ≤ 65535) where
  only_16_left : (l : Left) → 10 ≤ l.available → Only16 (next_left_of l d)
  unfolding next_left_of
  only_16_left l ten =
      let n = length (drop (place_in l d) d) in
      rw (le-ltb 65535 (length d) few)
      (only_16_step (step_of l.builder n l.available) (piece_by l (place_in l d) n)
      (never_refused l.builder n l.available ten (omega (arith, length-drop (place_in l d) d))))

  module _ (m at : ℕ) where
    only_16_piece : (p : Piece) → Only16 (writing (some p) d m at)
    only_16_piece p =
        let t = take p.len (drop p.at d) in
        only_16_then (serialize_of p.builder t m at) _
        (only_16_written p.builder t m at (omega (arith, length-take p.len (drop p.at d), length-drop p.at d)))
        (λ n. tt)

    only_16_next : (y : Reply Piece) → Only16 y → Only16 (then (then y (λ p. ok (some p))) (λ p. writing p d m at))
    only_16_next (ok p) h = only_16_piece p
    only_16_next (refused k) h = h

-- pieces for a buffer of at least ten bytes and at most 65,535 data bytes
abbrev LeftWithin : List ℕ → std.Option Left → Type 0
LeftWithin d (Some l) = (length d ≤ 65535) × (10 ≤ l.available)
LeftWithin d None = Unit {0}

abbrev WithinLimits : List ℕ → Pieces → Type 0
WithinLimits d x = LeftWithin d x.left

only_16_within : (d : List ℕ) (m at : ℕ) (l : std.Option Left) → LeftWithin d l → Only16 (write_of (record { left = l }) d m at)
only_16_within d m at (Some l) h = only_16_next d h.0 m at (next_left_of l d) (only_16_left d h.0 l h.1)
only_16_within d m at None h = tt

only_16_within_limits : (d : List ℕ) (m at : ℕ) (x : Pieces) → WithinLimits d x → Only16 (write_of x d m at)
only_16_within_limits d m at x h = only_16_within d m at x.left h

-- from any place of the data on
place_within : (place : ℕ) (d : List ℕ) (l : std.Option Left) → LeftWithin d l → LeftWithin d (left_from_place place l)
place_within place d (Some l) h = h
place_within place d None h = tt

place_within_limits : (place : ℕ) (d : List ℕ) (x : Pieces) → WithinLimits d x → WithinLimits d (from_place place x)
place_within_limits place d x h = place_within place d x.left h

-- pieces that are made are within these limits
module _ (c i p q e m : ℕ) (d : List ℕ) where
  made_within_limits : All (WithinLimits d) (new_pieces_of c i p q (length d) e m)
  unfolding new_pieces_of
  made_within_limits =
      let new = new_of c i p q (length d) (Ne e) Unsupported in
      all_then (WithinLimits d) (λ b. length d ≤ 65535) new _ (new_few c i p q (length d) (Ne e) Unsupported) (λ b h.
      all_cond (WithinLimits d) (ltb m 10) _ _ (λ _. tt) (λ g. (h, ltb-false m 10 g)))

  module _ (place done : ℕ) where
    all_within_limits : All (WithinLimits d) (pieces_by_numbers c i p q e m place done d)
    unfolding pieces_by_numbers
    all_within_limits =
        all_cond (WithinLimits d) (eqb done 0) _ _
        (λ _. all_then (WithinLimits d) (WithinLimits d) (new_pieces_of c i p q (length d) e m) _ made_within_limits (λ x h. place_within_limits place d x h))
        (λ _. tt)

    pub only_16 : (x : Pieces) → pieces_by_numbers c i p q e m place done d ≡ ok x → (n at : ℕ) → Only16 (write_of x d n at)
    only_16 x h n at = only_16_within_limits d n at x (all_is (WithinLimits d) (pieces_by_numbers c i p q e m place done d) x all_within_limits h)
