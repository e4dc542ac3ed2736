-- One reply (rule 11.1): any two replies, and buffers at exit, that the promise of a function allows are equal.
use Prim.Native.Nat.{ℕ}
use mathlib.Core.Path.{◌≡◌, refl, ap, ◌∙⁻¹◌}
use mathlib.Core.List.{List}
use mathlib.Core.Option.{Option, none, some}
use Rattle.std.specs.Prelude as std
use Rattle.std.specs.Prelude.{Result, Ok, Err, Some, None}
use Rattle.basis.specs.Reply.{Reply, ok, refused}
use Rattle.basis.specs.declared.refusal.Refusal.{Refusal}
use Rattle.basis.proofs.Reply.{apart}
use Rattle.basis.proofs.OneReply.{refusal_back, number_there_and_back, one_reply}
use Rattle.builder.specs.declared.CommandBuilder.{CommandBuilder}
use Rattle.splitter.specs.Step.{ShouldSplitIs, as_reply}
use Rattle.splitter.specs.Pieces.{NewPiecesIs, NextIs, WriteNextIs}
use Rattle.splitter.specs.declared.step.Split.{Split}
use Rattle.splitter.specs.declared.pieces.Pieces.{Pieces}
use Rattle.splitter.specs.declared.pieces.Piece.{Piece}
use Rattle.splitter.specs.declared.pieces.Written.{Written}

-- the answer that has a given reply; an answer turned into its reply and back is unchanged
abbrev from_reply : {A : Type 0} → Reply (Option A) → Result (std.Option A) Refusal
from_reply (ok none) = Ok None
from_reply (ok (some a)) = Ok (Some a)
from_reply (refused k) = Err (refusal_back k)

unchanged : {A : Type 0} (x : Result (std.Option A) Refusal) → from_reply (as_reply x) ≡ x
unchanged (Ok None) = refl
unchanged (Ok (Some a)) = refl
unchanged (Err k) = ap (λ (k : Refusal). Err k) (number_there_and_back k)

same : {A : Type 0} {b : Reply (Option A)} (x y : Result (std.Option A) Refusal) → as_reply x ≡ b → as_reply y ≡ b → x ≡ y
same x y g h = apart as_reply from_reply unchanged x y (g ∙⁻¹ h)

pub should_split : (b : CommandBuilder) (d : List ℕ) (m : ℕ) (x y : Result (std.Option Split) Refusal) → ShouldSplitIs b d m x → ShouldSplitIs b d m y → x ≡ y
should_split b d m x y g h = same x y g h

pub new_non_extended : (c i p q : ℕ) (d : List ℕ) (e m : ℕ) (x y : Result Pieces Refusal)
    → NewPiecesIs c i p q d e m x → NewPiecesIs c i p q d e m y → x ≡ y
new_non_extended c i p q d e m x y g h = one_reply x y g h

pub next : (c : Pieces) (d : List ℕ) (x y : Result (std.Option Piece) Refusal) → NextIs c d x → NextIs c d y → x ≡ y
next c d x y g h = same x y g h

pub write_next : (c : Pieces) (d l : List ℕ) (at : ℕ) (x y : Result (std.Option Written) Refusal) (after after' : List ℕ)
    → WriteNextIs c d l at x after → WriteNextIs c d l at y after' → (x ≡ y) × (after ≡ after')
write_next c d l at x y after after' g h =
    (same x y g.reply h.reply, g.buffer ∙⁻¹ h.buffer)
