-- What a step of splitting replies, the room of the default buffer, and the parts of a command step after step.
use Prim.Native.Nat.{ℕ, zero, suc, ◌≤◌, ◌<◌}
use mathlib.Core.Path.{◌≡◌, refl, ap, ◌∙◌}
use mathlib.Core.List.{List, [], ◌∷◌}
use mathlib.Core.Option.{Option, none, some}
use native.Mathlib.Decide.{dec_le}
use native.Mathlib.Omega.{arith}
use borrow.Author.Tests.{eqb-false, leb-true, leb-false}
use lib.Dec.{ltb, leb, eqb}
use lib.ListN.{length, take, drop, length-drop}
use Rattle.basis.specs.Reply.{Reply, ok, refused}
use Rattle.basis.proofs.Reply.{All, all_is, all_cond}
use Rattle.builder.specs.Bytes.{lowered_of, le_written}
use Rattle.builder.specs.declared.CommandBuilder.{CommandBuilder}
use Rattle.builder.specs.declared.ExtendedLen.TheVariants.{Unsupported}
use Rattle.builder_laws.proofs.Cases.{le_none, lc_long, le_long}
use Rattle.splitter.specs.Step.{room_of, first_of, step_of}
use Rattle.splitter.specs.Pieces.{Part, parts_by, parts_in, parts}
use Rattle.splitter.specs.declared.step.Split.{Split}
pub use Rattle.splitter.proofs.Steps.{room_is, room_not_zero, step_whole, step_split, never_refused}
use Rattle.splitter_laws.specs.Cut.{split_of, Stepped}

module _ (b : CommandBuilder) (n m : ℕ) where
  -- what a step that is not refused replies
  pub stepped : All (Stepped b n m) (step_of b n m)
  unfolding step_of
  stepped =
      all_cond (Stepped b n m) (ltb 65535 n) _ _ (λ _. tt) (λ _.
      all_cond (Stepped b n m) (ltb m 4) _ _ (λ _. tt) (λ _.
      all_cond (Stepped b n m) (leb n (room_of b n m)) _ _ (λ h. leb-true n (room_of b n m) h) (λ h.
      all_cond (Stepped b n m) (eqb (room_of b n m) 0) _ _ (λ _. tt) (λ g. record {
        some = omega (arith, eqb-false (room_of b n m) 0 g);
        fewer = leb-false n (room_of b n m) h;
        split = refl;
      }))))

-- the default buffer in short mode, with over 255 data bytes: room for 254 of them without Le, 252 with Le (rule 4.2)
pub room_261 : (b : CommandBuilder) (n : ℕ) → b.mode ≡ Unsupported → 255 < n
    → (le_written b ≡ 0 → room_of b n 261 ≡ 254) × (1 ≤ le_written b → room_of b n 261 ≡ 252)
room_261 b n m h = (
  λ e. rw (room_is b n 261, lc_long b n h, le_none b n e, m),
  λ e. rw (room_is b n 261, lc_long b n h, le_long b n h e, m),
)

-- the parts that a step gives depend on the parts of the rest only
parts_same : (b : CommandBuilder) (d : List ℕ) (x : Reply (Option Split)) (f g : CommandBuilder → List ℕ → List Part)
    → ((s : Split) → x ≡ ok (some s) → f s.rest (drop s.len d) ≡ g s.rest (drop s.len d))
    → parts_by b d x f ≡ parts_by b d x g
parts_same b d (refused k) f g h = refl
parts_same b d (ok none) f g h = refl
parts_same b d (ok (some s)) f g h =
    ap (λ (ps : List Part). record { builder = s.first; «data» = take s.len d } ∷ ps) (h s refl)

-- a split leaves fewer data bytes
fewer_left : (b : CommandBuilder) (d : List ℕ) (m : ℕ) (s : Split) → step_of b (length d) m ≡ ok (some s)
    → length (drop s.len d) < length d
fewer_left b d m s e =
    let h = all_is (Stepped b (length d) m) (step_of b (length d) m) (some s) (stepped b (length d) m) e in
    omega (arith, length-drop s.len d, h.some, h.fewer)

-- more steps than data bytes are enough
enough : (k j : ℕ) (b : CommandBuilder) (d : List ℕ) (m : ℕ) → length d < k → length d < j → parts_in k b d m ≡ parts_in j b d m
unfolding parts_in
enough zero j b d m h g = absurd (omega arith)
enough (suc k) zero b d m h g = absurd (omega arith)
enough (suc k) (suc j) b d m h g =
    parts_same b d (step_of b (length d) m) (λ restBuilder rest. parts_in k restBuilder rest m) (λ restBuilder rest. parts_in j restBuilder rest m) (λ s e.
    let l = fewer_left b d m s e in
    enough k j s.rest (drop s.len d) m (omega arith) (omega arith))

-- the parts, without a bound on their number
module _ (b : CommandBuilder) (d : List ℕ) (m : ℕ) where
  pub parts_is : parts b d m ≡ parts_by b d (step_of b (length d) m) (λ restBuilder rest. parts restBuilder rest m)
  unfolding parts parts_in
  parts_is =
      let n = length d in
      parts_same b d (step_of b n m) (λ restBuilder rest. parts_in n restBuilder rest m) (λ restBuilder rest. parts restBuilder rest m) (λ s e.
      enough n (suc (length (drop s.len d))) s.rest (drop s.len d) m (fewer_left b d m s e) (omega arith))

  pub parts_whole : step_of b (length d) m ≡ ok none → parts b d m ≡ record { builder = b; «data» = d } ∷ []
  parts_whole h = parts_is ∙ rw h

  pub parts_split : (s : Split) → step_of b (length d) m ≡ ok (some s)
      → parts b d m ≡ record { builder = s.first; «data» = take s.len d } ∷ parts s.rest (drop s.len d) m
  parts_split s h = parts_is ∙ rw h

-- a property P of every cut, for a buffer of ten bytes and at most 65,535 data bytes: show it of a command that fits as
-- it is, and of a command that is split, if it holds of the rest
module _ (m : ℕ) (ten : 10 ≤ m) (P : CommandBuilder → List ℕ → List Part → Type 0)
    (whole : (b : CommandBuilder) (d : List ℕ) → length d ≤ room_of b (length d) m
    → P b d (record { builder = b; «data» = d } ∷ []))
    (split : (b : CommandBuilder) (d : List ℕ) (r : ℕ) (ps : List Part) → r ≡ room_of b (length d) m → 1 ≤ r → r < length d
    → P (lowered_of b) (drop r d) ps → P b d (record { builder = first_of b; «data» = take r d } ∷ ps)) where
  cut_in : (k : ℕ) (b : CommandBuilder) (d : List ℕ) → length d < k → length d ≤ 65535 → P b d (parts b d m)
  cut_in zero b d h few = absurd (omega arith)
  cut_in (suc k) b d h few =
      let n = length d in
      let r = room_of b n m in
      elim (dec_le n r) [
        | yes g ↦ rw (parts_whole b d m (step_whole b n m few (omega arith) g)) (whole b d g)
        | no g ↦
            let some = room_not_zero b n m ten in
            let left = length-drop r d in
            let rest = cut_in k (lowered_of b) (drop r d) (omega arith) (omega arith) in
            rw (parts_split b d m (split_of b n m) (step_split b n m few (omega arith) (omega arith) (λ z. omega arith)))
            (split b d r (parts (lowered_of b) (drop r d) m) refl some (omega arith) rest)
      ]

  pub cut : (b : CommandBuilder) (d : List ℕ) → length d ≤ 65535 → P b d (parts b d m)
  cut b d few = cut_in (suc (length d)) b d (omega arith) few
