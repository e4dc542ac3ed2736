-- What `serialize_into` leaves in a buffer: the command is at its place, and is read back.
use Prim.Native.Nat.{ℕ, ◌+◌, ◌≤◌}
use mathlib.Core.Path.{◌≡◌, refl, sym, ◌∙◌}
use mathlib.Core.List.{List, ◌++◌}
use native.Mathlib.Omega.{arith}
use borrow.Author.Tests.{ltb-false}
use lib.Dec.{ltb}
use lib.ListN.{length, take, drop}
use lib.Seq.{take-append_seam, drop_at, length-take-le}
use Rattle.std.specs.Prelude.{Result}
use Rattle.basis.specs.Reply.{ok}
use Rattle.basis.specs.Refusal.{as_reply}
use Rattle.basis.specs.declared.refusal.Refusal.{Refusal}
use Rattle.basis.specs.Over.{over_at}
use Rattle.basis.proofs.Reply.{All, all_is, all_cond}
use Rattle.class.specs.declared.Reading.{Reading}
use Rattle.command.proofs.Cases.{ReadAs}
use Rattle.builder.specs.Bytes.{command_of, serialize_of, SerializeIntoIs}
use Rattle.builder.specs.declared.CommandBuilder.{CommandBuilder}
use Rattle.builder_laws.specs.Read.{Expected, view_for}
use Rattle.builder_laws.proofs.Read.{built_read}

-- a command that fits, from a place of a buffer of m bytes, and has n bytes
abbrev Fits : CommandBuilder → List ℕ → ℕ → ℕ → ℕ → Type 0
Fits b d m at n = (length d ≤ 65535) × (at + length (command_of b d) ≤ m) × (n ≡ length (command_of b d))

-- a command that is written fits
fitted : (b : CommandBuilder) (d : List ℕ) (m at : ℕ) → All (Fits b d m at) (serialize_of b d m at)
unfolding serialize_of
fitted b d m at =
    all_cond (Fits b d m at) (ltb 65535 (length d)) _ _ (λ _. tt) (λ f.
    all_cond (Fits b d m at) (ltb m (at + length (command_of b d))) _ _ (λ _. tt) (λ g.
    (ltb-false 65535 (length d) f, ltb-false m (at + length (command_of b d)) g, refl)))

module _ (b : CommandBuilder) (d before : List ℕ) (at n : ℕ) (x : Result ℕ Refusal) (after : List ℕ)
    (w : SerializeIntoIs b d before at x after) (s : as_reply x ≡ ok n) where
  fits : Fits b d (length before) at n
  fits =
      all_is (Fits b d (length before) at) (serialize_of b d (length before) at) n (fitted b d (length before) at) (sym w.reply ∙ s)

  -- the command is in the buffer at its place (rule 3.9)
  pub command_in_buffer : take n (drop at after) ≡ command_of b d
  unfolding over_at
  command_in_buffer =
      let c = command_of b d in
      let l : length (take at before) ≡ at = length-take-le at before (omega (arith, fits.1)) in
      rw (w.buffer, sym w.reply ∙ s, fits.2, drop_at (take at before) (c ++ drop (at + length c) before) at l)
      (take-append_seam c (drop (at + length c) before))

  -- and is read back from there, unless its class byte is 0xFF
  pub written_read : (r : Reading) → (b.class.cla ≡ 0xFF → ⊥) → Expected b.le
      → ReadAs r (take n (drop at after)) (view_for b (length d)) d
  written_read r k h = rw command_in_buffer (built_read r b d k h fits.0)
