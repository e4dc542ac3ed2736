-- One reply (rule 11.1): any two replies, and buffers at exit, that the promise of a function allows are equal.
use Prim.Native.Nat.{ℕ}
use mathlib.Core.Path.{◌≡◌, ◌∙⁻¹◌}
use mathlib.Core.List.{List}
use Rattle.std.specs.Prelude.{Result}
use Rattle.basis.specs.declared.refusal.Refusal.{Refusal}
use Rattle.basis.proofs.OneReply.{one_reply}
use Rattle.builder.specs.Builder.{NewIs, ForceExtendedIs}
use Rattle.builder.specs.Bytes.{LoweredIs, RequiredLenIs, SerializeIntoIs}
use Rattle.builder.specs.declared.ExpectedLen.{ExpectedLen}
use Rattle.builder.specs.declared.ExtendedLen.{ExtendedLen}
use Rattle.builder.specs.declared.CommandBuilder.{CommandBuilder}

pub new : (c i p q : ℕ) (d : List ℕ) (e : ExpectedLen) (m : ExtendedLen) (x y : Result CommandBuilder Refusal)
    → NewIs c i p q d e m x → NewIs c i p q d e m y → x ≡ y
new c i p q d e m x y g h = one_reply x y g h

module _ (b : CommandBuilder) where
  pub force_extended : (x y : Result CommandBuilder Refusal) → ForceExtendedIs b x → ForceExtendedIs b y → x ≡ y
  force_extended x y g h = one_reply x y g h

  pub lowered : (x y : CommandBuilder) → LoweredIs b x → LoweredIs b y → x ≡ y
  lowered x y g h = g ∙⁻¹ h

  pub required_len : (d : List ℕ) (x y : Result ℕ Refusal) → RequiredLenIs b d x → RequiredLenIs b d y → x ≡ y
  required_len d x y g h = one_reply x y g h

  pub serialize_into : (d l : List ℕ) (at : ℕ) (x y : Result ℕ Refusal) (after after' : List ℕ)
      → SerializeIntoIs b d l at x after → SerializeIntoIs b d l at y after' → (x ≡ y) × (after ≡ after')
  serialize_into d l at x y after after' g h =
      (one_reply x y g.reply h.reply, g.buffer ∙⁻¹ h.buffer)
