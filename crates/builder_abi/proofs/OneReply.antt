-- One reply and one content of the lent slice (rule 11.1): any two that a promise allows are equal.
use Prim.Native.Nat.{ℕ}
use mathlib.Core.Path.{◌≡◌}
use mathlib.Core.List.{List}
use Rattle.abi.specs.Builders.{builder_by_numbers}
use Rattle.abi.proofs.OneReply.{One, one, one_serialized}
use Rattle.builder_abi.specs.Numbers.{required_len_reply, force_extended_reply, builder_eq_reply, CommandWritten}

module _ (c i p q e m : ℕ) (d : List ℕ) where
  pub gorvisclen_required_len : One 1 (required_len_reply c i p q e m d)
  gorvisclen_required_len = one 1 (required_len_reply c i p q e m d)

  pub gorvisclen_force_extended : One 1 (force_extended_reply c i p q e m d)
  gorvisclen_force_extended = one 1 (force_extended_reply c i p q e m d)

  pub gorvisclen_builder_eq : (s : List ℕ) → One 1 (builder_eq_reply c i p q e m d s)
  gorvisclen_builder_eq s = one 1 (builder_eq_reply c i p q e m d s)

  pub gorvisclen_serialize_into : (at : ℕ) (buffer out : List ℕ) (r r' : ℕ) (a a' o o' : List ℕ)
      → CommandWritten c i p q e m d at buffer out r a o → CommandWritten c i p q e m d at buffer out r' a' o'
      → (r ≡ r') × (a ≡ a') × (o ≡ o')
  gorvisclen_serialize_into = one_serialized (builder_by_numbers c i p q e m d) d
