-- One reply (rule 11.1): any two replies, and rooms at exit, that the promise of a function allows are equal.
use Prim.Native.Nat.{ℕ}
use mathlib.Core.Path.{◌≡◌, ◌∙⁻¹◌}
use mathlib.Core.List.{List}
use Rattle.std.specs.Prelude.{Result}
use Rattle.basis.specs.declared.refusal.Refusal.{Refusal}
use Rattle.basis.proofs.OneReply.{one_reply}
use Rattle.class.specs.declared.Reading.{Reading}
use Rattle.command.specs.Command.{TryFromIs, DataIs}
use Rattle.command.specs.Owned.{FromIs, OwnedIs, ExtendFromCommandViewIs}
use Rattle.command.specs.declared.CommandView.{CommandView}
use Rattle.command.specs.declared.owned.Command.{Command}
use Rattle.command.specs.declared.owned.Extended.{Extended}

pub view_try_from : (r : Reading) (s : List ℕ) (x y : Result CommandView Refusal) → TryFromIs r s x → TryFromIs r s y → x ≡ y
view_try_from r s x y p q = one_reply x y p q

pub data_part : (r : Reading) (s x y : List ℕ) → DataIs r s x → DataIs r s y → x ≡ y
data_part r s x y p q = p ∙⁻¹ q

pub from_view : (v : CommandView) (x y : Command) → FromIs v x → FromIs v y → x ≡ y
from_view v x y p q = p ∙⁻¹ q

pub try_from : (r : Reading) (s room : List ℕ) (x y : Result Command Refusal) (after after' : List ℕ)
    → OwnedIs r s room x after → OwnedIs r s room y after' → (x ≡ y) × (after ≡ after')
try_from r s room x y after after' p q = (one_reply x y p.reply q.reply, p.buffer ∙⁻¹ q.buffer)

pub extend_from_command_view : (c : Command) (v : CommandView) (d room : List ℕ) (x y : Extended) (after after' : List ℕ)
    → ExtendFromCommandViewIs c v d room x after → ExtendFromCommandViewIs c v d room y after' → (x ≡ y) × (after ≡ after')
extend_from_command_view c v d room x y after after' p q =
    let answers : x.answer ≡ y.answer = one_reply _ _ p.reply q.reply in
    let commands : x.command ≡ y.command = p.command ∙⁻¹ q.command in
    (λ i. record { answer = answers i; command = commands i }, p.buffer ∙⁻¹ q.buffer)
