-- One reply and one content of the lent buffer: any two that the promise allows are equal (rule 11.1).
use Prim.Native.Nat.{ℕ}
use mathlib.Core.Path.{◌≡◌, ◌∙⁻¹◌}
use mathlib.Core.List.{List}
use Rattle.std.specs.Prelude.{Result}
use Rattle.basis.specs.declared.refusal.Refusal.{Refusal}
use Rattle.basis.proofs.OneReply.{one_reply}
use Rattle.tlv_write.specs.Written.{PutDataObjectIs}

pub put_data_object : (t v b : List ℕ) (at : ℕ) (x y : Result ℕ Refusal) (after after' : List ℕ)
    → PutDataObjectIs t v b at x after → PutDataObjectIs t v b at y after' → (x ≡ y) × (after ≡ after')
put_data_object t v b at x y after after' p q = (one_reply x y p.reply q.reply, p.buffer ∙⁻¹ q.buffer)
