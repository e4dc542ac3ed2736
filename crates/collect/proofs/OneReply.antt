-- One reply: any two answers, and rooms or buffers at exit, that a promise allows are equal.
use Prim.Native.Nat.{ℕ}
use mathlib.Core.Path.{◌≡◌, refl, ap, ◌∙⁻¹◌}
use mathlib.Core.List.{List}
use Rattle.std.specs.Prelude.{Result, Ok, Err}
use Rattle.basis.specs.Reply.{Reply, ok, refused}
use Rattle.basis.specs.declared.refusal.Refusal.{Refusal}
use Rattle.basis.proofs.Reply.{apart}
use Rattle.basis.proofs.OneReply.{refusal_back, number_there_and_back}
use Rattle.builder.specs.declared.CommandBuilder.{CommandBuilder}
use Rattle.builder.proofs.OneReply.{serialize_into}
use Rattle.response.specs.declared.Response.{Response}
use Rattle.collect.specs.Collect.{Going, send, done, builder_of, data_sent, as_reply}
use Rattle.collect.specs.Collect.{StartIs, StepIs, WriteIs, CollectedIs}
use Rattle.collect.specs.declared.Collection.{Collection}
use Rattle.collect.specs.declared.Step.{Step}
use Rattle.collect.specs.declared.Step.TheVariants as answer

-- the answer, from its reply
abbrev answer_of : Reply Going → Result Step Refusal
answer_of (ok (send c)) = Ok (answer.Send c)
answer_of (ok (done r)) = Ok (answer.Done r)
answer_of (refused k) = Err (refusal_back k)

answer_is : (x : Result Step Refusal) → answer_of (as_reply x) ≡ x
answer_is (Ok (answer.Send c)) = refl
answer_is (Ok (answer.Done r)) = refl
answer_is (Err k) = ap (λ (k : Refusal). Err k) (number_there_and_back k)

pub start : (b : CommandBuilder) (x y : Collection) → StartIs b x → StartIs b y → x ≡ y
start b x y g h = g ∙⁻¹ h

pub step : (c : Collection) (s room : List ℕ) (x y : Result Step Refusal) (after after' : List ℕ)
    → StepIs c s room x after → StepIs c s room y after' → (x ≡ y) × (after ≡ after')
step c s room x y after after' g h =
    (apart as_reply answer_of answer_is x y (g.reply ∙⁻¹ h.reply), g.buffer ∙⁻¹ h.buffer)

pub write : (c : Collection) (d buffer : List ℕ) (at : ℕ) (x y : Result ℕ Refusal) (after after' : List ℕ)
    → WriteIs c d buffer at x after → WriteIs c d buffer at y after' → (x ≡ y) × (after ≡ after')
write c d buffer at x y after after' g h =
    serialize_into (builder_of c.sent) (data_sent c.sent d) buffer at x y after after' g h

pub collected : (r : Response) (room x y : List ℕ) → CollectedIs r room x → CollectedIs r room y → x ≡ y
collected r room x y g h = g ∙⁻¹ h
