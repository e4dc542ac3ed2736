-- One reply: any two replies, states and rooms at exit that a promise allows are equal.
use Prim.Native.Nat.{ℕ}
use mathlib.Core.Path.{◌≡◌, refl, ap, ◌∙⁻¹◌}
use mathlib.Core.List.{List}
use mathlib.Core.Option.{Option, none, some}
use Rattle.std.specs.Prelude.{Some, None, Result, Ok, Err}
use Rattle.std.specs.Prelude as std
use Rattle.basis.specs.declared.refusal.Refusal.{Refusal}
use Rattle.basis.proofs.OneReply.{refusal_back, number_there_and_back}
use Rattle.basis.specs.Reply.{Reply, ok, refused}
use Rattle.basis.proofs.Reply.{apart}
use Rattle.command.specs.declared.owned.Command.{Command}
use Rattle.reassembler.specs.Join.{as_reply, JoinIs, ClosedIs, DataIs}
use Rattle.reassembler.specs.declared.Reassembler.{Reassembler}
use Rattle.reassembler.specs.declared.Joined.{Joined}

-- the answer, from its reply
abbrev answer_back : Reply (Option Command) → Result (std.Option Command) Refusal
answer_back (ok none) = Ok None
answer_back (ok (some c)) = Ok (Some c)
answer_back (refused k) = Err (refusal_back k)

answer_there_and_back : (x : Result (std.Option Command) Refusal) → answer_back (as_reply x) ≡ x
answer_there_and_back (Ok None) = refl
answer_there_and_back (Ok (Some c)) = refl
answer_there_and_back (Err k) = ap (λ (j : Refusal). Err j) (number_there_and_back k)

pub join : (r : Reassembler) (s room : List ℕ) (x y : Joined) (after after' : List ℕ)
    → JoinIs r s room x after → JoinIs r s room y after' → (x ≡ y) × (after ≡ after')
join r s room x y after after' g h =
    let answers : x.answer ≡ y.answer = apart as_reply answer_back answer_there_and_back _ _ (g.says.reply ∙⁻¹ h.says.reply) in
    let states : x.state ≡ y.state = g.says.state ∙⁻¹ h.says.state in
    (λ i. record { answer = answers i; state = states i }, g.buffer ∙⁻¹ h.buffer)

pub new : (x y : Reassembler) → ClosedIs x → ClosedIs y → x ≡ y
new x y g h = g ∙⁻¹ h

pub reset : (x y : Reassembler) → ClosedIs x → ClosedIs y → x ≡ y
reset x y g h = g ∙⁻¹ h

pub data_part : (c : Command) (room x y : List ℕ) → DataIs c room x → DataIs c room y → x ≡ y
data_part c room x y g h = g ∙⁻¹ h
