-- One reply: any two replies, parts and buffers at exit that a promise allows are equal (rule 11.1).
use Prim.Native.Nat.{ℕ, zero, suc}
use mathlib.Core.Path.{◌≡◌, refl, ◌∙⁻¹◌}
use mathlib.Core.List.{List}
use Rattle.std.specs.Prelude.{Result, Option}
use Rattle.basis.specs.declared.refusal.Refusal.{Refusal}
use Rattle.basis.proofs.Reply.{apart}
use Rattle.basis.proofs.OneReply.{one_reply, one_option}
use Rattle.response.specs.Response.{SplitIs, DataIs, AppendIs}
use Rattle.response.specs.Status.{class_as_number, WordIs, ClassIs}
use Rattle.response.specs.Words.{ListedIs, NameIs}
use Rattle.response.specs.declared.Response.{Response}
use Rattle.response.specs.declared.status.Status.{Status}
use Rattle.response.specs.declared.status.StatusClass.{StatusClass}
use Rattle.response.specs.declared.status.StatusClass.TheVariants as class

-- the way back from a reply or a number to the answer, and that it leads back to the same answer
abbrev class_back : ℕ → StatusClass
class_back zero = class.Normal
class_back (suc zero) = class.Warning
class_back (suc (suc zero)) = class.ExecutionError
class_back (suc (suc (suc zero))) = class.CheckingError
class_back (suc (suc (suc (suc n)))) = class.Unknown

class_there_and_back : (x : StatusClass) → class_back (class_as_number x) ≡ x
class_there_and_back class.Normal = refl
class_there_and_back class.Warning = refl
class_there_and_back class.ExecutionError = refl
class_there_and_back class.CheckingError = refl
class_there_and_back class.Unknown = refl

pub split : (s : List ℕ) (x y : Result Response Refusal) → SplitIs s x → SplitIs s y → x ≡ y
split s x y g h = one_reply x y g h

pub data_part : (s x y : List ℕ) → DataIs s x → DataIs s y → x ≡ y
data_part s x y g h = g ∙⁻¹ h

pub append : (s : List ℕ) (held : ℕ) (room : List ℕ) (x y : Result Response Refusal) (after after' : List ℕ)
    → AppendIs s held room x after → AppendIs s held room y after' → (x ≡ y) × (after ≡ after')
append s held room x y after after' g h = (one_reply x y g.reply h.reply, g.buffer ∙⁻¹ h.buffer)

pub word : (t : Status) (x y : ℕ) → WordIs t x → WordIs t y → x ≡ y
word t x y g h = g ∙⁻¹ h

pub class_of : (t : Status) (x y : StatusClass) → ClassIs t x → ClassIs t y → x ≡ y
class_of t x y g h = apart class_as_number class_back class_there_and_back x y (g ∙⁻¹ h)

pub listed : (t : Status) (x y : Option ℕ) → ListedIs t x → ListedIs t y → x ≡ y
listed t x y g h = one_option x y g h

pub name : (t : Status) (to : List ℕ) (x y : Result ℕ Refusal) (after after' : List ℕ) → NameIs t to x after → NameIs t to y after'
    → (x ≡ y) × (after ≡ after')
name t to x y after after' g h =
    (one_reply x y g.reply h.reply, g.buffer ∙⁻¹ h.buffer)
