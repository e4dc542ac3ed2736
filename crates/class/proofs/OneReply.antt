-- One reply: any two replies that a promise allows are equal (rule 11.1).
use Prim.Native.Nat.{ℕ, zero, suc}
use mathlib.Core.Path.{◌≡◌, refl, ap, ◌∙⁻¹◌}
use mathlib.Core.Bool.{Bool}
use Rattle.basis.specs.Reply.{Reply, ok, refused}
use Rattle.basis.specs.declared.refusal.Refusal.{Refusal}
use Rattle.basis.proofs.Reply.{apart}
use Rattle.basis.proofs.OneReply.{refusal_back, number_there_and_back, one_reply, one_option}
use Rattle.std.specs.Prelude.{Result, Ok, Err, Option}
use Rattle.class.specs.Class.{FromByteIs, IntoInnerIs}
use Rattle.class.specs.Range.{range_as_number, from_cla_as_reply, RangeIs, FromClaIs}
use Rattle.class.specs.SecureMessaging.{secure_messaging_as_number, SecureMessagingIs, NoneIs}
use Rattle.class.specs.Chain.{chain_as_number, ChainIs, AsChainedIs, LastOrOnlyIs, NotTheLastIs}
use Rattle.class.specs.Channel.{ChannelIs}
use Rattle.class.specs.declared.Class.{Class}
use Rattle.class.specs.declared.Reading.{Reading}
use Rattle.class.specs.declared.range.Range.{Range}
use Rattle.class.specs.declared.range.Range.TheVariants as ranges
use Rattle.class.specs.declared.range.Interindustry.TheVariants.{First, Further, Reserved}
use Rattle.class.specs.declared.secure_messaging.SecureMessaging.{SecureMessaging}
use Rattle.class.specs.declared.secure_messaging.SecureMessaging.TheVariants as sm
use Rattle.class.specs.declared.chain.Chain.{Chain}
use Rattle.class.specs.declared.chain.Chain.TheVariants as chains

-- the way back from a reply or a number to the answer, and that it leads back to the same answer
abbrev range_back : ℕ → Range
range_back zero = ranges.Interindustry First
range_back (suc zero) = ranges.Interindustry Further
range_back (suc (suc zero)) = ranges.Interindustry Reserved
range_back (suc (suc (suc n))) = ranges.Proprietary

range_there_and_back : (x : Range) → range_back (range_as_number x) ≡ x
range_there_and_back (ranges.Interindustry First) = refl
range_there_and_back (ranges.Interindustry Further) = refl
range_there_and_back (ranges.Interindustry Reserved) = refl
range_there_and_back ranges.Proprietary = refl

abbrev cla_back : Reply ℕ → Result Range Refusal
cla_back (ok n) = Ok (range_back n)
cla_back (refused k) = Err (refusal_back k)

cla_there_and_back : (x : Result Range Refusal) → cla_back (from_cla_as_reply x) ≡ x
cla_there_and_back (Ok x) = ap (λ (x : Range). Ok x) (range_there_and_back x)
cla_there_and_back (Err k) = ap (λ (k : Refusal). Err k) (number_there_and_back k)

abbrev indication_back : ℕ → SecureMessaging
indication_back zero = sm.None
indication_back (suc zero) = sm.Proprietary
indication_back (suc (suc zero)) = sm.Standard
indication_back (suc (suc (suc zero))) = sm.Authenticated
indication_back (suc (suc (suc (suc n)))) = sm.Unknown

indication_there_and_back : (x : SecureMessaging) → indication_back (secure_messaging_as_number x) ≡ x
indication_there_and_back sm.None = refl
indication_there_and_back sm.Proprietary = refl
indication_there_and_back sm.Standard = refl
indication_there_and_back sm.Authenticated = refl
indication_there_and_back sm.Unknown = refl

abbrev chain_back : ℕ → Chain
chain_back zero = chains.LastOrOnly
chain_back (suc zero) = chains.NotTheLast
chain_back (suc (suc n)) = chains.Unknown

chain_there_and_back : (x : Chain) → chain_back (chain_as_number x) ≡ x
chain_there_and_back chains.LastOrOnly = refl
chain_there_and_back chains.NotTheLast = refl
chain_there_and_back chains.Unknown = refl

pub from_byte : (c : ℕ) (r s : Result Class Refusal) → FromByteIs c r → FromByteIs c s → r ≡ s
from_byte c r s p q = one_reply r s p q

pub into_inner : (c : Class) (r s : ℕ) → IntoInnerIs c r → IntoInnerIs c s → r ≡ s
into_inner c r s p q = p ∙⁻¹ q

pub range : (c : Class) (r s : Range) → RangeIs c r → RangeIs c s → r ≡ s
range c r s p q = apart range_as_number range_back range_there_and_back r s (p ∙⁻¹ q)

pub from_cla : (c : ℕ) (r s : Result Range Refusal) → FromClaIs c r → FromClaIs c s → r ≡ s
from_cla c r s p q = apart from_cla_as_reply cla_back cla_there_and_back r s (p ∙⁻¹ q)

pub secure_messaging : (k : Reading) (c : Class) (r s : SecureMessaging) → SecureMessagingIs k c r
    → SecureMessagingIs k c s → r ≡ s
secure_messaging k c r s p q = apart secure_messaging_as_number indication_back indication_there_and_back r s (p ∙⁻¹ q)

pub none : (x : SecureMessaging) (r s : Bool) → NoneIs x r → NoneIs x s → r ≡ s
none x r s p q = p ∙⁻¹ q

pub chain : (c : Class) (r s : Chain) → ChainIs c r → ChainIs c s → r ≡ s
chain c r s p q = apart chain_as_number chain_back chain_there_and_back r s (p ∙⁻¹ q)

pub as_chained : (c r s : Class) → AsChainedIs c r → AsChainedIs c s → r ≡ s
as_chained c r s p q = p ∙⁻¹ q

pub last_or_only : (x : Chain) (r s : Bool) → LastOrOnlyIs x r → LastOrOnlyIs x s → r ≡ s
last_or_only x r s p q = p ∙⁻¹ q

pub not_the_last : (x : Chain) (r s : Bool) → NotTheLastIs x r → NotTheLastIs x s → r ≡ s
not_the_last x r s p q = p ∙⁻¹ q

pub channel : (k : Reading) (c : Class) (r s : Option ℕ) → ChannelIs k c r → ChannelIs k c s → r ≡ s
channel k c r s p q = one_option r s p q
