-- One reply: answers with the same reply are equal, since each number is that of one refusal (rule 11.1).
use Prim.Native.Nat.{ℕ, zero, suc}
use mathlib.Core.Path.{◌≡◌, refl, ap, ◌∙⁻¹◌}
use mathlib.Core.Option as maybe
use Rattle.std.specs.Prelude.{Option, Some, None, Result, Ok, Err}
use Rattle.basis.specs.Reply.{Reply, ok, refused}
use Rattle.basis.specs.Refusal.{refusal_number, as_reply, as_option, NumberIs}
use Rattle.basis.specs.declared.refusal.Refusal.{Refusal}
use Rattle.basis.specs.declared.refusal.Refusal.TheVariants as refusal
use Rattle.basis.proofs.Reply.{apart}

-- the refusal with a number
abbrev pub refusal_back : ℕ → Refusal
refusal_back zero = refusal.CommandTooShort
refusal_back (suc zero) = refusal.CommandTooShort
refusal_back (suc (suc zero)) = refusal.CopyTooLong
refusal_back (suc (suc (suc zero))) = refusal.NoClass
refusal_back (suc (suc (suc (suc zero)))) = refusal.ShortLengths
refusal_back (suc (suc (suc (suc (suc zero))))) = refusal.ExtendedLengths
refusal_back (suc (suc (suc (suc (suc (suc zero)))))) = refusal.NameEmpty
refusal_back (suc (suc (suc (suc (suc (suc (suc zero))))))) = refusal.NameTooLong
refusal_back (suc (suc (suc (suc (suc (suc (suc (suc zero)))))))) = refusal.TruncatedAboveName
refusal_back (suc (suc (suc (suc (suc (suc (suc (suc (suc zero))))))))) = refusal.NationalTooShort
refusal_back (suc (suc (suc (suc (suc (suc (suc (suc (suc (suc zero)))))))))) = refusal.InternationalTooShort
refusal_back (suc (suc (suc (suc (suc (suc (suc (suc (suc (suc (suc zero))))))))))) = refusal.EndReached
refusal_back (suc (suc (suc (suc (suc (suc (suc (suc (suc (suc (suc (suc zero)))))))))))) = refusal.Unreadable
refusal_back (suc (suc (suc (suc (suc (suc (suc (suc (suc (suc (suc (suc (suc zero))))))))))))) = refusal.DataTooLong
refusal_back (suc (suc (suc (suc (suc (suc (suc (suc (suc (suc (suc (suc (suc (suc zero)))))))))))))) = refusal.NoRoomForPiece
refusal_back (suc (suc (suc (suc (suc (suc (suc (suc (suc (suc (suc (suc (suc (suc (suc zero))))))))))))))) = refusal.ExtendedUnsupported
refusal_back (suc (suc (suc (suc (suc (suc (suc (suc (suc (suc (suc (suc (suc (suc (suc (suc zero)))))))))))))))) = refusal.DoesNotFit
refusal_back (suc (suc (suc (suc (suc (suc (suc (suc (suc (suc (suc (suc (suc (suc (suc (suc (suc zero))))))))))))))))) = refusal.OtherChain
refusal_back (suc (suc (suc (suc (suc (suc (suc (suc (suc (suc (suc (suc (suc (suc (suc (suc (suc (suc zero)))))))))))))))))) = refusal.RoomExceeded
refusal_back (suc (suc (suc (suc (suc (suc (suc (suc (suc (suc (suc (suc (suc (suc (suc (suc (suc (suc (suc zero))))))))))))))))))) = refusal.ValueTooLong
refusal_back (suc (suc (suc (suc (suc (suc (suc (suc (suc (suc (suc (suc (suc (suc (suc (suc (suc (suc (suc (suc zero)))))))))))))))))))) = refusal.InputMalformed
refusal_back (suc (suc (suc (suc (suc (suc (suc (suc (suc (suc (suc (suc (suc (suc (suc (suc (suc (suc (suc (suc (suc zero))))))))))))))))))))) = refusal.ZeroLcWithLe
refusal_back (suc (suc (suc (suc (suc (suc (suc (suc (suc (suc (suc (suc (suc (suc (suc (suc (suc (suc (suc (suc (suc (suc zero)))))))))))))))))))))) = refusal.ResponseTooShort
refusal_back (suc (suc (suc (suc (suc (suc (suc (suc (suc (suc (suc (suc (suc (suc (suc (suc (suc (suc (suc (suc (suc (suc (suc zero))))))))))))))))))))))) = refusal.ResponseRoomExceeded
refusal_back (suc (suc (suc (suc (suc (suc (suc (suc (suc (suc (suc (suc (suc (suc (suc (suc (suc (suc (suc (suc (suc (suc (suc (suc zero)))))))))))))))))))))))) = refusal.RecordTooLarge
refusal_back (suc (suc (suc (suc (suc (suc (suc (suc (suc (suc (suc (suc (suc (suc (suc (suc (suc (suc (suc (suc (suc (suc (suc (suc (suc zero))))))))))))))))))))))))) = refusal.NotAnIndex
refusal_back (suc (suc (suc (suc (suc (suc (suc (suc (suc (suc (suc (suc (suc (suc (suc (suc (suc (suc (suc (suc (suc (suc (suc (suc (suc (suc zero)))))))))))))))))))))))))) = refusal.NotAProfile
refusal_back (suc (suc (suc (suc (suc (suc (suc (suc (suc (suc (suc (suc (suc (suc (suc (suc (suc (suc (suc (suc (suc (suc (suc (suc (suc (suc (suc n))))))))))))))))))))))))))) = refusal.NoSuchDate

pub number_there_and_back : (k : Refusal) → refusal_back (refusal_number k) ≡ k
number_there_and_back refusal.CommandTooShort = refl
number_there_and_back refusal.CopyTooLong = refl
number_there_and_back refusal.NoClass = refl
number_there_and_back refusal.ShortLengths = refl
number_there_and_back refusal.ExtendedLengths = refl
number_there_and_back refusal.NameEmpty = refl
number_there_and_back refusal.NameTooLong = refl
number_there_and_back refusal.TruncatedAboveName = refl
number_there_and_back refusal.NationalTooShort = refl
number_there_and_back refusal.InternationalTooShort = refl
number_there_and_back refusal.EndReached = refl
number_there_and_back refusal.Unreadable = refl
number_there_and_back refusal.DataTooLong = refl
number_there_and_back refusal.NoRoomForPiece = refl
number_there_and_back refusal.ExtendedUnsupported = refl
number_there_and_back refusal.DoesNotFit = refl
number_there_and_back refusal.OtherChain = refl
number_there_and_back refusal.RoomExceeded = refl
number_there_and_back refusal.ValueTooLong = refl
number_there_and_back refusal.InputMalformed = refl
number_there_and_back refusal.ZeroLcWithLe = refl
number_there_and_back refusal.ResponseTooShort = refl
number_there_and_back refusal.ResponseRoomExceeded = refl
number_there_and_back refusal.RecordTooLarge = refl
number_there_and_back refusal.NotAnIndex = refl
number_there_and_back refusal.NotAProfile = refl
number_there_and_back refusal.NoSuchDate = refl

abbrev reply_back : {A : Type 0} → Reply A → Result A Refusal
reply_back (ok a) = Ok a
reply_back (refused k) = Err (refusal_back k)

reply_there_and_back : {A : Type 0} (x : Result A Refusal) → reply_back (as_reply x) ≡ x
reply_there_and_back (Ok a) = refl
reply_there_and_back (Err k) = ap (λ (k : Refusal). Err k) (number_there_and_back k)

abbrev option_back : {A : Type 0} → maybe.Option A → Option A
option_back (maybe.some a) = Some a
option_back maybe.none = None

option_there_and_back : {A : Type 0} (x : Option A) → option_back (as_option x) ≡ x
option_there_and_back (Some a) = refl
option_there_and_back None = refl

pub one_reply : {A : Type 0} {b : Reply A} (r s : Result A Refusal) → as_reply r ≡ b → as_reply s ≡ b → r ≡ s
one_reply r s p q = apart as_reply reply_back reply_there_and_back r s (p ∙⁻¹ q)

pub one_option : {A : Type 0} {b : maybe.Option A} (r s : Option A) → as_option r ≡ b → as_option s ≡ b → r ≡ s
one_option r s p q = apart as_option option_back option_there_and_back r s (p ∙⁻¹ q)

pub number : (k : Refusal) (r s : ℕ) → NumberIs k r → NumberIs k s → r ≡ s
number k r s p q = p ∙⁻¹ q
