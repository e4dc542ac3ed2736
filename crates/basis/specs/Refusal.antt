-- The refusals as numbers, and the answers of the code as replies.
use Rattle.std.specs.Prelude.{ℕ, ◌≡◌, Option, Some, None, Result, Ok, Err}
use mathlib.Core.Option as maybe
use Rattle.basis.specs.Reply.{Reply, ok, refused}
use Rattle.basis.specs.declared.refusal.Refusal.{Refusal}
use Rattle.basis.specs.declared.refusal.Refusal.TheVariants as refusal

-- the number that documents 01 and 02 give a refusal (rules 1.1 to 1.21 and 1.28 to 1.33)
abbrev pub refusal_number : Refusal → ℕ
refusal_number refusal.CommandTooShort = 1
refusal_number refusal.CopyTooLong = 2
refusal_number refusal.NoClass = 3
refusal_number refusal.ShortLengths = 4
refusal_number refusal.ExtendedLengths = 5
refusal_number refusal.NameEmpty = 6
refusal_number refusal.NameTooLong = 7
refusal_number refusal.TruncatedAboveName = 8
refusal_number refusal.NationalTooShort = 9
refusal_number refusal.InternationalTooShort = 10
refusal_number refusal.EndReached = 11
refusal_number refusal.Unreadable = 12
refusal_number refusal.DataTooLong = 13
refusal_number refusal.NoRoomForPiece = 14
refusal_number refusal.ExtendedUnsupported = 15
refusal_number refusal.DoesNotFit = 16
refusal_number refusal.OtherChain = 17
refusal_number refusal.RoomExceeded = 18
refusal_number refusal.ValueTooLong = 19
refusal_number refusal.InputMalformed = 20
refusal_number refusal.ZeroLcWithLe = 21
refusal_number refusal.ResponseTooShort = 22
refusal_number refusal.ResponseRoomExceeded = 23
refusal_number refusal.RecordTooLarge = 24
refusal_number refusal.NotAnIndex = 25
refusal_number refusal.NotAProfile = 26
refusal_number refusal.NoSuchDate = 27

-- an answer of the code as a reply
abbrev pub as_reply : {A : Type 0} → Result A Refusal → Reply A
as_reply (Ok a) = ok a
as_reply (Err k) = refused (refusal_number k)

-- a value of the code that may be absent as one of the definitions
abbrev pub as_option : {A : Type 0} → Option A → maybe.Option A
as_option (Some a) = maybe.some a
as_option None = maybe.none

-- the promise of `number`
abbrev pub NumberIs : Refusal → ℕ → Type 0
NumberIs k r = r ≡ refusal_number k
