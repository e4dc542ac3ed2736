-- How an exported function answers: a status, and numbers at the front of a lent slice. It is refused with 16 if the
-- slice is too short, unless a smaller number is given (rules 1.16 and 1.22). A refusal writes nothing (rules 1.24 and
-- 1.25), unless it carries numbers (rule 15.7).
use Rattle.std.specs.Prelude.{ℕ, ◌≡◌, Bool, true, false, cond, List, [], ◌∷◌, eqb, ltb, length, get_or}
use Rattle.std.proofs.Math.Option.{Option, none, some}
use Rattle.basis.specs.Reply.{Reply, ok, refused, status}
use Rattle.basis.specs.Over.{over}
use Rattle.abi.specs.declared.answers.Numbers.{Numbers}

-- the refusal if the slice is too short: 16, or the smaller number that is given anyway
abbrev pub at_most16 : ℕ → ℕ
at_most16 k = cond (ltb 16 k) 16 k

abbrev pub too_short : {A : Type 0} → Reply A → Reply A
too_short (ok a) = refused 16
too_short (refused k) = refused (at_most16 k)

-- a reply of m numbers, if the slice lent has n
abbrev pub if_long_enough : {A : Type 0} → ℕ → ℕ → Reply A → Reply A
if_long_enough m n x = cond (ltb n m) (too_short x) x

-- the promise of `refusal_status`: refusal k, if the slice lent has n numbers and m are needed
abbrev pub RefusalStatusIs : ℕ → ℕ → ℕ → ℕ → Type 0
RefusalStatusIs k n m r = r ≡ cond (ltb n m) (at_most16 k) k

-- the promise of `usable_len`: all of n bytes, or none if m numbers are lent and more than m are needed
abbrev pub usable_len : ℕ → ℕ → ℕ → ℕ
usable_len n m k = cond (ltb m k) 0 n

abbrev pub UsableLenIs : ℕ → ℕ → ℕ → ℕ → Type 0
UsableLenIs n m k r = r ≡ usable_len n m k

-- the slice lent for numbers (the row) after a reply
abbrev pub out_after : Reply (List ℕ) → List ℕ → List ℕ
out_after (ok vs) out = over vs out
out_after (refused k) out = out

-- a room after a reply: as the operation left it; a refusal leaves it as it was, also 16 for a row that is too short
-- (rule 1.25)
abbrev pub room_after : Reply (List ℕ) → List ℕ → List ℕ → List ℕ
room_after (ok vs) after room = after
room_after (refused k) after room = room

-- the promise of a function that writes the m numbers of a reply to the row
pub record NumbersWritten (m : ℕ) (x : Reply (List ℕ)) (out : List ℕ) (r : ℕ) (after : List ℕ) : Type 0 where
  pub reply : r ≡ status (if_long_enough m (length out) x)
  pub row : after ≡ out_after (if_long_enough m (length out) x) out

-- an answer that has numbers whatever its status is (rule 15.7): the status, 0 or a refusal, and the numbers
pub record Row : Type 0 where
  pub status : ℕ
  pub numbers : List ℕ

abbrev pub row : ℕ → List ℕ → Row
row k vs = record { status = k; numbers = vs }

-- the status if the slice is too short for the numbers: 16, or the smaller refusal that is given anyway
abbrev pub short_status : ℕ → ℕ
short_status k = cond (eqb k 0) 16 (at_most16 k)

-- the promise of a function that writes the numbers of a row whatever the status is, if the slice lent is long enough
pub record RowTold (x : Row) (out : List ℕ) (r : ℕ) (after : List ℕ) : Type 0 where
  pub reply : r ≡ cond (ltb (length out) (length x.numbers)) (short_status x.status) x.status
  pub told : after ≡ cond (ltb (length out) (length x.numbers)) out (over x.numbers out)

-- the numbers if the refusal given is 0; otherwise that refusal
abbrev pub unless_refused : ℕ → List ℕ → Reply (List ℕ)
unless_refused k vs = cond (eqb k 0) (ok vs) (refused k)

-- whether a reply has numbers, and each of them
abbrev pub has_numbers : Reply (List ℕ) → Bool
has_numbers (ok vs) = true
has_numbers (refused k) = false

abbrev pub nth : ℕ → Reply (List ℕ) → ℕ
nth i (ok vs) = get_or vs i 0
nth i (refused k) = 0

-- the promise of a function that turns a reply into `Numbers`
pub record NumbersOf (x : Reply (List ℕ)) (r : Numbers) : Type 0 where
  pub refusal : r.0 ≡ status x
  pub row : eqb r.0 0 ≡ has_numbers x
  pub first : r.1 ≡ nth 0 x
  pub second : r.2 ≡ nth 1 x

-- d bytes are copied to the front of a slice of m bytes, and numbers are written to a row of n: 16 if one is too short
abbrev pub copy_reply : List ℕ → ℕ → ℕ → ℕ → Reply (List ℕ)
copy_reply vs d m n = cond (ltb n (length vs)) (refused 16) (cond (ltb m d) (refused 16) (ok vs))

abbrev pub copy_after : Reply (List ℕ) → List ℕ → List ℕ → List ℕ
copy_after (ok vs) d to = over d to
copy_after (refused k) d to = to

-- the promise of a function that copies the bytes d and writes the numbers vs
pub record CopiedWith (vs d to out : List ℕ) (r : ℕ) (to' out' : List ℕ) : Type 0 where
  pub reply : r ≡ status (copy_reply vs (length d) (length to) (length out))
  pub bytes : to' ≡ copy_after (copy_reply vs (length d) (length to) (length out)) d to
  pub row : out' ≡ out_after (copy_reply vs (length d) (length to) (length out)) out

-- the same if the number is how many bytes they are
abbrev pub BytesCopied : List ℕ → List ℕ → List ℕ → ℕ → List ℕ → List ℕ → Type 0
BytesCopied d = CopiedWith (length d ∷ []) d

-- the promise of a function that copies the bytes of a reply; a refusal changes nothing (rule 1.25)
abbrev pub ReplyCopied : Reply (List ℕ) → List ℕ → List ℕ → ℕ → List ℕ → List ℕ → Type 0
ReplyCopied (ok d) to out r to' out' = BytesCopied d to out r to' out'
ReplyCopied (refused k) to out r to' out' = RefusalStatusIs k (length out) 1 r × (to' ≡ to) × (out' ≡ out)

-- a truth value as a number; a number that may be missing, 256 if it is
abbrev pub flag_of : Bool → ℕ
flag_of b = cond b 1 0

abbrev pub or_none : Option ℕ → ℕ
or_none none = 256
or_none (some n) = n

-- the promise of `flag`
abbrev pub FlagIs : Bool → ℕ → Type 0
FlagIs b r = r ≡ flag_of b
