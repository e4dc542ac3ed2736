-- The 21 listed status words and their short names, in one table that is looked up by the word (rule 13.5). The names
-- are those of the Rust's variants (docs/DECISIONS.md).
use Rattle.std.specs.Prelude.{ℕ, suc, ◌-◌, ◌≡◌, Bool, true, false, Result, cond, List, [], ◌∷◌, ◌++◌, eqb, ltb, length, take, get_or, replicate}
use Rattle.std.specs.Prelude as std
use Prim.Native.String.{String}
use Rattle.std.proofs.Math.Option.{Option, none, some}
use Rattle.basis.specs.Ascii.{ascii}
use Rattle.basis.specs.Reply.{Reply, ok, refused}
use Rattle.basis.specs.Refusal.{as_reply, as_option}
use Rattle.basis.specs.declared.refusal.Refusal.{Refusal}
use Rattle.basis.specs.Over.{over}
use Rattle.response.specs.Status.{word_of}
use Rattle.response.specs.declared.status.Status.{Status}
use Rattle.response.specs.declared.words.ListedWord.{ListedWord}

-- an entry: a word, the length of its name, and the name with spaces after it, in 32 letters
abbrev pub listed_word : ℕ → String → ListedWord
listed_word w name =
    record { word = w; len = length (ascii name); letters = ascii name ++ replicate (32 - length (ascii name)) 32 }

-- the listed words: 6700, 6881 to 6884, 6981 to 6986, 6A80 to 6A84, 6A86, 6A88, 6B00, 6D00, 6E00 (rule 13.5)
unfoldable pub table : List ListedWord
table =
    listed_word 0x6700 "WrongLength"
    ∷ listed_word 0x6881 "LogicalChannelNotSupported"
    ∷ listed_word 0x6882 "SecureMessagingNotSupported"
    ∷ listed_word 0x6883 "LastCommandOfChainExpected"
    ∷ listed_word 0x6884 "CommandChainingNotSupported"
    ∷ listed_word 0x6981 "CommandIncompatibleFileStructure"
    ∷ listed_word 0x6982 "SecurityStatusNotSatisfied"
    ∷ listed_word 0x6983 "OperationBlocked"
    ∷ listed_word 0x6984 "ReferenceDataNotUsable"
    ∷ listed_word 0x6985 "ConditionsOfUseNotSatisfied"
    ∷ listed_word 0x6986 "CommandNotAllowedNoEf"
    ∷ listed_word 0x6A80 "IncorrectDataParameter"
    ∷ listed_word 0x6A81 "FunctionNotSupported"
    ∷ listed_word 0x6A82 "NotFound"
    ∷ listed_word 0x6A83 "RecordNotFound"
    ∷ listed_word 0x6A84 "NotEnoughMemory"
    ∷ listed_word 0x6A86 "IncorrectP1OrP2Parameter"
    ∷ listed_word 0x6A88 "KeyReferenceNotFound"
    ∷ listed_word 0x6B00 "WrongParameters"
    ∷ listed_word 0x6D00 "InstructionNotSupportedOrInvalid"
    ∷ listed_word 0x6E00 "ClassNotSupported"
    ∷ []

-- the entry at a place of the table; past its end there is none
unfoldable pub listed_at : ℕ → ListedWord
listed_at k = get_or table k (record { word = 0; len = 0; letters = [] })

-- the name of an entry
unfoldable pub name_in : ListedWord → List ℕ
name_in r = take r.len r.letters

-- a place that is counted from the next entry on
abbrev pub next : Option ℕ → Option ℕ
next none = none
next (some k) = some (suc k)

-- the place of a word in a list of entries, the first one (rule 13.5)
unfoldable pub place_in : List ListedWord → ℕ → Option ℕ
place_in [] w = none
place_in (r ∷ rs) w = cond (eqb r.word w) (some 0) (next (place_in rs w))

-- whether a number stands in a list
unfoldable pub is_in : ℕ → List ℕ → Bool
is_in n [] = false
is_in n (x ∷ xs) = cond (eqb x n) true (is_in n xs)

-- the one test that entries are distinct: none stands among those after it (rule 13.5)
unfoldable pub distinct : List ℕ → Bool
distinct [] = true
distinct (x ∷ xs) = cond (is_in x xs) false (distinct xs)

-- the place of a status in the table (rule 13.5)
unfoldable pub place_of : Status → Option ℕ
place_of t = place_in table (word_of t)

-- the name at a place: none if the word is not listed (rule 13.5)
abbrev pub name_at : Option ℕ → List ℕ
name_at none = []
name_at (some k) = name_in (listed_at k)

-- the name of a status (rule 13.5)
unfoldable pub name_of : Status → List ℕ
name_of t = name_at (place_of t)

-- n bytes copied to a buffer of m: 16 if they do not fit (rule 1.16)
abbrev pub copy_of : ℕ → ℕ → Reply ℕ
copy_of n m = cond (ltb m n) (refused 16) (ok n)

-- the buffer after it: the name at its front; a refusal changes no byte (rule 1.25)
abbrev pub buffer_after : Reply ℕ → List ℕ → List ℕ → List ℕ
buffer_after (ok n) name to = over name to
buffer_after (refused k) name to = to

-- a name copied to the front of a buffer
pub record NameCopied (name to : List ℕ) (x : Result ℕ Refusal) (after : List ℕ) : Type 0 where
  pub reply : as_reply x ≡ copy_of (length name) (length to)
  pub buffer : after ≡ buffer_after (copy_of (length name) (length to)) name to

-- the promises of `listed` and `name`
abbrev pub ListedIs : Status → std.Option ℕ → Type 0
ListedIs t x = as_option x ≡ place_of t

abbrev pub NameIs : Status → List ℕ → Result ℕ Refusal → List ℕ → Type 0
NameIs t to x after = NameCopied (name_of t) to x after
