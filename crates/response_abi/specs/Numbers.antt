-- The numbers of a response and of its status, as a host program gets them, and what its data are copied to. Rules 13.1
-- to 13.6.
use Rattle.std.specs.Prelude.{ℕ, ◌≡◌, List, [], ◌∷◌, length}
use Rattle.basis.specs.Reply.{Reply, ok, then}
use Rattle.abi.specs.Answers.{or_none, if_long_enough, NumbersWritten, BytesCopied}
use Rattle.response.specs.Response.{data_of, split_of, append_of, room_after}
use Rattle.response.specs.Status.{word_of, class_of}
use Rattle.response.specs.Words.{place_of, name_of}
use Rattle.response.specs.declared.Response.{Response}
use Rattle.response.specs.declared.status.Status.{Status}

-- the numbers of a response: how many bytes of data it has, SW1, SW2
unfoldable pub response_numbers : Response → List ℕ
response_numbers r = r.len ∷ r.status.sw1 ∷ r.status.sw2 ∷ []

-- the same of a reply
abbrev pub response_reply : Reply Response → Reply (List ℕ)
response_reply x = then x (λ r. ok (response_numbers r))

-- what `gorvisclen_response_split` writes (rule 13.1)
abbrev pub split_reply : List ℕ → Reply (List ℕ)
split_reply s = response_reply (split_of s)

-- what `gorvisclen_response_data` copies (rule 13.2)
abbrev pub data_reply : List ℕ → Reply (List ℕ)
data_reply s = then (split_of s) (λ r. ok (data_of s))

-- a response s appended to those held in a room of m bytes, and its numbers in a slice of n: 16 if that is too short
abbrev pub appending : List ℕ → ℕ → ℕ → ℕ → Reply Response
appending s held m n = if_long_enough 3 n (append_of s held m)

-- the promise of `gorvisclen_response_append` (rule 13.6)
pub record Appended (s : List ℕ) (held : ℕ) (room out : List ℕ) (r : ℕ) (room' out' : List ℕ) : Type 0 where
  pub says : NumbersWritten 3 (response_reply (append_of s held (length room))) out r out'
  pub bytes : room' ≡ room_after (appending s held (length room) (length out)) held (data_of s) room

-- the status of two bytes
abbrev pub status_by : ℕ → ℕ → Status
status_by a b = record { sw1 = a; sw2 = b }

-- the numbers of a status: its word, its class, its place in the table of the listed words, 256 if it is not listed
unfoldable pub status_numbers : Status → List ℕ
status_numbers t = word_of t ∷ class_of t ∷ or_none (place_of t) ∷ []

-- the promises of `gorvisclen_status` and `gorvisclen_status_name` (rules 13.3 to 13.5)
abbrev pub StatusIs : ℕ → ℕ → List ℕ → ℕ → List ℕ → Type 0
StatusIs a b out r out' = NumbersWritten 3 (ok (status_numbers (status_by a b))) out r out'

abbrev pub NameIs : ℕ → ℕ → List ℕ → List ℕ → ℕ → List ℕ → List ℕ → Type 0
NameIs a b to out r to' out' = BytesCopied (name_of (status_by a b)) to out r to' out'
