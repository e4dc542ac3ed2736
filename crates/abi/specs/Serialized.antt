-- What writing a command leaves in the slices that a host lends. Rules 3.2 and 3.9; refusals 3, 13 and 16.
use Rattle.std.specs.Prelude.{ℕ, ◌≡◌, List, [], ◌∷◌, length}
use Rattle.basis.specs.Reply.{Reply, ok, refused, then, status}
use Rattle.abi.specs.Answers.{if_long_enough, out_after}
use Rattle.builder.specs.Bytes.{buffer_after, serialize_of as command}
use Rattle.builder.specs.declared.CommandBuilder.{CommandBuilder}

-- the command of a builder with the data d, written from a place of a buffer of m bytes, and its length in a slice of n
abbrev pub writing : Reply CommandBuilder → List ℕ → ℕ → ℕ → ℕ → Reply ℕ
writing x d at m n = if_long_enough 1 n (then x (λ b. command b d m at))

-- the buffer after it: a refusal changes nothing
abbrev pub buffer_by : Reply CommandBuilder → Reply ℕ → List ℕ → List ℕ → ℕ → List ℕ
buffer_by (ok b) y d buffer at = buffer_after y b d buffer at
buffer_by (refused k) y d buffer at = buffer

-- the promise of a function that writes the command of the builder x with the data d
pub record Serialized (x : Reply CommandBuilder) (d : List ℕ) (at : ℕ) (buffer out : List ℕ) (r : ℕ) (buffer' out' : List ℕ)
    : Type 0 where
  pub reply : r ≡ status (writing x d at (length buffer) (length out))
  pub bytes : buffer' ≡ buffer_by x (writing x d at (length buffer) (length out)) d buffer at
  pub row : out' ≡ out_after (then (writing x d at (length buffer) (length out)) (λ n. ok (n ∷ []))) out
