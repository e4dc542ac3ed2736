-- What the exported writer leaves in the slices that a host lends (rules 7.3, 1.16 and 1.19).
use Rattle.std.specs.Prelude.{ℕ, ◌≡◌, cond, List, [], ◌∷◌, ltb, length}
use Rattle.basis.specs.Reply.{Reply, ok, refused, then, status}
use Rattle.abi.specs.Answers.{out_after}
use Rattle.tlv_write.specs.Written.{unless_over, buffer_after, put_of}

-- an object is written from a place of a buffer of m bytes, and the number of its bytes to a slice of n numbers: 19 is
-- tested before 16, also if that slice is too short
abbrev pub writing : List ℕ → List ℕ → ℕ → ℕ → ℕ → Reply ℕ
writing t v at m n = unless_over (length v) (cond (ltb n 1) (refused 16) (put_of at m t v))

-- the promise of `gorvisclen_put_data_object`
pub record ObjectWritten (t v : List ℕ) (at : ℕ) (buffer out : List ℕ) (x : ℕ) (buffer' out' : List ℕ) : Type 0 where
  pub reply : x ≡ status (writing t v at (length buffer) (length out))
  pub bytes : buffer' ≡ buffer_after (writing t v at (length buffer) (length out)) at t v buffer
  pub row : out' ≡ out_after (then (writing t v at (length buffer) (length out)) (λ n. ok (n ∷ []))) out
