-- The numbers that are written for the host, of a builder given by numbers, and its command. Rules 3.2, 3.9, 3.10, 11.11
-- and 12.6.
use Rattle.std.specs.Prelude.{ℕ, cond, List, [], ◌∷◌, ltb, length}
use Rattle.basis.specs.Reply.{Reply, ok, refused, then}
use Rattle.class.specs.declared.Reading.TheVariants.{Crate}
use Rattle.command.specs.Command.{parse, data_in}
use Rattle.abi.specs.Answers.{flag_of}
use Rattle.abi.specs.Builders.{builder_by_numbers}
use Rattle.abi.specs.Serialized.{Serialized}
use Rattle.builder.specs.Builder.{forced_of}
use Rattle.builder.specs.Bytes.{required_len}
use Rattle.builder_compare.specs.Compare.{equal_to}

-- the length of its command
unfoldable pub required_len_reply : ℕ → ℕ → ℕ → ℕ → ℕ → ℕ → List ℕ → Reply (List ℕ)
required_len_reply c i p q e m d = then (builder_by_numbers c i p q e m d) (λ b. ok (required_len b (length d) ∷ []))

-- the same with extended lengths forced
unfoldable pub force_extended_reply : ℕ → ℕ → ℕ → ℕ → ℕ → ℕ → List ℕ → Reply (List ℕ)
force_extended_reply c i p q e m d =
    then (builder_by_numbers c i p q e m d) (λ b. then (forced_of b b.mode) (λ f. ok (required_len f (length d) ∷ [])))

-- the number j of a refusal, or the refusal of x if it is smaller (rule 1.22)
abbrev pub smaller : {A : Type 0} → Reply A → ℕ → ℕ
smaller (ok a) j = j
smaller (refused k) j = cond (ltb k j) k j

-- go on with the values of both replies; of two refusals the smaller is given (rule 1.22)
abbrev pub with_both : {A B C : Type 0} → Reply A → Reply B → (A → B → Reply C) → Reply C
with_both x (ok b) f = then x (λ a. f a b)
with_both x (refused j) f = refused (smaller x j)

-- whether it equals the command s, in the crate reading: 1 or 0 (rule 3.10)
unfoldable pub builder_eq_reply : ℕ → ℕ → ℕ → ℕ → ℕ → ℕ → List ℕ → List ℕ → Reply (List ℕ)
builder_eq_reply c i p q e m d s =
    with_both (builder_by_numbers c i p q e m d) (parse Crate s) (λ b v. ok (flag_of (equal_to b d v (data_in s (parse Crate s))) ∷ []))

-- the promise of `gorvisclen_serialize_into`: its command with the data d (rule 3.9)
abbrev pub CommandWritten : ℕ → ℕ → ℕ → ℕ → ℕ → ℕ → List ℕ → ℕ → List ℕ → List ℕ → ℕ → List ℕ → List ℕ → Type 0
CommandWritten c i p q e m d at buffer out r buffer' out' =
    Serialized (builder_by_numbers c i p q e m d) d at buffer out r buffer' out'
