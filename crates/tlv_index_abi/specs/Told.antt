-- What the exported functions of an index leave in the slices that a host lends (rules 17.4, 17.6 and 17.10).
use Rattle.std.specs.Prelude.{ℕ, ◌≡◌, cond, List, [], ◌∷◌, ltb, length}
use Rattle.basis.specs.Reply.{Told, Reply, ok, refused, then, status}
use Rattle.abi.specs.Answers.{out_after, RowTold, RefusalStatusIs}
use Rattle.abi.specs.Lookups.{lookup_row}
use Rattle.tlv.specs.Lookup.{Found, Halt}
use Rattle.tlv_index.specs.Index.{crate_kind}
use Rattle.tlv_index.specs.File.{checked}
use Rattle.tlv_index.specs.Build.{written, buffer_after}
use Rattle.tlv_index.specs.Lookup.{indexed}

-- the index of a record is written from a place of a buffer of m bytes, and the number of its bytes to a slice of n
-- numbers: 16 if that slice is too short
abbrev pub building : List ℕ → ℕ → ℕ → ℕ → Reply (List ℕ)
building s at m n = cond (ltb n 1) (refused 16) (written crate_kind at m s)

-- the promise of `gorvisclen_build_index`
pub record IndexBuilt (s : List ℕ) (at : ℕ) (buffer out : List ℕ) (x : ℕ) (buffer' out' : List ℕ) : Type 0 where
  pub reply : x ≡ status (building s at (length buffer) (length out))
  pub bytes : buffer' ≡ buffer_after at buffer (building s at (length buffer) (length out))
  pub row : out' ≡ out_after (then (building s at (length buffer) (length out)) (λ f. ok (length f ∷ []))) out

-- the number that `gorvisclen_check_index` writes
unfoldable pub check_index_reply : List ℕ → Reply (List ℕ)
check_index_reply f = then (checked crate_kind f) (λ n. ok (n ∷ []))

-- the row of a lookup, with 11 and 12 too; any other refusal writes nothing
abbrev pub ToldOrRefused : Reply (Told Halt Found) → List ℕ → ℕ → List ℕ → Type 0
ToldOrRefused (ok x) out r out' = RowTold (lookup_row x) out r out'
ToldOrRefused (refused k) out r out' = RefusalStatusIs k (length out) 3 r × (out' ≡ out)

-- the promise of `gorvisclen_get_indexed`
abbrev pub IndexedTold : List ℕ → List ℕ → List ℕ → List ℕ → ℕ → List ℕ → Type 0
IndexedTold f s path = ToldOrRefused (indexed crate_kind f s path)
