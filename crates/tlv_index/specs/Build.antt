-- An index written into a buffer from a place (rule 17.4; refusals 24 and 16, in this order).
use Rattle.std.specs.Prelude.{ℕ, ◌+◌, ◌≡◌, Result, cond, List, ltb, length}
use Rattle.basis.specs.Reply.{Reply, ok, refused, then}
use Rattle.basis.specs.Over.{over_at}
use Rattle.basis.specs.Refusal.{as_reply}
use Rattle.basis.specs.declared.refusal.Refusal.{Refusal}
use Rattle.tlv_index.specs.Index.{Kind, crate_kind, Index, built}
use Rattle.tlv_index.specs.File.{file_of}

-- the bytes of the file of a record's index: 24 comes before 16
abbrev pub built_file : Kind → List ℕ → Reply (List ℕ)
built_file k s = then (built k s) (λ x. ok (file_of k.width x))

-- bytes that are written from a place of a buffer of m bytes: 16 if they do not fit
abbrev pub fitting : ℕ → ℕ → List ℕ → Reply (List ℕ)
fitting at m f = cond (ltb m (at + length f)) (refused 16) (ok f)

unfoldable pub written : Kind → ℕ → ℕ → List ℕ → Reply (List ℕ)
written k at m s = then (built_file k s) (fitting at m)

-- how many bytes are written, and the buffer after it: bytes before and after them stay, and a refusal changes nothing
abbrev pub size_reply : Reply (List ℕ) → Reply ℕ
size_reply x = then x (λ f. ok (length f))

abbrev pub buffer_after : ℕ → List ℕ → Reply (List ℕ) → List ℕ
buffer_after at b (ok f) = over_at at f b
buffer_after at b (refused k) = b

-- the promise of a function that writes the index x into the buffer b from a place, of the crate's kind
pub record IndexWritten (x : Index) (b : List ℕ) (at : ℕ) (y : Result ℕ Refusal) (after : List ℕ) : Type 0 where
  pub reply : as_reply y ≡ size_reply (fitting at (length b) (file_of 2 x))
  pub buffer : after ≡ buffer_after at b (fitting at (length b) (file_of 2 x))

-- the promise of `build_index`
pub record BuildIndexIs (s b : List ℕ) (at : ℕ) (x : Result ℕ Refusal) (after : List ℕ) : Type 0 where
  pub reply : as_reply x ≡ size_reply (written crate_kind at (length b) s)
  pub buffer : after ≡ buffer_after at b (written crate_kind at (length b) s)
