-- Objects written (rules 7.1 to 7.5, 1.16 and 1.19). ISO/IEC 7816-4 5.2.2.
use Rattle.std.specs.Prelude.{ℕ, zero, suc, ◌+◌, ◌≡◌, Result, cond, List, [], ◌∷◌, ◌++◌, ltb, leb, length}
use Rattle.basis.specs.Reply.{Reply, ok, refused}
use Rattle.basis.specs.Over.{over_at}
use Rattle.basis.specs.Number.{be}
use Rattle.basis.specs.Refusal.{as_reply}
use Rattle.basis.specs.declared.refusal.Refusal.{Refusal}

-- the bytes of a tag: zero bytes in front are dropped, the last byte stays (rule 7.1); whatever the bytes are (rule
-- 7.5)
unfoldable pub tag_bytes : List ℕ → List ℕ
tag_bytes [] = []
tag_bytes (b ∷ []) = b ∷ []
tag_bytes (zero ∷ c ∷ s) = tag_bytes (c ∷ s)
tag_bytes (suc b ∷ c ∷ s) = suc b ∷ c ∷ s

-- a length up to 65,535 in the shortest form (rule 7.2)
unfoldable pub len_bytes : ℕ → List ℕ
len_bytes n = cond (leb n 0x7F) (n ∷ []) (cond (leb n 0xFF) (0x81 ∷ n ∷ []) (0x82 ∷ be 2 n))

-- an object: its tag, its length and its value. What is written is read back (rule 7.4; see the crate tlv_laws)
unfoldable pub object_bytes : List ℕ → List ℕ → List ℕ
object_bytes t v = (tag_bytes t ++ len_bytes (length v)) ++ v

-- x for a value of n bytes, but 19 if n is above 65,535 (rule 1.19)
abbrev pub unless_over : {A : Type 0} → ℕ → Reply A → Reply A
unless_over n x = cond (ltb 65535 n) (refused 19) x

-- how many bytes are written from a place of a buffer of m bytes: 19 is tested before 16 (rule 7.3)
unfoldable pub put_of : ℕ → ℕ → List ℕ → List ℕ → Reply ℕ
put_of at m t v =
    unless_over (length v) (cond (ltb m (at + length (object_bytes t v))) (refused 16) (ok (length (object_bytes t v))))

-- the buffer after that: bytes before the object and after it stay, and a refusal changes nothing (rule 7.3)
abbrev pub buffer_after : Reply ℕ → ℕ → List ℕ → List ℕ → List ℕ → List ℕ
buffer_after (ok n) at t v buffer = over_at at (object_bytes t v) buffer
buffer_after (refused k) at t v buffer = buffer

-- the promise of `put_data_object`
pub record PutDataObjectIs (t v b : List ℕ) (at : ℕ) (x : Result ℕ Refusal) (after : List ℕ) : Type 0 where
  pub reply : as_reply x ≡ put_of at (length b) t v
  pub buffer : after ≡ buffer_after (put_of at (length b) t v) at t v b
