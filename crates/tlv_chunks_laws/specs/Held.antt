-- What a state says of the bytes so far (rules 18.2 and 18.5).
use Rattle.std.specs.Prelude.{ℕ, ◌+◌, ◌≡◌, List, [], ◌∷◌, ◌++◌, length, drop}
use Rattle.basis.specs.Reply.{ok}
use Rattle.basis.specs.Number.{be}
use Rattle.tlv.specs.Tag.{Tag, tag_of}
use Rattle.tlv.specs.Len.{Len, len_of}
use Rattle.tlv.specs.declared.Reading.TheVariants.{Crate}
use Rattle.tlv.specs.declared.stop.Stop.TheVariants as stop
use Rattle.tlv_write.specs.Written.{tag_bytes}
use Rattle.tlv_chunks.specs.declared.header.Header.{Header as Part}
use Rattle.tlv_chunks.specs.declared.header.Header.TheVariants.{Tag1, Tag2, Length81, Length82, Length82High}
use Rattle.tlv_chunks.specs.declared.header.Header.TheVariants as part
use Rattle.tlv_chunks.specs.declared.walk.ChunkWalk.{ChunkWalk}
use Rattle.tlv_chunks.specs.declared.walk.ChunkWalk.TheVariants.{Boundary, Header, Value, Stopped}

-- the bytes of a tag, from its number
abbrev pub own_bytes : ℕ → List ℕ
own_bytes t = tag_bytes (be 3 t)

-- the bytes that were read of a header
unfoldable pub header_bytes : Part → List ℕ
header_bytes (Tag1 a) = a ∷ []
header_bytes (Tag2 a b) = a ∷ b ∷ []
header_bytes (part.Tag t) = own_bytes t
header_bytes (Length81 t) = own_bytes t ++ (0x81 ∷ [])
header_bytes (Length82 t) = own_bytes t ++ (0x82 ∷ [])
header_bytes (Length82High t a) = own_bytes t ++ (0x82 ∷ a ∷ [])

-- bytes s that start with a header, whose value lacks n bytes
pub record Lacks (s : List ℕ) (n : ℕ) : Type 0 where
  pub tag : Tag
  pub len : Len
  pub is_tag : tag_of Crate s ≡ ok tag
  pub is_len : len_of Crate (drop tag.size s) ≡ ok len
  pub missing : length s + n ≡ tag.size + len.size + len.number

-- what a state says: s are the bytes from where the walk of the record stops, k is the number of that stop. A boundary:
-- there are none, 11. In a header: they are the bytes that were read of it, 12. In a value: they start with a header,
-- and n + 1 bytes of the value are missing, 12. Stopped with 12: 12. Bytes alone never stop a walk with
-- 11: the closing call does
abbrev pub Means : List ℕ → ℕ → ChunkWalk → Type 0
Means s k Boundary = (s ≡ []) × (k ≡ 11)
Means s k (Header h) = (s ≡ header_bytes h) × (k ≡ 12)
Means s k (Value n) = Lacks s (n + 1) × (k ≡ 12)
Means s k (Stopped stop.End) = ⊥
Means s k (Stopped stop.Unreadable) = k ≡ 12
