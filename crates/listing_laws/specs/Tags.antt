-- The tag in the line of an object (rule 10.5): the bytes 5F 24 of a record are printed as 5F24.
use Rattle.std.specs.Prelude.{ℕ, ◌≡◌, List, [], ◌∷◌, ◌++◌, take, drop}
use Rattle.basis.specs.Reply.{ok}
use Rattle.tlv.specs.Tag.{Tag, tag_of}
use Rattle.tlv.specs.Object.{Item}
use Rattle.tlv.specs.declared.Reading.TheVariants.{Crate}
use Rattle.listing.specs.Text.{hex, line, object_line}

-- bytes in hexadecimal digits, two each
unfoldable pub hexes : List ℕ → List ℕ
hexes [] = []
hexes (b ∷ bs) = hex b ++ hexes bs

-- an object of the record s has the tag that is read at its place. Its line, as object j of record k, shows the bytes
-- of that tag: all of them, as they are in s, and nothing else
pub record Shown (k j : ℕ) (s : List ℕ) (i : Item) : Type 0 where
  pub tag : Tag
  pub read : tag_of Crate (drop i.place s) ≡ ok tag
  pub text : object_line k j i.tag i.len
      ≡ line "%.% " (k ∷ j ∷ []) ++ (hexes (take tag.size (drop i.place s)) ++ line " %\n" (i.len ∷ []))
