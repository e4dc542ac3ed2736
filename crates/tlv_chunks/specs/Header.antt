-- A header, tag and length, by one byte more: crate reading (rules 18.2, 6.1 to 6.3 and 6.6).
use Rattle.std.specs.Prelude.{ℕ, ◌+◌, ◌*◌, ◌%◌, Result, Ok, Err, cond, leb, eqb}
use Rattle.tlv.specs.Tag.{crate_tag_size, crate_third_byte}
use Rattle.tlv.specs.declared.stop.Stop.{Stop}
use Rattle.tlv.specs.declared.stop.Stop.TheVariants.{Unreadable}
use Rattle.tlv_chunks.specs.declared.header.Header.{Header}
use Rattle.tlv_chunks.specs.declared.header.Header.TheVariants.{Tag1, Tag2, Tag, Length81, Length82, Length82High}
use Rattle.tlv_chunks.specs.declared.header.HeaderByte.{HeaderByte}
use Rattle.tlv_chunks.specs.declared.header.HeaderByte.TheVariants.{More, Complete}

-- the first byte of a tag: if its low five bits are all set a second follows, else it is the tag (rule 6.1)
unfoldable pub first_of : ℕ → Header
first_of a = cond (eqb (a % 32) 31) (Tag1 a) (Tag a)

-- the second byte of a tag: it is refused, or ends the tag, or a third follows (rule 6.2)
unfoldable pub second_of : ℕ → ℕ → Result HeaderByte Stop
second_of a b =
    cond (eqb (crate_tag_size b) 0) (Err Unreadable)
    (cond (eqb (crate_tag_size b) 2) (Ok (More (Tag (a * 256 + b)))) (Ok (More (Tag2 a b))))

-- the third byte of a tag (rule 6.3)
unfoldable pub third_of : ℕ → ℕ → ℕ → Result HeaderByte Stop
third_of a b c = cond (crate_third_byte c) (Ok (More (Tag ((a * 256 + b) * 256 + c)))) (Err Unreadable)

-- the first byte of a length: it is the length up to 7F, one byte follows 81, two follow 82; others are refused (rule
-- 6.6)
unfoldable pub length_of : ℕ → ℕ → Result HeaderByte Stop
length_of t a =
    cond (leb a 0x7F) (Ok (Complete t a))
    (cond (eqb a 0x81) (Ok (More (Length81 t))) (cond (eqb a 0x82) (Ok (More (Length82 t))) (Err Unreadable)))

-- any byte of a header after its first
unfoldable pub byte_of : Header → ℕ → Result HeaderByte Stop
byte_of (Tag1 a) b = second_of a b
byte_of (Tag2 a b) c = third_of a b c
byte_of (Tag t) b = length_of t b
byte_of (Length81 t) b = Ok (Complete t b)
byte_of (Length82 t) b = Ok (More (Length82High t b))
byte_of (Length82High t a) b = Ok (Complete t (a * 256 + b))
