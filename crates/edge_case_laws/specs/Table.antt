-- The cases P1 to P12 (rule 11.14): one table, and one statement about the definitions.
use Rattle.std.specs.Prelude.{ℕ, ◌≡◌, List, [], ◌∷◌, map, length, replicate}
use Rattle.std.proofs.Math.Option.{Option, none, some}
use Rattle.basis.specs.Reply.{Reply, ok, refused, then}
use Rattle.class.specs.Channel.{channel_of}
use Rattle.class.specs.declared.Reading.{Reading}
use Rattle.class.specs.declared.Reading.TheVariants.{Crate, Standard}
use Rattle.aid.specs.Making.{try_new}
use Rattle.tlv.specs.Tag.{tag_alone}
use Rattle.tlv.specs.Len.{len_of}
use Rattle.tlv.specs.declared.Reading.{Reading as TlvReading}
use Rattle.tlv.specs.declared.Reading.TheVariants as tlv
use Rattle.command.specs.Body.{body_of}
use Rattle.splitter.specs.Pieces.{Part, parts}
use Rattle.basis.specs.Every.{Every}
use Rattle.splitter_laws.specs.Asked.{short_of}

-- what is asked: the body of a command, a tag, a length, the channel of a class byte, a cut in short form of so many
-- data bytes with this Le for this buffer, an AID
pub data Question : Type 0 where
  body : Reading → List ℕ → Question
  tag : TlvReading → List ℕ → Question
  len : TlvReading → List ℕ → Question
  channel : Reading → ℕ → Question
  cut : ℕ → ℕ → ℕ → Question
  aid : List ℕ → Question

-- a number that may be missing, as a list
abbrev pub number_in : Option ℕ → List ℕ
number_in none = []
number_in (some n) = n ∷ []

-- how many data bytes a part has
abbrev pub data_length : Part → ℕ
data_length p = length p.«data»

-- what the definitions answer: a refusal, or numbers. Of a body: Lc and Le. Of a cut: the data bytes of each part
abbrev pub answer_to : Question → Reply (List ℕ)
answer_to (body r s) = then (body_of r s) (λ b. ok (b.lc ∷ b.le ∷ []))
answer_to (tag r s) = then (tag_alone r s) (λ t. ok (t.number ∷ []))
answer_to (len r s) = then (len_of r s) (λ n. ok (n.number ∷ []))
answer_to (channel r c) = ok (number_in (channel_of r c))
answer_to (cut n e m) = ok (map data_length (parts (short_of 0 0 0 0 e) (replicate n 0) m))
answer_to (aid s) = then (try_new s (length s)) (λ a. ok (a.len ∷ []))

-- a case, by its number
pub record Row : Type 0 where
  pub case : ℕ
  pub question : Question
  pub answer : Reply (List ℕ)

-- a row of the table
abbrev pub row : ℕ → Question → Reply (List ℕ) → Row
row n q a = record { case = n; question = q; answer = a }

-- the table: P1 to P10 in both readings, P11 and P12
abbrev pub table : List Row
table =
    row 1 (body Crate (0x00 ∷ [])) (ok (0 ∷ 256 ∷ []))
    ∷ row 1 (body Standard (0x00 ∷ [])) (ok (0 ∷ 256 ∷ []))
    ∷ row 2 (body Crate (0x00 ∷ 0x05 ∷ [])) (refused 5)
    ∷ row 2 (body Standard (0x00 ∷ 0x05 ∷ [])) (refused 5)
    ∷ row 3 (body Crate (0x02 ∷ 0xAA ∷ [])) (refused 4)
    ∷ row 3 (body Standard (0x02 ∷ 0xAA ∷ [])) (refused 4)
    ∷ row 4 (body Crate (0x01 ∷ 0xAA ∷ 0x00 ∷ [])) (ok (1 ∷ 256 ∷ []))
    ∷ row 4 (body Standard (0x01 ∷ 0xAA ∷ 0x00 ∷ [])) (ok (1 ∷ 256 ∷ []))
    ∷ row 5 (body Crate (0x00 ∷ 0x00 ∷ 0x00 ∷ [])) (ok (0 ∷ 65536 ∷ []))
    ∷ row 5 (body Standard (0x00 ∷ 0x00 ∷ 0x00 ∷ [])) (ok (0 ∷ 65536 ∷ []))
    ∷ row 6 (body Crate (0x00 ∷ 0x00 ∷ 0x00 ∷ 0x01 ∷ 0x02 ∷ [])) (ok (0 ∷ 258 ∷ []))
    ∷ row 6 (body Standard (0x00 ∷ 0x00 ∷ 0x00 ∷ 0x01 ∷ 0x02 ∷ [])) (refused 21)
    ∷ row 7 (tag tlv.Crate (0x5F ∷ 0x1E ∷ [])) (ok (0x5F1E ∷ []))
    ∷ row 7 (tag tlv.Standard (0x5F ∷ 0x1E ∷ [])) (refused 12)
    ∷ row 8 (tag tlv.Crate (0x5F ∷ 0x80 ∷ [])) (refused 12)
    ∷ row 8 (tag tlv.Standard (0x5F ∷ 0x80 ∷ [])) (refused 12)
    ∷ row 9 (len tlv.Crate (0x83 ∷ 0x00 ∷ 0x00 ∷ 0x01 ∷ [])) (refused 12)
    ∷ row 9 (len tlv.Standard (0x83 ∷ 0x00 ∷ 0x00 ∷ 0x01 ∷ [])) (refused 12)
    ∷ row 10 (channel Crate 0x44) (ok (0 ∷ []))
    ∷ row 10 (channel Standard 0x44) (ok (8 ∷ []))
    ∷ row 11 (cut 5 1 10) (ok (4 ∷ 1 ∷ []))
    ∷ row 12 (aid (0xA0 ∷ 0x00 ∷ 0x00 ∷ 0x00 ∷ [])) (refused 10)
    ∷ []

-- the definitions answer what the row says
abbrev pub Answered : Row → Type 0
Answered r = answer_to r.question ≡ r.answer

-- the statement: they answer what every row says
abbrev pub TableHolds : Type 0
TableHolds = Every Answered table
