-- A command that is read: its numbers and its data. Rules 2.1, 2.2, 2.7 and 2.8; refusals 1 and 3 (rules 1.1 and 1.3).
use Rattle.std.specs.Prelude.{ℕ, ◌+◌, ◌≡◌, Result, cond, List, [], ltb, eqb, length, get_or, take, drop}
use Rattle.basis.specs.Reply.{Reply, ok, refused, then}
use Rattle.basis.specs.Refusal.{as_reply}
use Rattle.basis.specs.declared.refusal.Refusal.{Refusal}
use Rattle.class.specs.Class.{from_byte}
use Rattle.class.specs.declared.Class.{Class}
use Rattle.class.specs.declared.Reading.{Reading}
use Rattle.command.specs.Body.{body_of}
use Rattle.command.specs.declared.CommandView.{CommandView}
use Rattle.command.specs.declared.body.ParsedLengths.{ParsedLengths}

-- the numbers of a command: its class, the three header bytes after it, which are any bytes (rule 2.2), and the lengths
-- of its body, which starts after byte four
abbrev pub view_of : Class → List ℕ → ParsedLengths → CommandView
view_of c s b =
    record {
      class = c;
      instruction = get_or s 1 0;
      p1 = get_or s 2 0;
      p2 = get_or s 3 0;
      at = 4 + b.offset;
      len = b.lc;
      le = b.le;
      extended = b.extended;
    }

-- a command of this class: as its body is read (rule 2.1)
abbrev pub parse_body : Reading → List ℕ → Class → Reply CommandView
parse_body r s c = then (body_of r (drop 4 s)) (λ b. ok (view_of c s b))

-- any command: 1 for under four bytes, 3 for the class byte 0xFF, else as its body is read (rules 1.1 and 1.3)
unfoldable pub parse : Reading → List ℕ → Reply CommandView
parse r s = cond (ltb (length s) 4) (refused 1) (then (from_byte (get_or s 0 0)) (parse_body r s))

-- the data of a command: that very part of its bytes, and no bytes if it is refused (rule 2.8)
abbrev pub data_in : List ℕ → Reply CommandView → List ℕ
data_in s (ok v) = take v.len (drop v.at s)
data_in s (refused k) = []

-- how many bytes of a command are its Lc: the data start after it
unfoldable pub lc_bytes : CommandView → ℕ
lc_bytes v = cond (eqb v.at 4) 0 (cond v.extended 3 1)

-- how many bytes of a command are its Le: an extended Le has three bytes without Lc, and two after Lc
unfoldable pub le_bytes : CommandView → ℕ
le_bytes v = cond (eqb v.le 0) 0 (cond v.extended (cond (eqb v.at 4) 3 2) 1)

-- n bytes are exactly those of the header, Lc, data and Le (rule 11.9)
pub record Measured (n : ℕ) (v : CommandView) : Type 0 where
  pub start : v.at ≡ 4 + lc_bytes v
  pub whole : n ≡ 4 + lc_bytes v + v.len + le_bytes v

-- a command whose class byte is not 0xFF, with an extended Lc of zero and an Le after it: there the readings differ
-- (rule 2.7)
pub record ZeroLc (s : List ℕ) : Type 0 where
  pub nine : length s ≡ 9
  pub class : get_or s 0 0 ≡ 0xFF → ⊥
  pub extended : get_or s 4 0 ≡ 0
  pub high : get_or s 5 0 ≡ 0
  pub low : get_or s 6 0 ≡ 0

-- the promises of `try_from` and `data`
abbrev pub TryFromIs : Reading → List ℕ → Result CommandView Refusal → Type 0
TryFromIs r s x = as_reply x ≡ parse r s

abbrev pub DataIs : Reading → List ℕ → List ℕ → Type 0
DataIs r s x = x ≡ data_in s (parse r s)
