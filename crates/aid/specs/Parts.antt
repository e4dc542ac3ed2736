-- The parts of an AID, as lengths and copies (rule 9.4). ISO/IEC 7816-4:2005 8.2.1.2: a RID has five bytes, a PIX
-- follows it.
use Rattle.std.specs.Prelude.{ℕ, ◌-◌, ◌≤◌, ◌≡◌, Bool, true, false, Result, Ok, Err, cond, List, eqb, leb, ltb, length, take, drop}
use Rattle.std.specs.Prelude as std
use Rattle.std.proofs.Math.Option.{Option, none, some}
use Rattle.basis.specs.Reply.{Reply, ok, refused}
use Rattle.basis.specs.Refusal.{as_option, refusal_number}
use Rattle.basis.specs.declared.refusal.Refusal.{Refusal}
use Rattle.basis.specs.Over.{over}
use Rattle.aid.specs.Category.{international, national, category}
use Rattle.aid.specs.declared.Aid.{Aid}
use Rattle.aid.specs.declared.part.Part.{Part}
use Rattle.aid.specs.declared.part.Part.TheVariants as part

-- the bytes of an AID: as many of the 16 as its length says
abbrev pub whole : Aid → List ℕ
whole a = take a.len a.bytes

-- the categories that have a registered provider: international and national
abbrev pub registered : ℕ → Bool
registered k = cond (eqb k international) true (eqb k national)

-- only a national or international AID of at least five bytes has a RID and a PIX (rule 9.4)
unfoldable pub has_rid : Aid → Bool
has_rid a = cond (registered (category a)) (leb 5 (length (whole a))) false

-- a part of an AID: all its bytes, the truncated part, the RID of five bytes, the PIX after it (rule 9.4)
unfoldable pub part_of : Part → Aid → Option (List ℕ)
part_of part.Bytes a = some (whole a)
part_of part.Truncated a = some (take a.truncated a.bytes)
part_of part.Rid a = cond (has_rid a) (some (take 5 (whole a))) none
part_of part.Pix a = cond (has_rid a) (some (drop 5 (whole a))) none

-- the length of a part
abbrev pub length_of : Option (List ℕ) → Option ℕ
length_of none = none
length_of (some l) = some (length l)

-- the reply to a copy of a part into a buffer of n bytes (16: it does not fit), and the buffer after that
abbrev pub copy_of : Option (List ℕ) → ℕ → Reply (Option ℕ)
copy_of none n = ok none
copy_of (some l) n = cond (ltb n (length l)) (refused 16) (ok (some (length l)))

abbrev pub copy_to : Option (List ℕ) → List ℕ → List ℕ
copy_to none to = to
copy_to (some l) to = cond (ltb (length to) (length l)) to (over l to)

-- an answer of the code as a reply
abbrev pub copied_as_reply : Result (std.Option ℕ) Refusal → Reply (Option ℕ)
copied_as_reply (Ok n) = ok (as_option n)
copied_as_reply (Err k) = refused (refusal_number k)

-- the promises of `part_len` and `copy_part`
abbrev pub PartLenIs : Part → Aid → std.Option ℕ → Type 0
PartLenIs p a r = as_option r ≡ length_of (part_of p a)

pub record CopyPartIs (p : Part) (a : Aid) (to : List ℕ) (r : Result (std.Option ℕ) Refusal) (after : List ℕ) : Type 0 where
  pub reply : copied_as_reply r ≡ copy_of (part_of p a) (length to)
  pub buffer : after ≡ copy_to (part_of p a) to

-- the contract of the private `span_of`: a span of the 16 bytes lies in them and holds the bytes of the part
abbrev pub span_bytes : List ℕ → std.Option (ℕ × ℕ) → Option (List ℕ)
span_bytes l (std.Some (s, e)) = some (take (e - s) (drop s l))
span_bytes l std.None = none

abbrev pub SpanInside : std.Option (ℕ × ℕ) → Type 0
SpanInside (std.Some (s, e)) = (s ≤ e) × (e ≤ 16)
SpanInside std.None = Unit {0}

pub record SpanFor (p : Part) (a : Aid) (r : std.Option (ℕ × ℕ)) : Type 0 where
  pub shows : span_bytes a.bytes r ≡ part_of p a
  pub inside : SpanInside r
