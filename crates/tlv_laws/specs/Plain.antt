-- The lookup as document 01 has it: a value, or the number of a refusal and nothing else (rules 6.10 to 6.14 and 15.6).
use Rattle.std.specs.Prelude.{ℕ, cond, List, [], ◌∷◌, eqb}
use Rattle.basis.specs.Reply.{Told, Reply, ok, refused, then}
use Rattle.tlv.specs.Object.{Item, Stop}
use Rattle.tlv.specs.Walk.{walk}
use Rattle.tlv.specs.Lookup.{Span, part, whole_record, value_of, Found, Halt, span_of}
use Rattle.tlv.specs.declared.Reading.{Reading}

-- a reply without the numbers of request 2: at one level, and of a lookup
abbrev pub number_only : {A : Type 0} → Told Stop A → Reply A
number_only (ok a) = ok a
number_only (refused e) = refused e.number

abbrev pub plain : Told Halt Found → Reply Span
plain (ok p) = ok (span_of p)
plain (refused h) = refused h.number

-- the value of the first object with the tag among those of a walk; if there is none, the number of the stop
unfoldable pub plain_first : ℕ → List Item → Stop → Reply Span
plain_first t [] e = refused e.number
plain_first t (i ∷ rest) e = cond (eqb i.tag t) (ok (value_of i)) (plain_first t rest e)

-- the same in bytes s that start at place a of the record
abbrev pub plain_seek : Reading → ℕ → ℕ → List ℕ → Reply Span
plain_seek r t a s = plain_first t (walk r a s).items (walk r a s).stop

-- a path followed from a part of the record, tag by tag, and from the whole record
unfoldable pub plain_follow : Reading → List ℕ → Span → List ℕ → Reply Span
plain_follow r s p [] = ok p
plain_follow r s p (t ∷ path) = then (plain_seek r t p.at (part s p)) (λ q. plain_follow r s q path)

abbrev pub plain_lookup : Reading → List ℕ → List ℕ → Reply Span
plain_lookup r s path = plain_follow r s (whole_record s) path
