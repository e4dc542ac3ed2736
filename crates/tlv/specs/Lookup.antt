-- The lookup of a path (rules 6.10 to 6.15, 1.11 and 1.12), with the place where it ends and the number of tags that
-- matched (rules 15.3 to 15.5).
use Rattle.std.specs.Prelude.{ℕ, ◌+◌, ◌-◌, ◌≡◌, Result, Ok, Err, cond, List, [], ◌∷◌, eqb, length, take, drop}
use Rattle.basis.specs.Reply.{Told, ok, refused, then}
use Rattle.tlv.specs.Stop.{stop_number}
use Rattle.tlv.specs.Object.{Item, Stop, stop_of}
use Rattle.tlv.specs.Walk.{walk}
use Rattle.tlv.specs.declared.Reading.{Reading}
use Rattle.tlv.specs.declared.stop.StopAt.{StopAt}
use Rattle.tlv.specs.declared.lookup.Span as code
use Rattle.tlv.specs.declared.lookup.Found as code_found
use Rattle.tlv.specs.declared.lookup.Halt as code_halt

-- a part of a record: its place and its length
pub record Span : Type 0 where
  pub at : ℕ
  pub len : ℕ

-- the bytes of a part; the part from a place to an end; the part that is the whole record (rule 6.13)
abbrev pub part : List ℕ → Span → List ℕ
part s p = take p.len (drop p.at s)

abbrev pub between : ℕ → ℕ → Span
between a e = record { at = a; len = e - a }

abbrev pub whole_record : List ℕ → Span
whole_record s = record { at = 0; len = length s }

-- where the value of an object stands
abbrev pub value_of : Item → Span
value_of i = record { at = i.at; len = i.len }

-- the value of the first object with the tag among those of a walk (rule 6.10); if there is none, the stop. A number
-- that is no tag matches nothing (rule 6.12), and what stands after the match is not read (rule 6.14)
unfoldable pub first_value : ℕ → List Item → Stop → Told Stop Span
first_value t [] e = refused e
first_value t (i ∷ rest) e = cond (eqb i.tag t) (ok (value_of i)) (first_value t rest e)

-- the same in bytes s that start at place a of the record
unfoldable pub seek : Reading → ℕ → ℕ → List ℕ → Told Stop Span
seek r t a s = first_value t (walk r a s).items (walk r a s).stop

-- what a path leads to: the place of the value in the record, its length, and how many tags matched (rule 15.4)
pub record Found : Type 0 where
  pub at : ℕ
  pub len : ℕ
  pub matched : ℕ

-- what a lookup is refused with: 11 or 12, the place in the record of the end reached or of the object that cannot be
-- read (rule 15.3), and how many tags matched (rule 15.4)
pub record Halt : Type 0 where
  pub number : ℕ
  pub place : ℕ
  pub matched : ℕ

-- after m tags matched: a part that the path leads to, and the reply of a search
abbrev pub found_by : ℕ → Span → Found
found_by m p = record { at = p.at; len = p.len; matched = m }

abbrev pub searched : ℕ → Told Stop Span → Told Halt Span
searched m (ok p) = ok p
searched m (refused e) = refused (record { number = e.number; place = e.place; matched = m })

-- a path followed from a part p of the record, to which m tags led, tag by tag: the first object with the tag is
-- entered, and the lookup never turns back (rule 6.10)
unfoldable pub follow : Reading → List ℕ → ℕ → Span → List ℕ → Told Halt Found
follow r s m p [] = ok (found_by m p)
follow r s m p (t ∷ path) = then (searched m (seek r t p.at (part s p))) (λ q. follow r s (m + 1) q path)

-- what a path leads to, from the whole record; an empty path leads to the whole record (rules 6.13 and 15.5)
abbrev pub lookup : Reading → List ℕ → List ℕ → Told Halt Found
lookup r s path = follow r s 0 (whole_record s) path

-- an answer of the code as a reply, at one level and for the path
abbrev pub sought_reply : Result code.Span StopAt → Told Stop Span
sought_reply (Ok p) = ok (record { at = p.at; len = p.len })
sought_reply (Err e) = refused (stop_of e)

abbrev pub as_reply : Result code_found.Found code_halt.Halt → Told Halt Found
as_reply (Ok p) = ok (record { at = p.at; len = p.len; matched = p.matched })
as_reply (Err h) = refused (record { number = stop_number h.stop; place = h.place; matched = h.matched })

-- the promise of `get_data_object`
abbrev pub GetDataObjectIs : Reading → List ℕ → List ℕ → Result code_found.Found code_halt.Halt → Type 0
GetDataObjectIs r s path x = as_reply x ≡ lookup r s path

-- the part that was found; its bytes, and no bytes if there is none (rule 6.15)
abbrev pub span_of : Found → Span
span_of p = record { at = p.at; len = p.len }

abbrev pub value_in : List ℕ → Told Halt Found → List ℕ
value_in s (ok p) = part s (span_of p)
value_in s (refused h) = []

-- the promise of `value`
abbrev pub ValueIs : Reading → List ℕ → List ℕ → List ℕ → Type 0
ValueIs r s path x = x ≡ value_in s (lookup r s path)
