-- The lookup through an index (rules 17.7 to 17.10, refusal 25).
use Rattle.std.specs.Prelude.{ℕ, ◌+◌, ◌≡◌, Result, Ok, Err, cond, List, [], ◌∷◌, leb, eqb, length}
use Rattle.basis.specs.Reply.{Told, Reply, ok, refused, then}
use Rattle.basis.specs.Refusal.{refusal_number}
use Rattle.basis.specs.declared.refusal.Refusal.{Refusal}
use Rattle.tlv.specs.Object.{Stop}
use Rattle.tlv.specs.Lookup.{Span, whole_record, Found, Halt, found_by, follow, as_reply}
use Rattle.tlv.specs.declared.Reading.{Reading}
use Rattle.tlv.specs.declared.lookup.Found as code_found
use Rattle.tlv.specs.declared.lookup.Halt as code_halt
use Rattle.tlv_index.specs.Index.{Kind, crate_kind, Entry, Index}
use Rattle.tlv_index.specs.File.{decoded}

-- where the value of an entry stands
abbrev pub value_of : Entry → Span
value_of e = record { at = e.at; len = e.len }

-- the entry used: the first with the tag; if there is none, the end (rule 17.7)
unfoldable pub first_entry : ℕ → List Entry → Stop → Told Stop Span
first_entry t [] e = refused e
first_entry t (x ∷ rest) e = cond (eqb x.tag t) (ok (value_of x)) (first_entry t rest e)

-- from the entry used on: a value in the record is entered, and the rest of the path is followed from there; the end
-- is what the lookup is refused with. 25 if the value, or the place of the end, lies outside of the record (rule 17.9)
abbrev pub used_in : Reading → List ℕ → List ℕ → Told Stop Span → Reply (Told Halt Found)
used_in r s path (ok p) = cond (leb (p.at + p.len) (length s)) (ok (follow r s 1 p path)) (refused 25)
used_in r s path (refused e) =
    cond (leb e.place (length s)) (ok (refused (record { number = e.number; place = e.place; matched = 0 }))) (refused 25)

-- the lookup through an index; an empty path leads to the whole record and uses no entry (rule 17.8)
unfoldable pub through : Reading → Index → List ℕ → List ℕ → Reply (Told Halt Found)
through r x s [] = ok (ok (found_by 0 (whole_record s)))
through r x s (t ∷ path) = used_in r s path (first_entry t x.entries x.stop)

-- the same through a file: its form is checked first (rule 17.10). If the record's own index is in it, this is the
-- lookup in the record (rule 17.11; see the crate tlv_index_laws)
unfoldable pub indexed : Kind → List ℕ → List ℕ → List ℕ → Reply (Told Halt Found)
indexed k f s path = then (decoded k.width f) (λ x. through k.reading x s path)

-- an answer of the code as a reply
abbrev pub indexed_reply : Result (Result code_found.Found code_halt.Halt) Refusal → Reply (Told Halt Found)
indexed_reply (Ok x) = ok (as_reply x)
indexed_reply (Err k) = refused (refusal_number k)

-- the promise of `get_indexed`
abbrev pub GetIndexedIs : List ℕ → List ℕ → List ℕ → Result (Result code_found.Found code_halt.Halt) Refusal → Type 0
GetIndexedIs f s path x = indexed_reply x ≡ indexed crate_kind f s path
