-- The values that a lookup passes over, what stands after the part that it enters last, and a record with other bytes
-- there (rules 6.11, 6.14 and 11.12): a record is walked object by object, never searched for the bytes of a tag.
use Rattle.std.specs.Prelude.{ℕ, suc, ◌+◌, Bool, true, false, cond, List, [], ◌∷◌, ◌++◌, ltb, leb, eqb, length}
use Rattle.tlv.specs.Object.{Item}
use Rattle.tlv.specs.Walk.{walk}
use Rattle.tlv.specs.Lookup.{Span, part, between, whole_record, value_of, seek, lookup}
use Rattle.tlv.specs.declared.Reading.{Reading}
use Rattle.tlv_laws.specs.Value.{of_value}

-- the values of the objects of a walk that stand before the first object with the tag
unfoldable pub passed_of : ℕ → List Item → List Span
passed_of t [] = []
passed_of t (i ∷ rest) = cond (eqb i.tag t) [] (value_of i ∷ passed_of t rest)

-- the values passed over on the way to the first object with the tag, in bytes s that start at place a of the record
unfoldable pub passed_at : Reading → ℕ → ℕ → List ℕ → List Span
passed_at r t a s = passed_of t (walk r a s).items

-- the values passed over from a part of the record on, at every level of the path
unfoldable pub passed_from : Reading → List ℕ → Span → List ℕ → List Span
passed_from r s p [] = []
passed_from r s p (t ∷ path) =
    passed_at r t p.at (part s p) ++ of_value (seek r t p.at (part s p)) [] (λ q. passed_from r s q path)

-- the values that a lookup passes over (rule 6.11)
abbrev pub passed : Reading → List ℕ → List ℕ → List Span
passed r s path = passed_from r s (whole_record s) path

-- the part that a path enters last, from a part p on: the value found, or the part in which a tag is refused
unfoldable pub last_from : Reading → List ℕ → Span → List ℕ → Span
last_from r s p [] = p
last_from r s p (t ∷ path) = of_value (seek r t p.at (part s p)) p (λ q. last_from r s q path)

-- the part that a lookup enters last; the whole record if it enters no object
abbrev pub last_entered : Reading → List ℕ → List ℕ → Span
last_entered r s path = last_from r s (whole_record s) path

-- the place after a part
abbrev pub end_of : Span → ℕ
end_of p = p.at + p.len

-- whether a place lies in a part, and in one of several
unfoldable pub covers : Span → ℕ → Bool
covers q i = cond (leb q.at i) (ltb i (q.at + q.len)) false

unfoldable pub covered_by : List Span → ℕ → Bool
covered_by [] i = false
covered_by (q ∷ qs) i = cond (covers q i) true (covered_by qs i)

-- bytes s that start at place a, with other bytes in those parts: at place i the byte f i
unfoldable pub fill_in : (ℕ → ℕ) → List Span → ℕ → List ℕ → List ℕ
fill_in f qs a [] = []
fill_in f qs a (b ∷ s) = cond (covered_by qs a) (f a) b ∷ fill_in f qs (suc a) s

-- what stands after the part entered last (rule 6.14); that and the values passed over are what a lookup leaves aside
abbrev pub after_last : Reading → List ℕ → List ℕ → Span
after_last r s path = between (end_of (last_entered r s path)) (length s)

abbrev pub aside : Reading → List ℕ → List ℕ → List Span
aside r s path = after_last r s path ∷ passed r s path

-- the record with other bytes in all that the lookup leaves aside
abbrev pub refill : (ℕ → ℕ) → Reading → List ℕ → List ℕ → List ℕ
refill f r s path = fill_in f (aside r s path) 0 s

-- the place up to which a lookup looks: the start of the value found; if refused, the end of the part entered last
abbrev pub seen_to : Reading → List ℕ → List ℕ → ℕ
seen_to r s path = of_value (lookup r s path) (end_of (last_entered r s path)) (λ p. p.at)

-- whether a lookup looks at place i: i is outside of the values passed over, and before the place up to which it looks
abbrev pub seen : Reading → List ℕ → List ℕ → ℕ → Bool
seen r s path i = cond (covered_by (passed r s path) i) false (ltb i (seen_to r s path))
