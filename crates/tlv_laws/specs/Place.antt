-- Where a lookup ends, and how many tags of its path matched (rules 15.3 and 15.4).
use Rattle.std.specs.Prelude.{ℕ, ◌+◌, ◌≤◌, ◌<◌, ◌≡◌, ◌⊎◌, List, length, take, get_or}
use Rattle.basis.specs.Reply.{ok, refused}
use Rattle.basis.specs.Every.{Every}
use Rattle.tlv.specs.Object.{Item, Stop, object_at}
use Rattle.tlv.specs.Lookup.{Found, Halt, lookup}
use Rattle.tlv.specs.declared.Reading.{Reading}
use Rattle.tlv_laws.specs.Walked.{ReadOn, ReadTo}

-- the bytes of a record up to the end of a part that a path leads to
abbrev pub up_to : Found → List ℕ → List ℕ
up_to q s = take (q.at + q.len) s

-- the number and the place of a refusal
abbrev pub stop_of : Halt → Stop
stop_of h = record { number = h.number; place = h.place }

-- what is so of a refusal: the first tags of the path, as many as matched, lead to a part q. Read object by object, q
-- has no object with the next tag, and the reading stops at the place of the refusal with its number; so does the
-- reading of one object there. 11 stands at the end of q, 12 in q before its end
pub record StopsAt (r : Reading) (s path : List ℕ) (h : Halt) : Type 0 where
  pub below : h.matched < length path
  pub q : Found
  pub led : lookup r s (take h.matched path) ≡ ok q
  pub inside : q.at + q.len ≤ length s
  pub items : List Item
  pub walked : ReadOn r (up_to q s) q.at items (stop_of h)
  pub others : Every (λ i. i.tag ≡ get_or path h.matched 0 → ⊥) items
  pub read : object_at r (up_to q s) h.place ≡ refused (stop_of h)
  pub place : ((h.number ≡ 11) × (h.place ≡ q.at + q.len))
      ⊎ ((h.number ≡ 12) × (q.at ≤ h.place) × (h.place < q.at + q.len))

-- what is so of a value found by a path and one tag t after it: the path leads to a part p. Read object by object, p
-- has some objects with other tags and then one with the tag t, whose value is the one found
pub record FoundThere (r : Reading) (s path : List ℕ) (t : ℕ) (q : Found) : Type 0 where
  pub p : Found
  pub led : lookup r s path ≡ ok p
  pub items : List Item
  pub item : Item
  pub walked : ReadTo r (up_to p s) p.at items item
  pub others : Every (λ i. i.tag ≡ t → ⊥) items
  pub tagged : item.tag ≡ t
  pub value : q ≡ record { at = item.at; len = item.len; matched = p.matched + 1 }
