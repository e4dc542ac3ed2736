-- Zero bytes that are put into a record, and what a lookup shows (rules 16.1, 16.3 and 16.8).
use Rattle.std.specs.Prelude.{ℕ, zero, suc, ◌+◌, List, [], ◌∷◌}
use Rattle.basis.specs.Reply.{Told, ok, refused}
use Rattle.tlv.specs.Lookup.{part, Found, Halt, span_of}

-- k zero bytes
unfoldable pub zero_bytes : ℕ → List ℕ
zero_bytes zero = []
zero_bytes (suc k) = 0 ∷ zero_bytes k

-- the reply of a lookup with its place k bytes further on
abbrev pub moved_lookup : ℕ → Told Halt Found → Told Halt Found
moved_lookup k (ok p) = ok (record { at = k + p.at; len = p.len; matched = p.matched })
moved_lookup k (refused h) = refused (record { number = h.number; place = k + h.place; matched = h.matched })

-- what a lookup in s shows, without its place: the bytes of the value, or the number of the refusal; and how many tags
-- matched
pub record Value : Type 0 where
  pub bytes : List ℕ
  pub matched : ℕ

pub record Refusal : Type 0 where
  pub number : ℕ
  pub matched : ℕ

abbrev pub shown : List ℕ → Told Halt Found → Told Refusal Value
shown s (ok p) = ok (record { bytes = part s (span_of p); matched = p.matched })
shown s (refused h) = refused (record { number = h.number; matched = h.matched })
