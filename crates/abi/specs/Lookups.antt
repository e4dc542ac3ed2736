-- The numbers of a lookup, in the order in which a host program gets them (rules 15.3, 15.4 and 15.7).
use Rattle.std.specs.Prelude.{[], ◌∷◌}
use Rattle.basis.specs.Reply.{Told, ok, refused}
use Rattle.tlv.specs.Lookup.{Found, Halt}
use Rattle.abi.specs.Answers.{Row, row}

-- the place, the length of the value (0 if there is none), and how many tags matched
abbrev pub lookup_row : Told Halt Found → Row
lookup_row (ok p) = row 0 (p.at ∷ p.len ∷ p.matched ∷ [])
lookup_row (refused h) = row h.number (h.place ∷ 0 ∷ h.matched ∷ [])
