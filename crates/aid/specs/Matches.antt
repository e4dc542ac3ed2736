-- Matching a name (rules 9.5 and 9.6).
use Rattle.std.specs.Prelude.{ℕ, ◌≡◌, Bool, false, cond, List, ltb, length, take}
use Rattle.byte_slices.specs.Slices.{same}
use Rattle.aid.specs.Parts.{whole}
use Rattle.aid.specs.declared.Aid.{Aid}

-- whether the first list is a prefix of the second
abbrev pub prefix : List ℕ → List ℕ → Bool
prefix s l = same s (take (length s) l)

-- whether a name matches an AID: a prefix of its bytes, at least as long as the truncated length (rule 9.5). With
-- truncated length 0 the empty name matches (rule 9.6)
unfoldable pub matches_of : Aid → List ℕ → Bool
matches_of a name = cond (ltb (length name) a.truncated) false (prefix name (whole a))

-- the promise of `matches`
abbrev pub MatchesIs : Aid → List ℕ → Bool → Type 0
MatchesIs a name r = r ≡ matches_of a name
