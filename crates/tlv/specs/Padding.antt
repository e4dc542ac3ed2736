-- Padding: zero bytes without meaning where an object may start (rules 16.1 and 16.2). EMV Book 3 Annex B: 00 bytes may
-- stand before, between or after objects.
use Rattle.std.specs.Prelude.{ℕ, suc, cond, List, [], ◌∷◌, eqb}
use Rattle.tlv.specs.declared.Reading.{Reading}
use Rattle.tlv.specs.declared.Reading.TheVariants.{Crate, Standard}

-- how many zero bytes stand in front
unfoldable pub zeros : List ℕ → ℕ
zeros [] = 0
zeros (b ∷ s) = cond (eqb b 0) (suc (zeros s)) 0

-- how many bytes of padding stand in front: zero bytes in the standard reading (rule 16.1), none in the crate reading
-- (rule 16.2)
unfoldable pub padding : Reading → List ℕ → ℕ
padding Crate s = 0
padding Standard s = zeros s
