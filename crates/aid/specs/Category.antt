-- The category of an AID (rule 9.3). ISO/IEC 7816-4:2005 8.2.1.2: the high half of the first byte.
use Rattle.std.specs.Prelude.{ℕ, ◌/◌, ◌≡◌, Bool, cond, eqb, get_or}
use Rattle.aid.specs.declared.Aid.{Aid}
use Rattle.aid.specs.declared.category.Category.{Category}
use Rattle.aid.specs.declared.category.Category.TheVariants.{International, National, Standard, Proprietary, Other}

-- the numbers of the categories, in the order of the Rust's enum
abbrev pub international : ℕ
international = 0

abbrev pub national : ℕ
national = 1

abbrev pub standard : ℕ
standard = 2

abbrev pub proprietary : ℕ
proprietary = 3

abbrev pub other : ℕ
other = 4

-- the category of a name that starts with this byte (rule 9.3)
unfoldable pub category_of : ℕ → ℕ
category_of b =
    cond (eqb (b / 16) 0xA) international
    (cond (eqb (b / 16) 0xD) national
    (cond (eqb (b / 16) 0xE) standard (cond (eqb (b / 16) 0xF) proprietary other)))

-- the category of an AID
abbrev pub category : Aid → ℕ
category a = category_of (get_or a.bytes 0 0)

-- whether an AID is of a category
abbrev pub is_in : ℕ → Aid → Bool
is_in k a = eqb (category a) k

-- an answer of the code as its number
abbrev pub category_as_number : Category → ℕ
category_as_number International = international
category_as_number National = national
category_as_number Standard = standard
category_as_number Proprietary = proprietary
category_as_number Other = other

-- the promises of `category`, and of `is_international`, `is_national`, `is_standard` and `is_proprietary`
abbrev pub CategoryIs : Aid → Category → Type 0
CategoryIs a r = category_as_number r ≡ category a

abbrev pub IsInIs : ℕ → Aid → Bool → Type 0
IsInIs k a r = r ≡ is_in k a
