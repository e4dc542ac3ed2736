-- The lengths of a command's body, in both readings. Rules 2.3 to 2.7; the cases (1 to 4E) of ISO/IEC 7816-3 12.1.3.
use Rattle.std.specs.Prelude.{ℕ, zero, suc, ◌+◌, ◌*◌, Bool, true, false, cond, List, eqb, length, get_or}
use Rattle.basis.specs.Reply.{Reply, ok, refused}
use Rattle.class.specs.declared.Reading.{Reading}
use Rattle.class.specs.declared.Reading.TheVariants.{Crate, Standard}
use Rattle.command.specs.declared.body.ParsedLengths.{ParsedLengths}

-- the reply with these lengths: where the data start, how many bytes they are, Le, and whether the lengths are extended
abbrev pub lengths : ℕ → ℕ → ℕ → Bool → Reply ParsedLengths
lengths at n e x = ok (record { offset = at; lc = n; le = e; extended = x })

-- byte i of a body
abbrev pub byte : List ℕ → ℕ → ℕ
byte s i = get_or s i 0

-- the number in bytes i and i + 1 of a body
abbrev pub pair : List ℕ → ℕ → ℕ
pair s i = get_or s i 0 * 256 + get_or s (i + 1) 0

-- a number n that is read: zero means the most (rules 2.3 to 2.6)
abbrev pub or_most : ℕ → ℕ → ℕ
or_most most zero = most
or_most most (suc n) = suc n

-- a first byte n that is not 0: n data bytes, alone (3S) or with an Le byte after them (4S); else 4 (rule 2.4)
unfoldable pub short_body : ℕ → List ℕ → Reply ParsedLengths
short_body n s =
    cond (eqb (length s) (1 + n)) (lengths 1 n 0 false)
    (cond (eqb (length s) (2 + n)) (lengths 1 n (or_most 256 (byte s (1 + n))) false) (refused 4))

-- a first byte 0, n in the next two, and more bytes: n data bytes, alone (3E) or with two bytes of Le after them (4E);
-- else 5 (rule 2.6)
unfoldable pub long_body : ℕ → List ℕ → Reply ParsedLengths
long_body n s =
    cond (eqb (length s) (3 + n)) (lengths 3 n 0 true)
    (cond (eqb (length s) (5 + n)) (lengths 3 n (or_most 65536 (pair s (3 + n))) true) (refused 5))

-- a first byte 0, in the crate reading: 5 for two bytes, Le for three (2E), else by Lc (rules 2.5 and 2.6)
unfoldable pub extended_body : List ℕ → Reply ParsedLengths
extended_body s =
    cond (eqb (length s) 2) (refused 5)
    (cond (eqb (length s) 3) (lengths 0 0 (or_most 65536 (pair s 1)) true) (long_body (pair s 1) s))

-- a first byte 0, in the standard reading: the same, but an Lc of zero is none. It is refused with 21 if Le follows it,
-- else with 5 (rule 2.7)
unfoldable pub extended_by_standard : List ℕ → Reply ParsedLengths
extended_by_standard s =
    cond (eqb (length s) 3) (lengths 0 0 (or_most 65536 (pair s 1)) true)
    (cond (eqb (length s) 2) (refused 5)
    (cond (eqb (pair s 1) 0) (cond (eqb (length s) 5) (refused 21) (refused 5)) (long_body (pair s 1) s)))

-- a first byte 0, by the reading
abbrev pub extended_of : Reading → List ℕ → Reply ParsedLengths
extended_of Crate s = extended_body s
extended_of Standard s = extended_by_standard s

-- any body: no byte (1) and one byte (2S), which is Le (rule 2.3); else by its first byte
unfoldable pub body_of : Reading → List ℕ → Reply ParsedLengths
body_of r s =
    cond (eqb (length s) 0) (lengths 0 0 0 false)
    (cond (eqb (length s) 1) (lengths 0 0 (or_most 256 (byte s 0)) false)
    (cond (eqb (byte s 0) 0) (extended_of r s) (short_body (byte s 0) s)))
