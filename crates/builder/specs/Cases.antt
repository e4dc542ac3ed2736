-- The cases of a command by ISO/IEC 7816-3:2006 12.1.3, and which of them is used. Rules 3.4 to 3.8.
use Rattle.std.specs.Prelude.{ℕ, zero, suc, cond, List, ◌∷◌, ◌++◌, ltb, leb, length}
use Rattle.basis.specs.Number.{be}
use Rattle.builder.specs.declared.ExtendedLen.{ExtendedLen}
use Rattle.builder.specs.declared.ExtendedLen.TheVariants.{Unsupported, Supported, Forced}

-- neither data nor Le (1), Le (2), data (3), data and Le (4), with short lengths (S) or extended ones (E)
pub data Case : Type 0 where
  case1 : Case
  case2_s : Case
  case3_s : Case
  case4_s : Case
  case2_e : Case
  case3_e : Case
  case4_e : Case

-- the bytes of a case, for a header h, data d and an Le of e; 256 in one byte, and 65,536 in two, are zeros (rule 3.8)
abbrev pub case_bytes : Case → List ℕ → List ℕ → ℕ → List ℕ
case_bytes case1 h d e = h
case_bytes case2_s h d e = h ++ be 1 e
case_bytes case3_s h d e = h ++ (be 1 (length d) ++ d)
case_bytes case4_s h d e = h ++ (be 1 (length d) ++ (d ++ be 1 e))
case_bytes case2_e h d e = h ++ (0 ∷ be 2 e)
case_bytes case3_e h d e = h ++ (0 ∷ be 2 (length d) ++ d)
case_bytes case4_e h d e = h ++ (0 ∷ be 2 (length d) ++ (d ++ be 2 e))

-- how many of them are Lc (rules 3.4 and 3.5)
abbrev pub lc_bytes : Case → ℕ
lc_bytes case1 = 0
lc_bytes case2_s = 0
lc_bytes case3_s = 1
lc_bytes case4_s = 1
lc_bytes case2_e = 0
lc_bytes case3_e = 3
lc_bytes case4_e = 3

-- how many of them are Le (rules 3.6 and 3.7)
abbrev pub le_bytes : Case → ℕ
le_bytes case1 = 0
le_bytes case2_s = 1
le_bytes case3_s = 0
le_bytes case4_s = 1
le_bytes case2_e = 3
le_bytes case3_e = 0
le_bytes case4_e = 2

-- the first case, or the second when extended is forced
abbrev pub unless_forced : ExtendedLen → Case → Case → Case
unless_forced Unsupported x y = x
unless_forced Supported x y = x
unless_forced Forced x y = y

-- without data: Le takes one byte up to 256, three when it is above or extended is forced; Le 0 is omitted (rule 3.7)
abbrev pub without_data : ExtendedLen → ℕ → Case
without_data m zero = case1
without_data m (suc e) = unless_forced m (cond (leb (suc e) 256) case2_s case2_e) case2_e

-- after an Lc of one byte: Le takes one byte; Le 0 is omitted (rule 3.6)
abbrev pub after_short : ℕ → Case
after_short zero = case3_s
after_short (suc e) = case4_s

-- after an extended Lc: Le takes two bytes; Le 0 is omitted (rule 3.6)
abbrev pub after_extended : ℕ → Case
after_extended zero = case3_e
after_extended (suc e) = case4_e

-- with data: Lc is extended for data from 256 bytes, and for any data when Le exceeds 256 or extended is forced (rule
-- 3.4); other data take an Lc of one byte (rule 3.5)
abbrev pub with_data : ExtendedLen → ℕ → ℕ → Case
with_data m n e =
    cond (leb 256 n) (after_extended e)
    (cond (ltb 256 e) (after_extended e)
    (unless_forced m (after_short e) (after_extended e)))

-- the case for a mode, n data bytes and an Le of e
unfoldable pub case_for : ExtendedLen → ℕ → ℕ → Case
case_for m zero e = without_data m e
case_for m (suc n) e = with_data m (suc n) e
