-- The parts and pieces of a command, in every mode, for a buffer of ten bytes or more and at most 65,535 data bytes.
use Prim.Native.Nat.{ℕ, ◌+◌, ◌≤◌, ◌<◌}
use mathlib.Core.Path.{◌≡◌, refl, sym, ap, ◌∙◌}
use mathlib.Core.List.{List, [], ◌∷◌, ◌++◌, map, drop_last, append-nil}
use native.Mathlib.Omega.{arith}
use lib.ListN.{length, take, drop, take-append-drop, length-take, length-drop}
use Rattle.class.specs.Chain.{chained}
use Rattle.class.specs.declared.Reading.{Reading}
use Rattle.class.proofs.Readings.{chained_ef}
use Rattle.builder.specs.Bytes.{lowered_of, le_written, lc_len, le_len, command_of}
use Rattle.builder.specs.declared.CommandBuilder.{CommandBuilder}
use Rattle.builder.specs.declared.ExtendedLen.{ExtendedLen}
use Rattle.builder.specs.declared.ExtendedLen.TheVariants.{Unsupported, Supported, Forced}
use Rattle.builder.proofs.Lengths.{lengths_few, length_command, required_is}
use Rattle.builder_laws.proofs.Cases.{le_none, lc_part}
use Rattle.builder_laws.proofs.Read.{built_ff}
use Rattle.builder_laws.proofs.LeWritten.{le_read, lowered_twice, lowered_written, lowered_le}
use Rattle.splitter.specs.Step.{most_data, room_of, first_of}
use Rattle.splitter.specs.Pieces.{Part, parts, piece_of, pieces_of}
use Rattle.basis.specs.Every.{Every}
use Rattle.splitter_laws.specs.Parts.{data_of, Front, Last, FrontsAndLast, RefusedBy}
use Rattle.splitter_laws.proofs.Cut.{room_is, step_whole, parts_whole, cut}
use Rattle.basis.proofs.Every.{every_weaken}

-- a command whose data the room covers fits, and so does the first part of one with more data
module _ (b : CommandBuilder) (d : List ℕ) (m : ℕ) (ten : 10 ≤ m) where
  whole_fits : length d ≤ room_of b (length d) m → length (command_of b d) ≤ m
  whole_fits h =
      let n = length d in
      omega (arith, length_command b d, required_is b n, room_is b n m, lengths_few b n)

  first_fits : (r : ℕ) → r ≡ room_of b (length d) m → 1 ≤ r → r < length d → length (command_of (first_of b) (take r d)) ≤ m
  first_fits r e g h =
      let n = length d in
      let k = length (take r d) in
      let size : k ≡ r = length-take r d ∙ omega arith in
      let none : le_written (first_of b) ≡ 0 = (le_read (first_of b)).number 0 refl (λ _. omega arith) in
      omega (
        arith,
        length_command (first_of b) (take r d),
        required_is (first_of b) k,
        room_is b n m,
        le_none (first_of b) k none,
        lc_part (first_of b) b k n refl none (omega arith),
      )

-- every piece is at most as long as the buffer (rule 4.8)
pub fits : (b : CommandBuilder) (d : List ℕ) (m : ℕ) → 10 ≤ m → length d ≤ 65535 → Every (λ p. length p ≤ m) (pieces_of b d m)
fits b d m ten few =
    cut m ten (λ b d ps. Every (λ p. length p ≤ m) (map piece_of ps)) (λ b d h. (whole_fits b d m ten h, tt))
    (λ b d r ps e g h f. (first_fits b d m ten r e g h, f)) b d few

-- a command that fits the buffer is not split, unless it has more than 255 data bytes in short mode (rule 4.3)
most_enough : (m : ExtendedLen) (n : ℕ) → (m ≡ Unsupported → n ≤ 255) → n ≤ 65535 → n ≤ most_data m
most_enough Unsupported n h few = h refl
most_enough Supported n h few = few
most_enough Forced n h few = few

pub unsplit : (b : CommandBuilder) (d : List ℕ) (m : ℕ) → (b.mode ≡ Unsupported → length d ≤ 255) → length d ≤ 65535
    → length (command_of b d) ≤ m → pieces_of b d m ≡ command_of b d ∷ []
unsplit b d m h few l =
    let n = length d in
    let size : 4 + lc_len b n + n + le_len b n ≤ m = omega (arith, length_command b d, required_is b n) in
    let covers : n ≤ room_of b n m = omega (arith, room_is b n m, most_enough b.mode n h few) in
    rw (parts_whole b d m (step_whole b n m few (omega arith) covers))

-- the data of the parts joined are the data (rule 4.8)
pub joined : (b : CommandBuilder) (d : List ℕ) (m : ℕ) → 10 ≤ m → length d ≤ 65535 → data_of (parts b d m) ≡ d
joined b d m ten few =
    cut m ten (λ b d ps. data_of ps ≡ d) (λ b d h. append-nil d)
    (λ b d r ps e g h f. ap (λ (s : List ℕ). take r d ++ s) f ∙ take-append-drop r d) b d few

-- there are parts before the last and a last one
abbrev SomeFrontsAndLast : CommandBuilder → List ℕ → List Part → Type 0
SomeFrontsAndLast b d ps =
    (fronts : List Part) × (last : Part) × (ps ≡ fronts ++ (last ∷ [])) × Every (Front b) fronts × Last b d fronts last

-- a list without its last element
drop_last_lem : (ps : List Part) (p : Part) → drop_last (ps ++ (p ∷ [])) ≡ ps
drop_last_lem [] p = refl
drop_last_lem (q ∷ []) p = refl
drop_last_lem (q ∷ r ∷ ps) p = ap (λ (l : List Part). q ∷ l) (drop_last_lem (r ∷ ps) p)

-- a command that is not split is its own last part, and the first part of a split is one before the last
module _ (b : CommandBuilder) (d : List ℕ) (m : ℕ) where
  only_part : length d ≤ room_of b (length d) m → SomeFrontsAndLast b d (record { builder = b; «data» = d } ∷ [])
  only_part h =
      let last : Last b d [] (record { builder = b; «data» = d }) =
      record {
        builder = refl;
        class = refl;
        le = λ q n. absurd (n refl);
        shows = refl;
        some = λ s. s;
        few = omega (arith, room_is b (length d) m);
      } in
      ([], record { builder = b; «data» = d }, refl, tt, last)

  front_part : (r : ℕ) → r ≡ room_of b (length d) m → 1 ≤ r → r < length d → Front b (record { builder = first_of b; «data» = take r d })
  front_part r e g h =
      let size : length (take r d) ≡ r = length-take r d ∙ omega arith in
      record {
        builder = refl;
        chained = omega arith;
        no_le = refl;
        some = omega arith;
        few = omega (arith, room_is b (length d) m);
      }

-- a part before the last of the rest is one of the whole
front_lowered : (b : CommandBuilder) (p : Part) → Front (lowered_of b) p → Front b p
front_lowered b p h =
    record { builder = h.builder; chained = h.chained; no_le = h.no_le; some = h.some; few = h.few }

-- the last part of the rest is the last part of the whole
last_builder : (b : CommandBuilder) (rest : List ℕ) (fs : List Part) (p : Part) → Last (lowered_of b) rest fs p
    → p.builder ≡ lowered_of b
last_builder b rest [] p h = h.builder
last_builder b rest (f ∷ fs) p h = h.builder ∙ lowered_twice b

last_lowered : (b : CommandBuilder) (d rest : List ℕ) (fs : List Part) (f p : Part) → 1 ≤ length rest → Last (lowered_of b) rest fs p
    → Last b d (f ∷ fs) p
last_lowered b d rest fs f p l h =
    let made = last_builder b rest fs p h in
    record {
      builder = made;
      class = ap (λ (x : CommandBuilder). x.class) made;
      le = λ q n. ap (λ (x : CommandBuilder). x.le) made ∙ lowered_le b q;
      shows = h.shows ∙ lowered_written b;
      some = λ _. h.some l;
      few = h.few;
    }

-- a first part and the parts of the rest
one_more_front : (b : CommandBuilder) (d rest : List ℕ) (p : Part) (ps : List Part) → 1 ≤ length rest → Front b p → SomeFrontsAndLast (lowered_of b) rest ps
    → SomeFrontsAndLast b d (p ∷ ps)
one_more_front b d rest p ps l f h = (
  p ∷ h.0,
  h.1,
  ap (λ (l : List Part). p ∷ l) h.2,
  (f, every_weaken (Front b) (Front (lowered_of b)) h.0 (front_lowered b) h.3),
  last_lowered b d rest h.0 p h.1 l h.4,
)

-- the same with the parts before the last named by `drop_last`
fronts_and_last : (b : CommandBuilder) (d : List ℕ) (ps : List Part) → SomeFrontsAndLast b d ps → FrontsAndLast b d ps
fronts_and_last b d ps h =
    let same : drop_last ps ≡ h.0 = ap drop_last h.2 ∙ drop_last_lem h.0 h.1 in
    record {
      last = h.1;
      all = h.2 ∙ ap (λ (l : List Part). l ++ (h.1 ∷ [])) (sym same);
      fronts = rw same h.3;
      final = rw same h.4;
    }

-- all parts but the last have bit 0x10 set and Le 0, the last one has class and Le of the command (rules 4.4 and 4.5)
pub all_but_last : (b : CommandBuilder) (d : List ℕ) (m : ℕ) → 10 ≤ m → length d ≤ 65535 → FrontsAndLast b d (parts b d m)
all_but_last b d m ten few =
    fronts_and_last b d (parts b d m)
    (cut m ten SomeFrontsAndLast (λ b d h. only_part b d m h)
    (λ b d r ps e g h f. one_more_front b d (drop r d) _ ps (omega (arith, length-drop r d)) (front_part b d m r e g h) f) b d few)

-- class 0xEF with bit 0x10 set is 0xFF: the parser refuses every piece but the last (rule 1.27)
ef_front : (r : Reading) (b : CommandBuilder) (p : Part) → b.class.cla ≡ 0xEF → Front b p → RefusedBy r p
ef_front r b p h f =
    let made : p.builder.class ≡ record { cla = chained 0xEF } =
    ap (λ (x : CommandBuilder). x.class) f.builder ∙ ap (λ (c : ℕ). record { cla = chained c }) h in
    let class : p.builder.class.cla ≡ 0xFF = (chained_ef p.builder.class made).0 in
    (class, built_ff r p.builder p.«data» class)

pub ef_pieces : (r : Reading) (b : CommandBuilder) (d : List ℕ) (m : ℕ) → 10 ≤ m → length d ≤ 65535 → b.class.cla ≡ 0xEF
    → Every (RefusedBy r) (drop_last (parts b d m))
ef_pieces r b d m ten few h =
    every_weaken (RefusedBy r) (Front b) (drop_last (parts b d m)) (λ p f. ef_front r b p h f) (all_but_last b d m ten few).fronts
