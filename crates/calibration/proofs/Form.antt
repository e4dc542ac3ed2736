-- Laws of the form of a record: four tags with their lengths at their places, and nothing else (rules 19.1 and 19.2).
use Prim.Native.Nat.{ℕ, suc, ◌+◌, ◌≤◌}
use mathlib.Core.Path.{◌≡◌, refl, sym, ap, ◌∙◌, subst}
use mathlib.Core.Bool.{Bool, true, false, ◌&&◌, and-eq-true_iff}
use mathlib.Core.List.{List, [], ◌∷◌, ◌++◌, append-nil}
use native.Mathlib.Nat.{add-zero}
use native.Mathlib.Omega.{arith}
use lib.Dec.{leb, eqb}
use lib.ListN.{length, get_or, take, drop, length-append, length-drop, take-append-drop, drop_of_length-le}
use lib.Seq.{length-take-le, take_all, take_at, drop-cons, drop-drop, drop_at, get_or-drop}
use borrow.Author.Rules.{rules}
use borrow.Author.Tests.{leb-true, le-leb, eqb-true, eq-eqb}
use Rattle.basis.proofs.Truth.{same_truth}
use Rattle.byte_slices.specs.Slices.{same}
use Rattle.byte_slices.proofs.Slices.{same_equal, same_self}
use Rattle.calibration.specs.Profile.{head_test, heads_test, object, template, is_serial_len, serial_len, serial_of, due_place, due_of, capacity_of, is_profile}

-- a tag and a length of one byte each stand at a place
abbrev pub Head : List ℕ → ℕ → ℕ → ℕ → Type 0
Head s at t l = (get_or s at 0 ≡ t) × (get_or s (at + 1) 0 ≡ l)

-- the same as a test
pub head_true : (a b t l : ℕ) → (eqb a t && eqb b l) ≡ true → (a ≡ t) × (b ≡ l)
head_true a b t l e = let h = (and-eq-true_iff (eqb a t) (eqb b l)).0 e in (eqb-true a t h.0, eqb-true b l h.1)

pub true_head : (a b t l : ℕ) → a ≡ t → b ≡ l → (eqb a t && eqb b l) ≡ true
true_head a b t l p q = rw (eq-eqb a t p, eq-eqb b l q)

-- what the code's test of a head says, if it does not fail
module _ (s : List ℕ) (at t l : ℕ) (r : Bool) (e : r ≡ (eqb (get_or s at 0) t && eqb (get_or s (at + 1) 0) l)) where
  pub is_head : r ≡ true → Head s at t l
  is_head y = head_true (get_or s at 0) (get_or s (at + 1) 0) t l (sym e ∙ y)

-- a head, and as many bytes after it as its length says, are an object
pub object_here : (s : List ℕ) (at t l : ℕ) → at + 2 + l ≤ length s → Head s at t l
    → drop at s ≡ object t (take l (drop (at + 2) s)) ++ drop (at + 2 + l) s
unfolding object
object_here s at t l h g =
    let v = take l (drop (at + 2) s) in
    let size : length v ≡ l = length-take-le l (drop (at + 2) s) (simp length-drop (omega arith)) in
    let one : suc at ≡ at + 1 = omega arith in
    let two : suc (suc at) ≡ at + 2 = omega arith in
    let rest : drop (at + 2) s ≡ v ++ drop (at + 2 + l) s =
    sym (take-append-drop l (drop (at + 2) s)) ∙ ap (λ (u : List ℕ). v ++ u) (drop-drop l (at + 2) s) in
    drop-cons s at 0 (omega arith)
    ∙ ap (λ (u : List ℕ). get_or s at 0 ∷ u) (drop-cons s (suc at) 0 (omega arith))
    ∙ rw (two, one, g.0, g.1, size, ← rest)

-- an object that stands at a place: its head, what stands after the head, and what stands after its value
pub object_there : (s : List ℕ) (at t : ℕ) (v u : List ℕ) → drop at s ≡ object t v ++ u
    → Head s at t (length v) × (drop (at + 2) s ≡ v ++ u) × (drop (at + 2 + length v) s ≡ u)
unfolding object
object_there s at t v u e =
    let zeroth : get_or s at 0 ≡ t = sym (rw add-zero at (get_or-drop at s 0 0)) ∙ ap (λ (l : List ℕ). get_or l 0 0) e in
    let first : get_or s (at + 1) 0 ≡ length v = sym (get_or-drop at s 1 0) ∙ ap (λ (l : List ℕ). get_or l 1 0) e in
    let after : drop (at + 2) s ≡ v ++ u = sym (drop-drop 2 at s) ∙ ap (drop 2) e in
    let behind : drop (at + 2 + length v) s ≡ u =
    sym (drop-drop (length v) (at + 2) s) ∙ ap (drop (length v)) after ∙ drop_at v u (length v) refl in
    ((zeroth, first), after, behind)

-- the four heads of a record whose serial has n bytes
pub record Heads (s : List ℕ) (n : ℕ) : Type 0 where
  pub outer : Head s 0 0xE1 (n + 14)
  pub serial : Head s 2 0xC1 n
  pub due : Head s (n + 4) 0xC2 4
  pub capacity : Head s (n + 10) 0xC3 4

-- bytes with these heads are the template of their parts
module _ (s : List ℕ) (lo : 17 ≤ length s) (hi : length s ≤ 32) where
  none_behind : drop (length s) s ≡ []
  none_behind = drop_of_length-le s {i = length s} (omega arith)

  pub heads_template : Heads s (serial_len s) → s ≡ template (serial_of s) (due_of s) (capacity_of s)
  unfolding template
  heads_template h =
      let n = serial_len s in
      let p1 : 2 + 2 + n ≡ n + 4 = omega arith in
      let p2 : n + 4 + 2 ≡ n + 6 = omega arith in
      let p3 : n + 6 + 4 ≡ n + 10 = omega arith in
      let p4 : n + 10 + 2 ≡ n + 6 + 6 = omega arith in
      let p5 : n + 6 + 6 + 4 ≡ length s = omega arith in
      let p6 : 0 + 2 + (n + 14) ≡ length s = omega arith in
      let all : take (n + 14) (drop 2 s) ≡ drop 2 s = take_all (n + 14) (drop 2 s) (simp length-drop (omega arith)) in
      let c3 : drop (n + 10) s ≡ object 0xC3 (capacity_of s) =
      rw (p4, p5, none_behind, append-nil) at (object_here s (n + 10) 0xC3 4 (omega arith) h.capacity) in
      let c2 : drop (n + 4) s ≡ object 0xC2 (due_of s) ++ object 0xC3 (capacity_of s) =
      rw (p2, p3, c3) at (object_here s (n + 4) 0xC2 4 (omega arith) h.due) in
      let c1 : drop 2 s ≡ object 0xC1 (serial_of s) ++ (object 0xC2 (due_of s) ++ object 0xC3 (capacity_of s)) =
      rw (p1, c2) at (object_here s 2 0xC1 n (omega arith) h.serial) in
      rw (p6, none_behind, append-nil, all, c1) at (object_here s 0 0xE1 (n + 14) (omega arith) h.outer)

-- what stands in the template, and how many bytes these are
abbrev pub inside : List ℕ → List ℕ → List ℕ → List ℕ
inside v d c = object 0xC1 v ++ (object 0xC2 d ++ object 0xC3 c)

pub inside_size : (v d c : List ℕ) → length d ≡ 4 → length c ≡ 4 → length (inside v d c) ≡ length v + 14
unfolding object
inside_size v d c due_size capacity_size = simp length-append (omega (arith, due_size, capacity_size))

-- a template has these heads, and its parts at these places
module _ (v d c : List ℕ) (due_size : length d ≡ 4) (capacity_size : length c ≡ 4) where
  pub template_size : length (template v d c) ≡ length v + 16
  unfolding template object
  template_size = omega (arith, inside_size v d c due_size capacity_size)

  pub record Parts (s : List ℕ) (n : ℕ) : Type 0 where
    pub heads : Heads s n
    pub serial_there : take n (drop 4 s) ≡ v
    pub due_there : take 4 (drop (n + 6) s) ≡ d
    pub capacity_there : take 4 (drop (n + 6 + 6) s) ≡ c

  pub template_parts : (s : List ℕ) → s ≡ template v d c → Parts s (length v)
  unfolding template
  template_parts s e =
      let n = length v in
      let p1 : 2 + 2 + n ≡ n + 4 = omega arith in
      let p2 : n + 4 + 2 ≡ n + 6 = omega arith in
      let p3 : n + 4 + 2 + length d ≡ n + 10 = omega (arith, due_size) in
      let p4 : n + 10 + 2 ≡ n + 6 + 6 = omega arith in
      let outer = object_there s 0 0xE1 (inside v d c) [] (e ∙ sym (append-nil (object 0xE1 (inside v d c)))) in
      let first = object_there s 2 0xC1 v (object 0xC2 d ++ object 0xC3 c) (outer.1 ∙ append-nil (inside v d c)) in
      let second = object_there s (n + 4) 0xC2 d (object 0xC3 c) (rw p1 at first.2) in
      let third = object_there s (n + 10) 0xC3 c [] (rw p3 at second.2 ∙ sym (append-nil (object 0xC3 c))) in
      record {
        heads =
            record {
              outer = (outer.0.0, outer.0.1 ∙ inside_size v d c due_size capacity_size);
              serial = first.0;
              due = (second.0.0, second.0.1 ∙ due_size);
              capacity = (third.0.0, third.0.1 ∙ capacity_size);
            };
        serial_there = ap (take n) first.1 ∙ take_at v _ n refl;
        due_there = rw p2 at (ap (take 4) second.1) ∙ take_at d _ 4 due_size;
        capacity_there = rw p4 at (ap (take 4) third.1) ∙ take_at c [] 4 capacity_size;
      }

-- a serial has 1 to 16 bytes exactly in a record of 17 to 32 bytes
pub serial_len_lem : (n : ℕ) → 1 ≤ n → n ≤ 16 → is_serial_len n ≡ true
unfolding is_serial_len
serial_len_lem n lo hi = rw (le-leb 1 n lo, le-leb n 16 hi)

pub len_serial : (n : ℕ) → is_serial_len n ≡ true → (1 ≤ n) × (n ≤ 16)
unfolding is_serial_len
len_serial n e = let h = (and-eq-true_iff (leb 1 n) (leb n 16)).0 e in (leb-true 1 n h.0, leb-true n 16 h.1)

-- the sizes of the parts of a record of 17 to 32 bytes
module _ (s : List ℕ) (lo : 17 ≤ length s) where
  pub serial_size : length (serial_of s) ≡ serial_len s
  serial_size = length-take-le (serial_len s) (drop 4 s) (simp length-drop (omega arith))

  pub due_size : length (due_of s) ≡ 4
  due_size = length-take-le 4 (drop (due_place s) s) (simp length-drop (omega arith))

  pub capacity_size : length (capacity_of s) ≡ 4
  capacity_size = length-take-le 4 (drop (due_place s + 6) s) (simp length-drop (omega arith))

-- what it means that bytes are of this form
pub record Formed (s : List ℕ) : Type 0 where
  pub least : 17 ≤ length s
  pub most : length s ≤ 32
  pub whole : s ≡ template (serial_of s) (due_of s) (capacity_of s)
  pub heads : Heads s (serial_len s)

pub profile_formed : (s : List ℕ) → is_profile s ≡ true → Formed s
unfolding is_profile
profile_formed s e =
    let h = (and-eq-true_iff (is_serial_len (serial_len s)) (same s (template (serial_of s) (due_of s) (capacity_of s)))).0 e in
    let k = len_serial (serial_len s) h.0 in
    let lo : 17 ≤ length s = omega (arith, k.0) in
    let whole = same_equal s (template (serial_of s) (due_of s) (capacity_of s)) h.1 in
    let parts = template_parts (serial_of s) (due_of s) (capacity_of s) (due_size s lo) (capacity_size s lo) s whole in
    record {
      least = lo;
      most = omega (arith, k.1, k.0);
      whole = whole;
      heads = subst (Heads s) (serial_size s lo) parts.heads;
    }

pub formed_profile : (s : List ℕ) → 17 ≤ length s → length s ≤ 32 → s ≡ template (serial_of s) (due_of s) (capacity_of s) → is_profile s ≡ true
unfolding is_profile
formed_profile s lo hi e =
    let t = template (serial_of s) (due_of s) (capacity_of s) in
    let same_bytes : same s t ≡ true = ap (same s) (sym e) ∙ same_self s in
    rw (serial_len_lem (serial_len s) (omega arith) (omega arith), same_bytes)

-- the tests of the code, in their order: a size outside of 17 to 32, a head that is not there, all four heads
pub other_size : (s : List ℕ) → (17 ≤ length s → length s ≤ 32 → ⊥) → false ≡ is_profile s
other_size s h = same_truth false (is_profile s) (λ e. cc) (λ e. let f = profile_formed s e in absurd (h f.least f.most))

pub other_head : (s : List ℕ) → (Heads s (serial_len s) → ⊥) → false ≡ is_profile s
other_head s h = same_truth false (is_profile s) (λ e. cc) (λ e. absurd (h (profile_formed s e).heads))

pub all_heads : (s : List ℕ) → 17 ≤ length s → length s ≤ 32 → Heads s (serial_len s) → is_profile s ≡ true
all_heads s lo hi h = formed_profile s lo hi (heads_template s lo hi h)

-- these tests say in a record of 17 to 32 bytes whether it is of this form
pub by_heads : (s : List ℕ) → 17 ≤ length s → length s ≤ 32 → heads_test s (serial_len s) ≡ is_profile s
by_heads s lo hi =
    let n = serial_len s in
    let a = head_test s 0 0xE1 (n + 14) in
    let b = head_test s 2 0xC1 n in
    let c = head_test s (n + 4) 0xC2 4 in
    let d = head_test s (n + 10) 0xC3 4 in
    same_truth (heads_test s n) (is_profile s)
    (λ e.
    let x = (and-eq-true_iff (a && b && c) d).0 e in
    let y = (and-eq-true_iff (a && b) c).0 x.0 in
    let z = (and-eq-true_iff a b).0 y.0 in
    all_heads s lo hi
    (record {
      outer = head_true (get_or s 0 0) (get_or s 1 0) 0xE1 (n + 14) z.0;
      serial = head_true (get_or s 2 0) (get_or s 3 0) 0xC1 n z.1;
      due = head_true (get_or s (n + 4) 0) (get_or s (n + 4 + 1) 0) 0xC2 4 y.1;
      capacity = head_true (get_or s (n + 10) 0) (get_or s (n + 10 + 1) 0) 0xC3 4 x.1;
    }))
    (λ e.
    let h = (profile_formed s e).heads in
    rw (h.outer.0, h.outer.1, h.serial.0, h.serial.1, h.due.0, h.due.1, h.capacity.0, h.capacity.1) (search rules))
