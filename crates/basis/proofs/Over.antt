-- Laws of a list with another one written into it. The proof of every writer cites them.
use mathlib.Core.Path.{◌≡◌, sym, ap, ◌∙◌}
use mathlib.Core.List.{List, [], ◌∷◌, ◌++◌, append_assoc, append-nil}
use Prim.Native.Nat.{ℕ, zero, suc, min, ◌+◌, ◌-◌, ◌≤◌}
use native.Mathlib.Decide.{dec_le}
use native.Mathlib.Nat.{add_assoc, zero-add, sub-zero, zero-sub, suc-sub-suc, min-eq_left}
use native.Mathlib.Omega.{arith}
use lib.ListN.{length, take, drop, length-append, length-drop, drop_of_length-le}
use lib.Seq.{take-nil, take-length, sets, sets-eq, take_all, take_at, take-take, take-append-le, drop_at, drop-drop, length-take-le, drop-append-add}
use borrow.Rule.Slice.PartMut.{put_mid}
use Rattle.basis.specs.Over.{over, over_at}

-- `&s[n..]` is what remains after the first n elements
pub rest_is : (n : ℕ) (l : List ℕ) → take (length l - n) (drop n l) ≡ drop n l
rest_is n l = take_all (length l - n) (drop n l) (simp length-drop (omega arith))

pub drop_take : (s n : ℕ) (l : List ℕ) → drop s (take n l) ≡ take (n - s) (drop s l)
drop_take zero n l = rw sub-zero
drop_take (suc s) zero l = rw zero-sub
drop_take (suc s) (suc n) [] = rw take-nil
drop_take (suc s) (suc n) (x ∷ l) = rw suc-sub-suc (drop_take s n l)

-- a list of k elements, from place s up to place n or its end
pub part_is : (s n k : ℕ) (l : List ℕ) → length l ≡ k → take (min n k - s) (drop s l) ≡ drop s (take n l)
part_is s n k l e =
    elim (dec_le n k) [
      | yes h ↦ rw (min-eq_left h, drop_take)
      | no h ↦
          take_all (min n k - s) (drop s l) (simp length-drop (omega arith))
          ∙ sym (ap (λ (m : List ℕ). drop s m) (take_all n l (omega arith)))
    ]

-- elements stored one by one from the front
pub stored : (vs l : List ℕ) → length vs ≤ length l → sets l 0 vs ≡ over vs l
unfolding over
stored vs l h = rw zero-add at (sets-eq vs l 0 (omega arith))

-- all of vs copied to the front; a copy of j elements that goes on with the next one
pub copied : (vs l : List ℕ) → take (length vs) vs ++ drop (length vs) l ≡ over vs l
unfolding over
copied vs l = rw take-length

-- vs copied over k elements from a place on, as `copy_from_slice` leaves the list, and over those at the front
pub copied_at : (at k : ℕ) (vs ys l : List ℕ) → ys ≡ vs → k ≡ length vs → put_mid at k l ys ≡ over_at at vs l
unfolding over_at
copied_at at k vs ys l h e = rw (h, e, drop-drop)

pub copied_front : (k : ℕ) (vs ys l : List ℕ) → ys ≡ vs → k ≡ length vs → put_mid 0 k l ys ≡ over vs l
unfolding over
copied_front k vs ys l h e = rw (h, e)

pub length_over : (vs l : List ℕ) → length vs ≤ length l → length (over vs l) ≡ length l
unfolding over
length_over vs l h = simp (length-append, length-drop) (omega arith)

pub over_at_zero : (vs l : List ℕ) → over_at 0 vs l ≡ over vs l
unfolding over_at over
over_at_zero vs l = rw zero-add

pub length_over_at : (at : ℕ) (vs l : List ℕ) → at + length vs ≤ length l → length (over_at at vs l) ≡ length l
unfolding over_at
length_over_at at vs l h = simp (length-append, length-drop, length-take-le at l (omega arith)) (omega arith)

-- the part from place a on was lent to a writer, which wrote v over the front of that part
pub lent : (l : List ℕ) (a : ℕ) (v ys : List ℕ) → a + length v ≤ length l → ys ≡ over v (take (length l - a) (drop a l))
    → take a l ++ (ys ++ drop (length l - a) (drop a l)) ≡ over_at a v l
unfolding over over_at
lent l a v ys h e =
    let none : drop (length l - a) (drop a l) ≡ [] = drop_of_length-le (drop a l) {i = length l - a} (simp length-drop (omega arith)) in
    rw (none, append-nil, e, rest_is, drop-drop)

-- v written directly after u
pub over_at_twice : (at : ℕ) (u v l : List ℕ) → at ≤ length l → over_at (at + length u) v (over_at at u l) ≡ over_at at (u ++ v) l
unfolding over_at
over_at_twice at u v l h =
    let p : List ℕ = take at l ++ u in
    let d : List ℕ = drop (at + length u) l in
    let n : length p ≡ at + length u = simp (length-append, length-take-le at l h) in
    let front : take (at + length u) (p ++ d) ≡ p = take_at p d (at + length u) n in
    let size : at + length u + length v ≡ at + length (u ++ v) = simp (length-append, add_assoc) in
    let back : drop (at + length u + length v) (p ++ d) ≡ drop (at + length (u ++ v)) l =
    ap (λ (k : ℕ). drop (k + length v) (p ++ d)) (sym n) ∙ drop-append-add p d (length v) ∙ drop-drop (length v) (at + length u) l
    ∙ ap (λ (k : ℕ). drop k l) size in
    rw (← append_assoc (take at l) u d, front, back) (simp append_assoc)

-- v copied directly after u, which was written over the front
pub copied_next : (b k : ℕ) (xs l u v ys : List ℕ) → l ≡ over u xs → b ≡ length u → length u ≤ length xs → ys ≡ v → k ≡ length v
    → put_mid b k l ys ≡ over (u ++ v) xs
copied_next b k xs l u v ys e eb h ey ek =
    let first : l ≡ over_at 0 u xs = e ∙ sym (over_at_zero u xs) in
    let place : b ≡ 0 + length u = omega arith in
    copied_at b k v ys l ey ek ∙ rw (first, place) (over_at_twice 0 u v xs (omega arith)) ∙ over_at_zero (u ++ v) xs

-- u written directly before v
pub over_at_before : (at : ℕ) (u v l : List ℕ) → at + length u ≤ length l → over_at at u (over_at (at + length u) v l) ≡ over_at at (u ++ v) l
unfolding over_at
over_at_before at u v l h =
    let b : ℕ = at + length u in
    let r : List ℕ = v ++ drop (b + length v) l in
    let n : length (take b l) ≡ b = length-take-le b l h in
    let front : take at (take b l ++ r) ≡ take at l = take-append-le at (take b l) r (omega arith) ∙ take-take at b l (omega arith) in
    let back : drop b (take b l ++ r) ≡ r = drop_at (take b l) r b n in
    let size : b + length v ≡ at + length (u ++ v) = simp (length-append, add_assoc) in
    rw (front, back, size) (simp append_assoc)

-- after u was written, the part after it is lent to a writer, which writes v over the front of that part
pub next : (at b : ℕ) (xs l u v ys : List ℕ) → l ≡ over_at at u xs → b ≡ at + length u → b + length v ≤ length xs
    → ys ≡ over v (take (length l - b) (drop b l)) → take b l ++ (ys ++ drop (length l - b) (drop b l)) ≡ over_at at (u ++ v) xs
next at b xs l u v ys e eb h ey =
    let long : length l ≡ length xs = rw e (length_over_at at u xs (omega arith)) in
    lent l b v ys (omega arith) ey ∙ rw (e, eb) (over_at_twice at u v xs (omega arith))

-- the same if u was written over the front
pub next_over : (b : ℕ) (xs l u v ys : List ℕ) → l ≡ over u xs → b ≡ length u → b + length v ≤ length xs
    → ys ≡ over v (take (length l - b) (drop b l)) → take b l ++ (ys ++ drop (length l - b) (drop b l)) ≡ over (u ++ v) xs
next_over b xs l u v ys e eb h ey = next 0 b xs l u v ys (e ∙ sym (over_at_zero u xs)) (omega arith) h ey ∙ over_at_zero (u ++ v) xs

-- after u was written over the front, a part further back is lent to a writer, which writes v over its front; then the
-- part after u is lent to a writer of w, which ends where v starts
pub between_over : (a b : ℕ) (xs l m u w v ys zs : List ℕ) → l ≡ over u xs → a ≡ length u → b ≡ a + length w → b + length v ≤ length xs
    → ys ≡ over v (take (length l - b) (drop b l)) → m ≡ take b l ++ (ys ++ drop (length l - b) (drop b l))
    → zs ≡ over w (take (length m - a) (drop a m)) → take a m ++ (zs ++ drop (length m - a) (drop a m)) ≡ over ((u ++ w) ++ v) xs
between_over a b xs l m u w v ys zs e ea eb h ey em ez =
    let n : length l ≡ length xs = rw e (length_over u xs (omega arith)) in
    let back : m ≡ over_at b v l = em ∙ lent l b v ys (omega arith) ey in
    let k : length m ≡ length xs = rw back (length_over_at b v l (omega arith) ∙ n) in
    let both : over_at a w m ≡ over_at a (w ++ v) l = rw (back, eb) (over_at_before a w v l (omega arith)) in
    let first : l ≡ over_at 0 u xs = e ∙ sym (over_at_zero u xs) in
    let place : a ≡ 0 + length u = omega arith in
    let all : over_at a (w ++ v) l ≡ over_at 0 (u ++ (w ++ v)) xs = rw (first, place) (over_at_twice 0 u (w ++ v) xs (omega arith)) in
    lent m a w zs (omega arith) ez ∙ both ∙ all ∙ over_at_zero _ xs ∙ ap (λ (z : List ℕ). over z xs) (sym (append_assoc u w v))
