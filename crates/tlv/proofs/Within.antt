-- What is read lies within the bytes that it is read in.
use Prim.Native.Nat.{ℕ, ◌+◌, ◌-◌, ◌≤◌}
use mathlib.Core.Path.{◌≡◌, sym, ap, ◌∙◌}
use mathlib.Core.List.{List}
use native.Mathlib.Nat.{zero-add}
use native.Mathlib.Omega.{arith}
use lib.Dec.{leb}
use lib.ListN.{length, take, drop, length-take, length-drop}
use borrow.Author.Tests.{leb-true}
use Rattle.basis.specs.Reply.{ok, refused}
use Rattle.basis.proofs.Reply.{All, by_reply, all_is, all_cond, all_then, refused_not_ok}
use Rattle.tlv.specs.Tag.{Tag, tag_of}
use Rattle.tlv.specs.Len.{Len, len_of}
use Rattle.tlv.specs.Padding.{padding}
use Rattle.tlv.specs.Object.{Object, object_of, Item, Stop, item_at, placed, next_of, size_of}
use Rattle.tlv.specs.declared.Reading.{Reading}
use Rattle.tlv.specs.declared.Reading.TheVariants.{Crate}
use Rattle.tlv.proofs.Tags.{by_tag}
use Rattle.tlv.proofs.Lengths.{by_length}
use Rattle.tlv.proofs.Zeros.{padding_within, crate_padding}

-- n is a number of bytes from 1 to m
abbrev pub Some : ℕ → ℕ → Type 0
Some m n = (1 ≤ n) × (n ≤ m)

abbrev pub Tagged : ℕ → Tag → Type 0
Tagged m t = Some m t.size

abbrev pub Sized : ℕ → Len → Type 0
Sized m l = Some m l.size

-- an object has at least one byte of tag and one of length, and ends within m bytes; the same after padding
abbrev pub Fits : ℕ → Object → Type 0
Fits m o = (2 ≤ o.at) × (o.at + o.len ≤ m)

abbrev pub Ends : ℕ → Item → Type 0
Ends m i = (i.place + 2 ≤ i.at) × (size_of i ≤ m)

pub tag_within : (r : Reading) (s : List ℕ) → All (Tagged (length s)) (tag_of r s)
tag_within r s =
    by_tag r s (All (Tagged (length s))) (λ _. tt) (λ _. tt) (λ h _. omega (arith, h)) (λ _ h _. omega (arith, h))
    (λ _ h _ _ _. omega (arith, h))

pub len_within : (r : Reading) (s : List ℕ) → All (Sized (length s)) (len_of r s)
len_within r s =
    by_length s r (All (Sized (length s))) tt (λ h _. omega (arith, h)) (λ h _. omega (arith, h)) (λ h _. omega (arith, h))

pub object_within : (r : Reading) (s : List ℕ) → All (Fits (length s)) (object_of r s)
unfolding object_of
object_within r s =
    let E = Fits (length s) in
    all_then E (Tagged (length s)) (tag_of r s) _ (tag_within r s) (λ t h.
    let rest = drop t.size s in
    all_then E (Sized (length rest)) (len_of r rest) _ (len_within r rest) (λ l g.
    let room = length s - (t.size + l.size) in
    all_cond E (leb l.number room) _ _
    (λ f. omega (arith, leb-true l.number room f, length-drop t.size s)) (λ _. tt)))

-- the next object is the one after k bytes of padding
pub next_after : (r : Reading) (s : List ℕ) (k : ℕ) → k ≡ padding r s → next_of r s ≡ placed k (object_of r (drop k s))
unfolding next_of
next_after r s k e = rw (← e)

-- in the crate reading it is the object at the front (rule 16.2)
pub crate_next : (s : List ℕ) → next_of Crate s ≡ placed 0 (object_of Crate s)
crate_next s = next_after Crate s 0 (sym (crate_padding s))

pub crate_item : (s : List ℕ) (i : Item) → next_of Crate s ≡ ok i
    → (i.place ≡ 0) × (object_of Crate s ≡ ok (record { tag = i.tag; at = i.at; len = i.len }))
crate_item s i e =
    by_reply (object_of Crate s) (λ o f.
    let same : item_at 0 o ≡ i = cc (sym (crate_next s) ∙ e, f) in
    let at : o.at ≡ i.at = sym (zero-add o.at) ∙ ap (λ (j : Item). j.at) same in (
      sym (ap (λ (j : Item). j.place) same),
      f ∙ ap ok (λ q. record { tag = ap (λ (j : Item). j.tag) same q; at = at q; len = ap (λ (j : Item). j.len) same q }),
    ))
    (λ k f. absurd (refused_not_ok _ i (ap (placed 0) (sym f) ∙ sym (crate_next s) ∙ e)))

pub crate_stop : (s : List ℕ) (e : Stop) → next_of Crate s ≡ refused e → (e.place ≡ 0) × (object_of Crate s ≡ refused e.number)
crate_stop s e h =
    by_reply (object_of Crate s) (λ o f. absurd (refused_not_ok e _ (sym h ∙ crate_next s ∙ ap (placed 0) f))) (λ k f.
    let same : record { number = k; place = 0 } ≡ e = cc (sym (crate_next s) ∙ h, f) in
    (sym (ap (λ (j : Stop). j.place) same), f ∙ ap refused (ap (λ (j : Stop). j.number) same)))

pub next_within : (r : Reading) (s : List ℕ) → All (Ends (length s)) (next_of r s)
unfolding next_of
next_within r s =
    let k = padding r s in
    by_reply (object_of r (drop k s)) (λ o e.
    let w = all_is (Fits (length (drop k s))) (object_of r (drop k s)) o (object_within r (drop k s)) e in
    rw e (omega (arith, w.0), omega (arith, w.1, length-drop k s, padding_within r s)))
    (λ n e. rw e tt)

-- the same of an answer: a tag that is read, and the length after it
pub tag_ends : (r : Reading) (s : List ℕ) (t : Tag) → ok t ≡ tag_of r s → t.size ≤ length s
tag_ends r s t e = omega (arith, all_is (Tagged (length s)) (tag_of r s) t (tag_within r s) (sym e))

pub len_ends : (r : Reading) (s : List ℕ) (k : ℕ) (l : Len) → ok l ≡ len_of r (take (length s - k) (drop k s)) → k ≤ length s
    → k + l.size ≤ length s
len_ends r s k l e h =
    let rest = take (length s - k) (drop k s) in
    omega (arith, all_is (Sized (length rest)) (len_of r rest) l (len_within r rest) (sym e), length-take (length s - k) (drop k s), h)

-- the same in places: a tag and an object that are read lie in those bytes
module _ (r : Reading) (s : List ℕ) where
  pub tag_inside : (t : Tag) → tag_of r s ≡ ok t → (1 ≤ t.size) × (t.size ≤ length s)
  tag_inside t e = omega (arith, all_is (Tagged (length s)) (tag_of r s) t (tag_within r s) e)

  pub object_inside : (o : Object) → object_of r s ≡ ok o → (2 ≤ o.at) × (o.at + o.len ≤ length s)
  object_inside o e = omega (arith, all_is (Fits (length s)) (object_of r s) o (object_within r s) e)

  pub next_inside : (i : Item) → next_of r s ≡ ok i → (i.place + 2 ≤ i.at) × (i.at + i.len ≤ length s)
  next_inside i e = omega (arith, all_is (Ends (length s)) (next_of r s) i (next_within r s) e)
