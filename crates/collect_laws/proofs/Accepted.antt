-- Which responses are accepted, in numbers: these laws fix `accepted`, `joined`, `asks_more` and `end_status`. Rules 14.4
-- to 14.6.
use Prim.Native.Nat.{ℕ, ◌+◌, ◌-◌, ◌≤◌, ◌<◌}
use mathlib.Core.Path.{◌≡◌, refl, sym, ap, ◌∙◌}
use mathlib.Core.Bool.{Bool, true, false, cond}
use mathlib.Core.List.{List, [], ◌∷◌, ◌++◌, append_assoc, append-nil}
use mathlib.Core.Logic.{◌⊎◌, inl, inr}
use mathlib.Core.Option.{none, some}
use native.Mathlib.Omega.{arith}
use borrow.Author.Tests.{le-leb, leb-true, eq-eqb, ne_eqb}
use lib.Dec.{leb}
use lib.ListN.{length, get_or, length-append}
use lib.Seq.{take-append_seam, get_or-append_seam, get_or-append-add}
use Rattle.basis.proofs.Truth.{both_true, on_cond}
use Rattle.response.specs.Response.{data_of, status_of}
use Rattle.response.specs.declared.status.Status.{Status}
use Rattle.response.proofs.Splitting.{data_length}
use Rattle.collect_laws.specs.Accepted.{is_accepted, asks_more, accepted, joined, statuses, end_status, AllAskMore, EndsWith}

-- a response of data, SW1 and SW2 has these data and this status: the theorems speak of the bytes that a card sends
pub data_and_status : (d : List ℕ) (x y : ℕ)
    → let s = d ++ (x ∷ y ∷ []) in (data_of s ≡ d) × (status_of s ≡ record { sw1 = x; sw2 = y })
unfolding data_of status_of
data_and_status d x y =
    let s = d ++ (x ∷ y ∷ []) in
    let size : length s ≡ length d + 2 = length-append d (x ∷ y ∷ []) in
    let first : length s - 2 ≡ length d = omega arith in
    let second : length s - 1 ≡ length d + 1 = omega arith in (
      rw first (take-append_seam d (x ∷ y ∷ [])),
      λ i. record {
        sw1 = (ap (λ n. get_or s n 0) first ∙ get_or-append_seam d x (y ∷ []) 0) i;
        sw2 = (ap (λ n. get_or s n 0) second ∙ get_or-append-add d (x ∷ y ∷ []) 1 0) i;
      },
    )

-- a status asks for more: 61xx, 6Cxx, and no other (rules 14.2 to 14.4)
pub asks_61 : (t : Status) → t.sw1 ≡ 0x61 → asks_more t ≡ true
unfolding asks_more
asks_61 t e = rw (eq-eqb t.sw1 0x61 e)

pub asks_6c : (t : Status) → t.sw1 ≡ 0x6C → asks_more t ≡ true
unfolding asks_more
asks_6c t e = rw (ne_eqb t.sw1 0x61 (omega arith)) (eq-eqb t.sw1 0x6C e)

pub asks_nothing : (t : Status) → (t.sw1 ≡ 0x61 → ⊥) → (t.sw1 ≡ 0x6C → ⊥) → asks_more t ≡ false
unfolding asks_more
asks_nothing t f g = rw (ne_eqb t.sw1 0x61 f) (ne_eqb t.sw1 0x6C g)

-- a response is accepted exactly if it has at least two bytes and its data fit (rule 14.6)
pub accepted_says : (left : ℕ) (s : List ℕ) → is_accepted left s ≡ true → (2 ≤ length s) × (length s - 2 ≤ left)
unfolding is_accepted
accepted_says left s e =
    let d = length (data_of s) in
    let both = both_true (leb 2 (length s)) (leb d left) e in
    (leb-true 2 (length s) both.0, omega (arith, leb-true d left both.1, data_length s))

pub accepted_if : (left : ℕ) (s : List ℕ) → 2 ≤ length s → length s - 2 ≤ left → is_accepted left s ≡ true
unfolding is_accepted
accepted_if left s two fits =
    ap (λ (x : Bool). cond x (leb (length (data_of s)) left) false) (le-leb 2 (length s) two)
    ∙ le-leb (length (data_of s)) left (omega (arith, fits, data_length s))

not_accepted : (left : ℕ) (s : List ℕ) (x : Bool) → is_accepted left s ≡ x → ((2 ≤ length s) × (length s - 2 ≤ left) → ⊥)
    → x ≡ false
not_accepted left s true e h = absurd (h (accepted_says left s e))
not_accepted left s false e h = refl

-- the accepted responses of a list, from its first on: under two bytes, and with data that exceed what is left, it is
-- not accepted; else it is, and those after it if it asks for more (rules 14.4 to 14.6)
module _ (left : ℕ) (s : List ℕ) (ss : List (List ℕ)) where
  left_out : ((2 ≤ length s) × (length s - 2 ≤ left) → ⊥) → accepted left (s ∷ ss) ≡ accepted left ss
  unfolding accepted
  left_out h = rw (not_accepted left s (is_accepted left s) refl h)

  pub short_not : length s < 2 → accepted left (s ∷ ss) ≡ accepted left ss
  short_not h = left_out (λ both. absurd (omega (arith, both.0)))

  pub long_not : left < length s - 2 → accepted left (s ∷ ss) ≡ accepted left ss
  long_not h = left_out (λ both. absurd (omega (arith, both.1)))

  module _ (two : 2 ≤ length s) (fits : length s - 2 ≤ left) where
    pub accepted_more : asks_more (status_of s) ≡ true → accepted left (s ∷ ss) ≡ s ∷ accepted (left - (length s - 2)) ss
    unfolding accepted
    accepted_more f = rw (accepted_if left s two fits, f, data_length s)

    pub accepted_end : asks_more (status_of s) ≡ false → accepted left (s ∷ ss) ≡ s ∷ []
    unfolding accepted
    accepted_end f = rw (accepted_if left s two fits, f)

-- data are joined in order (rule 14.5)
pub joined_one : (s : List ℕ) → joined (s ∷ []) ≡ data_of s
unfolding joined
joined_one s = append-nil (data_of s)

pub joined_append : (ss ts : List (List ℕ)) → joined (ss ++ ts) ≡ joined ss ++ joined ts
unfolding joined
joined_append [] ts = refl
joined_append (s ∷ ss) ts = ap (λ l. data_of s ++ l) (joined_append ss ts) ∙ sym (append_assoc (data_of s) (joined ss) (joined ts))

-- the data of the accepted responses never exceed what is left
pub accepted_fits : (left : ℕ) (ss : List (List ℕ)) → length (joined (accepted left ss)) ≤ left
unfolding accepted joined
accepted_fits left [] = omega arith
accepted_fits left (s ∷ ss) =
    let d = data_of s in
    on_cond (λ l. length (joined l) ≤ left) (is_accepted left s) _ _
    (λ e.
    let fits = (accepted_says left s e).1 in
    let size = data_length s in
    on_cond (λ l. length (d ++ joined l) ≤ left) (asks_more (status_of s)) _ _
    (λ _. omega (arith, fits, size, length-append d (joined (accepted (left - length d) ss)), accepted_fits (left - length d) ss))
    (λ _. omega (arith, fits, size, length-append d [])))
    (λ _. accepted_fits left ss)

-- all of them ask for more, or the last of them is the only one that asks for nothing (rule 14.4)
more_first : (s : List ℕ) (ss : List (List ℕ)) → asks_more (status_of s) ≡ true → AllAskMore ss ⊎ ((l : List ℕ) × EndsWith ss l)
    → AllAskMore (s ∷ ss) ⊎ ((l : List ℕ) × EndsWith (s ∷ ss) l)
more_first s ss e (inl h) = inl (e, h)
more_first s ss e (inr (l, h)) =
    inr (
      l,
      record {
        before = s ∷ h.before;
        last = ap (λ l. s ∷ l) h.last;
        more = (e, h.more);
        nothing = h.nothing;
      },
    )

pub accepted_ends : (left : ℕ) (ss : List (List ℕ)) → AllAskMore (accepted left ss) ⊎ ((s : List ℕ) × EndsWith (accepted left ss) s)
unfolding accepted
accepted_ends left [] = inl tt
accepted_ends left (s ∷ ss) =
    let P : List (List ℕ) → Type 0 = λ l. AllAskMore l ⊎ ((s : List ℕ) × EndsWith l s) in
    on_cond P (is_accepted left s) _ _
    (λ _. on_cond (λ l. P (s ∷ l)) (asks_more (status_of s)) _ _
    (λ e. more_first s (accepted (left - length (data_of s)) ss) e (accepted_ends (left - length (data_of s)) ss))
    (λ e. inr (s, record { before = []; last = refl; more = tt; nothing = e })))
    (λ _. accepted_ends left ss)

-- the status that ends it: none if all ask for more, else that of the one that does not
pub end_none : (ss : List (List ℕ)) → AllAskMore ss → end_status (statuses ss) ≡ none
unfolding end_status
end_none [] h = refl
end_none (s ∷ ss) h = rw h.0 (end_none ss h.1)

end_last : (before : List (List ℕ)) (s : List ℕ) → AllAskMore before → asks_more (status_of s) ≡ false
    → end_status (statuses (before ++ (s ∷ []))) ≡ some (status_of s)
unfolding end_status
end_last [] s h e = rw e
end_last (a ∷ before) s h e = rw h.0 (end_last before s h.1 e)

pub end_some : (ss : List (List ℕ)) (s : List ℕ) → EndsWith ss s → end_status (statuses ss) ≡ some (status_of s)
end_some ss s h = ap (λ l. end_status (statuses l)) h.last ∙ end_last h.before s h.more h.nothing
