-- A response split, and its data appended: when they are refused, and what they leave in the room. Rules 1.28, 1.29,
-- 13.1 and 13.6.
use Prim.Native.Nat.{ℕ, zero, suc, ◌+◌, ◌-◌, ◌≤◌, ◌<◌}
use mathlib.Core.Path.{◌≡◌, refl, sym, ap, ◌∙◌}
use mathlib.Core.List.{List, [], ◌∷◌, ◌++◌}
use borrow.Author.Tests.{lt-ltb, le-ltb}
use native.Mathlib.Omega.{arith}
use lib.Dec.{ltb}
use lib.ListN.{length, take, get_or, length-take}
use Rattle.basis.specs.Reply.{ok, refused}
use Rattle.std.specs.Prelude.{Result, Ok, Err}
use Rattle.basis.specs.Refusal.{refusal_number}
use Rattle.basis.specs.declared.refusal.Refusal.{Refusal}
use Rattle.basis.specs.declared.refusal.Refusal.TheVariants as refusal
use Rattle.basis.specs.Over.{over_at}
use Rattle.basis.proofs.Reply.{all_is, all_cond}
use Rattle.response.specs.Response.{data_of, status_of, split_of, held_of, append_of, room_after, Holds, AppendIs}
use Rattle.response.specs.declared.status.Status.{Status}
use Rattle.response.specs.declared.Response.{Response}

-- under two bytes there is no response: 22, and no data
pub too_short : (s : List ℕ) → length s < 2 → split_of s ≡ refused 22
unfolding split_of
too_short s h = rw (lt-ltb (length s) 2 h)

pub no_data : (s : List ℕ) → length s < 2 → data_of s ≡ []
unfolding data_of
no_data s h = let e : length s - 2 ≡ 0 = omega arith in rw e

-- from two bytes on there is one
pub long_enough : (s : List ℕ) → 2 ≤ length s → split_of s ≡ ok (record { len = length s - 2; status = status_of s })
unfolding split_of
long_enough s h = rw (le-ltb (length s) 2 h)

-- how many bytes of data it has
pub data_length : (s : List ℕ) → length (data_of s) ≡ length s - 2
unfolding data_of
data_length s = omega (arith, length-take (length s - 2) s)

split_len : (s : List ℕ) (r : Response) → split_of s ≡ ok r → r.len ≡ length (data_of s)
unfolding split_of
split_len s r e =
    let P : Response → Type 0 = λ r. r.len ≡ length (data_of s) in
    all_is P (split_of s) r (all_cond P (ltb (length s) 2) _ _ (λ _. tt) (λ _. sym (data_length s))) e

last_two : (n : ℕ) (s : List ℕ) → length s ≡ suc (suc n) → take n s ++ (get_or s n 0 ∷ get_or s (suc n) 0 ∷ []) ≡ s
last_two zero [] e = absurd (omega arith)
last_two zero (a ∷ []) e = absurd (omega arith)
last_two zero (a ∷ b ∷ []) e = refl
last_two zero (a ∷ b ∷ c ∷ s) e = absurd (omega arith)
last_two (suc n) [] e = absurd (omega arith)
last_two (suc n) (a ∷ s) e = ap (λ l. a ∷ l) (last_two n s (omega arith))

-- data, SW1 and SW2 joined are the response (rule 13.1)
pub split_joined : (s : List ℕ) → 2 ≤ length s → data_of s ++ ((status_of s).sw1 ∷ (status_of s).sw2 ∷ []) ≡ s
unfolding data_of status_of
split_joined s h =
    let one : length s - 1 ≡ suc (length s - 2) = omega arith in
    rw one (last_two (length s - 2) s (omega arith))

-- when an append is refused, in numbers: 22 under two bytes, 23 if the data do not fit; else they are held (rule 13.6)
pub append_22 : (s : List ℕ) (held m : ℕ) → length s < 2 → append_of s held m ≡ refused 22
unfolding append_of
append_22 s held m h = rw (too_short s h)

pub append_23 : (s : List ℕ) (held m : ℕ) → 2 ≤ length s → m < held + (length s - 2) → append_of s held m ≡ refused 23
unfolding append_of held_of
append_23 s held m h g = rw (long_enough s h, lt-ltb m (held + (length s - 2)) g)

pub append_ok : (s : List ℕ) (held m : ℕ) → 2 ≤ length s → held + (length s - 2) ≤ m
    → append_of s held m ≡ ok (record { len = held + (length s - 2); status = status_of s })
unfolding append_of held_of
append_ok s held m h g = rw (long_enough s h, le-ltb m (held + (length s - 2)) g)

-- a refused append changes no byte of the room (rule 1.25)
pub refused_kept : (s : List ℕ) (held : ℕ) (room : List ℕ) (k : ℕ) → append_of s held (length room) ≡ refused k
    → room_after (append_of s held (length room)) held (data_of s) room ≡ room
refused_kept s held room k e = rw e

-- data put behind those held: they do not fit, or they do (rule 13.6)
module _ (t : Status) (d : List ℕ) (held : ℕ) (room : List ℕ) where
  pub no_room : length room < held + length d → Holds t d held room (Err refusal.ResponseRoomExceeded) room
  unfolding held_of
  no_room h = let f = lt-ltb (length room) (held + length d) h in record { reply = rw f; buffer = rw f }

  pub put_behind : (n : ℕ) (after : List ℕ) → n ≡ held + length d → n ≤ length room → after ≡ over_at held d room
      → Holds t d held room (Ok (record { len = n; status = t })) after
  unfolding held_of
  put_behind n after e h g =
      let f = le-ltb (length room) (held + length d) (omega arith) in record { reply = rw (f, e); buffer = rw f g }

-- an append: the response is refused, or its data are put behind those held
module _ (s : List ℕ) (held : ℕ) (room : List ℕ) where
  pub unread : (k : Refusal) → split_of s ≡ refused (refusal_number k) → AppendIs s held room (Err k) room
  unfolding append_of
  unread k e = record { reply = rw e; buffer = rw e }

  pub appended : (r : Response) (d : List ℕ) (x : Result Response Refusal) (after : List ℕ) → split_of s ≡ ok r → d ≡ data_of s
      → Holds r.status d held room x after → AppendIs s held room x after
  unfolding append_of
  appended r d x after e f h =
      let q : r ≡ record { len = length d; status = r.status } =
      λ i. record { len = (split_len s r e ∙ sym (ap length f)) i; status = r.status } in
      let same : split_of s ≡ ok (record { len = length d; status = r.status }) = e ∙ ap ok q in
      record { reply = rw same h.reply; buffer = rw (same, ← f) h.buffer }
