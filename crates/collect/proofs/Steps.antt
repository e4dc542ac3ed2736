-- Laws of one response: what its status calls for, and what it comes to. Rules 14.2 to 14.6.
use Prim.Native.Nat.{ℕ, zero, suc, ◌+◌, ◌-◌, ◌≤◌}
use mathlib.Core.Path.{◌≡◌, refl, sym}
use mathlib.Core.List.{List}
use mathlib.Core.Option.{none, some}
use native.Mathlib.Omega.{arith}
use native.Mathlib.Decide.{dec_le}
use borrow.Author.Tests.{eq-eqb, ne_eqb}
use lib.ListN.{length}
use Rattle.basis.specs.Reply.{Reply, ok, refused, then}
use Rattle.basis.proofs.Reply.{refused_not_ok}
use Rattle.builder.specs.declared.ExpectedLen.TheVariants.{Ne}
use Rattle.response.specs.Response.{data_of, append_of, room_after}
use Rattle.response.specs.declared.status.Status.{Status}
use Rattle.response.specs.declared.Response.{Response}
use Rattle.response.proofs.Splitting.{append_22, append_23, append_ok}
use Rattle.collect.specs.Collect.{expected_by, get_response, builder_of, again, next_of, Going, going_by}
use Rattle.collect.specs.Collect.{step_of, step_room}
use Rattle.collect.specs.declared.Sent.{Sent}
use Rattle.collect.specs.declared.Sent.TheVariants.{GetResponse}
use Rattle.collect.specs.declared.Collection.{Collection}

-- xx is the expected length itself, unless it is 00 (rules 14.2 and 14.3)
pub expected_other : (xx : ℕ) → (xx ≡ 0 → ⊥) → Ne xx ≡ expected_by xx
expected_other zero h = absurd (h refl)
expected_other (suc n) h = refl

-- what a status calls for: 61xx, 6Cxx, any other (rules 14.2 to 14.4)
module _ (s : Sent) (t : Status) where
  pub calls_more : t.sw1 ≡ 0x61 → next_of s t ≡ some (GetResponse (get_response (builder_of s).class t.sw2))
  unfolding next_of
  calls_more h = rw (eq-eqb t.sw1 0x61 h)

  pub calls_again : t.sw1 ≡ 0x6C → next_of s t ≡ some (again s t.sw2)
  unfolding next_of
  calls_again h = rw (ne_eqb t.sw1 0x61 (omega arith), eq-eqb t.sw1 0x6C h)

  pub calls_nothing : (t.sw1 ≡ 0x61 → ⊥) → (t.sw1 ≡ 0x6C → ⊥) → next_of s t ≡ none
  unfolding next_of
  calls_nothing h g = rw (ne_eqb t.sw1 0x61 h, ne_eqb t.sw1 0x6C g)

-- the refusals are 22 and 23, so none is below 22
abbrev pub From22 : {A : Type 0} → Reply A → Type 0
From22 (ok a) = Unit {0}
From22 (refused k) = 22 ≤ k

pub from_22 : (c : Collection) (s : List ℕ) (m : ℕ) → From22 (step_of c s m)
unfolding step_of
from_22 c s m =
    elim (dec_le 2 (length s)) [
      | no p ↦ rw (append_22 s c.len m (omega arith)) (omega arith)
      | yes p ↦
          elim (dec_le (c.len + (length s - 2)) m) [
            | no q ↦ rw (append_23 s c.len m p (omega arith)) (omega arith)
            | yes q ↦ rw (append_ok s c.len m p q) tt
          ]
    ]

-- a refusal changes no byte of the room; it has no state, so the caller's stays (rule 14.6)
room_by : (x : Reply Response) (f : Response → Going) (held : ℕ) (d room : List ℕ) (k : ℕ)
    → then x (λ r. ok (f r)) ≡ refused k → room_after x held d room ≡ room
room_by (ok r) f held d room k e = absurd (refused_not_ok k (f r) (sym e))
room_by (refused j) f held d room k e = refl

pub refused_kept : (c : Collection) (s room : List ℕ) (k : ℕ) → step_of c s (length room) ≡ refused k → step_room c s room ≡ room
unfolding step_of step_room
refused_kept c s room k e =
    room_by (append_of s c.len (length room)) (λ r. going_by (next_of c.sent r.status) r) c.len (data_of s) room k e
