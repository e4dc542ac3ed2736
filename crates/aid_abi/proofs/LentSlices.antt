-- What the answer of `try_new_truncatable` says of a name, and what a copy of a part leaves in the lent slices.
use Prim.Native.Nat.{ℕ, ◌<◌}
use mathlib.Core.Path.{◌≡◌, refl, sym, ap, ◌∙◌}
use mathlib.Core.Bool.{Bool, true, false, cond}
use mathlib.Core.List.{List}
use mathlib.Core.Option.{Option, none, some}
use lib.Dec.{ltb}
use lib.ListN.{length}
use borrow.Author.Tests.{lt-ltb}
use Rattle.basis.specs.Reply.{ok, refused, then}
use Rattle.std.specs.Prelude.{Result, Err}
use Rattle.basis.specs.Refusal.{as_reply, refusal_number}
use Rattle.basis.specs.declared.refusal.Refusal.{Refusal}
use Rattle.aid.specs.Making.{try_new, TryNewTruncatableIs}
use Rattle.aid.specs.Parts.{copy_of}
use Rattle.aid.specs.declared.Aid.{Aid}
use Rattle.aid.specs.declared.TryNew.{TryNew}
use Rattle.aid.specs.declared.part.Part.{Part}
use Rattle.abi.specs.Answers.{too_short}
use Rattle.aid_abi.specs.Numbers.{PartCopied}

-- the answer of `try_new_truncatable`: the name makes that AID, or is refused
module _ (name : List ℕ) (t : ℕ) (r : TryNew) where
  pub name_refused : (k : Refusal) → TryNewTruncatableIs name t r → r.answer ≡ Err k → try_new name t ≡ refused (refusal_number k)
  name_refused k h e = sym h.answered ∙ ap (λ (y : Result (Unit {0}) Refusal). then (as_reply y) (λ u. ok r.aid)) e

short_copy : (y : Option (List ℕ)) (m : ℕ) → too_short (copy_of y m) ≡ refused 16
short_copy none m = refl
short_copy (some l) m = pick (ltb m (length l))
  where
    pick : (b : Bool) → too_short (cond b (refused 16) (ok (some (length l)))) ≡ refused 16
    pick true = refl
    pick false = refl

module _ (p : Part) (a : Aid) (to out : List ℕ) where
  pub no_room : length out < 1 → PartCopied p (ok a) to out 16 to out
  no_room h = record { reply = rw (lt-ltb _ _ h, short_copy); copied = rw (lt-ltb _ _ h); row = rw (lt-ltb _ _ h, short_copy) }
