-- One reply: any two replies, and contents of the lent buffer, that a promise allows are equal (rule 11.1).
use Prim.Native.Nat.{ℕ, zero, suc}
use mathlib.Core.Path.{◌≡◌, refl, ap, ◌∙⁻¹◌}
use mathlib.Core.Bool.{Bool}
use mathlib.Core.List.{List}
use Rattle.basis.specs.Reply.{ok, then}
use Rattle.basis.specs.Refusal.{refusal_number, as_reply}
use Rattle.basis.specs.declared.refusal.Refusal.{Refusal}
use Rattle.basis.proofs.Reply.{apart}
use Rattle.basis.proofs.OneReply.{refusal_back, number_there_and_back, one_option}
use Rattle.std.specs.Prelude.{Option, Some, None, Result, Ok, Err}
use Rattle.aid.specs.Making.{TryNewIs, TryNewTruncatableIs}
use Rattle.aid.specs.Category.{international, national, standard, proprietary, category_as_number, CategoryIs, IsInIs}
use Rattle.aid.specs.Parts.{copied_as_reply, PartLenIs, CopyPartIs}
use Rattle.aid.specs.Matches.{MatchesIs}
use Rattle.aid.specs.declared.Aid.{Aid}
use Rattle.aid.specs.declared.TryNew.{TryNew}
use Rattle.aid.specs.declared.category.Category.{Category}
use Rattle.aid.specs.declared.category.Category.TheVariants as categories
use Rattle.aid.specs.declared.part.Part.{Part}

-- answers with the same reply are equal
same_number : (j k : Refusal) → refusal_number j ≡ refusal_number k → j ≡ k
same_number j k e = apart refusal_number refusal_back number_there_and_back j k e

same_answer : (a b : Result (Unit {0}) Refusal) (x y : Aid) → then (as_reply a) (λ u. ok x) ≡ then (as_reply b) (λ u. ok y) → a ≡ b
same_answer (Ok u) (Ok v) x y e = refl
same_answer (Ok u) (Err k) x y e = cc
same_answer (Err k) (Ok u) x y e = cc
same_answer (Err j) (Err k) x y e = ap (λ (k : Refusal). Err k) (same_number j k cc)

-- the way back from a number to the category, and that it leads back to the same category
abbrev category_back : ℕ → Category
category_back zero = categories.International
category_back (suc zero) = categories.National
category_back (suc (suc zero)) = categories.Standard
category_back (suc (suc (suc zero))) = categories.Proprietary
category_back (suc (suc (suc (suc n)))) = categories.Other

category_there_and_back : (x : Category) → category_back (category_as_number x) ≡ x
category_there_and_back categories.International = refl
category_there_and_back categories.National = refl
category_there_and_back categories.Standard = refl
category_there_and_back categories.Proprietary = refl
category_there_and_back categories.Other = refl

same_copied : (a b : Result (Option ℕ) Refusal) → copied_as_reply a ≡ copied_as_reply b → a ≡ b
same_copied (Ok (Some n)) (Ok (Some m)) e = cc
same_copied (Ok (Some n)) (Ok None) e = cc
same_copied (Ok (Some n)) (Err k) e = cc
same_copied (Ok None) (Ok (Some m)) e = cc
same_copied (Ok None) (Ok None) e = refl
same_copied (Ok None) (Err k) e = cc
same_copied (Err k) (Ok (Some m)) e = cc
same_copied (Err k) (Ok None) e = cc
same_copied (Err j) (Err k) e = ap (λ (k : Refusal). Err k) (same_number j k cc)

pub try_new_truncatable : (name : List ℕ) (t : ℕ) (r s : TryNew)
    → TryNewTruncatableIs name t r → TryNewTruncatableIs name t s → r ≡ s
try_new_truncatable name t r s p q =
    let answers : r.answer ≡ s.answer = same_answer _ _ r.aid s.aid (p.answered ∙⁻¹ q.answered) in
    let aids : r.aid ≡ s.aid = p.from_name ∙⁻¹ q.from_name in
    λ i. record { answer = answers i; aid = aids i }

pub try_new : (name : List ℕ) (r s : TryNew) → TryNewIs name r → TryNewIs name s → r ≡ s
try_new name r s p q = try_new_truncatable _ _ r s p q

pub category : (a : Aid) (r s : Category) → CategoryIs a r → CategoryIs a s → r ≡ s
category a r s p q = apart category_as_number category_back category_there_and_back r s (p ∙⁻¹ q)

is_in : (k : ℕ) (a : Aid) (r s : Bool) → IsInIs k a r → IsInIs k a s → r ≡ s
is_in k a r s p q = p ∙⁻¹ q

pub is_international : (a : Aid) (r s : Bool) → IsInIs international a r → IsInIs international a s → r ≡ s
is_international = is_in international

pub is_national : (a : Aid) (r s : Bool) → IsInIs national a r → IsInIs national a s → r ≡ s
is_national = is_in national

pub is_standard : (a : Aid) (r s : Bool) → IsInIs standard a r → IsInIs standard a s → r ≡ s
is_standard = is_in standard

pub is_proprietary : (a : Aid) (r s : Bool) → IsInIs proprietary a r → IsInIs proprietary a s → r ≡ s
is_proprietary = is_in proprietary

pub part_len : (p : Part) (a : Aid) (r s : Option ℕ) → PartLenIs p a r → PartLenIs p a s → r ≡ s
part_len p a r s x y = one_option r s x y

pub copy_part : (p : Part) (a : Aid) (to : List ℕ) (r s : Result (Option ℕ) Refusal) (after after' : List ℕ)
    → CopyPartIs p a to r after → CopyPartIs p a to s after' → (r ≡ s) × (after ≡ after')
copy_part p a to r s after after' x y = (same_copied r s (x.reply ∙⁻¹ y.reply), x.buffer ∙⁻¹ y.buffer)

pub matches : (a : Aid) (name : List ℕ) (r s : Bool) → MatchesIs a name r → MatchesIs a name s → r ≡ s
matches a name r s p q = p ∙⁻¹ q
