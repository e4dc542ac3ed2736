-- Without the numbers of request 2 the reply of a lookup is document 01's (rule 15.6).
use Prim.Native.Nat.{ℕ, ◌+◌}
use mathlib.Core.Path.{◌≡◌, refl}
use mathlib.Core.List.{List, [], ◌∷◌}
use lib.Dec.{eqb}
use Rattle.basis.proofs.Reply.{by_reply}
use Rattle.tlv.specs.Object.{Item, Stop}
use Rattle.tlv.specs.Walk.{walk}
use Rattle.tlv.specs.Lookup.{Span, part, whole_record, first_value, seek, follow, lookup}
use Rattle.tlv.specs.declared.Reading.{Reading}
use Rattle.tlv_laws.specs.Plain.{number_only, plain, plain_first, plain_seek, plain_follow, plain_lookup}
use Rattle.tlv_laws.proofs.TruthValues.{by_test}

plain_first_lem : (t : ℕ) (l : List Item) (e : Stop) → number_only (first_value t l e) ≡ plain_first t l e
unfolding first_value plain_first
plain_first_lem t [] e = refl
plain_first_lem t (i ∷ l) e = by_test (eqb i.tag t) (λ g. rw g) (λ g. rw g (plain_first_lem t l e))

plain_seek_lem : (r : Reading) (t a : ℕ) (s : List ℕ) → number_only (seek r t a s) ≡ plain_seek r t a s
unfolding seek
plain_seek_lem r t a s = plain_first_lem t (walk r a s).items (walk r a s).stop

plain_follow_lem : (r : Reading) (s : List ℕ) (m : ℕ) (p : Span) (path : List ℕ) → plain (follow r s m p path) ≡ plain_follow r s p path
unfolding follow plain_follow
plain_follow_lem r s m p [] = refl
plain_follow_lem r s m p (t ∷ path) =
    rw (← plain_seek_lem r t p.at (part s p))
    (by_reply (seek r t p.at (part s p)) (λ q e. rw e (plain_follow_lem r s (m + 1) q path)) (λ k e. rw e))

pub plain_lookup_lem : (r : Reading) (s path : List ℕ) → plain (lookup r s path) ≡ plain_lookup r s path
plain_lookup_lem r s path = plain_follow_lem r s 0 (whole_record s) path
