-- The name of a status, and its copy in a buffer (rule 13.5).
use Prim.Native.Nat.{ℕ, ◌≤◌, ◌<◌}
use mathlib.Core.Path.{◌≡◌, refl, sym, ap, subst, ◌∙◌}
use mathlib.Core.List.{List, []}
use mathlib.Core.Option.{none, some}
use native.Mathlib.Omega.{arith}
use borrow.Author.Tests.{lt-ltb, le-ltb}
use lib.ListN.{length}
use Rattle.std.specs.Prelude.{Result, Ok, Err}
use Rattle.basis.specs.Over.{over}
use Rattle.basis.specs.declared.refusal.Refusal.{Refusal}
use Rattle.basis.specs.declared.refusal.Refusal.TheVariants as refusal
use Rattle.response.specs.Status.{word_of}
use Rattle.response.specs.Words.{listed_at, name_in, place_of, name_at, name_of, NameCopied, NameIs}
use Rattle.response.specs.declared.status.Status.{Status}
use Rattle.response.specs.declared.words.ListedWord.{ListedWord}
use Rattle.response.proofs.Table.{found_there}

-- a name that does not fit, and one that does
module _ (name to : List ℕ) where
  pub too_long : length to < length name → NameCopied name to (Err refusal.DoesNotFit) to
  too_long h = let f = lt-ltb (length to) (length name) h in record { reply = rw f; buffer = rw f }

  pub fits : (n : ℕ) (after : List ℕ) → length name ≤ length to → n ≡ length name → after ≡ over name to → NameCopied name to (Ok n) after
  fits n after h e g = let f = le-ltb (length to) (length name) h in record { reply = rw (f, e); buffer = rw f g }

-- a status that is listed, and one that is not
module _ (t : Status) where
  pub place_inside : (k : ℕ) → place_of t ≡ some k → k < 21
  unfolding place_of
  place_inside k e = (found_there (word_of t) k e).0

  pub no_name : (to : List ℕ) → place_of t ≡ none → NameIs t to (Ok 0) to
  unfolding name_of over
  no_name to e = rw e (fits [] to 0 to (omega arith) refl refl)

  pub named : (k : ℕ) (r : ListedWord) (to : List ℕ) (x : Result ℕ Refusal) (after : List ℕ) → place_of t ≡ some k → r ≡ listed_at k
      → NameCopied (name_in r) to x after → NameIs t to x after
  unfolding name_of
  named k r to x after e f h = subst (λ l. NameCopied l to x after) (ap name_in f ∙ sym (ap name_at e)) h
