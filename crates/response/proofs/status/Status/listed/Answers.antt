use mathlib.Core.Path.{refl, sym, ap, ◌∙◌}
use native.Mathlib.Omega.{arith}
use Rattle.response.specs.Words.{place_of, place_in, table}
use Rattle.response.specs.declared.words.ListedWord.{ListedWord}
use Rattle.response.proofs.Table.{at_start, found, go_on, not_found}
use Rattle.response.proofs.status.Status.listed.Goals as goal

pub returns-then-entry-word : goal.returns-then-entry-word
unfolding place_of
returns-then-entry-word c =
    let entry = c.listed_at-entry.ensures in
    sym (found _ c.loop-place.place (omega arith) c.loop-place.invariant (sym (ap (λ (r : ListedWord). r.word) entry) ∙ c.if-entry-word.true))
    ∙ ap (place_in table) c.word-word.ensures

pub loop-place-preserved : goal.loop-place-preserved
loop-place-preserved c =
    let entry = c.listed_at-entry.ensures in
    go_on _ c.loop-place.place _ (omega arith) refl c.loop-place.invariant (λ e. c.if-entry-word.false (ap (λ (r : ListedWord). r.word) entry ∙ e))

pub returns : goal.returns
unfolding place_of
returns c =
    sym (not_found _ c.loop-place.place (omega arith) c.loop-place.invariant) ∙ ap (place_in table) c.word-word.ensures

pub loop-place-init : goal.loop-place-init
loop-place-init c = at_start _
