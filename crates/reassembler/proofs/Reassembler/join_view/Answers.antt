use borrow.Author.Rules.{rules}
use mathlib.Core.Path.{◌≡◌, sym, ap, ◌∙◌}
use Rattle.std.specs.Prelude.{Err}
use Rattle.reassembler.specs.Join.{or_unchanged}
use Rattle.reassembler.proofs.JoinPromise.{not_continued, not_extended, data_joined}
use Rattle.reassembler.proofs.Reassembler.join_view.Goals as goal

pub returns-then-not-continues : goal.returns-then-not-continues
returns-then-not-continues c =
    let a = c.args in not_continued a.self a.view a.«data».now a.room.now (sym c.continues.ensures ∙ c.if-not-continues.true)

pub returns-in_err-joined : goal.returns-in_err-joined
returns-in_err-joined c =
    let a = c.args in
    let told : c.from_residual.result ≡ Err c.in_err-joined.field-0.0 = search rules in
    not_extended a.self a.view a.«data».now a.room.now _ _ (sym c.continues.ensures ∙ c.if-not-continues.false) _ _
    c.command-before.ensures c.extend_from_command_view-joined.ensures _ c.in_err-joined.was (ap (or_unchanged a.self) told)

pub returns : goal.returns
returns c =
    let a = c.args in
    data_joined a.self a.view a.«data».now a.room.now _ _ (sym c.continues.ensures ∙ c.if-not-continues.false) _ _
    c.command-before.ensures c.extend_from_command_view-joined.ensures c.in_ok-joined.was c.accepted.ensures
