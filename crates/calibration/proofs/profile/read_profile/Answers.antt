use borrow.Author.Rules.{rules}
use mathlib.Core.Path.{sym, ap, ◌∙◌}
use native.Mathlib.Omega.{arith}
use Rattle.basis.specs.Number.{number}
use Rattle.calibration.specs.Date.{date_of}
use Rattle.calibration.proofs.Digits.{capacity_said}
use Rattle.calibration.proofs.Form.{Formed, profile_formed}
use Rattle.calibration.proofs.Read.{told_26, told_27, told_fields}
use Rattle.calibration.proofs.profile.read_profile.Goals as goal

pub returns-then-not-is_profile : goal.returns-then-not-is_profile
returns-then-not-is_profile c = told_26 c.args.«record».now (sym c.is_profile.ensures ∙ c.if-not-is_profile.true)

pub returns-in_default : goal.returns-in_default
returns-in_default c =
    told_27 c.args.«record».now (sym c.is_profile.ensures ∙ c.if-not-is_profile.false)
    (sym (c.in_default.ensures ∙ ap date_of c.four_at.ensures))

pub returns : goal.returns
returns c =
    told_fields c.args.«record».now (sym c.is_profile.ensures ∙ c.if-not-is_profile.false) _
    (sym (c.in-Some.ensures ∙ ap date_of c.four_at.ensures)) (omega arith)
    (c.from_be_bytes.ensures ∙ capacity_said _ (search rules) ∙ ap number c.four_at-2.ensures)

pub overflow_sub-serial : goal.overflow_sub-serial
overflow_sub-serial c =
    let formed : Formed c.args.«record».now = profile_formed c.args.«record».now (sym c.is_profile.ensures ∙ c.if-not-is_profile.false) in
    omega (arith, formed.least)

pub four_at-requires : goal.four_at-requires
four_at-requires c =
    let formed : Formed c.args.«record».now = profile_formed c.args.«record».now (sym c.is_profile.ensures ∙ c.if-not-is_profile.false) in
    omega (arith, formed.least)

pub four_at-requires-2 : goal.four_at-requires-2
four_at-requires-2 c =
    let formed : Formed c.args.«record».now = profile_formed c.args.«record».now (sym c.is_profile.ensures ∙ c.if-not-is_profile.false) in
    omega (arith, formed.least)
