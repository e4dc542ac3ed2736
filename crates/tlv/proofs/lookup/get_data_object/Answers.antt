use native.Mathlib.Omega.{arith}
use native.Mathlib.Nat.{sub-zero, add-sub_cancel_left}
use Prim.Native.Nat.{ℕ, ◌+◌, ◌≤◌}
use mathlib.Core.Path.{◌≡◌, sym, ap, ◌∙◌}
use mathlib.Core.List.{List}
use lib.ListN.{length, drop, length-take, length-drop}
use Rattle.basis.specs.Reply.{ok}
use Rattle.tlv.specs.Lookup.{Span, part, between, seek}
use Rattle.tlv.specs.declared.Reading.{Reading}
use Rattle.tlv.proofs.Walk.{seek_inside, follow_refused, follow_next, follow_end}
use Rattle.tlv.proofs.lookup.get_data_object.Goals as goal

-- a value that is found in the part from a to e lies in the record
inside : (r : Reading) (s : List ℕ) (t a e : ℕ) (p : Span) → ok p ≡ seek r t a (part s (between a e)) → a ≤ e → e ≤ length s
    → p.at + p.len ≤ length s
inside r s t a e p h g f =
    let b = part s (between a e) in
    omega (arith, seek_inside r b t a p (sym h), length-take (between a e).len (drop a s), length-drop a s, g, f)

-- before the first tag the part is the whole record, which is what an empty path shows (rule 6.13)
pub loop-matched-init : goal.loop-matched-init
loop-matched-init c = (rw sub-zero, omega arith, omega arith)

pub returns-in-Err : goal.returns-in-Err
returns-in-Err c =
    sym (c.loop-matched.invariant.0 ∙ follow_refused _ _ _ _ _ _ _ c.loop-matched-test.true (sym c.in-Err.ensures))

pub overflow_add-end : goal.overflow_add-end
overflow_add-end c =
    omega (arith, inside _ _ _ _ _ _ c.in-Ok.ensures c.loop-matched.invariant.1 c.loop-matched.invariant.2)

pub loop-matched-preserved : goal.loop-matched-preserved
loop-matched-preserved c = (
  rw add-sub_cancel_left (c.loop-matched.invariant.0 ∙ follow_next _ _ _ _ _ _ _ c.loop-matched-test.true (sym c.in-Ok.ensures)),
  omega arith,
  omega (arith, inside _ _ _ _ _ _ c.in-Ok.ensures c.loop-matched.invariant.1 c.loop-matched.invariant.2),
)

pub returns : goal.returns
returns c =
    let all : length c.args.path.now ≡ c.loop-matched.matched = omega (arith, c.loop-matched-test.false, c.loop-matched.auto.matched-end) in
    ap (λ (m : ℕ). ok (record { at = c.loop-matched.at; len = (between c.loop-matched.at c.loop-matched.end).len; matched = m })) all
    ∙ sym (c.loop-matched.invariant.0 ∙ follow_end _ _ _ _ _ _ c.loop-matched-test.false)
