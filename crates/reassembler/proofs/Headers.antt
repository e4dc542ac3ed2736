-- Whether a piece continues a chain (rule 5.2), and whether it is the last.
use mathlib.Core.Path.{◌≡◌, sym, ◌∙◌}
use mathlib.Core.Bool.{Bool, true}
use borrow.Author.Tests.{eq-eqb, eqb-true}
use lib.Dec.{eqb}
use Rattle.basis.proofs.Truth.{both_true}
use Rattle.class.specs.Chain.{chaining_bit, chained, ChainIs, NotTheLastIs}
use Rattle.class.specs.declared.Class.{Class}
use Rattle.class.specs.declared.chain.Chain.{Chain}
use Rattle.class.proofs.Bits.{not_the_last_bit}
use Rattle.command.specs.declared.CommandView.{CommandView}
use Rattle.reassembler.specs.Join.{same_class, continues_open, SameHeader}
use Rattle.reassembler.specs.declared.OpenChain.{OpenChain}

-- classes that differ in bit 0x10 alone
pub same_class_is : (c d : Class) → chained c.cla ≡ chained d.cla → same_class c d ≡ true
unfolding same_class
same_class_is c d e = eq-eqb (chained c.cla) (chained d.cla) e

same_class_true : (c d : Class) → same_class c d ≡ true → chained c.cla ≡ chained d.cla
unfolding same_class
same_class_true c d e = eqb-true (chained c.cla) (chained d.cla) e

-- a piece continues an open chain exactly if it has its header
pub continues_same : (h : OpenChain) (v : CommandView) → continues_open h v ≡ true → SameHeader h v
unfolding continues_open
continues_same h v e =
    let c = both_true (same_class h.class v.class) _ e in
    let i = both_true (eqb h.instruction v.instruction) _ c.1 in
    let p = both_true (eqb h.p1 v.p1) _ i.1 in
    record {
      class = same_class_true h.class v.class c.0;
      instruction = eqb-true h.instruction v.instruction i.0;
      p1 = eqb-true h.p1 v.p1 p.0;
      p2 = eqb-true h.p2 v.p2 p.1;
    }

pub continues_is : (h : OpenChain) (v : CommandView) → same_class h.class v.class ≡ true → h.instruction ≡ v.instruction
    → h.p1 ≡ v.p1 → h.p2 ≡ v.p2 → continues_open h v ≡ true
unfolding continues_open
continues_is h v class instruction p1 p2 =
    rw (class, eq-eqb h.instruction v.instruction instruction, eq-eqb h.p1 v.p1 p1, eq-eqb h.p2 v.p2 p2)

pub same_continues : (h : OpenChain) (v : CommandView) → SameHeader h v → continues_open h v ≡ true
same_continues h v s = continues_is h v (same_class_is h.class v.class s.class) s.instruction s.p1 s.p2

-- whether the chaining bit is set, from what the class says of it
pub chaining_bit_is : (c : Class) (x : Chain) (y z : Bool) → ChainIs c x → NotTheLastIs x y → y ≡ z → eqb (chaining_bit c.cla) 1 ≡ z
chaining_bit_is c x y z e f g = sym (not_the_last_bit c x y e f) ∙ g
