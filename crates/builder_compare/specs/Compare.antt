-- A builder compared with a command that was read. Rules 3.10 and 3.11.
use Rattle.std.specs.Prelude.{ℕ, ◌≡◌, Result, Bool, false, cond, List, eqb, length}
use Rattle.basis.specs.Reply.{ok}
use Rattle.basis.specs.Refusal.{as_reply}
use Rattle.basis.specs.declared.refusal.Refusal.{Refusal}
use Rattle.byte_slices.specs.Slices.{same}
use Rattle.command.specs.declared.CommandView.{CommandView}
use Rattle.builder.specs.Builder.{unless_long}
use Rattle.builder.specs.declared.ExpectedLen.{ExpectedLen}
use Rattle.builder.specs.declared.ExpectedLen.TheVariants.{Ne, Max}
use Rattle.builder.specs.declared.CommandBuilder.{CommandBuilder}

-- the expected length as it is compared: not lowered, and Max as 65,535 (rule 3.11)
abbrev pub le_compared : ExpectedLen → ℕ
le_compared (Ne n) = n
le_compared Max = 65535

-- class, instruction, P1 and P2 agree
unfoldable pub same_header : CommandBuilder → CommandView → Bool
same_header b v =
    cond (eqb b.class.cla v.class.cla)
    (cond (eqb b.instruction v.instruction)
    (cond (eqb b.p1 v.p1) (eqb b.p2 v.p2) false) false) false

-- header, Le and data agree: d are the data of the builder, f those of the command (rule 3.10)
unfoldable pub equal_to : CommandBuilder → List ℕ → CommandView → List ℕ → Bool
equal_to b d v f = cond (same_header b v) (cond (eqb (le_compared b.le) v.le) (same d f) false) false

-- the promise of `eq`: 13 for data above 65,535 bytes, else whether they are equal
abbrev pub EqIs : CommandBuilder → List ℕ → CommandView → List ℕ → Result Bool Refusal → Type 0
EqIs b d v f x = as_reply x ≡ unless_long (length d) (ok (equal_to b d v f))
