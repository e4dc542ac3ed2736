-- One reply (rule 11.1): any two replies that the promise of `eq` allows are equal.
use mathlib.Core.Path.{◌≡◌}
use mathlib.Core.Bool.{Bool}
use mathlib.Core.List.{List}
use Prim.Native.Nat.{ℕ}
use Rattle.std.specs.Prelude.{Result}
use Rattle.basis.specs.declared.refusal.Refusal.{Refusal}
use Rattle.basis.proofs.OneReply.{one_reply}
use Rattle.command.specs.declared.CommandView.{CommandView}
use Rattle.builder.specs.declared.CommandBuilder.{CommandBuilder}
use Rattle.builder_compare.specs.Compare.{EqIs}

pub eq : (b : CommandBuilder) (d : List ℕ) (v : CommandView) (f : List ℕ) (x y : Result Bool Refusal)
    → EqIs b d v f x → EqIs b d v f y → x ≡ y
eq b d v f x y g h = one_reply x y g h
