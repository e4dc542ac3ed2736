use mathlib.Core.Path.{refl}
use mathlib.Core.List.{[], ◌∷◌}
use Prim.Native.Nat.{◌+◌}
use Rattle.basis.proofs.Over.{copied_front}
use Rattle.calibration.proofs.put.put_front.Goals as goal

pub returns : goal.returns
returns c = copied_front 4 (0xE1 ∷ (c.args.n + 14) ∷ 0xC1 ∷ c.args.n ∷ []) _ _ c.copy_from_slice.ensures.after refl
