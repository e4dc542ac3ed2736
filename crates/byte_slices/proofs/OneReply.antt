-- One reply: any two replies that a promise allows are equal (rule 11.1).
use Prim.Native.Nat.{ℕ}
use mathlib.Core.Path.{◌≡◌, ◌∙⁻¹◌}
use mathlib.Core.Bool.{Bool}
use mathlib.Core.List.{List}
use Rattle.byte_slices.specs.Slices.{SameIs, PartIs}

pub same : (s t : List ℕ) (x y : Bool) → SameIs s t x → SameIs s t y → x ≡ y
same s t x y g h = g ∙⁻¹ h

pub part : (s : List ℕ) (at n : ℕ) (x y : List ℕ) → PartIs s at n x → PartIs s at n y → x ≡ y
part s at n x y g h = g ∙⁻¹ h
