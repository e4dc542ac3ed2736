-- When a command is refused, what it is read as, and where its data lie.
use Prim.Native.Nat.{ℕ, ◌+◌, ◌-◌, ◌≤◌, ◌<◌}
use mathlib.Core.Path.{◌≡◌}
use mathlib.Core.List.{List}
use native.Mathlib.Omega.{arith}
use native.Mathlib.Nat.{add-sub_cancel_left}
use borrow.Author.Tests.{lt-ltb, ltb-false}
use lib.Dec.{ltb}
use lib.ListN.{length, get_or, take, drop, length-drop}
use Rattle.basis.specs.Reply.{ok, refused}
use Rattle.basis.proofs.Reply.{All, all_is, all_cond, all_then, all_every}
use Rattle.basis.proofs.Over.{rest_is}
use Rattle.class.specs.Class.{from_byte}
use Rattle.class.specs.declared.Class.{Class}
use Rattle.class.specs.declared.Reading.{Reading}
use Rattle.command.specs.Body.{body_of}
use Rattle.command.specs.Command.{view_of, parse_body, parse, data_in, Measured}
use Rattle.command.specs.declared.CommandView.{CommandView}
use Rattle.command.specs.declared.body.ParsedLengths.{ParsedLengths}
use Rattle.command.proofs.Lengths.{Sized, sized}

-- a command by its length, its class byte and its body
module _ (r : Reading) (s : List ℕ) where
  pub too_short : length s < 4 → refused 1 ≡ parse r s
  unfolding parse
  too_short l = rw (lt-ltb (length s) 4 l)

  pub body_accepted : (c : Class) (b : ParsedLengths) → body_of r (take (length s - 4) (drop 4 s)) ≡ ok b → ok (view_of c s b) ≡ parse_body r s c
  body_accepted c b e = rw (rw rest_is at e)

  -- the data start inside the command
  pub data_start_inside : (b : ParsedLengths) → 4 ≤ length s → body_of r (take (length s - 4) (drop 4 s)) ≡ ok b → 4 + b.offset ≤ length s
  data_start_inside b l e =
      let m = all_is (Sized (drop 4 s)) (body_of r (drop 4 s)) b (sized r (drop 4 s)) (rw rest_is at e) (record { cla = 0 }) s in
      omega (arith, length-drop 4 s)

-- whatever is read has the length of its fields
all_measured : (r : Reading) (s : List ℕ) → All (Measured (length s)) (parse r s)
unfolding parse
all_measured r s =
    all_cond (Measured (length s)) (ltb (length s) 4) _ _ (λ e. tt)
    (λ e.
    all_then (Measured (length s)) (λ c. Unit {0}) (from_byte (get_or s 0 0)) _ (all_every (λ c. Unit {0}) (from_byte (get_or s 0 0)) (λ c. tt))
    (λ c u.
    all_then (Measured (length s)) (Sized (drop 4 s)) (body_of r (drop 4 s)) _ (sized r (drop 4 s))
    (λ b h.
    let n : 4 + length (drop 4 s) ≡ length s = omega (arith, length-drop 4 s, ltb-false (length s) 4 e) in
    rw n at (h c s))))

-- the length of a command is four plus the bytes of Lc, data and Le (rule 11.9)
pub measured : (r : Reading) (s : List ℕ) (v : CommandView) → parse r s ≡ ok v → Measured (length s) v
measured r s v e = all_is (Measured (length s)) (parse r s) v (all_measured r s) e

-- the data of a command are a part of its bytes, after the header
pub record Within (s : List ℕ) (v : CommandView) : Type 0 where
  pub after_header : 4 ≤ v.at
  pub inside : v.at + v.len ≤ length s

pub within : (r : Reading) (s : List ℕ) (v : CommandView) → parse r s ≡ ok v → Within s v
within r s v e = let m = measured r s v e in record { after_header = omega arith; inside = omega arith }

-- the part from their place to their end is the data
pub part_is_data : (r : Reading) (s : List ℕ) (v : CommandView) → parse r s ≡ ok v
    → take (v.at + v.len - v.at) (drop v.at s) ≡ data_in s (parse r s)
part_is_data r s v e = rw (e, add-sub_cancel_left)
