-- How large the printed numbers are: an expected length is at most 65,536, and the number of a refusal is below 256.
use Prim.Native.Nat.{ℕ, zero, suc, ◌+◌, ◌-◌, ◌≤◌, ◌<◌}
use mathlib.Core.Path.{◌≡◌, subst}
use mathlib.Core.Bool.{Bool, true, false, cond}
use mathlib.Core.List.{List}
use native.Mathlib.Omega.{arith}
use lib.Dec.{ltb, leb, eqb}
use lib.ListN.{length, get_or, drop}
use lib.Seq.{get_or-drop}
use Rattle.basis.specs.Reply.{Reply, ok, refused, then}
use Rattle.basis.specs.Number.{Bytes}
use Rattle.basis.proofs.Reply.{All, all_is, all_cond, all_then, all_every}
use Rattle.class.specs.Class.{from_byte}
use Rattle.class.specs.declared.Reading.TheVariants as class_reading
use Rattle.command.specs.Body.{or_most, byte, pair, short_body, long_body, extended_body, body_of}
use Rattle.command.specs.Command.{parse}
use Rattle.command.specs.declared.CommandView.{CommandView}
use Rattle.command.specs.declared.body.ParsedLengths.{ParsedLengths}
use Rattle.tlv.specs.Tag.{tag_of}
use Rattle.tlv.specs.Len.{len_of}
use Rattle.tlv.specs.Object.{object_of}
use Rattle.tlv.specs.declared.Reading.TheVariants as tlv_reading
use Rattle.tlv.proofs.Tags.{by_tag}
use Rattle.tlv.proofs.Lengths.{by_length}

-- the expected length of a command
most : (m n : ℕ) → n ≤ m → or_most m n ≤ m
most m zero h = omega arith
most m (suc n) h = h

abbrev Few : ParsedLengths → Type 0
Few b = b.le ≤ 65536

module _ (s : List ℕ) (small : Bytes s) where
  one_byte : (i : ℕ) → or_most 256 (byte s i) ≤ 65536
  one_byte i = omega (arith, most 256 (byte s i) (omega (arith, small i)))

  two_bytes : (i : ℕ) → or_most 65536 (pair s i) ≤ 65536
  two_bytes i = most 65536 (pair s i) (omega (arith, small i, small (i + 1)))

  short_few : (n : ℕ) → All Few (short_body n s)
  unfolding short_body
  short_few n =
      all_cond Few (eqb (length s) (1 + n)) _ _ (λ _. omega arith)
      (λ _. all_cond Few (eqb (length s) (2 + n)) _ _ (λ _. one_byte (1 + n)) (λ _. tt))

  long_few : (n : ℕ) → All Few (long_body n s)
  unfolding long_body
  long_few n =
      all_cond Few (eqb (length s) (3 + n)) _ _ (λ _. omega arith)
      (λ _. all_cond Few (eqb (length s) (5 + n)) _ _ (λ _. two_bytes (3 + n)) (λ _. tt))

  body_few : All Few (body_of class_reading.Crate s)
  unfolding body_of extended_body
  body_few =
      all_cond Few (eqb (length s) 0) _ _ (λ _. omega arith)
      (λ _. all_cond Few (eqb (length s) 1) _ _ (λ _. one_byte 0)
      (λ _. all_cond Few (eqb (byte s 0) 0) _ _
      (λ _. all_cond Few (eqb (length s) 2) _ _ (λ _. tt)
      (λ _. all_cond Few (eqb (length s) 3) _ _ (λ _. two_bytes 1) (λ _. long_few (pair s 1))))
      (λ _. short_few (byte s 0))))

all_few : (s : List ℕ) → Bytes s → All (λ v. v.le ≤ 65536) (parse class_reading.Crate s)
unfolding parse
all_few s small =
    let P : CommandView → Type 0 = λ v. v.le ≤ 65536 in
    let body : Bytes (drop 4 s) = λ i. omega (arith, small (4 + i), get_or-drop 4 s i 0) in
    all_cond P (ltb (length s) 4) _ _ (λ _. tt)
    (λ _. all_then P (λ c. Unit {0}) (from_byte (get_or s 0 0)) _ (all_every (λ c. Unit {0}) (from_byte (get_or s 0 0)) (λ c. tt))
    (λ c u. all_then P Few (body_of class_reading.Crate (drop 4 s)) _ (body_few (drop 4 s) body) (λ b h. h)))

pub le_few : (s : List ℕ) → Bytes s → (v : CommandView) → parse class_reading.Crate s ≡ ok v → v.le ≤ 65536
le_few s small v e = all_is (λ x. x.le ≤ 65536) (parse class_reading.Crate s) v (all_few s small) e

-- the number of a refusal
abbrev Small : {A : Type 0} → Reply A → Type 0
Small (ok a) = Unit {0}
Small (refused k) = k < 256

small_cond : {A : Type 0} (t : Bool) (x y : Reply A) → Small x → Small y → Small (cond t x y)
small_cond true x y h g = h
small_cond false x y h g = g

small_then : {A B : Type 0} (x : Reply A) (f : A → Reply B) → Small x → ((a : A) → Small (f a)) → Small (then x f)
small_then (ok a) f h g = g a
small_then (refused k) f h g = h

small_refusal : {A : Type 0} (x : Reply A) (k : ℕ) → Small x → x ≡ refused k → k < 256
small_refusal x k h e = subst Small e h

short_small : (n : ℕ) (s : List ℕ) → Small (short_body n s)
unfolding short_body
short_small n s = small_cond (eqb (length s) (1 + n)) _ _ tt (small_cond (eqb (length s) (2 + n)) _ _ tt (omega arith))

long_small : (n : ℕ) (s : List ℕ) → Small (long_body n s)
unfolding long_body
long_small n s = small_cond (eqb (length s) (3 + n)) _ _ tt (small_cond (eqb (length s) (5 + n)) _ _ tt (omega arith))

body_small : (s : List ℕ) → Small (body_of class_reading.Crate s)
unfolding body_of extended_body
body_small s =
    small_cond (eqb (length s) 0) _ _ tt
    (small_cond (eqb (length s) 1) _ _ tt
    (small_cond (eqb (byte s 0) 0) _ _
    (small_cond (eqb (length s) 2) _ _ (omega arith) (small_cond (eqb (length s) 3) _ _ tt (long_small (pair s 1) s)))
    (short_small (byte s 0) s)))

parse_small : (s : List ℕ) → Small (parse class_reading.Crate s)
unfolding parse from_byte
parse_small s =
    small_cond (ltb (length s) 4) _ _ (omega arith)
    (small_then (cond (eqb (get_or s 0 0) 0xFF) (refused 3) (ok (record { cla = get_or s 0 0 }))) _ (small_cond (eqb (get_or s 0 0) 0xFF) _ _ (omega arith) tt)
    (λ c. small_then (body_of class_reading.Crate (drop 4 s)) _ (body_small (drop 4 s)) (λ b. tt)))

tag_small : (s : List ℕ) → Small (tag_of tlv_reading.Crate s)
tag_small s = by_tag tlv_reading.Crate s Small (λ _. omega arith) (λ _. omega arith) (λ _ _. tt) (λ _ _ _. tt) (λ _ _ _ _ _. tt)

len_small : (s : List ℕ) → Small (len_of tlv_reading.Crate s)
len_small s = by_length s tlv_reading.Crate Small (omega arith) (λ _ _. tt) (λ _ _. tt) (λ _ _. tt)

object_small : (s : List ℕ) → Small (object_of tlv_reading.Crate s)
unfolding object_of
object_small s =
    small_then (tag_of tlv_reading.Crate s) _ (tag_small s)
    (λ t. small_then (len_of tlv_reading.Crate (drop t.size s)) _ (len_small (drop t.size s))
    (λ l. small_cond (leb l.number (length s - (t.size + l.size))) _ _ tt (omega arith)))

pub command_refusal_small : (s : List ℕ) (k : ℕ) → parse class_reading.Crate s ≡ refused k → k < 256
command_refusal_small s k e = small_refusal (parse class_reading.Crate s) k (parse_small s) e

pub object_refusal_small : (s : List ℕ) (k : ℕ) → object_of tlv_reading.Crate s ≡ refused k → k < 256
object_refusal_small s k e = small_refusal (object_of tlv_reading.Crate s) k (object_small s) e
