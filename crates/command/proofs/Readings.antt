-- On exactly which commands the crate reading and the standard one differ (rule 2.7; docs/DIFFERENCES.md).
use Prim.Native.Nat.{ℕ}
use mathlib.Core.Path.{◌≡◌, sym, ap, ◌∙◌}
use mathlib.Core.Bool.{true}
use mathlib.Core.List.{List}
use native.Mathlib.Omega.{arith}
use native.Nat.{ℕᴺ_discrete}
use borrow.Author.Tests.{eq-eqb, ne_eqb, le-ltb}
use lib.ListN.{length, get_or, drop, length-drop}
use lib.Seq.{get_or-drop}
use Rattle.basis.specs.Differ.{Differ}
use Rattle.basis.specs.Reply.{ok, refused}
use Rattle.basis.proofs.Reply.{refused_not_ok}
use Rattle.class.specs.Class.{from_byte}
use Rattle.class.specs.declared.Reading.TheVariants.{Crate, Standard}
use Rattle.command.specs.Body.{lengths, or_most, byte, pair, long_body, body_of}
use Rattle.command.specs.Command.{view_of, parse, ZeroLc}
use Rattle.command.proofs.Lengths.{first_byte_zero, long_with_le, extended_with_data, standard_zero_lc, standard_as_crate}

-- a body of five bytes that begins with three zeros, in the standard reading and in the crate reading
module _ (s : List ℕ) (l : length s ≡ 5) (z : byte s 0 ≡ 0) (p : pair s 1 ≡ 0) where
  standard_refuses_body : body_of Standard s ≡ refused 21
  standard_refuses_body = first_byte_zero Standard s (omega arith) z ∙ sym (standard_zero_lc s l p)

  crate_reads_le : body_of Crate s ≡ lengths 3 0 (or_most 65536 (pair s 3)) true
  crate_reads_le =
      first_byte_zero Crate s (omega arith) z ∙ extended_with_data s (omega arith) ∙ ap (λ (n : ℕ). long_body n s) p ∙ long_with_le 0 s l

-- any other body is read the same
same_body : (s : List ℕ) → (length s ≡ 5 → byte s 0 ≡ 0 → pair s 1 ≡ 0 → ⊥) → body_of Crate s ≡ body_of Standard s
unfolding body_of
same_body s h =
    elim (ℕᴺ_discrete (byte s 0) 0) [
      | yes z ↦ rw (eq-eqb (byte s 0) 0 z, standard_as_crate s (λ l p. h l z p))
      | no z ↦ rw (ne_eqb (byte s 0) 0 z)
    ]

-- the body of a command with an extended Lc of zero and Le
module _ (s : List ℕ) (h : ZeroLc s) where
  body_of_five : length (drop 4 s) ≡ 5
  body_of_five = simp length-drop (omega arith)

  first_is_zero : byte (drop 4 s) 0 ≡ 0
  first_is_zero = get_or-drop 4 s 0 0 ∙ h.extended

  lc_is_zero : pair (drop 4 s) 1 ≡ 0
  lc_is_zero = omega (arith, get_or-drop 4 s 1 0, get_or-drop 4 s 2 0)

  -- the standard reading refuses it with 21
  pub zero_lc : parse Standard s ≡ refused 21
  unfolding parse from_byte
  zero_lc = rw (le-ltb (length s) 4 (omega arith), ne_eqb (get_or s 0 0) 0xFF h.class, standard_refuses_body (drop 4 s) body_of_five first_is_zero lc_is_zero)

  -- the crate reading finds no data, and Le in the last two bytes
  pub zero_lc_le : parse Crate s
      ≡ ok (view_of (record { cla = get_or s 0 0 }) s (record { offset = 3; lc = 0; le = or_most 65536 (pair s 7); extended = true }))
  unfolding parse from_byte
  zero_lc_le =
      rw (le-ltb (length s) 4 (omega arith), ne_eqb (get_or s 0 0) 0xFF h.class, crate_reads_le (drop 4 s) body_of_five first_is_zero lc_is_zero)
      (rw (get_or-drop 4 s 3 0, get_or-drop 4 s 4 0))

-- the readings differ on these commands and on no others
pub readings_differ : (s : List ℕ) → Differ (ZeroLc s) (parse Crate s) (parse Standard s)
unfolding parse from_byte
readings_differ s =
    record {
      differ = λ h e. refused_not_ok 21 _ (sym (zero_lc s h) ∙ sym e ∙ zero_lc_le s h);
      equal = λ h.
          elim (ℕᴺ_discrete (get_or s 0 0) 0xFF) [
            | yes c ↦ rw (eq-eqb (get_or s 0 0) 0xFF c)
            | no c ↦
                rw (
                  ne_eqb (get_or s 0 0) 0xFF c,
                  same_body (drop 4 s)
                      (λ l z p. h
                      (record {
                        nine = omega (arith, length-drop 4 s);
                        class = c;
                        extended = omega (arith, get_or-drop 4 s 0 0);
                        high = omega (arith, get_or-drop 4 s 1 0);
                        low = omega (arith, get_or-drop 4 s 2 0);
                      })),
                )
          ];
    }
