-- What a header and a body are read as in each of the cases of ISO/IEC 7816-3 12.1.3, in both readings, and when they
-- are refused with 3, 4 and 5.
use Prim.Native.Nat.{ℕ, ◌+◌, ◌*◌, ◌≤◌}
use mathlib.Core.Path.{◌≡◌, refl, sym, ap, ◌∙◌}
use mathlib.Core.Bool.{Bool, true, false}
use mathlib.Core.List.{List, [], ◌∷◌, ◌++◌}
use native.Mathlib.Omega.{arith}
use borrow.Author.Tests.{ne_eqb, le-ltb}
use lib.ListN.{length, get_or, length-append}
use lib.Seq.{take-length, take-append_seam, get_or_at, get_or-append-add}
use Rattle.basis.specs.Reply.{ok, refused}
use Rattle.class.specs.Class.{from_byte}
use Rattle.class.specs.declared.Reading.{Reading}
use Rattle.command.specs.Body.{lengths, or_most, byte, pair, long_body, extended_body, body_of}
use Rattle.command.specs.Command.{parse, data_in}
use Rattle.command.specs.declared.CommandView.{CommandView}
use Rattle.command.proofs.Lengths.{first_byte_zero, first_byte_other, short_alone, short_with_le, short_other, long_alone, long_with_le, long_other, extended_with_data, readings_agree}

-- the second of two bytes that follow n others
last_byte : (s : List ℕ) (x y n : ℕ) → length s ≡ n → get_or (s ++ (x ∷ y ∷ [])) (n + 1) 0 ≡ y
last_byte s x y n e = rw (sym e) (get_or-append-add s (x ∷ y ∷ []) 1 0)

-- a command as numbers: class byte, instruction, P1, P2, place and length of the data, Le, extended
abbrev pub view_of_numbers : ℕ → ℕ → ℕ → ℕ → ℕ → ℕ → ℕ → Bool → CommandView
view_of_numbers c i p q at n e x =
    record { class = record { cla = c }; instruction = i; p1 = p; p2 = q; at = at; len = n; le = e; extended = x }

-- a command is read as these numbers, with these data
pub record ReadAs (r : Reading) (s : List ℕ) (v : CommandView) (d : List ℕ) : Type 0 where
  pub view : parse r s ≡ ok v
  pub part : data_in s (parse r s) ≡ d

-- the class byte 0xFF is refused with 3, whatever follows (rule 1.3)
pub class_ff : (r : Reading) (i p q : ℕ) (b : List ℕ) → parse r (0xFF ∷ i ∷ p ∷ q ∷ b) ≡ refused 3
unfolding parse from_byte
class_ff r i p q b = rw (le-ltb (length (0xFF ∷ i ∷ p ∷ q ∷ b)) 4 (omega arith))

-- bodies: data after a short Lc, without and with Le; an extended Le; data after an extended Lc, without and with Le
module _ (r : Reading) where
  body_short_data : (n : ℕ) (d : List ℕ) → length d ≡ n → 1 ≤ n → body_of r (n ∷ d) ≡ lengths 1 (length d) 0 false
  body_short_data n d e h =
      first_byte_other r (n ∷ d) (omega arith) (omega arith) ∙ short_alone n (n ∷ d) (omega arith) ∙ rw e

  body_short_data_le : (n : ℕ) (d : List ℕ) (x : ℕ) → length d ≡ n → 1 ≤ n
      → body_of r (n ∷ d ++ (x ∷ [])) ≡ lengths 1 (length d) (or_most 256 x) false
  body_short_data_le n d x e h =
      let s : List ℕ = n ∷ d ++ (x ∷ []) in
      let l : length s ≡ 2 + n = omega (arith, length-append d (x ∷ [])) in
      first_byte_other r s (omega arith) (omega arith) ∙ short_with_le n s l ∙ rw (get_or_at (n ∷ d) x [] 0 (1 + n) (omega arith), e)

  body_extended_le : (h l : ℕ) → body_of r (0 ∷ h ∷ l ∷ []) ≡ lengths 0 0 (or_most 65536 (h * 256 + l)) true
  unfolding extended_body
  body_extended_le h l =
      let s : List ℕ = 0 ∷ h ∷ l ∷ [] in first_byte_zero r s (omega arith) refl ∙ readings_agree r s (λ e. absurd (omega arith))

  module _ (h l : ℕ) (d : List ℕ) (e : length d ≡ h * 256 + l) (m : 1 ≤ length d) where
    -- more than three bytes of which the first is 0: Lc decides
    body_is_long : (s : List ℕ) → 4 ≤ length s → byte s 0 ≡ 0 → pair s 1 ≡ h * 256 + l → body_of r s ≡ long_body (length d) s
    body_is_long s k z g =
        first_byte_zero r s (omega arith) z ∙ readings_agree r s (λ f y. omega arith) ∙ extended_with_data s k ∙ ap (λ (n : ℕ). long_body n s) (g ∙ sym e)

    body_extended_data : body_of r (0 ∷ h ∷ l ∷ d) ≡ lengths 3 (length d) 0 true
    body_extended_data =
        let s : List ℕ = 0 ∷ h ∷ l ∷ d in body_is_long s (omega arith) refl refl ∙ long_alone (length d) s (omega arith)

    body_extended_data_le : (x y : ℕ) → body_of r (0 ∷ h ∷ l ∷ d ++ (x ∷ y ∷ [])) ≡ lengths 3 (length d) (or_most 65536 (x * 256 + y)) true
    body_extended_data_le x y =
        let s : List ℕ = 0 ∷ h ∷ l ∷ d ++ (x ∷ y ∷ []) in
        let k : length s ≡ 5 + length d = omega (arith, length-append d (x ∷ y ∷ [])) in
        let a = get_or_at (0 ∷ h ∷ l ∷ d) x (y ∷ []) 0 (3 + length d) (omega arith) in
        let b = last_byte (0 ∷ h ∷ l ∷ d) x y (3 + length d) (omega arith) in
        body_is_long s (omega arith) refl refl ∙ long_with_le (length d) s k ∙ rw (a, b)

  -- bodies that fit no case: after a short Lc, of a zero byte and one more, after an extended Lc
  body_short_refused : (n : ℕ) (b : List ℕ) → 1 ≤ n → 1 ≤ length b → (length b ≡ n → ⊥) → (length b ≡ n + 1 → ⊥)
      → body_of r (n ∷ b) ≡ refused 4
  body_short_refused n b h m f g =
      first_byte_other r (n ∷ b) (omega arith) (omega arith) ∙ short_other n (n ∷ b) (λ e. f (omega arith)) (λ e. g (omega arith))

  body_two_bytes_refused : (x : ℕ) → body_of r (0 ∷ x ∷ []) ≡ refused 5
  unfolding extended_body
  body_two_bytes_refused x =
      let s : List ℕ = 0 ∷ x ∷ [] in first_byte_zero r s (omega arith) refl ∙ readings_agree r s (λ e. absurd (omega arith))

  body_extended_refused : (h l : ℕ) (b : List ℕ) → 1 ≤ length b → (length b ≡ h * 256 + l → ⊥) → (length b ≡ h * 256 + l + 2 → ⊥)
      → body_of r (0 ∷ h ∷ l ∷ b) ≡ refused 5
  body_extended_refused h l b m f g =
      let s : List ℕ = 0 ∷ h ∷ l ∷ b in
      first_byte_zero r s (omega arith) refl
      ∙ readings_agree r s (λ e y. g (omega arith))
      ∙ extended_with_data s (omega arith)
      ∙ long_other (h * 256 + l) s (λ e. f (omega arith)) (λ e. g (omega arith))

-- the seven cases, under any header whose class byte is not 0xFF
module _ (r : Reading) (c i p q : ℕ) (k : c ≡ 0xFF → ⊥) where
  -- a body that is read: instruction, P1 and P2 are any bytes (rule 2.2)
  header_and_body : (b : List ℕ) (at n e : ℕ) (x : Bool) → body_of r b ≡ lengths at n e x
      → parse r (c ∷ i ∷ p ∷ q ∷ b) ≡ ok (view_of_numbers c i p q (4 + at) n e x)
  unfolding parse from_byte
  header_and_body b at n e x h = rw (le-ltb (length (c ∷ i ∷ p ∷ q ∷ b)) 4 (omega arith), ne_eqb c 0xFF k, h)

  pub no_fields : ReadAs r (c ∷ i ∷ p ∷ q ∷ []) (view_of_numbers c i p q 4 0 0 false) []
  unfolding body_of
  no_fields = let v = header_and_body [] 0 0 0 false refl in record { view = v; part = rw v }

  pub short_le : (e : ℕ) → ReadAs r (c ∷ i ∷ p ∷ q ∷ e ∷ []) (view_of_numbers c i p q 4 0 (or_most 256 e) false) []
  unfolding body_of
  short_le e = let v = header_and_body (e ∷ []) 0 0 (or_most 256 e) false refl in record { view = v; part = rw v }

  pub short_data : (n : ℕ) (d : List ℕ) → length d ≡ n → 1 ≤ n
      → ReadAs r (c ∷ i ∷ p ∷ q ∷ n ∷ d) (view_of_numbers c i p q 5 (length d) 0 false) d
  short_data n d e h =
      let v = header_and_body (n ∷ d) 1 (length d) 0 false (body_short_data r n d e h) in record { view = v; part = rw v (take-length d) }

  pub short_data_le : (n : ℕ) (d : List ℕ) (x : ℕ) → length d ≡ n → 1 ≤ n
      → ReadAs r (c ∷ i ∷ p ∷ q ∷ n ∷ d ++ (x ∷ [])) (view_of_numbers c i p q 5 (length d) (or_most 256 x) false) d
  short_data_le n d x e h =
      let v = header_and_body (n ∷ d ++ (x ∷ [])) 1 (length d) (or_most 256 x) false (body_short_data_le r n d x e h) in
      record { view = v; part = rw v (take-append_seam d (x ∷ [])) }

  pub extended_le : (h l : ℕ) → ReadAs r (c ∷ i ∷ p ∷ q ∷ 0 ∷ h ∷ l ∷ []) (view_of_numbers c i p q 4 0 (or_most 65536 (h * 256 + l)) true) []
  extended_le h l =
      let v = header_and_body (0 ∷ h ∷ l ∷ []) 0 0 (or_most 65536 (h * 256 + l)) true (body_extended_le r h l) in record { view = v; part = rw v }

  module _ (h l : ℕ) (d : List ℕ) (e : length d ≡ h * 256 + l) (m : 1 ≤ length d) where
    pub extended_data : ReadAs r (c ∷ i ∷ p ∷ q ∷ 0 ∷ h ∷ l ∷ d) (view_of_numbers c i p q 7 (length d) 0 true) d
    extended_data =
        let v = header_and_body (0 ∷ h ∷ l ∷ d) 3 (length d) 0 true (body_extended_data r h l d e m) in record { view = v; part = rw v (take-length d) }

    pub extended_data_le : (x y : ℕ)
        → ReadAs r (c ∷ i ∷ p ∷ q ∷ 0 ∷ h ∷ l ∷ d ++ (x ∷ y ∷ [])) (view_of_numbers c i p q 7 (length d) (or_most 65536 (x * 256 + y)) true) d
    extended_data_le x y =
        let v = header_and_body (0 ∷ h ∷ l ∷ d ++ (x ∷ y ∷ [])) 3 (length d) (or_most 65536 (x * 256 + y)) true (body_extended_data_le r h l d e m x y) in
        record { view = v; part = rw v (take-append_seam d (x ∷ y ∷ [])) }

  -- a body that is refused
  header_and_refused_body : (b : List ℕ) (n : ℕ) → body_of r b ≡ refused n → parse r (c ∷ i ∷ p ∷ q ∷ b) ≡ refused n
  unfolding parse from_byte
  header_and_refused_body b n h = rw (le-ltb (length (c ∷ i ∷ p ∷ q ∷ b)) 4 (omega arith), ne_eqb c 0xFF k, h)

  pub short_refused : (n : ℕ) (b : List ℕ) → 1 ≤ n → 1 ≤ length b → (length b ≡ n → ⊥) → (length b ≡ n + 1 → ⊥)
      → parse r (c ∷ i ∷ p ∷ q ∷ n ∷ b) ≡ refused 4
  short_refused n b h m f g = header_and_refused_body (n ∷ b) 4 (body_short_refused r n b h m f g)

  pub two_bytes_refused : (x : ℕ) → parse r (c ∷ i ∷ p ∷ q ∷ 0 ∷ x ∷ []) ≡ refused 5
  two_bytes_refused x = header_and_refused_body (0 ∷ x ∷ []) 5 (body_two_bytes_refused r x)

  pub extended_refused : (h l : ℕ) (b : List ℕ) → 1 ≤ length b → (length b ≡ h * 256 + l → ⊥) → (length b ≡ h * 256 + l + 2 → ⊥)
      → parse r (c ∷ i ∷ p ∷ q ∷ 0 ∷ h ∷ l ∷ b) ≡ refused 5
  extended_refused h l b m f g = header_and_refused_body (0 ∷ h ∷ l ∷ b) 5 (body_extended_refused r h l b m f g)
