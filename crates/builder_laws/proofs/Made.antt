-- What `new` replies, and that the command of the builder that it makes is read back. Rules 1.13, 1.22 and 3.2.
use Prim.Native.Nat.{ℕ, ◌≤◌, ◌<◌}
use mathlib.Core.Path.{◌≡◌, refl, sym, ap, ◌∙◌}
use mathlib.Core.List.{List}
use native.Mathlib.Omega.{arith}
use borrow.Author.Tests.{lt-ltb, le-ltb, eq-eqb, ne_eqb, ltb-false, eqb-false}
use lib.Dec.{ltb, eqb}
use lib.ListN.{length}
use Rattle.basis.specs.Reply.{ok, refused}
use Rattle.basis.proofs.Reply.{All, all_is, all_cond, all_then}
use Rattle.class.specs.Class.{from_byte}
use Rattle.class.specs.declared.Class.{Class}
use Rattle.class.specs.declared.Reading.{Reading}
use Rattle.command.proofs.Cases.{ReadAs}
use Rattle.builder.specs.Builder.{new_of}
use Rattle.builder.specs.Bytes.{command_of}
use Rattle.builder.specs.declared.ExpectedLen.{ExpectedLen}
use Rattle.builder.specs.declared.ExtendedLen.{ExtendedLen}
use Rattle.builder.specs.declared.CommandBuilder.{CommandBuilder}
use Rattle.builder_laws.specs.Made.{Made}
use Rattle.builder_laws.specs.Read.{Expected, view_for}
use Rattle.builder_laws.proofs.Read.{built_read}

-- a class that was made of the byte c
abbrev ClassMade : ℕ → Class → Type 0
ClassMade c k = (c ≡ 0xFF → ⊥) × (k ≡ record { cla = c })

class_made : (c : ℕ) → All (ClassMade c) (from_byte c)
unfolding from_byte
class_made c = all_cond (ClassMade c) (eqb c 0xFF) _ _ (λ _. tt) (λ e. (eqb-false c 0xFF e, refl))

-- a builder that was made
module _ (c i p q n : ℕ) (e : ExpectedLen) (m : ExtendedLen) where
  all_made : All (Made c i p q n e m) (new_of c i p q n e m)
  unfolding new_of
  all_made =
      all_then (Made c i p q n e m) (ClassMade c) (from_byte c) _ (class_made c) (λ k h.
      all_cond (Made c i p q n e m) (ltb 65535 n) _ _ (λ _. tt) (λ f. record {
        class = λ z. h.0 (sym (ap (λ (x : Class). x.cla) h.1) ∙ z);
        few = omega (arith, ltb-false 65535 n f);
        fields = rw h.1;
      }))

  pub new_made : (b : CommandBuilder) → new_of c i p q n e m ≡ ok b → Made c i p q n e m b
  new_made b h = all_is (Made c i p q n e m) (new_of c i p q n e m) b all_made h

-- its reply by its arguments: 3, then 13, else the builder
module _ (c i p q n : ℕ) (e : ExpectedLen) (m : ExtendedLen) where
  pub new_ff : c ≡ 0xFF → new_of c i p q n e m ≡ refused 3
  unfolding new_of from_byte
  new_ff k = rw (eq-eqb c 0xFF k)

  module _ (k : c ≡ 0xFF → ⊥) where
    pub new_long : 65535 < n → new_of c i p q n e m ≡ refused 13
    unfolding new_of from_byte
    new_long h = rw (ne_eqb c 0xFF k, lt-ltb 65535 n h)

    pub new_ok : n ≤ 65535
        → new_of c i p q n e m ≡ ok (record { class = record { cla = c }; instruction = i; p1 = p; p2 = q; le = e; mode = m })
    unfolding new_of from_byte
    new_ok h = rw (ne_eqb c 0xFF k, le-ltb 65535 n h)

-- the command of a builder that was made is read back, with the data that it was made for
pub made_read : (r : Reading) (c i p q : ℕ) (d : List ℕ) (e : ExpectedLen) (m : ExtendedLen) (b : CommandBuilder)
    → new_of c i p q (length d) e m ≡ ok b → Expected e → ReadAs r (command_of b d) (view_for b (length d)) d
made_read r c i p q d e m b h l =
    let made = new_made c i p q (length d) e m b h in
    let le : b.le ≡ e = ap (λ (x : CommandBuilder). x.le) made.fields in
    built_read r b d made.class (rw le l) made.few
