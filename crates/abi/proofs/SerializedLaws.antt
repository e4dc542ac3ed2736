-- What writing a command leaves in the lent slices, case by case.
use Prim.Native.Nat.{ℕ, ◌+◌, ◌≤◌, ◌<◌}
use mathlib.Core.Path.{◌≡◌, refl, sym, ap, ◌∙◌, subst}
use mathlib.Core.Bool.{Bool, true, false, cond}
use mathlib.Core.List.{List, [], ◌∷◌}
use borrow.Author.Tests.{lt-ltb, le-ltb}
use lib.Dec.{ltb}
use lib.ListN.{length}
use Rattle.std.specs.Prelude.{Result, Ok, Err}
use Rattle.basis.specs.Reply.{Reply, ok, refused}
use Rattle.basis.specs.Refusal.{refusal_number, as_reply}
use Rattle.basis.specs.declared.refusal.Refusal.{Refusal}
use Rattle.basis.specs.Over.{over}
use Rattle.basis.proofs.Reply.{all_is}
use Rattle.abi.specs.Answers.{too_short, RefusalStatusIs}
use Rattle.abi.proofs.AnswerLaws.{refusal_fitted}
use Rattle.builder.specs.Bytes.{command_of, serialize_of, SerializeIntoIs}
use Rattle.builder.specs.declared.CommandBuilder.{CommandBuilder}
use Rattle.abi.specs.Builders.{builder_by_numbers}
use Rattle.abi.proofs.BuilderLaws.{few}
use Rattle.abi.specs.Serialized.{Serialized}

-- 16, whether the command fits the buffer or not
either_way_16 : (w : Bool) (n : ℕ) → too_short (cond w (refused 16) (ok n)) ≡ refused 16
either_way_16 true n = refl
either_way_16 false n = refl

-- if the slice has no place for the length, the reply is 16, for data of at most 65,535 bytes
no_place_for_the_length : (b : CommandBuilder) (d : List ℕ) (m at : ℕ) → length d ≤ 65535 → too_short (serialize_of b d m at) ≡ refused 16
unfolding serialize_of
no_place_for_the_length b d m at h =
    rw (le-ltb 65535 (length d) h) (either_way_16 (ltb m (at + length (command_of b d))) (length (command_of b d)))

-- the builder has replied: it refused; it wrote the command
module _ (b : CommandBuilder) (d : List ℕ) (at : ℕ) (l out : List ℕ) (h : 1 ≤ length out) (y : Result ℕ Refusal) (after : List ℕ)
    (s : SerializeIntoIs b d l at y after) where
  pub write_refused : (k : Refusal) → y ≡ Err k → Serialized (ok b) d at l out (refusal_number k) after out
  write_refused k t =
      let n = le-ltb (length out) 1 h in
      let f : serialize_of b d (length l) at ≡ refused (refusal_number k) = sym s.reply ∙ ap as_reply t in
      record { reply = rw (n, f); bytes = rw n s.buffer; row = rw (n, f) }

  pub done : (k : ℕ) (out' : List ℕ) → y ≡ Ok k → out' ≡ over (k ∷ []) out → Serialized (ok b) d at l out 0 after out'
  done k out' t w =
      let n = le-ltb (length out) 1 h in
      let f : serialize_of b d (length l) at ≡ ok k = sym s.reply ∙ ap as_reply t in
      record { reply = rw (n, f); bytes = rw n s.buffer; row = rw (n, f) w }

-- the code has made o: no builder; a builder, but no place for the length; a builder, and its command was written
module _ (c i p q e m : ℕ) (d : List ℕ) (o : Result CommandBuilder Refusal) (made : as_reply o ≡ builder_by_numbers c i p q e m d) (at : ℕ)
    (l out : List ℕ) where
  abbrev x : Reply CommandBuilder
  x = builder_by_numbers c i p q e m d

  pub not_made : (k : Refusal) (r : ℕ) → o ≡ Err k → RefusalStatusIs (refusal_number k) (length out) 1 r → Serialized x d at l out r l out
  not_made k r g h =
      let f : x ≡ refused (refusal_number k) = sym made ∙ ap as_reply g in
      record { reply = rw (f, refusal_fitted) h; bytes = rw f; row = rw (f, refusal_fitted) }

  module _ (b : CommandBuilder) (g : o ≡ Ok b) where
    x_is : x ≡ ok b
    x_is = sym made ∙ ap as_reply g

    pub out_short : length out < 1 → Serialized x d at l out 16 l out
    out_short h =
        let n = lt-ltb (length out) 1 h in
        let f = no_place_for_the_length b d (length l) at (all_is (λ k. length d ≤ 65535) x b (few c i p q e m d) x_is) in
        record { reply = rw (x_is, n, f); bytes = rw (x_is, n, f); row = rw (x_is, n, f) }

    pub written : (r : ℕ) (after out' : List ℕ) → Serialized (ok b) d at l out r after out' → Serialized x d at l out r after out'
    written r after out' s = subst (λ z. Serialized z d at l out r after out') (sym x_is) s
