-- Laws of one piece that is joined, for any state: accepted, or refused. Rules 5.2 to 5.7, 1.17, 1.18 and 1.25.
use Prim.Native.Nat.{ℕ, ◌+◌, ◌-◌, ◌*◌, ◌/◌, ◌%◌, ◌≤◌, ◌<◌}
use mathlib.Core.Path.{◌≡◌, refl, sym, ap, ◌∙◌}
use mathlib.Core.Bool.{Bool, true, false}
use mathlib.Core.List.{List}
use mathlib.Core.Option.{none, some}
use native.Mathlib.Omega.{arith}
use borrow.Author.Tests.{eq-eqb, ne_eqb, leb-true, leb-false}
use lib.Dec.{leb}
use lib.ListN.{length}
use Rattle.basis.specs.Reply.{Reply, ok, refused, status}
use Rattle.basis.specs.Over.{over_at}
use Rattle.basis.proofs.Reply.{refused_not_ok}
use Rattle.class.specs.Chain.{chaining_bit, chained}
use Rattle.class.specs.declared.Reading.TheVariants.{Crate}
use Rattle.command.specs.Command.{parse, data_in}
use Rattle.command.specs.Owned.{extend_of}
use Rattle.command.specs.declared.CommandView.{CommandView}
use Rattle.command.proofs.Rooms.{extend_ok, extend_refused}
use Rattle.reassembler.specs.Join.{open_with, closed, continues_open, SameHeader, continues, held_len, extended_in, command_in, length_of, chain_after, answer_of, state_of, Outcome, refused_of, taken_in, parsed_in, join_of}
use Rattle.reassembler.specs.declared.OpenChain.{OpenChain}
use Rattle.reassembler.specs.declared.Reassembler.{Reassembler}
use Rattle.reassembler.proofs.Headers.{continues_same, same_continues}

-- a piece that is parsed and continues the chain
module _ (r : Reassembler) (room s : List ℕ) (v : CommandView) (d : List ℕ) (read : parse Crate s ≡ ok v)
    (part : data_in s (parse Crate s) ≡ d) (c : continues r v ≡ true) where
  by_length : (x : Reply ℕ) → extend_of (held_len r) (length d) (length room) ≡ x → join_of r room s ≡ taken_in r room v d x
  unfolding join_of length_of
  by_length x e = rw (read, sym (ap (data_in s) read) ∙ part, c, e)

  -- 18: the data held and its own exceed the room
  pub step_no_room : length room < held_len r + length d → join_of r room s ≡ record { reply = refused 18; state = r; room = room }
  step_no_room h = by_length (refused 18) (extend_refused (held_len r) (length d) (length room) h)

  -- there is room: more if bit 0x10 is set, else the command
  module _ (room-left : held_len r + length d ≤ length room) where
    accepted : join_of r room s ≡ taken_in r room v d (ok (held_len r + length d))
    accepted = by_length (ok (held_len r + length d)) (extend_ok (held_len r) (length d) (length room) room-left)

    pub step_more : chaining_bit v.class.cla ≡ 1
        → join_of r room s
        ≡ record {
          reply = ok none;
          state =
              open_with (record { class = v.class; instruction = v.instruction; p1 = v.p1; p2 = v.p2; len = held_len r + length d });
          room = over_at (held_len r) d room;
        }
    unfolding answer_of state_of
    step_more h = accepted ∙ rw (eq-eqb (chaining_bit v.class.cla) 1 h)

    pub step_last : chaining_bit v.class.cla ≡ 0
        → join_of r room s
        ≡ record {
          reply =
              ok
              (some
              (record {
                class = v.class;
                instruction = v.instruction;
                p1 = v.p1;
                p2 = v.p2;
                len = held_len r + length d;
                le = v.le;
                extended = extended_in r v;
              }));
          state = closed;
          room = over_at (held_len r) d room;
        }
    unfolding answer_of state_of
    step_last h = accepted ∙ rw (ne_eqb (chaining_bit v.class.cla) 1 (omega arith))

-- a header is the same: class apart from bit 0x10, instruction, P1 and P2, in numbers
pub header_from : (h : OpenChain) (v : CommandView)
    → h.class.cla - 16 * (h.class.cla / 16 % 2) ≡ v.class.cla - 16 * (v.class.cla / 16 % 2) → h.instruction ≡ v.instruction
    → h.p1 ≡ v.p1 → h.p2 ≡ v.p2 → SameHeader h v
header_from h v class instruction p1 p2 = omega arith

-- 17: a piece that is parsed is refused with 17 exactly if a chain is open and the piece has not its header (rule 1.17)
module _ (h : OpenChain) (room s : List ℕ) (v : CommandView) (read : parse Crate s ≡ ok v) where
  not_continued : (x : Bool) → continues_open h v ≡ x → (x ≡ true → ⊥) → join_of (open_with h) room s ≡ refused_of (open_with h) room 17
  unfolding join_of length_of
  not_continued true e f = absurd (f refl)
  not_continued false e f = rw (read, e)

  pub other_header : (SameHeader h v → ⊥) → join_of (open_with h) room s ≡ record { reply = refused 17; state = open_with h; room = room }
  other_header f = not_continued (continues_open h v) refl (λ e. f (continues_same h v e))

  by_room : SameHeader h v → (x : Bool) → leb (h.len + length (data_in s (ok v))) (length room) ≡ x → (join_of (open_with h) room s).reply ≡ refused 17 → ⊥
  by_room t true q e =
      let d = data_in s (ok v) in
      let g = accepted (open_with h) room s v d read (ap (data_in s) read) (same_continues h v t) (leb-true (h.len + length d) (length room) q) in
      refused_not_ok 17 (answer_of v (command_in (open_with h) v (h.len + length d))) (sym e ∙ ap (λ (o : Outcome). o.reply) g)
  by_room t false q e =
      let d = data_in s (ok v) in
      let g = step_no_room (open_with h) room s v d read (ap (data_in s) read) (same_continues h v t) (leb-false (h.len + length d) (length room) q) in
      let k : ◌≡◌ {A = ℕ} 17 18 = ap status (sym e ∙ ap (λ (o : Outcome). o.reply) g) in
      omega arith

  pub same_header : SameHeader h v → (join_of (open_with h) room s).reply ≡ refused 17 → ⊥
  same_header t e = by_room t (leb (h.len + length (data_in s (ok v))) (length room)) refl e

-- the chain after a piece that leaves it open has the header of the pieces before it
pub header_kept : (h : OpenChain) (v : CommandView) (n : ℕ) → SameHeader h v → chaining_bit v.class.cla ≡ 1
    → chain_after v n ≡ record { class = record { cla = chained h.class.cla }; instruction = h.instruction; p1 = h.p1; p2 = h.p2; len = n }
header_kept h v n s b =
    let class : v.class.cla ≡ chained h.class.cla = omega (arith, s.class) in
    λ i. record { class = record { cla = class i }; instruction = sym s.instruction i; p1 = sym s.p1 i; p2 = sym s.p2 i; len = n }

-- a refusal changes neither the state nor the room (rule 1.25)
module _ (r : Reassembler) (room : List ℕ) where
  abbrev Kept : Outcome → ℕ → Type 0
  Kept o k = o.reply ≡ refused k → (o.state ≡ r) × (o.room ≡ room)

  taken_kept : (v : CommandView) (d : List ℕ) (n : Reply ℕ) (k : ℕ) → Kept (taken_in r room v d n) k
  taken_kept v d (ok n) k e = absurd (refused_not_ok k (answer_of v (command_in r v n)) (sym e))
  taken_kept v d (refused j) k e = (refl, refl)

  parsed_kept : (s : List ℕ) (x : Reply CommandView) (k : ℕ) → Kept (parsed_in r room s x) k
  parsed_kept s (ok v) k e = taken_kept v (data_in s (ok v)) (length_of r v (length (data_in s (ok v))) (length room)) k e
  parsed_kept s (refused j) k e = (refl, refl)

  pub refused_kept : (s : List ℕ) (k : ℕ) → (join_of r room s).reply ≡ refused k → ((join_of r room s).state ≡ r) × ((join_of r room s).room ≡ room)
  unfolding join_of
  refused_kept s k e = parsed_kept s (parse Crate s) k e
