-- The pieces of one command, in every mode, sent through a reassembler. No chain is open, or earlier pieces of this
-- command are held. Every reply but the last is "more", and the last one is the command.
use Prim.Native.Nat.{ℕ, zero, suc, ◌+◌, ◌-◌, ◌/◌, ◌%◌, ◌≤◌, ◌<◌}
use mathlib.Core.Path.{◌≡◌, refl, sym, ap, ◌∙◌}
use mathlib.Core.Bool.{Bool, true, false, cond}
use mathlib.Core.List.{List, [], ◌∷◌, ◌++◌, map}
use mathlib.Core.Logic.{◌≢◌}
use mathlib.Core.Option.{Option, none, some}
use native.Mathlib.Omega.{arith}
use native.Mathlib.Nat.{zero-add}
use borrow.Author.Tests.{lt-ltb}
use lib.Dec.{ltb}
use lib.ListN.{length, take, drop, replicate, take-append-drop, length-take, length-drop, length-map}
use lib.Seq.{take-append_seam}
use Rattle.basis.specs.Reply.{Reply, ok}
use Rattle.basis.specs.Over.{over, over_at}
use Rattle.basis.proofs.Over.{length_over_at, over_at_twice, over_at_zero}
use Rattle.class.specs.Chain.{chaining_bit, chained}
use Rattle.class.specs.declared.Reading.TheVariants.{Crate}
use Rattle.command.specs.declared.CommandView.{CommandView}
use Rattle.command.proofs.Cases.{ReadAs}
use Rattle.builder.specs.Bytes.{lowered_of, le_written, command_of}
use Rattle.builder.specs.declared.CommandBuilder.{CommandBuilder}
use Rattle.builder.specs.declared.ExpectedLen.{ExpectedLen}
use Rattle.builder.specs.declared.ExpectedLen.TheVariants.{Ne, Max}
use Rattle.builder_laws.specs.Read.{Expected, extended_for, view_for}
use Rattle.builder_laws.proofs.Read.{built_read}
use Rattle.builder_laws.proofs.LeWritten.{lowered_expected, lowered_written}
use Rattle.splitter.specs.Step.{most_data, first_of}
use Rattle.splitter.specs.Pieces.{Part, parts, piece_of, pieces_of}
use Rattle.splitter_laws.proofs.Cut.{room_is, cut}
use Rattle.reassembler.specs.Join.{closed, open_with, continues, held_len, extended_in, chain_after, join_of}
use Rattle.reassembler.specs.declared.Reassembler.{Reassembler}
use Rattle.reassembler.proofs.Headers.{same_class_is, continues_is}
use Rattle.reassembler.proofs.Steps.{step_more, step_last}
use Rattle.roundtrip_laws.specs.Run.{CommandBack, Run, reply_then, run}
use Rattle.roundtrip_laws.proofs.Runs.{run_none, run_first}

-- a builder whose pieces are parsed: class with bit 0x10 clear and not 0xEF (rule 1.27), and an expected length
pub record Sendable (b : CommandBuilder) : Type 0 where
  pub clear : chaining_bit b.class.cla ≡ 0
  pub class : b.class.cla ≡ 0xEF → ⊥
  pub le : Expected b.le

-- the state takes every piece with the header of this builder
abbrev pub Ready : Reassembler → CommandBuilder → Type 0
Ready r b =
    (v : CommandView) → chained v.class.cla ≡ chained b.class.cla → v.instruction ≡ b.instruction → v.p1 ≡ b.p1 → v.p2 ≡ b.p2
    → continues r v ≡ true

-- the extended flag of the command given back after k pieces: true for several, the piece's own for a single one
abbrev flag_back : Reassembler → CommandBuilder → ℕ → ℕ → Bool
flag_back r b n k = cond (ltb 1 k) true (extended_in r (view_for b n))

-- the command given back, its data after those held
abbrev pub given_by : Reassembler → CommandBuilder → List ℕ → List ℕ → Bool → CommandBack
given_by r b d room x =
    record {
      command =
          record {
            class = b.class;
            instruction = b.instruction;
            p1 = b.p1;
            p2 = b.p2;
            len = held_len r + length d;
            le = le_written b;
            extended = x;
          };
      «data» = take (held_len r + length d) (over_at (held_len r) d room);
    }

-- the run: more to k pieces, then the command
abbrev pub more_then_command : ℕ → CommandBack → List ℕ → Run
more_then_command k g room = record { replies = replicate k (ok none) ++ (ok (some g) ∷ []); state = closed; room = room }

-- what is proved of the parts ps of a command: there is a part, and their pieces have that run
pub record Sends (b : CommandBuilder) (d : List ℕ) (ps : List Part) : Type 0 where
  pub some_part : 1 ≤ length ps
  pub single : length ps ≡ 1 → length d ≤ most_data b.mode
  pub sent : Sendable b → (r : Reassembler) (room : List ℕ) → Ready r b → held_len r + length d ≤ length room
      → run r room (map piece_of ps) ≡ more_then_command (length ps - 1) (given_by r b d room (flag_back r b (length d) (length ps))) (over_at (held_len r) d room)

-- a command that is not split
module _ (b : CommandBuilder) (d : List ℕ) (few : length d ≤ 65535) (s : Sendable b) (r : Reassembler) (room : List ℕ)
    (ready : Ready r b) (room-left : held_len r + length d ≤ length room) where
  whole_read : ReadAs Crate (command_of b d) (view_for b (length d)) d
  whole_read = built_read Crate b d (λ e. omega (arith, s.clear)) s.le few

  abbrev whole : CommandBack
  whole = given_by r b d room (extended_in r (view_for b (length d)))

  whole_joined : join_of r room (command_of b d) ≡ record { reply = ok (some whole.command); state = closed; room = over_at (held_len r) d room }
  whole_joined =
      let v = view_for b (length d) in
      step_last r room (command_of b d) v d whole_read.view whole_read.part (ready v refl refl refl refl) room-left s.clear

  whole_sent : run r room (command_of b d ∷ []) ≡ more_then_command 0 whole (over_at (held_len r) d room)
  whole_sent = run_first r room (command_of b d) [] _ whole_joined ∙ rw run_none

-- the rest after a part is split off
rest_sendable : (b : CommandBuilder) → Sendable b → Sendable (lowered_of b)
rest_sendable b s = record { clear = s.clear; class = s.class; le = lowered_expected b.mode b.le s.le }

-- both cases of a choice are true
true_anyway : (x : Bool) → cond x true true ≡ true
true_anyway true = refl
true_anyway false = refl

one_more : {A : Type 0} (k : ℕ) (a : A) → 1 ≤ k → a ∷ replicate (k - 1) a ≡ replicate k a
one_more zero a h = absurd (omega arith)
one_more (suc k) a h = let e : suc k - 1 ≡ k = omega arith in rw e

chained_again : (c : ℕ) → chained (chained c) ≡ chained c
chained_again c = omega arith

-- a first part is split off, and the rest is sent after it
module _ (b : CommandBuilder) (d : List ℕ) (few : length d ≤ 65535) (k : ℕ) (short : k < length d) (ps : List Part)
    (rest-sends : Sends (lowered_of b) (drop k d) ps) (s : Sendable b) (r : Reassembler) (room : List ℕ) (ready : Ready r b)
    (room-left : held_len r + length d ≤ length room) where
  abbrev now : List ℕ
  now = take k d

  abbrev rest : List ℕ
  rest = drop k d

  abbrev view : CommandView
  view = view_for (first_of b) (length now)

  abbrev held : Reassembler
  held = open_with (chain_after view (held_len r + length now))

  sizes : length now + length rest ≡ length d
  sizes = omega (arith, length-take k d, length-drop k d)

  first_read : ReadAs Crate (command_of (first_of b) now) view now
  first_read =
      built_read Crate (first_of b) now (λ e. s.class (omega (arith, s.clear))) (omega arith) (omega (arith, sizes))

  first_joined : join_of r room (command_of (first_of b) now) ≡ record { reply = ok none; state = held; room = over_at (held_len r) now room }
  first_joined =
      step_more r room (command_of (first_of b) now) view now first_read.view first_read.part
      (ready view (omega (arith, s.clear)) refl refl refl) (omega (arith, sizes)) (omega (arith, s.clear))

  rest_ready : Ready held (lowered_of b)
  rest_ready v class instruction p1 p2 =
      let h = chain_after view (held_len r + length now) in
      continues_is h v (same_class_is h.class v.class (chained_again b.class.cla ∙ sym class)) (sym instruction) (sym p1) (sym p2)

  joined_twice : over_at (held_len r + length now) rest (over_at (held_len r) now room) ≡ over_at (held_len r) d room
  joined_twice =
      over_at_twice (held_len r) now rest room (omega (arith, sizes)) ∙ ap (λ (l : List ℕ). over_at (held_len r) l room) (take-append-drop k d)

  rest_sent : run held (over_at (held_len r) now room) (map piece_of ps)
      ≡ more_then_command (length ps - 1) (given_by r b d room true) (over_at (held_len r) d room)
  rest_sent =
      let long = length_over_at (held_len r) now room (omega (arith, sizes)) in
      let size : held_len r + length now + length rest ≡ held_len r + length d = omega (arith, sizes) in
      rest-sends.sent (rest_sendable b s) held (over_at (held_len r) now room) rest_ready (omega (arith, long, sizes))
      ∙ rw (true_anyway (ltb 1 (length ps)), joined_twice, size, lowered_written b)

  split_sent : run r room (command_of (first_of b) now ∷ map piece_of ps)
      ≡ more_then_command (length ps) (given_by r b d room true) (over_at (held_len r) d room)
  split_sent =
      run_first r room (command_of (first_of b) now) (map piece_of ps) _ first_joined
      ∙ ap (reply_then (ok none)) rest_sent ∙ rw (← one_more {A = Reply (Option CommandBack)} (length ps) (ok none) rest-sends.some_part)

-- every cut of a command has that run
pub cut_sends : (b : CommandBuilder) (d : List ℕ) (m : ℕ) → 10 ≤ m → length d ≤ 65535 → Sends b d (parts b d m)
cut_sends b d m ten few =
    cut m ten (λ b d ps. length d ≤ 65535 → Sends b d ps)
    (λ b d h few. record {
      some_part = omega arith;
      single = λ _. omega (arith, room_is b (length d) m);
      sent = λ s r room ready left. whole_sent b d few s r room ready left;
    })
    (λ b d k ps e g h f few.
    let rest-sends = f (omega (arith, length-drop k d)) in
    let size : suc (length ps) - 1 ≡ length ps = omega arith in
    record {
      some_part = omega arith;
      single = λ one. absurd (omega (arith, rest-sends.some_part, one));
      sent = λ s r room ready left.
          split_sent b d few k h ps rest-sends s r room ready left
          ∙ rw (lt-ltb 1 (suc (length ps)) (omega (arith, rest-sends.some_part)), size);
    }) b d few few

-- the front of a room that was written over is what was written
pub front_of_room : (d room : List ℕ) → take (length d) (over d room) ≡ d
unfolding over
front_of_room d room = take-append_seam d _

-- an expected length is Max, or a number of at most 65,535
expected : (e : ExpectedLen) → ((n : ℕ) → e ≡ Ne n → n ≤ 65535) → Expected e
expected (Ne n) h = omega (arith, h n refl)
expected Max h = tt

-- A command in any mode, whose class has bit 0x10 clear and is not 0xEF, is cut for a buffer of 10 bytes or more. Its
-- pieces are sent through a fresh reassembler with room for its data. The replies are "more" to all but the last, then
-- the command.
pub command_back : (b : CommandBuilder) (d : List ℕ) (m : ℕ) (room : List ℕ) → b.class.cla / 16 % 2 ≡ 0 → b.class.cla ≢ 0xEF
    → ((n : ℕ) → b.le ≡ Ne n → n ≤ 65535) → length d ≤ 65535 → 10 ≤ m → length d ≤ length room
    → let ps = pieces_of b d m in
    run closed room ps
    ≡ record {
      replies =
          replicate (length ps - 1) (ok none)
          ++ (ok
          (some
          (record {
            command =
                record {
                  class = b.class;
                  instruction = b.instruction;
                  p1 = b.p1;
                  p2 = b.p2;
                  len = length d;
                  le = le_written b;
                  extended = cond (ltb 1 (length ps)) true (extended_for b (length d));
                };
            «data» = d;
          }))
          ∷ []);
      state = closed;
      room = over d room;
    }
command_back b d m room clear class le few ten left =
    let s : Sendable b = record { clear = omega arith; class = omega arith; le = expected b.le le } in
    (cut_sends b d m ten few).sent s closed room (λ v _ _ _ _. refl) (omega arith)
    ∙ rw (zero-add, over_at_zero, front_of_room, length-map)
