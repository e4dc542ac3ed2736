-- One job of demand 3, sent through a reassembler with no chain open.
use Prim.Native.Nat.{ℕ, ◌/◌, ◌%◌, ◌≤◌}
use mathlib.Core.Path.{◌≡◌, refl, ◌∙◌}
use mathlib.Core.Logic.{◌≢◌}
use mathlib.Core.Bool.{Bool, true, false, cond}
use mathlib.Core.List.{List}
use native.Mathlib.Omega.{arith}
use native.Mathlib.Decide.{dec_le}
use borrow.Author.Tests.{lt-ltb, le-ltb}
use lib.Dec.{ltb}
use lib.ListN.{length, length-map, length-append, length-replicate}
use Rattle.basis.specs.Over.{over}
use Rattle.builder.specs.Bytes.{le_written}
use Rattle.builder.specs.declared.CommandBuilder.{CommandBuilder}
use Rattle.builder_laws.specs.Read.{extended_for}
use Rattle.builder_laws.proofs.LeWritten.{le_read, written_short, extended_read}
use Rattle.splitter.specs.Pieces.{parts, piece_of}
use Rattle.splitter_laws.specs.Asked.{short_of}
use Rattle.reassembler.specs.Join.{closed}
use Rattle.roundtrip_laws.specs.Run.{run}
use Rattle.roundtrip_laws.specs.Jobs.{Job, InScope, HasRoom, pieces, replies_to}
use Rattle.roundtrip_laws.proofs.Cuts.{cut_sends, command_back}

-- what demand 3 asks of a job and of a room, in numbers
pub in_scope : (j : Job) → j.request.class / 16 % 2 ≡ 0 → j.request.class ≢ 0xEF → length j.request.«data» ≤ 65535 → j.request.le ≤ 256
    → 10 ≤ j.buffer → InScope j
in_scope j clear class few le ten = omega arith

pub has_room : (room : List ℕ) (j : Job) → length j.request.«data» ≤ length room → HasRoom room j
has_room room j h = omega arith

-- the extended flag: true for several pieces; a single one's own flag is false in short form
flag_is : (k : ℕ) (x : Bool) → 1 ≤ k → (k ≡ 1 → x ≡ false) → cond (ltb 1 k) true x ≡ ltb 1 k
flag_is k x h g =
    elim (dec_le k 1) [ yes e ↦ rw (le-ltb 1 k e) (g (omega arith)) | no e ↦ rw (lt-ltb 1 k (omega arith)) ]

-- what a job in scope has
not_ef : (j : Job) → InScope j → j.request.class ≢ 0xEF
not_ef j f = omega (arith, f.class)

le_in_scope : (j : Job) → InScope j → j.request.le ≤ 256
le_in_scope j f = omega (arith, f.le)

buffer_in_scope : (j : Job) → InScope j → 10 ≤ j.buffer
buffer_in_scope j f = omega (arith, f.ten)

-- as many replies as pieces, if there is a piece
one_reply_each : (j : Job) → 1 ≤ length (pieces j) → length (replies_to j) ≡ length (pieces j)
unfolding replies_to
one_reply_each j h = simp (length-append, length-replicate) (omega arith)

module _ (j : Job) (f : InScope j) where
  abbrev builder : CommandBuilder
  builder =
      let w = j.request in
      short_of w.class w.instruction w.p1 w.p2 w.le

  abbrev d : List ℕ
  d = j.request.«data»

  few : length d ≤ 65535
  few = omega (arith, f.few)

  le_back : le_written builder ≡ j.request.le
  le_back = (le_read builder).number j.request.le refl (λ _. le_in_scope j f)

  -- a job has at least one piece
  pub some_piece : 1 ≤ length (pieces j)
  some_piece = omega (arith, length-map (parts builder d j.buffer) piece_of, (cut_sends builder d j.buffer (buffer_in_scope j f) few).some_part)

  extended : cond (ltb 1 (length (pieces j))) true (extended_for builder (length d)) ≡ ltb 1 (length (pieces j))
  extended =
      let size = length-map (parts builder d j.buffer) piece_of in
      flag_is (length (pieces j)) (extended_for builder (length d)) some_piece
      (λ one.
      let short = (cut_sends builder d j.buffer (buffer_in_scope j f) few).single (omega (arith, size)) in
      (extended_read builder (length d)).short short (written_short builder refl) (λ e. cc))

  -- one reply for each piece
  pub one_each : length (replies_to j) ≡ length (pieces j)
  one_each = one_reply_each j some_piece

  -- the pieces of a job, sent with no chain open
  pub job_sent : (room : List ℕ) → HasRoom room j → run closed room (pieces j) ≡ record { replies = replies_to j; state = closed; room = over d room }
  unfolding replies_to
  job_sent room h =
      command_back builder d j.buffer room (omega (arith, f.clear)) (not_ef j f)
      (λ n e. let q : j.request.le ≡ n = cc in omega (arith, le_in_scope j f)) few (buffer_in_scope j f) (omega (arith, h))
      ∙ rw (extended, le_back)
