-- Demand 3 (rules 11.4 and 11.5): any list of commands, each cut in short form for its own buffer, comes back from its
-- pieces.
use Prim.Native.Nat.{ℕ, zero, suc, ◌+◌, ◌-◌, ◌≤◌}
use mathlib.Core.Path.{◌≡◌, refl, sym, ap, ◌∙◌}
use mathlib.Core.List.{List, [], ◌∷◌, ◌++◌, map, flat_map, append_assoc}
use mathlib.Core.Option.{Option, none, some}
use native.Mathlib.Omega.{arith}
use lib.ListN.{length, replicate, length-replicate}
use Rattle.basis.specs.Reply.{Reply, ok, refused}
use Rattle.basis.specs.Over.{over}
use Rattle.basis.proofs.Over.{length_over}
use Rattle.basis.specs.Every.{Every}
use Rattle.splitter.specs.Pieces.{new_pieces_of}
use Rattle.splitter_laws.specs.Asked.{short_of, start_of, answers, one_by_one}
use Rattle.splitter_laws.proofs.Asked.{pieces_is, pieces_answers}
use Rattle.basis.proofs.Every.{every_weaken}
use Rattle.splitter_laws.proofs.Parts.{fits}
use Rattle.reassembler.specs.Join.{closed}
use Rattle.roundtrip_laws.specs.Run.{CommandBack, Run, run}
use Rattle.roundtrip_laws.specs.Jobs.{Request, Job, InScope, HasRoom, pieces, stream, command_back_to, replies_to, all_replies, room_after}
use Rattle.roundtrip_laws.specs.Noise.{Sent, all_sent, pieces_sent, replies_to_pieces, RefusedThere}
use Rattle.roundtrip_laws.proofs.Runs.{then, run_none, run_after}
use Rattle.roundtrip_laws.proofs.Jobs.{job_sent}
use Rattle.roundtrip_laws.proofs.Noise.{noise_nothing}

-- the pieces are those that the splitter gives: it is made, gives them one by one, and then says none left
pub pieces_given : (j : Job) → InScope j → let w = j.request in
    let start = start_of w.class w.instruction w.p1 w.p2 w.le j.buffer in
    (new_pieces_of w.class w.instruction w.p1 w.p2 (length w.«data») w.le j.buffer ≡ ok start)
    × ((k : ℕ) → answers (length (pieces j) + k) start w.«data» ≡ one_by_one (pieces j) k)
pieces_given j f =
    let w = j.request in
    let made = pieces_is w.class w.instruction w.p1 w.p2 (length w.«data») w.le j.buffer
    (λ e. omega (arith, f.clear)) (omega (arith, f.few)) (omega (arith, f.ten)) in
    (made, pieces_answers w.class w.instruction w.p1 w.p2 w.le j.buffer w.«data» _ made)

-- a. every piece fits its buffer
pub every_piece_fits : (j : Job) → InScope j → Every (λ p. length p ≤ j.buffer) (pieces j)
every_piece_fits j f =
    let w = j.request in
    fits (short_of w.class w.instruction w.p1 w.p2 w.le) w.«data» j.buffer
    (omega (arith, f.ten)) (omega (arith, f.few))

-- b. the pieces are sent in order through one fresh reassembler, whatever bytes the room has: each command comes back
-- exactly, at its last piece and at no other; every other reply is "more"; no chain is open at the end
pub given_back : (js : List Job) (room : List ℕ) → Every InScope js → Every (HasRoom room) js
    → run closed room (stream js) ≡ record { replies = all_replies js; state = closed; room = room_after js room }
unfolding flat_map room_after
given_back [] room f h = run_none closed room
given_back (j ∷ js) room f h =
    let d = j.request.«data» in
    let long : length (over d room) ≡ length room = length_over d room (omega (arith, h.0)) in
    let rest = given_back js (over d room) f.1 (every_weaken (HasRoom (over d room)) (HasRoom room) js (λ k g. omega (arith, g, long)) h.1) in
    run_after closed room (pieces j) (stream js) _ (job_sent j f.0 room h.0)
    ∙ ap (then (record { replies = replies_to j; state = closed; room = over d room })) rest

-- c. refused pieces, put in anywhere, change nothing (`noise_nothing`), so every command comes back among them too
pub given_back_among_noise : (js : List Job) (room : List ℕ) (ss : List Sent) → Every InScope js → Every (HasRoom room) js
    → RefusedThere closed room ss → pieces_sent ss ≡ stream js
    → let r = run closed room (all_sent ss) in
    (replies_to_pieces ss r.replies ≡ all_replies js) × (r.state ≡ closed) × (r.room ≡ room_after js room)
given_back_among_noise js room ss f h n e =
    let s = noise_nothing closed room ss n in
    let back : run closed room (pieces_sent ss) ≡ _ = ap (run closed room) e ∙ given_back js room f h in
    (s.0 ∙ ap (λ (x : Run). x.replies) back, s.1 ∙ ap (λ (x : Run). x.state) back, s.2 ∙ ap (λ (x : Run). x.room) back)

-- the commands among replies
request_of : CommandBack → Request
request_of g =
    let c = g.command in
    record { class = c.class.cla; instruction = c.instruction; p1 = c.p1; p2 = c.p2; «data» = g.«data»; le = c.le }

abbrev commands : List (Reply (Option CommandBack)) → List Request
commands [] = []
commands (ok none ∷ rs) = commands rs
commands (ok (some g) ∷ rs) = request_of g ∷ commands rs
commands (refused k ∷ rs) = commands rs

after_more : (k : ℕ) (rs : List (Reply (Option CommandBack))) → commands (replicate k (ok none) ++ rs) ≡ commands rs
after_more zero rs = refl
after_more (suc k) rs = after_more k rs

commands_are : (js : List Job) → commands (all_replies js) ≡ map (λ j. j.request) js
unfolding flat_map replies_to request_of
commands_are [] = refl
commands_are (j ∷ js) =
    let last = ok (some (command_back_to j)) ∷ [] in
    ap commands (append_assoc (replicate (length (pieces j) - 1) (ok none)) last (all_replies js))
    ∙ after_more (length (pieces j) - 1) (last ++ all_replies js)
    ∙ ap (λ ws. j.request ∷ ws) (commands_are js)

-- d. two lists with the same stream of pieces are lists of the same commands, whatever their buffers
pub same_stream_same_commands : (js ks : List Job) → Every InScope js → Every InScope ks → stream js ≡ stream ks
    → map (λ j. j.request) js ≡ map (λ j. j.request) ks
same_stream_same_commands js ks f g e =
    let room : List ℕ = replicate 65535 0 in
    let held : (j : Job) → InScope j → HasRoom room j = λ j x. omega (arith, x.few, length-replicate {A = ℕ} 65535 0) in
    let replies : all_replies js ≡ all_replies ks =
    sym (ap (λ (x : Run). x.replies) (given_back js room f (every_weaken (HasRoom room) InScope js held f)))
    ∙ ap (λ ps. (run closed room ps).replies) e
    ∙ ap (λ (x : Run). x.replies) (given_back ks room g (every_weaken (HasRoom room) InScope ks held g)) in
    sym (commands_are js) ∙ ap commands replies ∙ commands_are ks
