-- Runs that are computed, with the bytes that are sent, the end and the room (rules 14.2 to 14.6).
use Prim.Native.Nat.{ℕ}
use mathlib.Core.Path.{◌≡◌, refl}
use mathlib.Core.List.{List, [], ◌∷◌, map}
use Rattle.basis.specs.Reply.{Reply, ok, refused}
use Rattle.basis.specs.Number.{be}
use Rattle.basis.specs.Over.{over_at}
use Rattle.builder.specs.Cases.{case_for}
use Rattle.builder.specs.Bytes.{le_written, case_of, command_of}
use Rattle.builder.specs.declared.ExpectedLen.TheVariants.{Ne}
use Rattle.builder.specs.declared.ExtendedLen.TheVariants.{Supported, Forced}
use Rattle.response.specs.Response.{data_of, status_of, split_of, held_of, append_of}
use Rattle.collect.specs.Collect.{next_of, Going, send, done, step_of, step_room}
use Rattle.collect.specs.declared.Sent.TheVariants.{Command}
use Rattle.collect.specs.declared.Collection.{Collection}
use Rattle.collect_laws.specs.Run.{run_from, run}
use Rattle.collect_laws.specs.Sends.{bytes_of}

-- a reply in bytes: what is sent, or the end with SW1, SW2 and how many bytes are held, or a refusal
pub data Shown : Type 0 where
  sent : List ℕ → Shown
  ended : ℕ → ℕ → ℕ → Shown
  number : ℕ → Shown

abbrev pub shown : List ℕ → Reply Going → Shown
shown d (ok (send c)) = sent (bytes_of d c.sent)
shown d (ok (done r)) = ended r.status.sw1 r.status.sw2 r.len
shown d (refused k) = number k

-- the collections after SELECT (class 0x10, so that its class is seen) and READ BINARY for 16 bytes were sent
abbrev pub select : Collection
select =
    record {
      sent = Command (record { class = record { cla = 0x10 }; instruction = 0xA4; p1 = 4; p2 = 0; le = Ne 0; mode = Forced });
      len = 0;
    }

abbrev pub read_binary : Collection
read_binary =
    record {
      sent = Command (record { class = record { cla = 0 }; instruction = 0xB0; p1 = 0; p2 = 0; le = Ne 16; mode = Supported });
      len = 0;
    }

-- parts beside 61xx are held too, GET RESPONSE is short though the command forces extended lengths, a warning ends it,
-- and what comes after the end is not looked at
pub parts_held : let x = run select (0xEE ∷ 0xEE ∷ 0xEE ∷ 0xEE ∷ []) ((0xAA ∷ 0x61 ∷ 0 ∷ []) ∷ (0xBB ∷ 0x61 ∷ 1 ∷ []) ∷ (0xCC ∷ 0x62 ∷ 0x82 ∷ []) ∷ (0xDD ∷ 0x90 ∷ 0 ∷ []) ∷ []) in
    (map (shown (0x3F ∷ [])) x.replies
    ≡ sent (0x10 ∷ 0xC0 ∷ 0 ∷ 0 ∷ 0 ∷ []) ∷ sent (0x10 ∷ 0xC0 ∷ 0 ∷ 0 ∷ 1 ∷ []) ∷ ended 0x62 0x82 3 ∷ [])
    × (x.room ≡ 0xAA ∷ 0xBB ∷ 0xCC ∷ 0xEE ∷ [])
unfolding run_from step_of step_room append_of split_of held_of data_of status_of next_of over_at bytes_of command_of case_of case_for le_written be
parts_held = (refl, refl)

-- 6Cxx: the command again with its data, twice; after 61xx GET RESPONSE again; data beside 6Cxx are held
pub sent_again : let x = run select (0xEE ∷ 0xEE ∷ []) ((0x6C ∷ 5 ∷ []) ∷ (0x01 ∷ 0x6C ∷ 0 ∷ []) ∷ (0x61 ∷ 2 ∷ []) ∷ (0x6C ∷ 1 ∷ []) ∷ (0x02 ∷ 0x90 ∷ 0 ∷ []) ∷ []) in
    (map (shown (0x3F ∷ [])) x.replies
    ≡ sent (0x10 ∷ 0xA4 ∷ 4 ∷ 0 ∷ 0 ∷ 0 ∷ 1 ∷ 0x3F ∷ 0 ∷ 5 ∷ [])
    ∷ sent (0x10 ∷ 0xA4 ∷ 4 ∷ 0 ∷ 0 ∷ 0 ∷ 1 ∷ 0x3F ∷ 1 ∷ 0 ∷ [])
    ∷ sent (0x10 ∷ 0xC0 ∷ 0 ∷ 0 ∷ 2 ∷ [])
    ∷ sent (0x10 ∷ 0xC0 ∷ 0 ∷ 0 ∷ 1 ∷ [])
    ∷ ended 0x90 0 2
    ∷ [])
    × (x.room ≡ 1 ∷ 2 ∷ [])
unfolding run_from step_of step_room append_of split_of held_of data_of status_of next_of over_at bytes_of command_of case_of case_for le_written be
sent_again = (refl, refl)

-- 22 and 23 change neither the room nor what is held; data that just fill the room fit
pub refused_between : let x = run read_binary (0xEE ∷ 0xEE ∷ 0xEE ∷ []) ((9 ∷ 8 ∷ 7 ∷ 6 ∷ 0x90 ∷ 0 ∷ []) ∷ (1 ∷ 0x61 ∷ 1 ∷ []) ∷ (0x90 ∷ []) ∷ (5 ∷ 4 ∷ 3 ∷ 0x90 ∷ 0 ∷ []) ∷ (2 ∷ 3 ∷ 0x90 ∷ 0 ∷ []) ∷ []) in
    (map (shown []) x.replies
    ≡ number 23 ∷ sent (0 ∷ 0xC0 ∷ 0 ∷ 0 ∷ 1 ∷ []) ∷ number 22 ∷ number 23 ∷ ended 0x90 0 3 ∷ [])
    × (x.room ≡ 1 ∷ 2 ∷ 3 ∷ [])
unfolding run_from step_of step_room append_of split_of held_of data_of status_of next_of over_at bytes_of command_of case_of case_for le_written be
refused_between = (refl, refl)
