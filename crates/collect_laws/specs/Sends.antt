-- What is to be sent after each status, by the command and the statuses alone (rules 14.2 to 14.4, 14.7 and 14.9).
use Rattle.std.specs.Prelude.{ℕ, cond, List, [], ◌∷◌, eqb}
use Rattle.std.proofs.Math.Option.{Option, none, some}
use Rattle.basis.specs.Reply.{Reply, ok, refused}
use Rattle.builder.specs.Bytes.{command_of}
use Rattle.builder.specs.declared.CommandBuilder.{CommandBuilder}
use Rattle.response.specs.declared.status.Status.{Status}
use Rattle.collect.specs.Collect.{get_response, again, builder_of, data_sent, Going, send, done}
use Rattle.collect.specs.declared.Sent.{Sent}
use Rattle.collect.specs.declared.Sent.TheVariants.{Command, GetResponse}

-- what is sent after each status, for a command: after 61xx GET RESPONSE of the command's class for xx, after 6Cxx the
-- one sent last again with Le xx, after any other nothing more (rules 14.2 to 14.4)
unfoldable pub sends_after : CommandBuilder → Sent → List Status → List Sent
sends_after b last [] = []
sends_after b last (t ∷ ts) =
    cond (eqb t.sw1 0x61)
    (GetResponse (get_response b.class t.sw2) ∷ sends_after b (GetResponse (get_response b.class t.sw2)) ts)
    (cond (eqb t.sw1 0x6C) (again last t.sw2 ∷ sends_after b (again last t.sw2) ts) [])

-- the command was sent first (rule 14.1)
abbrev pub sends : CommandBuilder → List Status → List Sent
sends b ts = sends_after b (Command b) ts

-- the one sent last, or the first if there is no other (rule 14.3)
abbrev pub last_of : Sent → List Sent → Sent
last_of first [] = first
last_of first (s ∷ ss) = last_of s ss

-- what replies say is to be sent (rules 14.2 and 14.3)
abbrev pub sent_in : List (Reply Going) → List Sent
sent_in [] = []
sent_in (ok (send c) ∷ rs) = c.sent ∷ sent_in rs
sent_in (ok (done r) ∷ rs) = sent_in rs
sent_in (refused k ∷ rs) = sent_in rs

-- its bytes, for a command with the data d: those that the builder writes (rule 14.7)
unfoldable pub bytes_of : List ℕ → Sent → List ℕ
bytes_of d s = command_of (builder_of s) (data_sent s d)

-- how it stands, n bytes being held: a status ends it, or it goes on and s was sent last (rule 14.4)
abbrev pub stands_by : Option Status → Sent → ℕ → Going
stands_by none s n = send (record { sent = s; len = n })
stands_by (some t) s n = done (record { len = n; status = t })
