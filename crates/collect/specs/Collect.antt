-- A response collected from several: what each of them calls for, and the room that holds their data. Rules 14.1 to
-- 14.8; refusals 22 and 23.
use Rattle.std.specs.Prelude.{ℕ, zero, suc, ◌≡◌, Result, Ok, Err, cond, List, [], eqb, length, take}
use Rattle.std.proofs.Math.Option.{Option, none, some}
use Rattle.basis.specs.Reply.{Reply, ok, refused, then}
use Rattle.basis.specs.Refusal.{refusal_number}
use Rattle.basis.specs.declared.refusal.Refusal.{Refusal}
use Rattle.class.specs.declared.Class.{Class}
use Rattle.builder.specs.Bytes.{SerializeIntoIs}
use Rattle.builder.specs.declared.ExpectedLen.{ExpectedLen}
use Rattle.builder.specs.declared.ExpectedLen.TheVariants.{Ne}
use Rattle.builder.specs.declared.ExtendedLen.TheVariants.{Unsupported}
use Rattle.builder.specs.declared.CommandBuilder.{CommandBuilder}
use Rattle.response.specs.Response.{data_of, append_of, room_after}
use Rattle.response.specs.declared.status.Status.{Status}
use Rattle.response.specs.declared.Response.{Response}
use Rattle.collect.specs.declared.Sent.{Sent}
use Rattle.collect.specs.declared.Sent.TheVariants.{Command, GetResponse}
use Rattle.collect.specs.declared.Collection.{Collection}
use Rattle.collect.specs.declared.Step.{Step}
use Rattle.collect.specs.declared.Step.TheVariants as step

-- the expected length xx: 00 means 256 (rules 14.2 and 14.3)
abbrev pub expected_by : ℕ → ExpectedLen
expected_by zero = Ne 256
expected_by (suc n) = Ne (suc n)

-- GET RESPONSE for xx bytes: the class, instruction C0, P1 and P2 zero, short lengths (rule 14.2)
abbrev pub get_response : Class → ℕ → CommandBuilder
get_response c xx =
    record { class = c; instruction = 0xC0; p1 = 0; p2 = 0; le = expected_by xx; mode = Unsupported }

-- a builder with Le xx, in its own mode (rule 14.3)
abbrev pub with_le : CommandBuilder → ℕ → CommandBuilder
with_le b xx =
    record {
      class = b.class;
      instruction = b.instruction;
      p1 = b.p1;
      p2 = b.p2;
      le = expected_by xx;
      mode = b.mode;
    }

-- the builder of what was sent
abbrev pub builder_of : Sent → CommandBuilder
builder_of (Command b) = b
builder_of (GetResponse b) = b

-- the data that it is sent with: a command's, and none with GET RESPONSE (rule 14.7)
abbrev pub data_sent : Sent → List ℕ → List ℕ
data_sent (Command b) d = d
data_sent (GetResponse b) d = []

-- what was sent, with Le xx (rule 14.3)
abbrev pub again : Sent → ℕ → Sent
again (Command b) xx = Command (with_le b xx)
again (GetResponse b) xx = GetResponse (with_le b xx)

-- what a status calls for, s having been sent last: 61xx for GET RESPONSE with the command's class, which is that of s
-- too, 6Cxx for s again, any other for nothing (rules 14.2 to 14.4)
unfoldable pub next_of : Sent → Status → Option Sent
next_of s t =
    cond (eqb t.sw1 0x61) (some (GetResponse (get_response (builder_of s).class t.sw2)))
    (cond (eqb t.sw1 0x6C) (some (again s t.sw2)) none)

-- what a response comes to: a state with what is to be sent next, or the whole response
pub data Going : Type 0 where
  send : Collection → Going
  done : Response → Going

-- the response so far is r, and its status calls for this (rule 14.4)
abbrev pub going_by : Option Sent → Response → Going
going_by none r = done r
going_by (some s) r = send (record { sent = s; len = r.len })

-- a response s in a room of m bytes: 22, 23, or its data are held, whatever its status is (rules 14.5 and 14.6)
unfoldable pub step_of : Collection → List ℕ → ℕ → Reply Going
step_of c s m = then (append_of s c.len m) (λ r. ok (going_by (next_of c.sent r.status) r))

-- the room after it: the data of s behind those held; a refusal changes no byte (rules 14.5 and 14.6)
unfoldable pub step_room : Collection → List ℕ → List ℕ → List ℕ
step_room c s room = room_after (append_of s c.len (length room)) c.len (data_of s) room

-- an answer of the code as a reply
abbrev pub as_going : Step → Going
as_going (step.Send c) = send c
as_going (step.Done r) = done r

abbrev pub as_reply : Result Step Refusal → Reply Going
as_reply (Ok x) = ok (as_going x)
as_reply (Err k) = refused (refusal_number k)

-- the promise of `start`: the command was sent, and no byte is held (rule 14.1)
abbrev pub StartIs : CommandBuilder → Collection → Type 0
StartIs b x = x ≡ record { sent = Command b; len = 0 }

-- the promise of `step`
pub record StepIs (c : Collection) (s room : List ℕ) (x : Result Step Refusal) (after : List ℕ) : Type 0 where
  pub reply : as_reply x ≡ step_of c s (length room)
  pub buffer : after ≡ step_room c s room

-- the promise of `write`: what is to be sent is written as the builder writes it (rule 14.7)
abbrev pub WriteIs : Collection → List ℕ → List ℕ → ℕ → Result ℕ Refusal → List ℕ → Type 0
WriteIs c d buffer at x after = SerializeIntoIs (builder_of c.sent) (data_sent c.sent d) buffer at x after

-- the promise of `collected`: the front of the room, as long as the response says (rule 14.8)
abbrev pub CollectedIs : Response → List ℕ → List ℕ → Type 0
CollectedIs r room x = x ≡ take r.len room
