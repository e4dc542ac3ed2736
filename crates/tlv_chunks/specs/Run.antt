-- A record byte by byte: what each byte tells, and the state of the walk after it (rules 18.1 to 18.7). `Value n` is the
-- state in a value of which n + 1 bytes are missing.
use Rattle.std.specs.Prelude.{ℕ, zero, suc, Result, Ok, Err, List, [], ◌∷◌, ◌++◌}
use Rattle.tlv.specs.Stop.{stop_number}
use Rattle.tlv.specs.declared.stop.Stop.{Stop}
use Rattle.tlv_chunks.specs.Header.{first_of, byte_of}
use Rattle.tlv_chunks.specs.declared.header.HeaderByte.{HeaderByte}
use Rattle.tlv_chunks.specs.declared.header.HeaderByte.TheVariants as byte
use Rattle.tlv_chunks.specs.declared.walk.ChunkWalk.{ChunkWalk}
use Rattle.tlv_chunks.specs.declared.walk.ChunkWalk.TheVariants.{Boundary, Header, Value, Stopped}

-- what is told: a tag and the length of its value, when the header is complete; the end, when the value is; a refusal,
-- by its number and nothing else (rules 18.1 and 18.6)
pub data Event : Type 0 where
  head : ℕ → ℕ → Event
  end : Event
  refusal : ℕ → Event

-- what some bytes tell, and the state after them
pub record Step : Type 0 where
  pub tells : List Event
  pub walk : ChunkWalk

-- bytes that tell nothing, up to a state
abbrev pub nothing : ChunkWalk → Step
nothing w = record { tells = []; walk = w }

-- a header is complete: its value follows, and a value of no bytes is complete with it (rule 18.3)
abbrev pub headed : ℕ → ℕ → Step
headed t zero = record { tells = head t 0 ∷ end ∷ []; walk = Boundary }
headed t (suc n) = record { tells = head t (suc n) ∷ []; walk = Value n }

-- a byte of a header; if it cannot be read the walk stops with 12 (rule 18.4)
abbrev pub header_byte : Result HeaderByte Stop → Step
header_byte (Ok (byte.More h)) = nothing (Header h)
header_byte (Ok (byte.Complete t n)) = headed t n
header_byte (Err e) = record { tells = refusal (stop_number e) ∷ []; walk = Stopped e }

-- a byte of a value, of which n are missing after it
abbrev pub value_byte : ℕ → Step
value_byte zero = record { tells = end ∷ []; walk = Boundary }
value_byte (suc n) = nothing (Value n)

-- any byte; a walk that has stopped stays as it is (rule 18.7)
unfoldable pub step : ChunkWalk → ℕ → Step
step Boundary b = nothing (Header (first_of b))
step (Header h) b = header_byte (byte_of h b)
step (Value n) b = value_byte n
step (Stopped e) b = nothing (Stopped e)

-- a step x, after es were told
abbrev pub following : List Event → Step → Step
following es x = record { tells = es ++ x.tells; walk = x.walk }

-- all bytes, one after the other
unfoldable pub run : ChunkWalk → List ℕ → Step
run w [] = nothing w
run w (b ∷ s) = following (step w b).tells (run (step w b).walk s)

-- the number at closing: 11 at a boundary, 12 in an object; a walk that has stopped keeps its number (rules 18.6 and
-- 18.7)
abbrev pub closing : ChunkWalk → ℕ
closing Boundary = 11
closing (Header h) = 12
closing (Value n) = 12
closing (Stopped e) = stop_number e
