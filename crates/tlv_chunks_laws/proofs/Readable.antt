-- 12 comes at the first byte after which no more bytes can help, and not before (rule 18.4).
use Prim.Native.Nat.{ℕ, zero, suc, ◌+◌, ◌*◌, ◌≤◌}
use mathlib.Core.Path.{◌≡◌, sym, ap, ◌∙◌}
use mathlib.Core.List.{List, [], ◌∷◌, ◌++◌, append-nil}
use mathlib.Core.Option.{none}
use native.Mathlib.Omega.{arith}
use lib.ListN.{length, drop, drop_of_length-le}
use Rattle.basis.specs.Number.{Bytes}
use Rattle.basis.proofs.Number.{bytes_none, bytes_more}
use Rattle.tlv.specs.Walk.{walk}
use Rattle.tlv.specs.declared.Reading.TheVariants.{Crate}
use Rattle.tlv.proofs.Tags.{crate_second_last, crate_third_low}
use Rattle.tlv_laws.specs.Padding.{zero_bytes}
use Rattle.tlv_laws.proofs.ZeroBytes.{zero_bytes_lem}
use Rattle.std.specs.Prelude.{Ok}
use Rattle.tlv.specs.Stop.{stop_number}
use Rattle.tlv.specs.declared.stop.Stop.TheVariants as stop
use Rattle.tlv_chunks.specs.Header.{byte_of}
use Rattle.tlv_chunks.specs.Run.{Step, nothing, headed, following, run, closing}
use Rattle.tlv_chunks.specs.declared.header.Header.{Header as Part}
use Rattle.tlv_chunks.specs.declared.header.Header.TheVariants as part
use Rattle.tlv_chunks.specs.declared.header.HeaderByte.TheVariants as byte
use Rattle.tlv_chunks.specs.declared.walk.ChunkWalk.{ChunkWalk}
use Rattle.tlv_chunks.specs.declared.walk.ChunkWalk.TheVariants.{Boundary, Header, Value, Stopped}
use Rattle.tlv_chunks.proofs.Headers as header
use Rattle.tlv_chunks_laws.specs.Session.{stopped_by}
use Rattle.tlv_chunks_laws.specs.Whole.{whole_tells}
use Rattle.tlv_chunks_laws.proofs.Runs.{none_some, run_append, run_nothing, run_after_stop, run_byte, value_whole}
use Rattle.tlv_chunks_laws.proofs.Whole.{ended, ended_whole, closing_number}

-- after 12 the record tells the same whatever comes, and its walk stops with 12
module _ (s : List ℕ) (e : (run Boundary s).walk ≡ Stopped stop.Unreadable) (more : List ℕ) where
  same_run : run Boundary (s ++ more) ≡ run Boundary s
  same_run =
      let r = run Boundary s in
      let stays : run r.walk more ≡ nothing r.walk = rw e (run_after_stop stop.Unreadable more) in
      run_append Boundary s more ∙ ap (following r.tells) stays ∙ (λ i. record { tells = append-nil r.tells i; walk = r.walk })

  pub refused_for_good : (walk Crate 0 (s ++ more)).stop.number ≡ 12
  refused_for_good = sym (closing_number (s ++ more)) ∙ ap (λ (r : Step). closing r.walk) same_run ∙ ap (λ (w : ChunkWalk). closing w) e

  pub nothing_more_told : whole_tells (s ++ more) ≡ whole_tells s
  nothing_more_told = sym (ended_whole (s ++ more)) ∙ ap ended same_run ∙ ended_whole s

-- bytes that lead from a state to a boundary: zero bytes, after a second byte of a tag
abbrev to_boundary : ChunkWalk → List ℕ
to_boundary Boundary = []
to_boundary (Header (part.Tag1 a)) = 0x1F ∷ 0x00 ∷ []
to_boundary (Header (part.Tag2 a b)) = 0x00 ∷ 0x00 ∷ []
to_boundary (Header (part.Tag t)) = 0x00 ∷ []
to_boundary (Header (part.Length81 t)) = 0x00 ∷ []
to_boundary (Header (part.Length82 t)) = 0x00 ∷ 0x00 ∷ []
to_boundary (Header (part.Length82High t a)) = 0x00 ∷ zero_bytes (a * 256 + 0)
to_boundary (Value n) = zero_bytes (suc n)
to_boundary (Stopped r) = []

value_filled : (n : ℕ) → (run (Value n) (zero_bytes (suc n))).walk ≡ Boundary
value_filled n =
    let size = zero_bytes_lem (suc n) in
    let few : length (zero_bytes (suc n)) ≤ suc n = omega (arith, size) in
    let none_left : drop (suc n) (zero_bytes (suc n)) ≡ [] = drop_of_length-le (zero_bytes (suc n)) few in
    ap (λ (r : Step). r.walk) (value_whole n (zero_bytes (suc n)) (omega (arith, size))) ∙ ap (λ (l : List ℕ). (run Boundary l).walk) none_left
    ∙ ap (λ (r : Step). r.walk) (run_nothing Boundary)

object_filled : (t n : ℕ) → (run (headed t n).walk (zero_bytes n)).walk ≡ Boundary
unfolding zero_bytes
object_filled t zero = ap (λ (r : Step). r.walk) (run_nothing Boundary)
object_filled t (suc n) = value_filled n

-- a byte of a header, and the state after further bytes
state_more : (h g : Part) (b : ℕ) (s : List ℕ) → byte_of h b ≡ Ok (byte.More g) → (run (Header h) (b ∷ s)).walk ≡ (run (Header g) s).walk
state_more h g b s e = ap (λ (r : Step). r.walk) (run_byte h b s (Ok (byte.More g)) e)

state_complete : (h : Part) (t n b : ℕ) (s : List ℕ) → byte_of h b ≡ Ok (byte.Complete t n) → (run (Header h) (b ∷ s)).walk ≡ (run (headed t n).walk s).walk
state_complete h t n b s e = ap (λ (r : Step). r.walk) (run_byte h b s (Ok (byte.Complete t n)) e)

boundary_there : (h : Part) (t b : ℕ) → byte_of h b ≡ Ok (byte.Complete t 0) → (run (Header h) (b ∷ [])).walk ≡ Boundary
boundary_there h t b e = state_complete h t 0 b [] e ∙ ap (λ (r : Step). r.walk) (run_nothing Boundary)

length_00 : (t : ℕ) → (run (Header (part.Tag t)) (0x00 ∷ [])).walk ≡ Boundary
length_00 t = boundary_there (part.Tag t) t 0 (header.length_alone t 0 (omega arith))

to_boundary_lem : (w : ChunkWalk) → stopped_by w ≡ none → (run w (to_boundary w)).walk ≡ Boundary
to_boundary_lem Boundary e = ap (λ (r : Step). r.walk) (run_nothing Boundary)
to_boundary_lem (Header (part.Tag1 a)) e =
    state_more (part.Tag1 a) (part.Tag (a * 256 + 0x1F)) 0x1F (0x00 ∷ [])
    (header.second_last a 0x1F (crate_second_last 0x1F (omega arith) (omega arith))) ∙ length_00 (a * 256 + 0x1F)
to_boundary_lem (Header (part.Tag2 a b)) e =
    state_more (part.Tag2 a b) (part.Tag ((a * 256 + b) * 256 + 0)) 0x00 (0x00 ∷ [])
    (header.third_last a b 0x00 (crate_third_low 0x00 (omega arith))) ∙ length_00 ((a * 256 + b) * 256 + 0)
to_boundary_lem (Header (part.Tag t)) e = length_00 t
to_boundary_lem (Header (part.Length81 t)) e = boundary_there (part.Length81 t) t 0x00 (header.after_81 t 0x00)
to_boundary_lem (Header (part.Length82 t)) e =
    state_more (part.Length82 t) (part.Length82High t 0x00) 0x00 (0x00 ∷ []) (header.high_after_82 t 0x00)
    ∙ boundary_there (part.Length82High t 0x00) t 0x00 (header.low_after_82 t 0x00 0x00)
to_boundary_lem (Header (part.Length82High t a)) e =
    state_complete (part.Length82High t a) t (a * 256 + 0) 0x00 (zero_bytes (a * 256 + 0)) (header.low_after_82 t a 0x00)
    ∙ object_filled t (a * 256 + 0)
to_boundary_lem (Value n) e = value_filled n
to_boundary_lem (Stopped r) e = none_some (stop_number r) (sym e)

-- they are bytes
zeros_are_bytes : (n : ℕ) → Bytes (zero_bytes n)
unfolding zero_bytes
zeros_are_bytes zero = bytes_none
zeros_are_bytes (suc n) = bytes_more 0 (zero_bytes n) (omega arith) (zeros_are_bytes n)

one_zero : Bytes (0 ∷ [])
one_zero = bytes_more 0 [] (omega arith) bytes_none

two_zeros : Bytes (0 ∷ 0 ∷ [])
two_zeros = bytes_more 0 (0 ∷ []) (omega arith) one_zero

to_boundary_bytes : (w : ChunkWalk) → Bytes (to_boundary w)
to_boundary_bytes Boundary = bytes_none
to_boundary_bytes (Header (part.Tag1 a)) = bytes_more 0x1F (0 ∷ []) (omega arith) one_zero
to_boundary_bytes (Header (part.Tag2 a b)) = two_zeros
to_boundary_bytes (Header (part.Tag t)) = one_zero
to_boundary_bytes (Header (part.Length81 t)) = one_zero
to_boundary_bytes (Header (part.Length82 t)) = two_zeros
to_boundary_bytes (Header (part.Length82High t a)) = bytes_more 0 (zero_bytes (a * 256 + 0)) (omega arith) (zeros_are_bytes (a * 256 + 0))
to_boundary_bytes (Value n) = zeros_are_bytes (suc n)
to_boundary_bytes (Stopped r) = bytes_none

-- as long as nothing was refused there are more bytes with which all of the record is read, to its end
pub readable_yet : (s : List ℕ) → stopped_by (run Boundary s).walk ≡ none
    → (more : List ℕ) × (Bytes more × ((walk Crate 0 (s ++ more)).stop.number ≡ 11))
readable_yet s e =
    let w = (run Boundary s).walk in
    let there : (run Boundary (s ++ to_boundary w)).walk ≡ Boundary =
    ap (λ (r : Step). r.walk) (run_append Boundary s (to_boundary w)) ∙ to_boundary_lem w e in
    (to_boundary w, (to_boundary_bytes w, sym (closing_number (s ++ to_boundary w)) ∙ ap (λ (v : ChunkWalk). closing v) there))
