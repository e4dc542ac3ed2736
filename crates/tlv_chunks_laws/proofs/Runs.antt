-- Runs over bytes: the run over some bytes and then more is the run over the first, then over the others (rule 18.5);
-- after a stop nothing changes (rule 18.7); a value is passed over whole (rule 18.8).
use Prim.Native.Nat.{ℕ, zero, suc, ◌-◌, ◌≤◌, ◌<◌}
use mathlib.Core.Path.{◌≡◌, refl, sym, ap, ◌∙◌}
use mathlib.Core.List.{List, [], ◌∷◌, ◌++◌, append_assoc}
use mathlib.Core.Option.{Option, none, some}
use native.Mathlib.Omega.{arith}
use lib.Dec.{leb, eqb}
use lib.ListN.{length, drop}
use Rattle.std.specs.Prelude.{Result, Ok, Err}
use Rattle.basis.proofs.Truth.{on_cond}
use Rattle.tlv.specs.Tag.{crate_tag_size, crate_third_byte}
use Rattle.tlv.specs.declared.stop.Stop.{Stop}
use Rattle.tlv.specs.declared.stop.Stop.TheVariants as stop
use Rattle.tlv_chunks.specs.Header.{second_of, third_of, length_of, byte_of}
use Rattle.tlv_chunks.specs.Run.{Event, end, Step, nothing, header_byte, following, step, run}
use Rattle.tlv_chunks.specs.declared.header.Header.{Header as Part}
use Rattle.tlv_chunks.specs.declared.header.Header.TheVariants as part
use Rattle.tlv_chunks.specs.declared.header.HeaderByte.{HeaderByte}
use Rattle.tlv_chunks.specs.declared.header.HeaderByte.TheVariants as byte
use Rattle.tlv_chunks.specs.declared.walk.ChunkWalk.{ChunkWalk}
use Rattle.tlv_chunks.specs.declared.walk.ChunkWalk.TheVariants.{Boundary, Header, Value, Stopped}
use Rattle.tlv_chunks_laws.specs.Session.{stopped_by}

pub following_following : (es fs : List Event) (x : Step) → following es (following fs x) ≡ following (es ++ fs) x
following_following es fs x = λ i. record { tells = sym (append_assoc es fs x.tells) i; walk = x.walk }

-- bytes, and then more bytes
pub run_append : (w : ChunkWalk) (a b : List ℕ) → run w (a ++ b) ≡ following (run w a).tells (run (run w a).walk b)
unfolding run
run_append w [] b = refl
run_append w (x ∷ a) b =
    let y = step w x in
    ap (following y.tells) (run_append y.walk a b)
    ∙ following_following y.tells (run y.walk a).tells (run (run y.walk a).walk b)

pub run_nothing : (w : ChunkWalk) → run w [] ≡ nothing w
unfolding run
run_nothing w = refl

-- a walk that has stopped tells nothing more and stays
pub run_after_stop : (e : Stop) (s : List ℕ) → run (Stopped e) s ≡ nothing (Stopped e)
unfolding run step
run_after_stop e [] = refl
run_after_stop e (b ∷ s) = run_after_stop e s

-- no number, and a number
pub none_some : {P : Type 0} (k : ℕ) → ◌≡◌ {A = Option ℕ} none (some k) → P
none_some k e = absurd (let z : ◌≡◌ {A = ℕ} 0 1 = cc in omega arith)

pub run_stopped : (w : ChunkWalk) (k : ℕ) → stopped_by w ≡ some k → (s : List ℕ) → run w s ≡ nothing w
run_stopped Boundary k e s = none_some k e
run_stopped (Header h) k e s = none_some k e
run_stopped (Value n) k e s = none_some k e
run_stopped (Stopped r) k e s = run_after_stop r s

-- one byte of a header, by what it comes to
pub run_byte : (h : Part) (b : ℕ) (s : List ℕ) (x : Result HeaderByte Stop) → byte_of h b ≡ x
    → run (Header h) (b ∷ s) ≡ following (header_byte x).tells (run (header_byte x).walk s)
unfolding run step
run_byte h b s x e = ap (λ (x : Result HeaderByte Stop). following (header_byte x).tells (run (header_byte x).walk s)) e

-- a value: all of it, or not yet all
pub value_whole : (n : ℕ) (s : List ℕ) → n < length s → run (Value n) s ≡ following (end ∷ []) (run Boundary (drop (suc n) s))
unfolding run step
value_whole n [] h = absurd (omega arith)
value_whole zero (b ∷ s) h = refl
value_whole (suc n) (b ∷ s) h = value_whole n s (omega arith)

pub value_cut : (n : ℕ) (s : List ℕ) → length s ≤ n → run (Value n) s ≡ nothing (Value (n - length s))
unfolding run step
value_cut n [] h = let e : n - 0 ≡ n = omega arith in rw e
value_cut zero (b ∷ s) h = absurd (omega arith)
value_cut (suc n) (b ∷ s) h = let e : suc n - suc (length s) ≡ n - length s = omega arith in rw e (value_cut n s (omega arith))

-- the state that has stopped with 11, or with 12
pub stopped_11 : (w : ChunkWalk) → stopped_by w ≡ some 11 → w ≡ Stopped stop.End
stopped_11 Boundary e = none_some 11 e
stopped_11 (Header h) e = none_some 11 e
stopped_11 (Value n) e = none_some 11 e
stopped_11 (Stopped stop.End) e = refl
stopped_11 (Stopped stop.Unreadable) e = absurd (let z : ◌≡◌ {A = ℕ} 12 11 = cc in omega arith)

pub stopped_12 : (w : ChunkWalk) → stopped_by w ≡ some 12 → w ≡ Stopped stop.Unreadable
stopped_12 Boundary e = none_some 12 e
stopped_12 (Header h) e = none_some 12 e
stopped_12 (Value n) e = none_some 12 e
stopped_12 (Stopped stop.End) e = absurd (let z : ◌≡◌ {A = ℕ} 11 12 = cc in omega arith)
stopped_12 (Stopped stop.Unreadable) e = refl

-- bytes alone never stop a walk with 11: that is the closing call's
abbrev Not11 : ChunkWalk → Type 0
Not11 w = stopped_by w ≡ some 11 → ⊥

-- a byte of a header is refused with 12
abbrev Only12 : Result HeaderByte Stop → Type 0
Only12 (Ok x) = Unit {0}
Only12 (Err stop.End) = ⊥
Only12 (Err stop.Unreadable) = Unit {0}

byte_12 : (h : Part) (b : ℕ) → Only12 (byte_of h b)
unfolding byte_of second_of third_of length_of
byte_12 (part.Tag1 a) b =
    on_cond Only12 (eqb (crate_tag_size b) 0) _ _ (λ _. tt) (λ _. on_cond Only12 (eqb (crate_tag_size b) 2) _ _ (λ _. tt) (λ _. tt))
byte_12 (part.Tag2 a b) c = on_cond Only12 (crate_third_byte c) _ _ (λ _. tt) (λ _. tt)
byte_12 (part.Tag t) b =
    on_cond Only12 (leb b 0x7F) _ _ (λ _. tt)
    (λ _. on_cond Only12 (eqb b 0x81) _ _ (λ _. tt) (λ _. on_cond Only12 (eqb b 0x82) _ _ (λ _. tt) (λ _. tt)))
byte_12 (part.Length81 t) b = tt
byte_12 (part.Length82 t) b = tt
byte_12 (part.Length82High t a) b = tt

header_not_11 : (x : Result HeaderByte Stop) → Only12 x → Not11 (header_byte x).walk
header_not_11 (Ok (byte.More g)) u e = none_some 11 e
header_not_11 (Ok (byte.Complete t zero)) u e = none_some 11 e
header_not_11 (Ok (byte.Complete t (suc n))) u e = none_some 11 e
header_not_11 (Err stop.End) u e = u
header_not_11 (Err stop.Unreadable) u e = absurd (let z : ◌≡◌ {A = ℕ} 12 11 = cc in omega arith)

step_not_11 : (w : ChunkWalk) (b : ℕ) → Not11 w → Not11 (step w b).walk
unfolding step
step_not_11 Boundary b n e = none_some 11 e
step_not_11 (Header h) b n e = header_not_11 (byte_of h b) (byte_12 h b) e
step_not_11 (Value zero) b n e = none_some 11 e
step_not_11 (Value (suc m)) b n e = none_some 11 e
step_not_11 (Stopped r) b n e = n e

pub run_not_11 : (w : ChunkWalk) (s : List ℕ) → Not11 w → stopped_by (run w s).walk ≡ some 11 → ⊥
unfolding run
run_not_11 w [] n = n
run_not_11 w (b ∷ s) n = run_not_11 (step w b).walk s (step_not_11 w b n)
