-- What is sent is read back, in both readings, with the Le that was asked for (rules 14.2, 14.3 and 14.7), from what is
-- proved of every builder (builder_laws).
use Prim.Native.Nat.{ℕ, zero, suc, ◌+◌, ◌-◌, ◌%◌, ◌≤◌, ◌<◌}
use mathlib.Core.Path.{◌≡◌, refl, sym, ap, subst}
use mathlib.Core.Logic.{◌⊎◌, inl, inr}
use mathlib.Core.Bool.{false}
use mathlib.Core.List.{List, [], ◌∷◌, ◌++◌}
use native.Mathlib.Decide.{ℕ_discrete}
use native.Mathlib.Omega.{arith}
use lib.ListN.{length}
use Rattle.basis.specs.Every.{Every}
use Rattle.basis.specs.Number.{Bytes, be}
use Rattle.basis.proofs.Truth.{on_cond}
use Rattle.class.specs.declared.Class.{Class}
use Rattle.class.specs.declared.Reading.{Reading}
use Rattle.command.proofs.Cases.{ReadAs, view_of_numbers}
use Rattle.builder.specs.Cases.{case_bytes, lc_bytes}
use Rattle.builder.specs.Bytes.{le_written, case_of, lc_len, command_of}
use Rattle.builder.specs.declared.ExtendedLen.TheVariants.{Unsupported, Forced}
use Rattle.builder.specs.declared.CommandBuilder.{CommandBuilder}
use Rattle.builder_laws.specs.Read.{Expected, extended_for}
use Rattle.builder_laws.proofs.Cases.{by_le}
use Rattle.builder_laws.proofs.LeWritten.{le_read, extended_read}
use Rattle.builder_laws.proofs.Read.{built_read}
use Rattle.response.specs.Response.{data_of, status_of}
use Rattle.response.specs.declared.status.Status.{Status}
use Rattle.collect.specs.Collect.{expected_by, again, get_response, with_le, StartIs}
use Rattle.collect.specs.declared.Sent.{Sent}
use Rattle.collect.specs.declared.Sent.TheVariants.{Command, GetResponse}
use Rattle.collect.specs.declared.Collection.{Collection}
use Rattle.collect_laws.specs.Run.{run}
use Rattle.collect_laws.specs.Accepted.{is_accepted, asks_more, accepted, statuses}
use Rattle.collect_laws.specs.Sends.{sends_after, sent_in, bytes_of}
use Rattle.collect_laws.specs.ReadBack.{le_asked, ReadBack, EachAsked}
use Rattle.collect_laws.proofs.Sends.{sends_61, sends_6c, sends_nothing, IsCommand, IsGetResponse, again_command, expected_by_lem}
use Rattle.collect_laws.proofs.Collected.{sent_after}

-- the expected length xx is one, and is written as it is: 00 means 256
le_bounds : (xx : ℕ) → xx < 256 → (1 ≤ le_asked xx) × (le_asked xx ≤ 256)
le_bounds zero h = (omega arith, omega arith)
le_bounds (suc n) h = (omega arith, omega arith)

one_byte : (xx : ℕ) → xx < 256 → le_asked xx % 256 ≡ xx
one_byte zero h = refl
one_byte (suc n) h = omega arith

not_forced : Unsupported ≡ Forced → ⊥
not_forced e = let z : ◌≡◌ {A = ℕ} 0 1 = cc in omega arith

module _ (xx : ℕ) (byte : xx < 256) where
  is_expected : Expected (expected_by xx)
  is_expected = rw (expected_by_lem xx) (omega (arith, (le_bounds xx byte).1))

  le_written_lem : (b : CommandBuilder) → le_written (with_le b xx) ≡ le_asked xx
  le_written_lem b = (le_read (with_le b xx)).number (le_asked xx) (expected_by_lem xx) (λ _. (le_bounds xx byte).1)

  -- the command sent again is read with its header, its data and Le xx (rule 14.3)
  pub command_read : (r : Reading) (b : CommandBuilder) (d : List ℕ) → (b.class.cla ≡ 0xFF → ⊥) → length d ≤ 65535
      → let n = length d in
      ReadAs r (command_of (with_le b xx) d)
      (view_of_numbers b.class.cla b.instruction b.p1 b.p2 (4 + lc_len (with_le b xx) n) n (le_asked xx)
      (extended_for (with_le b xx) n))
      d
  command_read r b d k h = rw (le_written_lem b) at (built_read r (with_le b xx) d k is_expected h)

  -- GET RESPONSE: class, C0, 0, 0, xx, whatever the command is (rule 14.2)
  module _ (c : Class) where
    get_response_le : le_written (get_response c xx) ≡ le_asked xx
    get_response_le = le_written_lem (get_response c xx)

    pub get_response_bytes : (d : List ℕ) → bytes_of d (GetResponse (get_response c xx)) ≡ c.cla ∷ 0xC0 ∷ 0 ∷ 0 ∷ xx ∷ []
    unfolding bytes_of command_of case_of be
    get_response_bytes d =
        let le = le_asked xx in
        let bounds = le_bounds xx byte in
        rw get_response_le
        (by_le (λ x. case_bytes x (c.cla ∷ 0xC0 ∷ 0 ∷ 0 ∷ []) [] le ≡ c.cla ∷ 0xC0 ∷ 0 ∷ 0 ∷ xx ∷ []) Unsupported le bounds.0
        (λ _ _. ap (λ (x : ℕ). c.cla ∷ 0xC0 ∷ 0 ∷ 0 ∷ x ∷ []) (one_byte xx byte)) (λ f. absurd (not_forced (f bounds.1))))

    no_lc : lc_len (get_response c xx) 0 ≡ 0
    unfolding lc_len case_of
    no_lc = rw get_response_le (by_le (λ x. lc_bytes x ≡ 0) Unsupported (le_asked xx) (le_bounds xx byte).0 (λ _ _. refl) (λ _. refl))

    not_extended : extended_for (get_response c xx) 0 ≡ false
    not_extended =
        (extended_read (get_response c xx) 0).short (omega arith) (omega (arith, get_response_le, (le_bounds xx byte).1))
        (λ e. absurd (not_forced e))

    -- it is read with the class, C0, 0, 0, no data and Le xx, and is not extended
    pub get_response_read : (r : Reading) → (c.cla ≡ 0xFF → ⊥)
        → ReadAs r (command_of (get_response c xx) []) (view_of_numbers c.cla 0xC0 0 0 4 0 (le_asked xx) false) []
    get_response_read r k = rw (get_response_le, no_lc, not_extended) at (built_read r (get_response c xx) [] k is_expected (omega arith))

-- what is sent is read back with the xx of the status that asked for it
command_back : (r : Reading) (b : CommandBuilder) (d : List ℕ) (xx : ℕ) → (b.class.cla ≡ 0xFF → ⊥) → length d ≤ 65535 → xx < 256
    → ReadBack r b d (Command (with_le b xx)) xx
unfolding bytes_of
command_back r b d xx k few h = let read = command_read xx h r b d k few in (read.view, read.part)

get_response_back : (r : Reading) (b : CommandBuilder) (d : List ℕ) (xx : ℕ) → (b.class.cla ≡ 0xFF → ⊥) → xx < 256
    → ReadBack r b d (GetResponse (get_response b.class xx)) xx
unfolding bytes_of
get_response_back r b d xx k h = let read = get_response_read xx h b.class r k in (read.view, read.part)

module _ (r : Reading) (b : CommandBuilder) (d : List ℕ) (k : b.class.cla ≡ 0xFF → ⊥) (few : length d ≤ 65535) where
  -- what was sent last, sent again
  again_back : (last : Sent) (xx : ℕ) → xx < 256 → IsCommand b last ⊎ IsGetResponse b last → ReadBack r b d (again last xx) xx
  again_back last xx h (inl e) =
      subst (λ s. ReadBack r b d s xx) (sym (again_command b last xx e)) (command_back r b d xx k few h)
  again_back last xx h (inr (y, e)) =
      subst (λ s. ReadBack r b d s xx) (sym (ap (λ s. again s xx) e)) (get_response_back r b d xx k h)

  again_kind : (last : Sent) (xx : ℕ) → IsCommand b last ⊎ IsGetResponse b last
      → IsCommand b (again last xx) ⊎ IsGetResponse b (again last xx)
  again_kind last xx (inl e) = inl (inr (xx, again_command b last xx e))
  again_kind last xx (inr (y, e)) = inr (xx, ap (λ s. again s xx) e)

  each_read : (last : Sent) (ts : List Status) → IsCommand b last ⊎ IsGetResponse b last → Every (λ t. t.sw2 < 256) ts
      → EachAsked (λ s t. ReadBack r b d s t.sw2) (sends_after b last ts) ts
  unfolding sends_after
  each_read last [] e h = tt
  each_read last (t ∷ ts) e h =
      elim (ℕ_discrete t.sw1 0x61) [
        | yes f ↦
            let x : Sent = GetResponse (get_response b.class t.sw2) in
            rw (sends_61 b last t ts f)
            (get_response_back r b d t.sw2 k h.0, each_read x ts (inr (t.sw2, refl)) h.1)
        | no f ↦
            elim (ℕ_discrete t.sw1 0x6C) [
              | yes g ↦
                  rw (sends_6c b last t ts g) (
                    again_back last t.sw2 h.0 e,
                    each_read (again last t.sw2) ts (again_kind last t.sw2 e) h.1,
                  )
              | no g ↦ rw (sends_nothing b last t ts f g) tt
            ]
      ]

-- the statuses of responses that are bytes are bytes
accepted_bytes : (left : ℕ) (ss : List (List ℕ)) → Every Bytes ss → Every (λ t. t.sw2 < 256) (statuses (accepted left ss))
unfolding accepted status_of
accepted_bytes left [] h = tt
accepted_bytes left (s ∷ ss) h =
    let P : List (List ℕ) → Type 0 = λ l. Every (λ (t : Status). t.sw2 < 256) (statuses l) in
    on_cond P (is_accepted left s) _ _
    (λ _. (
      h.0 (length s - 1),
      on_cond P (asks_more (status_of s)) _ _ (λ _. accepted_bytes (left - length (data_of s)) ss h.1) (λ _. tt),
    ))
    (λ _. accepted_bytes left ss h.1)

-- what `EachAsked` says: P at each place, and nothing is sent unasked
pub each_at : (P : Sent → Status → Type 0) (ss ss' : List Sent) (s : Sent) (ts ts' : List Status) (t : Status) → length ss ≡ length ts
    → EachAsked P (ss ++ (s ∷ ss')) (ts ++ (t ∷ ts')) → P s t
each_at P [] ss' s [] ts' t e h = h.0
each_at P [] ss' s (u ∷ ts) ts' t e h = absurd (omega arith)
each_at P (a ∷ ss) ss' s [] ts' t e h = absurd (omega arith)
each_at P (a ∷ ss) ss' s (u ∷ ts) ts' t e h = each_at P ss ss' s ts ts' t (omega arith) h.1

pub each_asked : (P : Sent → Status → Type 0) (ss : List Sent) (ts : List Status) → EachAsked P ss ts → length ss ≤ length ts
each_asked P [] ts h = omega arith
each_asked P (s ∷ ss) [] h = absurd h
each_asked P (s ∷ ss) (t ∷ ts) h = omega (arith, each_asked P ss ts h.1)

-- so is everything that a run sends. (If the command's class byte is 0xFF, neither it nor what is sent is read at all:
-- builder_laws, `built_ff`.)
module _ (b : CommandBuilder) (c : Collection) (begun : StartIs b c) (room : List ℕ) (ss : List (List ℕ)) (bytes : Every Bytes ss)
    (r : Reading) (d : List ℕ) (k : b.class.cla ≡ 0xFF → ⊥) (few : length d ≤ 65535) where
  pub sent_read : EachAsked (λ s t. ReadBack r b d s t.sw2) (sent_in (run c room ss).replies) (statuses (accepted (length room) ss))
  sent_read =
      rw (sent_after b c begun room ss)
      (each_read r b d k few (Command b) (statuses (accepted (length room) ss)) (inl (inl refl)) (accepted_bytes (length room) ss bytes))

  -- the same by places: what is sent after as many as there are statuses before t was asked for by t
  module _ (before after : List Sent) (ts us : List Status) (t : Status) (at : length before ≡ length ts)
      (asked : statuses (accepted (length room) ss) ≡ ts ++ (t ∷ us)) where
    read_there : (s : Sent) → sent_in (run c room ss).replies ≡ before ++ (s ∷ after) → ReadBack r b d s t.sw2
    read_there s e = each_at (λ s t. ReadBack r b d s t.sw2) before after s ts us t at (rw (e, asked) at sent_read)

    pub sent_command_read : (a : CommandBuilder) → sent_in (run c room ss).replies ≡ before ++ (Command a ∷ after)
        → let again = with_le b t.sw2 in
        let n = length d in
        ReadAs r (command_of a d)
        (view_of_numbers b.class.cla b.instruction b.p1 b.p2 (4 + lc_len again n) n (le_asked t.sw2) (extended_for again n))
        d
    unfolding bytes_of
    sent_command_read a e = let read = read_there (Command a) e in record { view = read.0; part = read.1 }

    pub sent_get_response_read : (a : CommandBuilder) → sent_in (run c room ss).replies ≡ before ++ (GetResponse a ∷ after)
        → ReadAs r (command_of a []) (view_of_numbers b.class.cla 0xC0 0 0 4 0 (le_asked t.sw2) false) []
    unfolding bytes_of
    sent_get_response_read a e = let read = read_there (GetResponse a) e in record { view = read.0; part = read.1 }
