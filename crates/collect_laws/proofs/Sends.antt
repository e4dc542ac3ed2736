-- What is sent after each status, at its place and with every field (rules 14.2 to 14.4). These laws fix `sends`.
use Prim.Native.Nat.{ℕ, zero, suc}
use mathlib.Core.Path.{◌≡◌, refl, ap, ◌∙◌}
use mathlib.Core.Logic.{◌⊎◌, inl, inr}
use mathlib.Core.List.{List, [], ◌∷◌, ◌++◌, append-nil}
use native.Mathlib.Omega.{arith}
use borrow.Author.Tests.{eq-eqb, ne_eqb}
use Rattle.basis.specs.Every.{Every}
use Rattle.basis.proofs.Every.{every_append, every_weaken}
use Rattle.builder.specs.declared.ExpectedLen.TheVariants.{Ne}
use Rattle.builder.specs.declared.ExtendedLen.TheVariants.{Unsupported}
use Rattle.builder.specs.declared.CommandBuilder.{CommandBuilder}
use Rattle.response.specs.declared.status.Status.{Status}
use Rattle.collect.specs.Collect.{expected_by, get_response, with_le, again}
use Rattle.collect.specs.declared.Sent.{Sent}
use Rattle.collect.specs.declared.Sent.TheVariants.{Command, GetResponse}
use Rattle.collect_laws.specs.Sends.{sends_after, sends, last_of}
use Rattle.collect_laws.specs.ReadBack.{le_asked}

-- what is sent after a status, by SW1 in numbers
pub sends_61 : (b : CommandBuilder) (last : Sent) (t : Status) (ts : List Status) → t.sw1 ≡ 0x61
    → let next = GetResponse (get_response b.class t.sw2) in sends_after b last (t ∷ ts) ≡ next ∷ sends_after b next ts
unfolding sends_after
sends_61 b last t ts e = rw (eq-eqb t.sw1 0x61 e)

pub sends_6c : (b : CommandBuilder) (last : Sent) (t : Status) (ts : List Status) → t.sw1 ≡ 0x6C
    → let next = again last t.sw2 in sends_after b last (t ∷ ts) ≡ next ∷ sends_after b next ts
unfolding sends_after
sends_6c b last t ts e = rw (ne_eqb t.sw1 0x61 (omega arith), eq-eqb t.sw1 0x6C e)

pub sends_nothing : (b : CommandBuilder) (last : Sent) (t : Status) (ts : List Status) → (t.sw1 ≡ 0x61 → ⊥)
    → (t.sw1 ≡ 0x6C → ⊥) → sends_after b last (t ∷ ts) ≡ []
unfolding sends_after
sends_nothing b last t ts f g = rw (ne_eqb t.sw1 0x61 f, ne_eqb t.sw1 0x6C g)

-- a status asks for more, in numbers
abbrev pub Asks : Status → Type 0
Asks t = (t.sw1 ≡ 0x61) ⊎ (t.sw1 ≡ 0x6C)

-- the first of several statuses asks for x, and what is sent after them
first_then : (b : CommandBuilder) (last x : Sent) (t : Status) (ts us : List Status)
    → ((vs : List Status) → sends_after b last (t ∷ vs) ≡ x ∷ sends_after b x vs)
    → sends_after b x (ts ++ us) ≡ sends_after b x ts ++ sends_after b (last_of x (sends_after b x ts)) us
    → sends_after b last (t ∷ ts ++ us) ≡ sends_after b last (t ∷ ts) ++ sends_after b (last_of last (sends_after b last (t ∷ ts))) us
first_then b last x t ts us e h = rw (e (ts ++ us), e ts) (ap (λ l. x ∷ l) h)

-- after statuses that all ask for more it goes on from what was sent last
pub sends_append : (b : CommandBuilder) (last : Sent) (ts us : List Status) → Every Asks ts
    → sends_after b last (ts ++ us) ≡ sends_after b last ts ++ sends_after b (last_of last (sends_after b last ts)) us
unfolding sends_after
sends_append b last [] us h = refl
sends_append b last (t ∷ ts) us (inl e, h) =
    let x : Sent = GetResponse (get_response b.class t.sw2) in
    first_then b last x t ts us (λ vs. sends_61 b last t vs e) (sends_append b x ts us h)
sends_append b last (t ∷ ts) us (inr e, h) =
    let x : Sent = again last t.sw2 in
    first_then b last x t ts us (λ vs. sends_6c b last t vs e) (sends_append b x ts us h)

-- what was sent last: GET RESPONSE once 61xx came, and until then the command
abbrev pub IsGetResponse : CommandBuilder → Sent → Type 0
IsGetResponse b s = (xx : ℕ) × (s ≡ GetResponse (get_response b.class xx))

abbrev pub IsCommand : CommandBuilder → Sent → Type 0
IsCommand b s = (s ≡ Command b) ⊎ ((xx : ℕ) × (s ≡ Command (with_le b xx)))

last_by : (b : CommandBuilder) (last x : Sent) (t : Status) (ts : List Status) (P : Sent → Type 0)
    → sends_after b last (t ∷ ts) ≡ x ∷ sends_after b x ts → P (last_of x (sends_after b x ts)) → P (last_of last (sends_after b last (t ∷ ts)))
last_by b last x t ts P e h = rw e h

stays_get_response : (b : CommandBuilder) (last : Sent) (ts : List Status) → IsGetResponse b last → Every Asks ts
    → IsGetResponse b (last_of last (sends_after b last ts))
unfolding sends_after
stays_get_response b last [] g h = g
stays_get_response b last (t ∷ ts) g (inl e, h) =
    let x : Sent = GetResponse (get_response b.class t.sw2) in
    last_by b last x t ts (IsGetResponse b) (sends_61 b last t ts e) (stays_get_response b x ts (t.sw2, refl) h)
stays_get_response b last (t ∷ ts) g (inr e, h) =
    let x : Sent = again last t.sw2 in
    last_by b last x t ts (IsGetResponse b) (sends_6c b last t ts e)
    (stays_get_response b x ts (t.sw2, ap (λ s. again s t.sw2) g.1) h)

becomes_get_response : (b : CommandBuilder) (last : Sent) (ts : List Status) (a : Status) (us : List Status) → Every Asks ts
    → a.sw1 ≡ 0x61 → Every Asks us → IsGetResponse b (last_of last (sends_after b last (ts ++ (a ∷ us))))
becomes_get_response b last [] a us h e g =
    let x : Sent = GetResponse (get_response b.class a.sw2) in
    last_by b last x a us (IsGetResponse b) (sends_61 b last a us e) (stays_get_response b x us (a.sw2, refl) g)
becomes_get_response b last (t ∷ ts) a us (inl f, h) e g =
    let x : Sent = GetResponse (get_response b.class t.sw2) in
    last_by b last x t (ts ++ (a ∷ us)) (IsGetResponse b) (sends_61 b last t (ts ++ (a ∷ us)) f) (becomes_get_response b x ts a us h e g)
becomes_get_response b last (t ∷ ts) a us (inr f, h) e g =
    let x : Sent = again last t.sw2 in
    last_by b last x t (ts ++ (a ∷ us)) (IsGetResponse b) (sends_6c b last t (ts ++ (a ∷ us)) f) (becomes_get_response b x ts a us h e g)

pub again_command : (b : CommandBuilder) (s : Sent) (xx : ℕ) → IsCommand b s → again s xx ≡ Command (with_le b xx)
again_command b s xx (inl e) = ap (λ s. again s xx) e
again_command b s xx (inr (y, e)) = ap (λ s. again s xx) e

stays_command : (b : CommandBuilder) (last : Sent) (ts : List Status) → IsCommand b last → Every (λ t. t.sw1 ≡ 0x6C) ts
    → IsCommand b (last_of last (sends_after b last ts))
unfolding sends_after
stays_command b last [] g h = g
stays_command b last (t ∷ ts) g h =
    let x : Sent = again last t.sw2 in
    last_by b last x t ts (IsCommand b) (sends_6c b last t ts h.0)
    (stays_command b x ts (inr (t.sw2, again_command b last t.sw2 g)) h.1)

-- one more status, after those that ask for more
one_more : (b : CommandBuilder) (ts : List Status) (t : Status) (x : Sent) → Every Asks ts
    → sends_after b (last_of (Command b) (sends b ts)) (t ∷ []) ≡ x ∷ [] → sends b (ts ++ (t ∷ [])) ≡ sends b ts ++ (x ∷ [])
one_more b ts t x h e = sends_append b (Command b) ts (t ∷ []) h ∙ ap (λ l. sends b ts ++ l) e

-- the expected length xx, in both forms
pub expected_by_lem : (xx : ℕ) → expected_by xx ≡ Ne (le_asked xx)
expected_by_lem zero = refl
expected_by_lem (suc n) = refl

-- What the last of several statuses leads to, if those before it ask for more. After 61xx: GET RESPONSE, of the class
-- of the command (rule 14.2). After 6Cxx: GET RESPONSE again if a 61xx came before, and else the command (rule 14.3).
-- Both with Le xx. After any other: nothing more, whatever comes then (rule 14.4).
module _ (b : CommandBuilder) (t : Status) where
  get_response_sent : GetResponse (get_response b.class t.sw2)
      ≡ GetResponse (record {
        class = b.class;
        instruction = 0xC0;
        p1 = 0;
        p2 = 0;
        le = Ne (le_asked t.sw2);
        mode = Unsupported;
      })
  get_response_sent = rw (expected_by_lem t.sw2)

  pub sent_61 : (ts : List Status) → Every Asks ts → t.sw1 ≡ 0x61
      → sends b (ts ++ (t ∷ []))
      ≡ sends b ts ++ (GetResponse (record {
        class = b.class;
        instruction = 0xC0;
        p1 = 0;
        p2 = 0;
        le = Ne (le_asked t.sw2);
        mode = Unsupported;
      }) ∷ [])
  unfolding sends_after
  sent_61 ts h e =
      one_more b ts t _ h (sends_61 b (last_of (Command b) (sends b ts)) t [] e ∙ ap (λ s. s ∷ []) get_response_sent)

  pub sent_6c_command : (ts : List Status) → Every (λ t. t.sw1 ≡ 0x6C) ts → t.sw1 ≡ 0x6C
      → sends b (ts ++ (t ∷ []))
      ≡ sends b ts ++ (Command (record {
        class = b.class;
        instruction = b.instruction;
        p1 = b.p1;
        p2 = b.p2;
        le = Ne (le_asked t.sw2);
        mode = b.mode;
      }) ∷ [])
  unfolding sends_after
  sent_6c_command ts h e =
      let last = last_of (Command b) (sends b ts) in
      let same : again last t.sw2 ≡ Command (with_le b t.sw2) =
      again_command b last t.sw2 (stays_command b (Command b) ts (inl refl) h) in
      one_more b ts t _ (every_weaken Asks (λ t. t.sw1 ≡ 0x6C) ts (λ t e. inr e) h)
      (sends_6c b last t [] e ∙ ap (λ s. s ∷ []) (same ∙ rw (expected_by_lem t.sw2)))

  pub sent_6c_get_response : (ts : List Status) (a : Status) (us : List Status) → Every Asks ts → a.sw1 ≡ 0x61 → Every Asks us
      → t.sw1 ≡ 0x6C
      → sends b (ts ++ (a ∷ us) ++ (t ∷ []))
      ≡ sends b (ts ++ (a ∷ us)) ++ (GetResponse (record {
        class = b.class;
        instruction = 0xC0;
        p1 = 0;
        p2 = 0;
        le = Ne (le_asked t.sw2);
        mode = Unsupported;
      }) ∷ [])
  unfolding sends_after
  sent_6c_get_response ts a us h f g e =
      let before = ts ++ (a ∷ us) in
      let last = last_of (Command b) (sends b before) in
      let is = becomes_get_response b (Command b) ts a us h f g in
      one_more b before t _ (every_append Asks ts (a ∷ us) h (inl f, g))
      (sends_6c b last t [] e ∙ ap (λ s. again s t.sw2 ∷ []) is.1 ∙ ap (λ s. s ∷ []) get_response_sent)

  pub sent_no_more : (ts us : List Status) → Every Asks ts → (t.sw1 ≡ 0x61 → ⊥) → (t.sw1 ≡ 0x6C → ⊥)
      → sends b (ts ++ (t ∷ us)) ≡ sends b ts
  sent_no_more ts us h f g =
      sends_append b (Command b) ts (t ∷ us) h
      ∙ ap (λ l. sends b ts ++ l) (sends_nothing b (last_of (Command b) (sends b ts)) t us f g)
      ∙ append-nil (sends b ts)
