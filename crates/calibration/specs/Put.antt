-- A calibration record written into a buffer from a place (rules 19.9 and 1.16).
use Rattle.std.specs.Prelude.{ℕ, ◌+◌, ◌≡◌, Result, cond, List, ltb, length}
use Rattle.basis.specs.Reply.{Reply, ok, refused}
use Rattle.basis.specs.Refusal.{as_reply}
use Rattle.basis.specs.declared.refusal.Refusal.{Refusal}
use Rattle.basis.specs.Over.{over_at}
use Rattle.calibration.specs.Date.{is_real}
use Rattle.calibration.specs.Profile.{Fields, is_serial_len, record_of}

-- how many bytes are written from a place of a buffer of m bytes: 26, then 27, then 16 (rule 19.9)
unfoldable pub put_of : ℕ → ℕ → Fields → Reply ℕ
put_of at m f =
    cond (is_serial_len (length f.serial))
    (cond (is_real f.due) (cond (ltb m (at + length (record_of f))) (refused 16) (ok (length (record_of f)))) (refused 27))
    (refused 26)

-- the buffer after that: bytes before the record and after it stay, and a refusal changes nothing (rule 19.9)
abbrev pub buffer_after : Reply ℕ → ℕ → Fields → List ℕ → List ℕ
buffer_after (ok n) at f buffer = over_at at (record_of f) buffer
buffer_after (refused k) at f buffer = buffer

-- the promise of `put_profile`
pub record PutProfileIs (f : Fields) (lent : List ℕ) (at : ℕ) (x : Result ℕ Refusal) (after : List ℕ) : Type 0 where
  pub reply : as_reply x ≡ put_of at (length lent) f
  pub buffer : after ≡ buffer_after (put_of at (length lent) f) at f lent
