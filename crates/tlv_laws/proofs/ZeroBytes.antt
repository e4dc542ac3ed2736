-- Zero bytes in front of a record move what the standard reading reads, and nothing else (rules 16.1 to 16.6).
use Prim.Native.Nat.{ℕ, zero, suc, ◌+◌, ◌≤◌}
use mathlib.Core.Path.{◌≡◌, refl, sym, ap, ◌∙◌}
use mathlib.Core.List.{List, [], ◌∷◌, ◌++◌}
use native.Mathlib.Nat.{add_assoc, add-zero, zero-add, min-eq_left}
use native.Mathlib.Omega.{arith}
use lib.ListN.{length, drop, length-append}
use lib.Seq.{take-length, drop_at, drop-append-add}
use Rattle.basis.specs.Number.{Bytes}
use Rattle.basis.specs.Reply.{Told, ok, refused}
use Rattle.basis.proofs.Reply.{by_reply}
use Rattle.tlv.specs.Padding.{zeros, padding}
use Rattle.tlv.specs.Object.{object_of, Item, Stop, placed, next_of, moved, object_at}
use Rattle.tlv.specs.Walk.{walk}
use Rattle.tlv.specs.Lookup.{Span, part, seek, Found, follow, lookup}
use Rattle.tlv.specs.declared.Reading.{Reading}
use Rattle.tlv.specs.declared.Reading.TheVariants.{Standard}
use Rattle.tlv.proofs.Zeros.{zero_first, other_first, zeros_nothing, standard_padding}
use Rattle.tlv.proofs.Within.{next_after}
use Rattle.tlv.proofs.Walk.{seek_refused}
use Rattle.tlv.proofs.Entered.{moved_span, seek_moved}
use Rattle.tlv_laws.specs.Padding.{zero_bytes, moved_lookup}
use Rattle.tlv_laws.proofs.Padded.{next_only, next_padded, walk_padded, seek_padded}
use Rattle.tlv_laws.proofs.Boundary.{tag_there, zero_not_read, zero_no_tag, no_tag_found}

-- k zero bytes are k bytes of padding
pub zero_bytes_lem : (k : ℕ) → length (zero_bytes k) ≡ k
unfolding zero_bytes
zero_bytes_lem zero = refl
zero_bytes_lem (suc k) = ap suc (zero_bytes_lem k)

zero_count : (k : ℕ) → zeros (zero_bytes k) ≡ k
unfolding zero_bytes
zero_count zero = zeros_nothing
zero_count (suc k) = zero_first 0 (zero_bytes k) refl ∙ ap suc (zero_count k)

pub zeros_only : (k : ℕ) → padding Standard (zero_bytes k) ≡ length (zero_bytes k)
zeros_only k = standard_padding (zero_bytes k) ∙ zero_count k ∙ sym (zero_bytes_lem k)

moved_twice : (a k : ℕ) (x : Told Stop Item) → moved a (moved k x) ≡ moved (a + k) x
moved_twice a k (ok i) = rw (add_assoc, add_assoc)
moved_twice a k (refused e) = rw add_assoc

-- in front of bytes s they move the next object and the walk by k
module _ (k : ℕ) (s : List ℕ) where
  pub zeros_next : next_of Standard (zero_bytes k ++ s) ≡ moved k (next_of Standard s)
  zeros_next = rw (zero_bytes_lem k) at (next_padded Standard (zero_bytes k) (zeros_only k) s)

  pub zeros_walk : (a : ℕ) → walk Standard a (zero_bytes k ++ s) ≡ walk Standard (a + k) s
  zeros_walk a = rw (zero_bytes_lem k) at (walk_padded Standard (zero_bytes k) (zeros_only k) a s)

  -- an object that is read at a place where k zero bytes stand is the one that is read after them
  pub zeros_object : (x : List ℕ) → object_at Standard (x ++ (zero_bytes k ++ s)) (length x) ≡ moved (length x + k) (next_of Standard s)
  zeros_object x =
      let l = x ++ (zero_bytes k ++ s) in
      let within : length x ≤ length l = omega (arith, length-append x (zero_bytes k ++ s)) in
      rw (min-eq_left {n = length x} {m = length l} within, drop_at x (zero_bytes k ++ s) (length x) refl, zeros_next)
      (moved_twice (length x) k (next_of Standard s))

-- only zero bytes: 11, at their end (rule 16.3)
pub zeros_end : (k : ℕ) → object_at Standard (zero_bytes k) 0 ≡ refused (record { number = 11; place = k })
zeros_end k =
    rw (min-eq_left {n = 0} {m = length (zero_bytes k)} (omega arith), next_only Standard (zero_bytes k) (zeros_only k), zero_bytes_lem k, zero-add)

-- a path in bytes s that stand after others
module _ (r : Reading) (x s : List ℕ) where
  follow_moved : (m : ℕ) (p : Span) (path : List ℕ)
      → follow r (x ++ s) m (record { at = length x + p.at; len = p.len }) path ≡ moved_lookup (length x) (follow r s m p path)
  unfolding follow
  follow_moved m p [] = refl
  follow_moved m p (t ∷ path) =
      rw (drop-append-add x s p.at, seek_moved r t (length x) p.at (part s p))
      (by_reply (seek r t p.at (part s p)) (λ q e. rw e (follow_moved (m + 1) q path)) (λ e f. rw f))

  -- in front of a record padding moves the place of every lookup, and nothing else
  padded_lookup : padding r x ≡ length x → (t : ℕ) (path : List ℕ)
      → lookup r (x ++ s) (t ∷ path) ≡ moved_lookup (length x) (lookup r s (t ∷ path))
  unfolding follow
  padded_lookup only t path =
      let first : seek r t 0 (x ++ s) ≡ moved_span (length x) (seek r t 0 s) =
      seek_padded r x only t 0 s ∙ ap (λ (n : ℕ). seek r t n s) (zero-add (length x) ∙ sym (add-zero (length x))) ∙ seek_moved r t (length x) 0 s in
      rw (take-length (x ++ s), take-length s, first)
      (by_reply (seek r t 0 s) (λ q e. rw e (follow_moved 1 q path)) (λ e f. rw f))

pub zeros_lookup : (k : ℕ) (s : List ℕ) (t : ℕ) (path : List ℕ)
    → lookup Standard (zero_bytes k ++ s) (t ∷ path) ≡ moved_lookup k (lookup Standard s (t ∷ path))
zeros_lookup k s t path = rw (zero_bytes_lem k) at (padded_lookup Standard (zero_bytes k) s (zeros_only k) t path)

-- no object that is read in the standard reading has tag 0 (rule 16.6)
pub no_zero_tag : (s : List ℕ) (i : Item) → next_of Standard s ≡ ok i → i.tag ≡ 0 → ⊥
no_zero_tag s i e z = let t = tag_there Standard s i e in zero_not_read (drop i.place s) t.0 t.1.0 (t.1.1 ∙ z)

-- so no path with 0 leads to a value
pub zero_not_found : (s before path : List ℕ) → Bytes s → (p : Found) → lookup Standard s (before ++ (0 ∷ path)) ≡ ok p → ⊥
zero_not_found = no_tag_found Standard 0 zero_no_tag

-- only 00 is padding: after any other byte, and of no bytes, the next object is the one in front, as before (rule 16.1)
pub other_byte : (b : ℕ) (s : List ℕ) → (b ≡ 0 → ⊥) → next_of Standard (b ∷ s) ≡ placed 0 (object_of Standard (b ∷ s))
other_byte b s n = next_after Standard (b ∷ s) 0 (sym (standard_padding (b ∷ s) ∙ other_first b s n))

-- a record of zero bytes only: every lookup of a tag is 11 at its end, and no tag matched (rule 16.3)
pub zeros_lookup_end : (k t : ℕ) (path : List ℕ)
    → lookup Standard (zero_bytes k) (t ∷ path) ≡ refused (record { number = 11; place = k; matched = 0 })
unfolding follow
zeros_lookup_end k t path =
    rw (take-length (zero_bytes k), seek_refused Standard t 0 (zero_bytes k) _ (next_only Standard (zero_bytes k) (zeros_only k)), zero_bytes_lem k, zero-add)
