-- What is written is read back: a tag that a reading accepts, the shortest length, and the value (rule 7.4).
use Prim.Native.Nat.{ℕ, zero, suc, ◌+◌, ◌-◌, ◌*◌, ◌/◌, ◌%◌, ◌≤◌, ◌<◌}
use mathlib.Core.Path.{◌≡◌, refl, sym, ap, ◌∙◌}
use mathlib.Core.Bool.{true}
use mathlib.Core.List.{List, [], ◌∷◌, ◌++◌, append_assoc}
use native.Mathlib.Nat.{zero-add, add-zero}
use native.Mathlib.Omega.{arith}
use lib.Dec.{ltb, leb}
use lib.ListN.{length, get_or, take, drop, length-append}
use lib.Seq.{take-suc, take_at, take-length, take-append_seam, length-take-le, drop_at, drop-append_seam, drop-append-add}
use borrow.Author.Tests.{ltb-false, le-ltb, le-leb}
use Rattle.basis.specs.Reply.{Told, ok, refused}
use Rattle.basis.specs.Over.{over_at}
use Rattle.basis.specs.Number.{be}
use Rattle.basis.proofs.Reply.{All, all_is, all_cond}
use Rattle.basis.proofs.Truth.{on_cond}
use Rattle.std.specs.Prelude.{Result}
use Rattle.basis.specs.Refusal.{as_reply}
use Rattle.basis.specs.declared.refusal.Refusal.{Refusal}
use Rattle.tlv.specs.Padding.{zeros, padding}
use Rattle.tlv.specs.Tag.{Tag, in_range, tag_size, crate_tag_size, standard_tag_size, long_tag, tag_of, tag_alone}
use Rattle.tlv.specs.Len.{len_to82, len_of}
use Rattle.tlv.specs.Object.{object_of, placed, next_of, size_of, moved}
use Rattle.tlv.specs.Lookup.{part, seek, Found, Halt, follow, lookup, value_in}
use Rattle.tlv.specs.declared.Reading.{Reading}
use Rattle.tlv.specs.declared.Reading.TheVariants.{Crate, Standard}
use Rattle.tlv.proofs.Tags.{by_tag, alone_read}
use Rattle.tlv.proofs.Lengths.{len_in_both_readings}
use Rattle.tlv.proofs.Within.{tag_inside, next_after}
use Rattle.tlv.proofs.Walk.{seek_here, seek_next}
use Rattle.tlv_write.specs.Written.{tag_bytes, len_bytes, object_bytes, put_of, PutDataObjectIs}
use Rattle.tlv_laws.specs.ReadBack.{written, object_for, ReadsBack}
use Rattle.tlv_laws.specs.Padding.{zero_bytes, moved_lookup}
use Rattle.tlv_laws.proofs.FrontOfBytes.{tag_front, padding_front}
use Rattle.tlv_laws.proofs.ZeroBytes.{zero_bytes_lem, zeros_next, zeros_lookup}

-- a number in three bytes
three_bytes : (n a b c : ℕ) → n ≡ (a * 256 + b) * 256 + c → a < 256 → b < 256 → c < 256 → be 3 n ≡ a ∷ b ∷ c ∷ []
unfolding be
three_bytes n a b c e ha hb hc =
    let x : n / 256 / 256 % 256 ≡ a = omega arith in
    let y : n / 256 % 256 ≡ b = omega arith in
    let z : n % 256 ≡ c = omega arith in
    rw (x, y, z)

-- a first byte that is not zero stays
stays : (b c : ℕ) (s : List ℕ) → 1 ≤ b → tag_bytes (b ∷ c ∷ s) ≡ b ∷ c ∷ s
unfolding tag_bytes
stays zero c s h = absurd (omega arith)
stays (suc b) c s h = refl

module _ (r : Reading) (s : List ℕ) (bytes : (i : ℕ) → get_or s i 0 < 256) where
  -- the writer writes exactly the bytes that the tag was read from
  pub tag_bytes_lem : All (λ t. tag_bytes (be 3 t.number) ≡ take t.size s) (tag_of r s)
  unfolding tag_bytes
  tag_bytes_lem =
      let b1 = get_or s 0 0 in
      let b2 = get_or s 1 0 in
      let b3 = get_or s 2 0 in
      by_tag r s (All (λ t. tag_bytes (be 3 t.number) ≡ take t.size s)) (λ _. tt) (λ _. tt)
      (λ h _. rw (three_bytes b1 0 0 b1 (omega arith) (omega arith) (omega arith) (bytes 0), take-suc s 0 0 h))
      (λ long h _. rw (
        three_bytes (b1 * 256 + b2) 0 b1 b2 (omega arith) (omega arith) (bytes 0) (bytes 1),
        stays b1 b2 [] (omega arith),
        take-suc s 1 0 h,
        take-suc s 0 0 (omega arith),
      ))
      (λ long h _ _ _. rw (
        three_bytes ((b1 * 256 + b2) * 256 + b3) b1 b2 b3 refl (bytes 0) (bytes 1) (bytes 2),
        stays b1 b2 (b3 ∷ []) (omega arith),
        take-suc s 2 0 h,
        take-suc s 1 0 (omega arith),
        take-suc s 0 0 (omega arith),
      ))

-- a length that is written is read back
len_82_back : (n : ℕ) (w : List ℕ) → n ≤ 65535
    → len_to82 (len_bytes n ++ w) ≡ ok (record { number = n; size = length (len_bytes n) })
unfolding len_bytes len_to82 be
len_82_back n w h =
    let P : List ℕ → Type 0 = λ l. len_to82 (l ++ w) ≡ ok (record { number = n; size = length l }) in
    let k = length w in
    on_cond P (leb n 0x7F) _ _ (λ e. rw (le-ltb (suc k) 1 (omega arith), e))
    (λ e. on_cond P (leb n 0xFF) _ _
    (λ f. rw (le-ltb (suc (suc k)) 1 (omega arith), le-ltb (suc (suc k)) 2 (omega arith)))
    (λ f.
    let v : n / 256 % 256 * 256 + n % 256 ≡ n = omega arith in
    rw (le-ltb (suc (suc (suc k))) 1 (omega arith), le-ltb (suc (suc (suc k))) 3 (omega arith), v)))

len_back : (r : Reading) (n : ℕ) (w : List ℕ) → n ≤ 65535
    → len_of r (len_bytes n ++ w) ≡ ok (record { number = n; size = length (len_bytes n) })
len_back r n w h = len_in_both_readings r (len_bytes n ++ w) ∙ len_82_back n w h

-- a tag, a written length, a value and any bytes after it are read as that object
object_back : (r : Reading) (b v u : List ℕ) (t : Tag) → length b ≡ t.size
    → tag_of r (b ++ (len_bytes (length v) ++ (v ++ u))) ≡ ok t → length v ≤ 65535
    → object_of r (((b ++ len_bytes (length v)) ++ v) ++ u)
    ≡ ok (record { tag = t.number; at = length (b ++ len_bytes (length v)); len = length v })
unfolding object_of
object_back r b v u t size e h =
    let l = len_bytes (length v) in
    let all = b ++ (l ++ (v ++ u)) in
    let room : leb (length v) (length all - (t.size + length l)) ≡ true =
    le-leb (length v) (length all - (t.size + length l)) (simp length-append (omega arith)) in
    rw (
      append_assoc (b ++ l) v u,
      append_assoc b l (v ++ u),
      length-append b l,
      size,
      e,
      drop_at b (l ++ (v ++ u)) t.size size,
      len_back r (length v) (v ++ u) h,
      room,
    )

next_back : (r : Reading) (b v u : List ℕ) (t : Tag) → length b ≡ t.size
    → tag_of r (b ++ (len_bytes (length v) ++ (v ++ u))) ≡ ok t → padding r (b ++ (len_bytes (length v) ++ (v ++ u))) ≡ 0
    → length v ≤ 65535
    → next_of r (((b ++ len_bytes (length v)) ++ v) ++ u)
    ≡ ok (record { place = 0; tag = t.number; at = length (b ++ len_bytes (length v)); len = length v })
next_back r b v u t size e none h =
    let l = len_bytes (length v) in
    let w = ((b ++ l) ++ v) ++ u in
    let none-there : 0 ≡ padding r w = sym (rw (append_assoc (b ++ l) v u, append_assoc b l (v ++ u)) none) in
    next_after r w 0 none-there ∙ ap (placed 0) (object_back r b v u t size e h) ∙ rw zero-add

-- a tag that was read alone in bytes, a value of at most 65,535 bytes, and any bytes after it (rule 7.4)
module _ (r : Reading) (s : List ℕ) (bytes : (i : ℕ) → get_or s i 0 < 256) (t : Tag) (e : tag_alone r s ≡ ok t) (v u : List ℕ)
    (h : length v ≤ 65535) where
  pub written_read : ReadsBack r t.number v u
  unfolding object_bytes
  written_read =
      let b = take t.size s in
      let accepted = (alone_read r s t e).1 in
      let same : tag_bytes (be 3 t.number) ≡ b =
      all_is (λ t. tag_bytes (be 3 t.number) ≡ take t.size s) (tag_of r s) t (tag_bytes_lem r s bytes) accepted in
      let p = tag_bytes (be 3 t.number) ++ len_bytes (length v) in
      let at : length (p ++ v) - length v ≡ length p = omega (arith, length-append p v) in
      let within = tag_inside r s t accepted in
      let size : length b ≡ t.size = length-take-le t.size s within.1 in
      let rest = len_bytes (length v) ++ (v ++ u) in
      let read : tag_of r (b ++ rest) ≡ ok t =
      all_is (λ t. take t.size (b ++ rest) ≡ take t.size s → tag_of r (b ++ rest) ≡ ok t) (tag_of r s) t
      (tag_front s (b ++ rest) r) accepted (take_at b rest t.size size) in
      let none = (alone_read r s t e).0 in
      let unpadded : padding r (b ++ rest) ≡ 0 =
      padding_front r s (b ++ rest) t.size (take_at b rest t.size size) (omega (arith, none, within)) within.1 ∙ none in
      record {
        object = rw (at, same) (next_back r b v u t size read unpadded h);
        value = rw (at, append_assoc p v u, drop-append_seam p (v ++ u), take-append_seam v u);
        rest = rw (at, append_assoc p v u, drop-append-add p (v ++ u) (length v), drop-append_seam v u);
      }

  -- so a lookup of the tag finds the value
  pub written_found : value_in (written t.number v ++ u) (lookup r (written t.number v ++ u) (t.number ∷ [])) ≡ v
  unfolding follow
  written_found =
      let w = written t.number v ++ u in
      let found : lookup r w (t.number ∷ []) ≡ ok (record { at = (object_for t.number v).at; len = length v; matched = 1 }) =
      rw (take-length w, seek_here r t.number 0 w (object_for t.number v) written_read.object refl, zero-add) in
      rw found written_read.value

  -- and a lookup of another tag goes on with the bytes after it
  pub written_passed : (n a : ℕ) → (t.number ≡ n → ⊥)
      → seek r n a (written t.number v ++ u) ≡ seek r n (a + length (written t.number v)) u
  unfolding object_bytes
  written_passed n a other =
      let w = written t.number v in
      let o = object_for t.number v in
      let size : size_of o ≡ length w = omega (arith, length-append (tag_bytes (be 3 t.number) ++ len_bytes (length v)) v) in
      seek_next r n a (w ++ u) o written_read.object other ∙ rw (written_read.rest, size)

-- the same for the standard reading and every tag that it accepts
pub standard_written_read : (s : List ℕ) → ((i : ℕ) → get_or s i 0 < 256) → (t : Tag) → tag_alone Standard s ≡ ok t → (v u : List ℕ)
    → length v ≤ 65535 → ReadsBack Standard t.number v u
standard_written_read = written_read Standard

-- with k zero bytes in front it is read back k bytes further on, and a lookup of the tag finds the value (rule 16.8)
after_zeros : (k n : ℕ) (l : List ℕ) → drop (k + n) (zero_bytes k ++ l) ≡ drop n l
after_zeros k n l = rw (zero_bytes_lem k) at (drop-append-add (zero_bytes k) l n)

value_after_zeros : (k : ℕ) (l : List ℕ) (x : Told Halt Found) → value_in (zero_bytes k ++ l) (moved_lookup k x) ≡ value_in l x
value_after_zeros k l (ok p) = ap (take p.len) (after_zeros k p.at l)
value_after_zeros k l (refused h) = refl

module _ (s : List ℕ) (bytes : (i : ℕ) → get_or s i 0 < 256) (t : Tag) (e : tag_alone Standard s ≡ ok t) (v u : List ℕ)
    (h : length v ≤ 65535) (k : ℕ) where
  pub written_padded : let o = object_for t.number v in
      let w = zero_bytes k ++ (written t.number v ++ u) in
      (next_of Standard w ≡ ok (record { place = k; tag = t.number; at = k + o.at; len = length v }))
      × (part w (record { at = k + o.at; len = length v }) ≡ v) × (drop (k + size_of o) w ≡ u)
  written_padded =
      let o = object_for t.number v in
      let w = written t.number v ++ u in
      let back = standard_written_read s bytes t e v u h in (
        zeros_next k w ∙ ap (moved k) back.object ∙ rw add-zero,
        ap (take (length v)) (after_zeros k o.at w) ∙ back.value,
        after_zeros k (size_of o) w ∙ back.rest,
      )

  pub padded_found : let w = zero_bytes k ++ (written t.number v ++ u) in value_in w (lookup Standard w (t.number ∷ [])) ≡ v
  padded_found =
      let w = written t.number v ++ u in
      rw (zeros_lookup k w t.number []) (value_after_zeros k w (lookup Standard w (t.number ∷ []))
      ∙ written_found Standard s bytes t e v u h)

-- the tag 5F24, which the debug checks of the Rust's writer reject, is written if there is room, as these two bytes;
-- both readings read it back (rule 11.13)
tag_5f24 : (r : Reading) → tag_alone r (0x5F ∷ 0x24 ∷ []) ≡ ok (record { number = 0x5F24; size = 2 })
unfolding tag_alone padding zeros tag_of long_tag tag_size crate_tag_size standard_tag_size in_range
tag_5f24 Crate = refl
tag_5f24 Standard = refl

bytes_5f24 : (i : ℕ) → get_or (0x5F ∷ 0x24 ∷ []) i 0 < 256
bytes_5f24 zero = omega arith
bytes_5f24 (suc zero) = omega arith
bytes_5f24 (suc (suc i)) = omega arith

pub written_5f24 : (v : List ℕ) → written 0x5F24 v ≡ 0x5F ∷ 0x24 ∷ (len_bytes (length v) ++ v)
unfolding object_bytes tag_bytes be
written_5f24 v = refl

module _ (v : List ℕ) (h : length v ≤ 65535) where
  pub put_5f24 : (at m : ℕ) → at + (2 + length (len_bytes (length v)) + length v) ≤ m
      → put_of at m (0x00 ∷ 0x5F ∷ 0x24 ∷ []) v ≡ ok (2 + length (len_bytes (length v)) + length v)
  unfolding put_of object_bytes tag_bytes
  put_5f24 at m g =
      let size : length ((0x5F ∷ 0x24 ∷ len_bytes (length v)) ++ v) ≡ 2 + length (len_bytes (length v)) + length v =
      simp length-append (omega arith) in
      rw (le-ltb 65535 (length v) h, size, le-ltb m (at + (2 + length (len_bytes (length v)) + length v)) g)

  pub read_5f24 : (r : Reading) (u : List ℕ) → ReadsBack r 0x5F24 v u
  read_5f24 r u =
      written_read r (0x5F ∷ 0x24 ∷ []) bytes_5f24 (record { number = 0x5F24; size = 2 }) (tag_5f24 r) v u h

-- if an object is written, it fits into the buffer from its place on, and its value is not too long to be read back
abbrev Fits : ℕ → ℕ → List ℕ → List ℕ → ℕ → Type 0
Fits at m t v n = (length v ≤ 65535) × (at + length (object_bytes t v) ≤ m) × (n ≡ length (object_bytes t v))

fitted : (at m : ℕ) (t v : List ℕ) → All (Fits at m t v) (put_of at m t v)
unfolding put_of
fitted at m t v =
    let P = Fits at m t v in
    all_cond P (ltb 65535 (length v)) _ _ (λ _. tt) (λ a.
    all_cond P (ltb m (at + length (object_bytes t v))) _ _ (λ _. tt) (λ b. (ltb-false 65535 (length v) a, ltb-false m _ b, refl)))

-- the object in the buffer that the writer leaves is read back from the place where it was written
pub put_read : (r : Reading) (s : List ℕ) → ((i : ℕ) → get_or s i 0 < 256) → (t : Tag) → tag_alone r s ≡ ok t
    → (v buffer after : List ℕ) (at n : ℕ) (x : Result ℕ Refusal) → PutDataObjectIs (be 3 t.number) v buffer at x after → as_reply x ≡ ok n
    → (drop at after ≡ written t.number v ++ drop (at + n) buffer) × ReadsBack r t.number v (drop (at + n) buffer)
unfolding over_at
put_read r s bytes t e v buffer after at n x over_at k =
    let b = be 3 t.number in
    let w = written t.number v in
    let m = length buffer in
    let f : put_of at m b v ≡ ok n = sym over_at.reply ∙ k in
    let c = all_is (Fits at m b v) (put_of at m b v) n (fitted at m b v) f in (
      rw (over_at.buffer, f, c.2) (drop_at (take at buffer) (w ++ drop (at + length w) buffer) at
          (length-take-le at buffer (omega arith))),
      written_read r s bytes t e v (drop (at + n) buffer) c.0,
    )
