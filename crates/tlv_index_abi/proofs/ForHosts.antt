-- What a host program sees of each function, in plain words: the status, the bytes of the buffer and the numbers of the
-- row (rules 17.4, 17.6 and 17.10). The statements are over the promises.
use Prim.Native.Nat.{ℕ, ◌≤◌, ◌<◌}
use mathlib.Core.Path.{◌≡◌}
use mathlib.Core.List.{List, [], ◌∷◌}
use borrow.Author.Tests.{lt-ltb, le-ltb}
use lib.ListN.{length}
use Rattle.basis.specs.Reply.{ok, refused}
use Rattle.basis.specs.Over.{over, over_at}
use Rattle.abi.specs.Answers.{NumbersWritten, row}
use Rattle.abi.proofs.AnswerLaws.{row_fits, row_does_not_fit}
use Rattle.tlv_index.specs.Index.{crate_kind}
use Rattle.tlv_index.specs.File.{checked}
use Rattle.tlv_index.specs.Build.{written}
use Rattle.tlv_index.specs.Lookup.{indexed}
use Rattle.tlv_index_abi.specs.Told.{IndexBuilt, check_index_reply, IndexedTold}

-- building: 16 if no number can be written, whatever the record is; else the index and how many bytes it has are
-- written, or nothing is
module _ (s : List ℕ) (at : ℕ) (b out : List ℕ) (r : ℕ) (b' out' : List ℕ) (p : IndexBuilt s at b out r b' out') where
  pub no_number : length out < 1 → (r ≡ 16) × (b' ≡ b) × (out' ≡ out)
  no_number h = let n = lt-ltb (length out) 1 h in (rw n at p.reply, rw n at p.bytes, rw n at p.row)

  module _ (h : 1 ≤ length out) where
    pub index_told : (f : List ℕ) → written crate_kind at (length b) s ≡ ok f
        → (r ≡ 0) × (b' ≡ over_at at f b) × (out' ≡ over (length f ∷ []) out)
    index_told f e =
        let n = le-ltb (length out) 1 h in
        (rw (n, e) at p.reply, rw (n, e) at p.bytes, rw (n, e) at p.row)

    pub refusal_told : (k : ℕ) → written crate_kind at (length b) s ≡ refused k → (r ≡ k) × (b' ≡ b) × (out' ≡ out)
    refusal_told k e =
        let n = le-ltb (length out) 1 h in
        (rw (n, e) at p.reply, rw (n, e) at p.bytes, rw (n, e) at p.row)

-- the form of a file: how many entries it has, or 25; 16 if no number can be written
module _ (f out : List ℕ) (r : ℕ) (out' : List ℕ) (p : NumbersWritten 1 (check_index_reply f) out r out') where
  pub entries_told : (n : ℕ) → checked crate_kind f ≡ ok n → 1 ≤ length out → (r ≡ 0) × (out' ≡ over (n ∷ []) out)
  unfolding check_index_reply
  entries_told n e h = let l = le-ltb (length out) 1 h in (rw (l, e) at p.reply, rw (l, e) at p.row)

  pub form_told : checked crate_kind f ≡ refused 25 → 1 ≤ length out → (r ≡ 25) × (out' ≡ out)
  unfolding check_index_reply
  form_told e h = let l = le-ltb (length out) 1 h in (rw (l, e) at p.reply, rw (l, e) at p.row)

  pub entries_not_told : (n : ℕ) → checked crate_kind f ≡ ok n → length out < 1 → (r ≡ 16) × (out' ≡ out)
  unfolding check_index_reply
  entries_not_told n e h = let l = lt-ltb (length out) 1 h in (rw (l, e) at p.reply, rw (l, e) at p.row)

  pub form_not_told : checked crate_kind f ≡ refused 25 → length out < 1 → (r ≡ 16) × (out' ≡ out)
  unfolding check_index_reply
  form_not_told e h = let l = lt-ltb (length out) 1 h in (rw (l, e) at p.reply, rw (l, e) at p.row)

-- a lookup: three numbers of a value, and of 11 and 12; none with 25. If they cannot be written: 16, but 11 and 12 stay
module _ (f s path out : List ℕ) (r : ℕ) (out' : List ℕ) (p : IndexedTold f s path out r out') where
  module _ (h : 3 ≤ length out) where
    pub value_told : (a n m : ℕ) → indexed crate_kind f s path ≡ ok (ok (record { at = a; len = n; matched = m }))
        → (r ≡ 0) × (out' ≡ over (a ∷ n ∷ m ∷ []) out)
    value_told a n m e = row_fits (row 0 (a ∷ n ∷ m ∷ [])) out r out' (rw e at p) h

    pub halt_told : (k a m : ℕ) → indexed crate_kind f s path ≡ ok (refused (record { number = k; place = a; matched = m }))
        → (r ≡ k) × (out' ≡ over (a ∷ 0 ∷ m ∷ []) out)
    halt_told k a m e = row_fits (row k (a ∷ 0 ∷ m ∷ [])) out r out' (rw e at p) h

    pub outside_told : indexed crate_kind f s path ≡ refused 25 → (r ≡ 25) × (out' ≡ out)
    outside_told e = let q = rw e at p in (rw (le-ltb (length out) 3 h) at q.0, q.1)

  module _ (h : length out < 3) where
    pub value_not_told : (a n m : ℕ) → indexed crate_kind f s path ≡ ok (ok (record { at = a; len = n; matched = m })) → (r ≡ 16) × (out' ≡ out)
    value_not_told a n m e = row_does_not_fit (row 0 (a ∷ n ∷ m ∷ [])) out r out' (rw e at p) h

    pub end_not_told : (a m : ℕ) → indexed crate_kind f s path ≡ ok (refused (record { number = 11; place = a; matched = m })) → (r ≡ 11) × (out' ≡ out)
    end_not_told a m e = row_does_not_fit (row 11 (a ∷ 0 ∷ m ∷ [])) out r out' (rw e at p) h

    pub unreadable_not_told : (a m : ℕ) → indexed crate_kind f s path ≡ ok (refused (record { number = 12; place = a; matched = m }))
        → (r ≡ 12) × (out' ≡ out)
    unreadable_not_told a m e = row_does_not_fit (row 12 (a ∷ 0 ∷ m ∷ [])) out r out' (rw e at p) h

    pub outside_not_told : indexed crate_kind f s path ≡ refused 25 → (r ≡ 16) × (out' ≡ out)
    outside_not_told e = let q = rw e at p in (rw (lt-ltb (length out) 3 h) at q.0, q.1)
