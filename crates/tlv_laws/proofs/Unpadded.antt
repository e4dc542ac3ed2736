-- The crate reading is what it was before the standard reading had padding: a tag read alone, an object at a place, and
-- the walk (rule 16.2).
use Prim.Native.Nat.{ℕ, zero, suc, min, ◌+◌}
use mathlib.Core.Path.{◌≡◌, refl}
use mathlib.Core.List.{List}
use native.Mathlib.Nat.{add-zero}
use lib.ListN.{length, drop}
use Rattle.basis.proofs.Reply.{by_reply}
use Rattle.tlv.specs.Tag.{tag_of, tag_alone}
use Rattle.tlv.specs.Object.{object_of, placed, next_of, size_of, object_at}
use Rattle.tlv.specs.Walk.{walk}
use Rattle.tlv.specs.Walk as tlv_walk
use Rattle.tlv.specs.declared.Reading.TheVariants.{Crate}
use Rattle.tlv.proofs.Zeros.{crate_padding}
use Rattle.tlv.proofs.Tags.{alone_unpadded}
use Rattle.tlv.proofs.Within.{crate_item, crate_stop}
use Rattle.tlv_laws.specs.Unpadded.{walk_in, crate_walk}

same_walk : (n a : ℕ) (s : List ℕ) → tlv_walk.walk_in n Crate a s ≡ walk_in n a s
unfolding walk_in tlv_walk.walk_in
same_walk zero a s = refl
same_walk (suc n) a s =
    by_reply (next_of Crate s)
    (λ i e. let f = crate_item s i e in rw (e, f.1, f.0, add-zero, same_walk n (a + size_of i) (drop (size_of i) s)))
    (λ k e. let f = crate_stop s k e in rw (e, f.1, f.0, add-zero))

pub crate_walk_lem : (a : ℕ) (s : List ℕ) → walk Crate a s ≡ crate_walk a s
unfolding walk crate_walk
crate_walk_lem a s = same_walk (length s) a s

pub crate_tag : (s : List ℕ) → tag_alone Crate s ≡ tag_of Crate s
crate_tag s = alone_unpadded Crate s (crate_padding s)

pub crate_object : (s : List ℕ) (a : ℕ) → object_at Crate s a ≡ placed (min a (length s)) (object_of Crate (drop a s))
crate_object s a =
    let u = drop a s in
    by_reply (next_of Crate u)
    (λ i e. let f = crate_item u i e in rw (e, f.1, f.0, add-zero))
    (λ k e. let f = crate_stop u k e in rw (e, f.1, f.0, add-zero))
