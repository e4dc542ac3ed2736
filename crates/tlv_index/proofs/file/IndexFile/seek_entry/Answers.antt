use Prim.Native.Nat.{ℕ, ◌-◌}
use mathlib.Core.Path.{◌≡◌, sym, ap}
use native.Mathlib.Omega.{arith}
use Rattle.tlv_index.specs.File.{entries_from, stop_in}
use Rattle.tlv_index.specs.Lookup.{first_entry}
use Rattle.tlv_index.proofs.file.IndexFile.seek_entry.Goals as goal

pub loop-i-init : goal.loop-i-init
loop-i-init c =
    let f = c.args.self in
    let all : f.n - 0 ≡ f.n = omega arith in
    ap (λ (k : ℕ). first_entry c.args.tag (entries_from 2 f.n f.bytes.now 0 k) (stop_in 2 f.n f.bytes.now)) (sym all)
