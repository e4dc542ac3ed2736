use borrow.Author.Rules.{rules}
use Prim.Native.Nat.{◌≤◌}
use mathlib.Core.Path.{◌≡◌, sym}
use native.Mathlib.Omega.{arith}
use lib.ListN.{length, take, length-take}
use Rattle.basis.proofs.Over.{copied_front}
use Rattle.response.specs.Words.{name_in}
use Rattle.response.specs.declared.words.ListedWord.{ListedWord}
use Rattle.response.proofs.Names.{too_long, fits}
use Rattle.response.proofs.words.copy_name.Goals as goal

-- the name of an entry has as many letters as the entry says
name_length : (r : ListedWord) → r.len ≤ 32 → length r.letters ≡ 32 → length (take r.len r.letters) ≡ r.len
name_length r h e = omega (arith, length-take r.len r.letters)

pub returns-then-to-len : goal.returns-then-to-len
unfolding name_in
returns-then-to-len c = too_long _ _ (omega (arith, name_length c.args.entry (search rules) (search rules)))

pub returns : goal.returns
unfolding name_in
returns c =
    let size : length (take c.args.entry.len c.args.entry.letters) ≡ c.args.entry.len = name_length c.args.entry (search rules) (search rules) in
    fits _ _ c.args.entry.len _ (omega arith) (sym size) (copied_front _ _ _ _ c.copy_from_slice.ensures.after (sym size))
