-- What cutting a command leaves in the lent slices, case by case.
use Prim.Native.Nat.{ℕ, ◌<◌}
use mathlib.Core.Path.{◌≡◌}
use mathlib.Core.List.{List}
use borrow.Author.Tests.{lt-ltb}
use lib.ListN.{length}
use Rattle.basis.specs.Reply.{Reply, ok, refused}
use Rattle.abi.specs.Answers.{RefusalStatusIs}
use Rattle.abi.proofs.AnswerLaws.{refusal_fitted}
use Rattle.splitter.specs.Pieces.{write_of}
use Rattle.splitter.specs.declared.pieces.Pieces.{Pieces}
use Rattle.splitter_abi.specs.Numbers.{PieceWritten}
use Rattle.splitter_abi.proofs.OnlyRefusal16.{Only16, only_16_short}

-- x are the pieces: they are refused; the slice is too short for the row; the next piece was asked for
module _ (x : Reply Pieces) (d : List ℕ) (at : ℕ) (l out : List ℕ) where
  pub not_made : (k r : ℕ) → x ≡ refused k → RefusalStatusIs k (length out) 5 r → PieceWritten x d at l out r l out
  not_made k r f h = record { reply = rw (f, refusal_fitted) h; bytes = rw (f, refusal_fitted); row = rw (f, refusal_fitted) }

  module _ (c : Pieces) (f : x ≡ ok c) where
    pub out_short : Only16 (write_of c d (length l) at) → length out < 5 → PieceWritten x d at l out 16 l out
    out_short g h =
        let n = lt-ltb (length out) 5 h in
        let k = only_16_short (write_of c d (length l) at) g in
        record { reply = rw (f, n, k); bytes = rw (f, n, k); row = rw (f, n, k) }
