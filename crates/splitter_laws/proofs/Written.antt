-- The next piece, written into a buffer that is long enough for it: it is not refused, and the buffer begins with the
-- bytes of the piece, all else as it was (rule 4.10).
use Prim.Native.Nat.{ℕ, ◌≤◌}
use mathlib.Core.Path.{◌≡◌, ap, ◌∙◌}
use mathlib.Core.List.{List}
use mathlib.Core.Option.{some}
use native.Mathlib.Omega.{arith}
use lib.ListN.{length, take, drop, length-take, length-drop}
use Rattle.basis.specs.Reply.{ok}
use Rattle.basis.specs.Over.{over}
use Rattle.basis.proofs.Over.{over_at_zero}
use Rattle.builder.specs.Bytes.{serialize_of}
use Rattle.builder.proofs.Fitting.{fits}
use Rattle.builder.proofs.Lengths.{length_command}
use Rattle.splitter.specs.Pieces.{next_of, bytes_of, write_of, piece_in, buffer_after}
use Rattle.splitter.specs.declared.pieces.Piece.{Piece}
use Rattle.splitter.specs.declared.pieces.Pieces.{Pieces}

module _ (c : Pieces) (d buffer : List ℕ) (p : Piece) (few : length d ≤ 65535) (next : next_of c d ≡ ok (some p))
    (room : length (bytes_of p d) ≤ length buffer) where
  -- the data of the piece
  abbrev part : List ℕ
  part = take p.len (drop p.at d)

  fitted : serialize_of p.builder part (length buffer) 0 ≡ ok (length (bytes_of p d))
  fitted =
      let size : length part ≤ 65535 = omega (arith, length-take p.len (drop p.at d), length-drop p.at d) in
      let long = length_command p.builder part in
      fits p.builder part (length buffer) 0 size (omega (arith, long)) ∙ ap ok (omega (arith, long))

  pub piece_written : write_of c d (length buffer) 0 ≡ ok (some (record { len = length (bytes_of p d); rest = p.rest }))
  piece_written = rw (next, fitted)

  pub piece_in_buffer : buffer_after (write_of c d (length buffer) 0) (piece_in (next_of c d) d) buffer 0 ≡ over (bytes_of p d) buffer
  piece_in_buffer = rw (piece_written, next) (over_at_zero (bytes_of p d) buffer)
