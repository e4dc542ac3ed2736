use native.Mathlib.Omega.{arith}
use Rattle.basis.proofs.Over.{lent}
use Rattle.tlv.specs.Object.{stop_of}
use Rattle.tlv.specs.Walk.{walk}
use Rattle.tlv.specs.declared.Reading.TheVariants.{Crate}
use Rattle.tlv_index.specs.File.{file_of}
use Rattle.tlv_index.specs.Steps.{index_to}
use Rattle.tlv_index.proofs.Builds.{size, no_room, has_room}
use Rattle.tlv_index.proofs.build.write_index.Goals.{then-buffer-at-via-then-buffer-at, then-buffer-at-via-else-buffer-at+then-buffer-at-2}
use Rattle.tlv_index.proofs.build.write_index.Goals as goal

pub returns-then-buffer-at : goal.returns-then-buffer-at
returns-then-buffer-at c =
    no_room _ _ _ c.requires.0 _ _
    (elim c.then-buffer-at.branch [
      | then-buffer-at-via-then-buffer-at w ↦ omega arith
      | then-buffer-at-via-else-buffer-at+then-buffer-at-2 w ↦ omega arith
    ])

pub returns : goal.returns
returns c =
    let a = c.args in
    let items = (walk Crate 0 a.«record».now).items in
    let stop = stop_of a.counted.stop in
    let long = size items stop _ c.requires.0 a.buffer.now a.at in
    has_room items stop _ c.requires.0 _ _ _ (omega arith)
    (lent a.buffer.now a.at (file_of 2 (index_to items stop)) _ (omega (arith, long)) c.put_index.ensures)
