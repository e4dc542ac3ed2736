use Rattle.std.proofs.Common.{sym}
use Rattle.std.proofs.lemmas.List.{length-take-le}
use Rattle.apdulist.proofs.main.Goals as goal

-- src/main.rt:16:27
pub slice_bounds-text-end : goal.slice_bounds-text-end
slice_bounds-text-end c = c.list-len.ensures.fits

-- src/main.rt:16:27
pub slice_bounds-write_all-end : goal.slice_bounds-write_all-end
slice_bounds-write_all-end c = sym (length-take-le c.list-len.result c.list-len.new.out c.list-len.ensures.fits)
