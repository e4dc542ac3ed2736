use mathlib.Core.Path.{ap, ◌∙◌}
use lib.ListN.{length-map}
use Rattle.tlv.specs.Walk.{walk}
use Rattle.tlv.specs.declared.Reading.TheVariants.{Crate}
use Rattle.tlv_index.specs.Index.{entry_of}
use Rattle.tlv_index.specs.Steps.{entries_put, counts_put}
use Rattle.tlv_index.proofs.Sections.{file_put}
use Rattle.tlv_index.proofs.build.put_index.Goals as goal

pub returns : goal.returns
returns c =
    let n = c.args.counted.objects in
    let objects = (walk Crate 0 c.args.«record».now).items in
    c.put_counts.ensures
    ∙ ap (counts_put 2 n) (c.put_entries.ensures ∙ ap (entries_put 2 n 0 _) c.put_end.ensures)
    ∙ file_put 2 _ n _ (length-map objects entry_of ∙ c.requires.0) c.requires.2
