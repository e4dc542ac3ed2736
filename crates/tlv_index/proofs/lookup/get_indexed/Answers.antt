use mathlib.Core.Path.{sym, ap, ◌∙◌}
use Rattle.tlv.specs.declared.Reading.TheVariants.{Crate}
use Rattle.tlv_index.specs.Index.{crate_kind}
use Rattle.tlv_index.specs.Lookup.{used_in}
use Rattle.tlv_index.proofs.Entries.{indexed_used, entries_of_file}
use Rattle.tlv_index.proofs.lookup.get_indexed.Goals as goal

pub seek_entry-requires : goal.seek_entry-requires
seek_entry-requires c = (entries_of_file _ _ (sym c.in_ok-n.ensures)).1

pub invariant_of-index : goal.invariant_of-index
invariant_of-index c = record { size = (entries_of_file _ _ (sym c.in_ok-n.ensures)).0 }

pub returns : goal.returns
returns c =
    c.used_in.ensures
    ∙ ap (used_in Crate _ _) c.seek_entry.ensures
    ∙ sym (indexed_used crate_kind _ _ _ _ (sym c.in_ok-n.ensures) (sym c.if-is_empty.ensures))
