use Rattle.std.proofs.Common.{arith}
use Rattle.listing.proofs.Writing.{to_write_first, to_write_as, to_write_room, to_write_next}
use Rattle.listing.proofs.Sections.{section_is}
use Rattle.listing.proofs.LineLaws.{section_text_is}
use Rattle.listing.proofs.lines.put_section.Goals as goal

pub put_head-end-requires : goal.put_head-end-requires
put_head-end-requires c =
    let a = c.args in
    let n = c.pair_at-n in
    to_write_room _ _
    (to_write_as (section_text_is a.section a.input.now a.from n.result n.ensures.0)
    (to_write_first _ a.at a.out.now c.requires.input_in_bounds))

pub put_items-requires : goal.put_items-requires
put_items-requires c =
    let a = c.args in
    let n = c.pair_at-n in
    let first =
    to_write_as (section_text_is a.section a.input.now a.from n.result n.ensures.0)
    (to_write_first _ a.at a.out.now c.requires.input_in_bounds) in
    record {
      count_bound = (n.ensures.1, omega (arith, section_is a.input.now a.from n.result n.ensures.0));
      input_len_bound = (c.requires.input_len_bound.0, (to_write_next first c.put_head-end.ensures).room);
    }

pub returns : goal.returns
returns c =
    let a = c.args in
    let n = c.pair_at-n in
    let first =
    to_write_as (section_text_is a.section a.input.now a.from n.result n.ensures.0)
    (to_write_first _ a.at a.out.now c.requires.input_in_bounds) in
    (to_write_next first c.put_head-end.ensures).rest _ _ c.put_items.ensures
