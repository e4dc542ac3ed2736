-- The cases P1 to P12, computed.
use mathlib.Core.Path.{refl}
use lib.ListN.{take, drop}
use Rattle.basis.specs.Every.{Every}
use Rattle.basis.proofs.Every.{every_append}
use Rattle.class.specs.Channel.{further_of, channel_of}
use Rattle.class.specs.Range.{range_of}
use Rattle.aid.specs.Category.{category_of}
use Rattle.aid.specs.Making.{under_five, tested, try_new}
use Rattle.tlv.specs.Padding.{zeros, padding}
use Rattle.tlv.specs.Tag.{in_range, crate_tag_size, standard_tag_size, tag_size, crate_third_byte, third_byte, three_bytes, long_tag, tag_of, tag_alone}
use Rattle.tlv.specs.Len.{len_to82}
use Rattle.command.specs.Body.{short_body, long_body, extended_body, extended_by_standard, body_of}
use Rattle.builder.specs.Cases.{case_for}
use Rattle.builder.specs.Bytes.{le_written, case_of, lc_len, le_len}
use Rattle.splitter.specs.Step.{room_in, room_of, step_of}
use Rattle.splitter.specs.Pieces.{parts_in, parts}
use Rattle.edge_case_laws.specs.Table.{table, Answered, TableHolds}

-- P1 to P10, two rows each: what is read
p1_to_p10 : Every Answered (take 20 table)
unfolding further_of channel_of range_of in_range crate_tag_size standard_tag_size tag_size crate_third_byte third_byte three_bytes long_tag tag_of tag_alone padding zeros len_to82 short_body long_body extended_body extended_by_standard body_of
p1_to_p10 = (refl, (refl, (refl, (refl, (refl, (refl, (refl, (refl, (refl, (refl, (refl, (refl, (refl, (refl, (refl, (refl, (refl, (refl, (refl, (refl, tt))))))))))))))))))))

-- P11 and P12: a cut, and an AID
p11_and_p12 : Every Answered (drop 20 table)
unfolding category_of under_five tested try_new case_for le_written case_of lc_len le_len room_in room_of step_of parts_in parts
p11_and_p12 = (refl, (refl, tt))

pub cases_hold : TableHolds
cases_hold = every_append Answered (take 20 table) (drop 20 table) p1_to_p10 p11_and_p12
