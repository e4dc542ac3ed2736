use mathlib.Core.Path.{ap, ◌∙◌}
use Rattle.abi.specs.Lookups.{lookup_row}
use Rattle.abi.proofs.AnswerLaws.{told_as}
use Rattle.tlv.specs.Lookup.{lookup}
use Rattle.tlv.specs.declared.Reading.{Reading}
use Rattle.tlv_lookup_abi.specs.Place.{get_data_object_row}
use Rattle.tlv_lookup_abi.proofs.gorvisclen_get_data_object.Goals as goal

pub returns : goal.returns
unfolding get_data_object_row
returns c =
    let a = c.args in
    let found = ap lookup_row c.get_data_object.ensures in
    let by = ap (λ (r : Reading). lookup_row (lookup r a.«record».now a.path.now)) c.tlv_reading_by_number-by.ensures in
    told_as _ _ _ _ _ (found ∙ by) c.tell_lookup.ensures
