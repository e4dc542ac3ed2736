use Rattle.std.proofs.Common.{sym, arith}
use Rattle.basis.specs.Number.{Bytes}
use Rattle.listing.proofs.Writing.{to_write_room, to_write_next}
use Rattle.listing.proofs.Listed.{to_write_malformed, to_write_formed, inside, listed}
use Rattle.listing.proofs.list.Goals as goal

pub put_section-end-requires : goal.put_section-end-requires
put_section-end-requires c =
    let a = c.args in
    let bytes : Bytes a.input.now = λ i. omega (arith, c.type_inv.input i) in
    let s = a.input.now in
    let m = c.pass_section-middle in
    let formed = sym c.if-is_well_formed.ensures in
    let both = to_write_formed s a.out.now bytes (omega arith) m.result (omega arith) formed in
    let bounds = inside s m.result (omega arith) formed in
    record { input_len_bound = (bounds.0, omega arith); input_in_bounds = to_write_room _ _ both }

pub put_section-requires : goal.put_section-requires
put_section-requires c =
    let a = c.args in
    let bytes : Bytes a.input.now = λ i. omega (arith, c.type_inv.input i) in
    let s = a.input.now in
    let m = c.pass_section-middle in
    let formed = sym c.if-is_well_formed.ensures in
    let both = to_write_formed s a.out.now bytes (omega arith) m.result (omega arith) formed in
    let bounds = inside s m.result (omega arith) formed in
    record {
      input_len_bound = (bounds.0, omega arith);
      input_in_bounds = (to_write_next both c.put_section-end.ensures).room;
    }

pub returns-then-is_well_formed : goal.returns-then-is_well_formed
returns-then-is_well_formed c =
    let a = c.args in
    let bytes : Bytes a.input.now = λ i. omega (arith, c.type_inv.input i) in
    let s = a.input.now in
    let m = c.pass_section-middle in
    let formed = sym c.if-is_well_formed.ensures in
    let both = to_write_formed s a.out.now bytes (omega arith) m.result (omega arith) formed in
    listed _ _ _ _ bytes (omega arith)
    ((to_write_next both c.put_section-end.ensures).rest _ _ c.put_section.ensures)

pub fill-requires : goal.fill-requires
fill-requires c =
    let a = c.args in
    let bytes : Bytes a.input.now = λ i. omega (arith, c.type_inv.input i) in
    (to_write_malformed a.input.now a.out.now bytes (omega arith) (sym c.if-is_well_formed.ensures)).room

pub returns : goal.returns
returns c =
    let a = c.args in
    let bytes : Bytes a.input.now = λ i. omega (arith, c.type_inv.input i) in
    let refusal = to_write_malformed a.input.now a.out.now bytes (omega arith) (sym c.if-is_well_formed.ensures) in
    listed _ _ _ _ bytes (omega arith) (refusal.rest _ _ c.fill.ensures)
