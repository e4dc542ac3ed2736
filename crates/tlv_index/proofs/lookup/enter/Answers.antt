use native.Mathlib.Omega.{arith}
use mathlib.Core.Path.{sym}
use lib.ListN.{length-drop}
use Rattle.tlv_index.proofs.Entries.{entered}
use Rattle.tlv_index.proofs.lookup.enter.Goals as goal

pub overflow_add-result : goal.overflow_add-result
overflow_add-result c =
    let a = c.args in
    omega (arith, (entered _ a.path.now a.value.at a.value.len c.requires.0 _ c.in-Ok.ensures).1)

pub overflow_add-result-in-Ok : goal.overflow_add-result-in-Ok
overflow_add-result-in-Ok c =
    let a = c.args in
    omega (arith, (entered _ a.path.now a.value.at a.value.len c.requires.0 _ c.in-Ok.ensures).1, length-drop 1 a.path.now, c.requires.1)

pub overflow_add-result-in-Err : goal.overflow_add-result-in-Err
overflow_add-result-in-Err c =
    let a = c.args in
    omega (arith, (entered _ a.path.now a.value.at a.value.len c.requires.0 _ c.in-Err.ensures).1)

pub overflow_add-result-in-Err-2 : goal.overflow_add-result-in-Err-2
overflow_add-result-in-Err-2 c =
    let a = c.args in
    omega (arith, (entered _ a.path.now a.value.at a.value.len c.requires.0 _ c.in-Err.ensures).1, length-drop 1 a.path.now, c.requires.1)

pub returns-in-Ok : goal.returns-in-Ok
returns-in-Ok c =
    let a = c.args in
    sym (entered _ a.path.now a.value.at a.value.len c.requires.0 _ c.in-Ok.ensures).0

pub returns-in-Err : goal.returns-in-Err
returns-in-Err c =
    let a = c.args in
    sym (entered _ a.path.now a.value.at a.value.len c.requires.0 _ c.in-Err.ensures).0
