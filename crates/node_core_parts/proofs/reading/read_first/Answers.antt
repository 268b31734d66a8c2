use Rattle.std.proofs.lemmas.Result.{err_from_is_err_and}
use Rattle.node_core_parts.proofs.ReadingLaws.{first_accepted, first_refused}
use Rattle.node_core_parts.proofs.reading.read_first.Goals as goal

pub returns-in_err-frame-clause-fault : goal.returns-in_err-frame-clause-fault
returns-in_err-frame-clause-fault c =
    let p = err_from_is_err_and c.from_residual.result c.from_residual.ensures.1 in
    rw (p.1, p.2) (first_refused c.args.bytes.now c.in_err-frame.field-0.0 c.are_bytes.ensures c.in_err-frame.ensures.fault)

pub returns-clause-found : goal.returns-clause-found
returns-clause-found c = first_accepted c.args.bytes.now _ c.in_ok-frame.ensures.found
