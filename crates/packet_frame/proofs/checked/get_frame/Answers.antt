use Rattle.packet_frame.proofs.Carried.{read_fault, whole_fault}
use Rattle.packet_frame.proofs.checked.get_frame.Goals as goal

pub returns-in-Err-clause-fault : goal.returns-in-Err-clause-fault
returns-in-Err-clause-fault c = read_fault c.args.bytes.now c.in-Err.fault c.in-Err.ensures.fault

pub returns-in-Ok-clause-fault : goal.returns-in-Ok-clause-fault
returns-in-Ok-clause-fault c = whole_fault c.args.bytes.now c.in-Ok.plain c.in-Ok.ensures.found c.checked_frame.result c.checked_frame.ensures.fault
