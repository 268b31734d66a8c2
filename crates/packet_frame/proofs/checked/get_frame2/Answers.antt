use Rattle.packet_frame.proofs.Carried.{stamped_read_fault, two_fault, two_found}
use Rattle.packet_frame.proofs.checked.get_frame2.Goals as goal

pub returns-in-Err-clause-fault : goal.returns-in-Err-clause-fault
returns-in-Err-clause-fault c = stamped_read_fault c.args.bytes.now c.in-Err.fault c.in-Err.ensures.fault

pub returns-in-Ok-clause-found : goal.returns-in-Ok-clause-found
returns-in-Ok-clause-found c = two_found c.args.bytes.now c.in-Ok.plain c.in-Ok.ensures.found c.checked_stamped.result c.checked_stamped.ensures.found

pub returns-in-Ok-clause-fault : goal.returns-in-Ok-clause-fault
returns-in-Ok-clause-fault c = two_fault c.args.bytes.now c.in-Ok.plain c.in-Ok.ensures.found c.checked_stamped.result c.checked_stamped.ensures.fault
