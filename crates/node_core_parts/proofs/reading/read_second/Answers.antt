use Rattle.node_core_parts.proofs.ReadingLaws.{second_refused}
use Rattle.node_core_parts.proofs.reading.read_second.Goals as goal

pub returns-clause-fault : goal.returns-clause-fault
returns-clause-fault c = second_refused c.args.bytes.now c.get_frame2.result c.are_bytes.ensures c.get_frame2.ensures.fault
