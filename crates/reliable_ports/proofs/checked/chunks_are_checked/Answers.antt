use Rattle.reliable_ports.proofs.PortTyping.{data_checked, ack_checked}
use Rattle.reliable_ports.proofs.checked.chunks_are_checked.Goals as goal

pub returns-clause-messages : goal.returns-clause-messages
returns-clause-messages c = data_checked

pub returns-clause-acks : goal.returns-clause-acks
returns-clause-acks c = ack_checked
