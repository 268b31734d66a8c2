use Rattle.packet_frame.proofs.StampedLaws.{stamped_one_spelling, stamped_one_fault, stamped_either, stamped_never_both}
use Rattle.packet_frame.proofs.laws.stamped_laws.Goals as goal

pub returns : goal.returns
returns c = record { one_spelling = stamped_one_spelling; one_fault = stamped_one_fault; either = stamped_either; never_both = stamped_never_both }
