use Rattle.packet_frame.proofs.FrameLaws.{one_spelling_is, one_fault_is, either_is, never_both_is}
use Rattle.packet_frame.proofs.laws.frame_laws.Goals as goal

pub returns : goal.returns
returns c = record { one_spelling = one_spelling_is; one_fault = one_fault_is; either = either_is; never_both = never_both_is }
