use Rattle.packet_frame.proofs.OneAnswer.{accepts_is, found_is, first_is}
use Rattle.packet_frame.proofs.laws.reading_laws.Goals as goal

pub returns : goal.returns
returns c = record { frame = accepts_is; only = found_is; refusal = first_is }
