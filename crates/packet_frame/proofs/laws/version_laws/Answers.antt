use Rattle.packet_frame.proofs.Versions.{accepted_by, found_by, refused_by_two}
use Rattle.packet_frame.proofs.laws.version_laws.Goals as goal

pub returns : goal.returns
returns c = record { frame = accepted_by; only = found_by; refusal = refused_by_two }
