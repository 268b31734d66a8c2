use Rattle.std.proofs.Common.{ap, arith, subst}
use Rattle.wire_bytes.specs.Fields.{IsBytes}
use Rattle.network_config.specs.Hosts.{dev_of}
use Rattle.network_config.specs.declared.event.Event.TheVariants.{Frame}
use Rattle.node_serve.proofs.FrameSizes.{frame_arrives}
use Rattle.node_serve.proofs.back.event_of_frame.Goals as goal

pub returns-clause-event : goal.returns-clause-event
returns-clause-event c = ap (Frame (dev_of 0)) c.into_bytes-bytes.ensures.is

pub returns-clause-keeps : goal.returns-clause-keeps
returns-clause-keeps c = λ v. (omega arith, frame_arrives _ _ _ c.into_bytes-bytes.ensures (subst IsBytes c.as_slice.ensures c.are_bytes.ensures))
