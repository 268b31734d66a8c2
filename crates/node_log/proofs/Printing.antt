-- Texts that were written in part, one after the other.
use Rattle.std.proofs.Common.{◌≡◌, List, ℕ, ◌++◌}
use Rattle.node_io.specs.Sinks.{SinkState, Writes}
use Rattle.node_io.proofs.SinkLaws.{fails_as, fails_more, fails_longer, prefix_as, prefix_more, prefix_longer}
use Rattle.node_log.specs.Replays.{Stops}
use Rattle.node_log.specs.declared.fault.ReplayFault.{ReplayFault}
use Rattle.node_log.specs.declared.fault.ReplayFault.TheVariants.{WriteFault, NoMemory}

pub stops_as : (fault : ReplayFault) (a b : SinkState) (x y : List ℕ) → x ≡ y → Stops fault x a b → Stops fault y a b
stops_as WriteFault a b x y e p = fails_as a b x y e p
stops_as NoMemory a b x y e p = prefix_as a b x y e p

pub stops_more : (fault : ReplayFault) (a b c : SinkState) (x y : List ℕ) → Writes a b x → Stops fault y b c → Stops fault (x ++ y) a c
stops_more WriteFault a b c x y w p = fails_more a b c x y w p
stops_more NoMemory a b c x y w p = prefix_more a b c x y w p

pub stops_longer : (fault : ReplayFault) (a b : SinkState) (x y : List ℕ) → Stops fault x a b → Stops fault (x ++ y) a b
stops_longer WriteFault a b x y p = fails_longer a b x y p
stops_longer NoMemory a b x y p = prefix_longer a b x y p
