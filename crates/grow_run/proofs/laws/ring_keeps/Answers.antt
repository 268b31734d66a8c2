use Rattle.grow_run.proofs.RingRules.{ring_keeps}
use Rattle.grow_run.proofs.laws.ring_keeps.Goals as goal

pub returns : goal.returns
returns c = ring_keeps
