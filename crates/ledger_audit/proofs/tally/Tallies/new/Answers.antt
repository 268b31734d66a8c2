use Rattle.std.proofs.Common.{ap}
use Rattle.ledger_audit.specs.Tallies.{tally_of}
use Rattle.ledger_audit.proofs.tally.Tallies.new.Goals as goal

pub returns : goal.returns
unfolding tally_of
returns c = λ x. ap (tally_of x) c.new.ensures.empty
