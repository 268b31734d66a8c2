use Rattle.std.proofs.Common.{subst}
use Rattle.ledger_audit.specs.Pasts.{with_acts, Holds}
use Rattle.ledger_audit.proofs.reckoning.reckon_step.Goals as goal

pub returns-clause-holds : goal.returns-clause-holds
returns-clause-holds c = λ p k.
    c.in_ok-reckon_frames.ensures.holds (with_acts c.args.acts.now.list p) (subst (λ l. Holds c.reckon_acts.new.reckoning (with_acts l p)) c.as_slice.ensures (c.in_ok-reckon_acts.ensures p k))
