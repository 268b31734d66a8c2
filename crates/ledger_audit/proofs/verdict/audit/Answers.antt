use Rattle.std.proofs.Common.{map}
use Rattle.ledger_audit.specs.Pasts.{logged_of}
use Rattle.ledger_audit.proofs.VerdictLaws.{fits_adds, yes_fits}
use Rattle.ledger_audit.proofs.verdict.audit.Goals as goal

pub judge-requires : goal.judge-requires
judge-requires c = record { links = c.args.links.now; logs = map logged_of c.args.logs.now; is = c.in_ok-reckoning.ensures }

pub returns-clause-ledger : goal.returns-clause-ledger
returns-clause-ledger c = λ y f.
    let links = c.args.links.now in
    let ls = map logged_of c.args.logs.now in
    fits_adds links ls c.in_ok-reckoning.reckoning c.in_ok-reckoning.ensures
    (yes_fits links ls c.in_ok-verdict.verdict (c.in_ok-verdict.ensures links ls c.in_ok-reckoning.ensures) y) f
