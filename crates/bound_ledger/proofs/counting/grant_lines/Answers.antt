use Rattle.bound_ledger.proofs.LineLaws.{granted_none, granted_more, granted_all, grant_fits}
use Rattle.bound_ledger.proofs.counting.grant_lines.Goals as goal

pub loop-line-init : goal.loop-line-init
loop-line-init c = granted_none c.args.ledger.now

pub grant_line-requires : goal.grant_line-requires
grant_line-requires c = record { fits = grant_fits c.args.lines.now c.loop-line.line-index c.line-item.result c.loop-line-test.true c.line-item.is c.args.ledger.now c.loop-line.ledger c.requires.fits c.loop-line.invariant }

pub loop-line-preserved : goal.loop-line-preserved
loop-line-preserved c =
    granted_more c.args.lines.now c.loop-line.line-index c.line-item.result c.loop-line-test.true c.line-item.is c.args.ledger.now c.loop-line.ledger c.grant_line.new.ledger c.loop-line.invariant
    c.in_ok-grant_line.ensures

pub returns : goal.returns
returns c = granted_all c.args.lines.now c.loop-line.line-index c.args.ledger.now c.loop-line.ledger c.loop-line-test.false c.loop-line.invariant
