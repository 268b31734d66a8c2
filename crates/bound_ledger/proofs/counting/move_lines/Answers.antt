use Rattle.bound_ledger.proofs.LineLaws.{moved_no_lines, moved_more, moved_all, move_fits}
use Rattle.bound_ledger.proofs.counting.move_lines.Goals as goal

pub loop-line-init : goal.loop-line-init
loop-line-init c = moved_no_lines c.args.late c.args.ledger.now

pub move_line-requires : goal.move_line-requires
move_line-requires c = record { fits = move_fits c.args.lines.now c.loop-line.line-index c.line-item.result c.loop-line-test.true c.line-item.is c.args.late c.args.ledger.now c.loop-line.ledger c.requires.fits c.loop-line.invariant }

pub loop-line-preserved : goal.loop-line-preserved
loop-line-preserved c =
    moved_more c.args.lines.now c.loop-line.line-index c.line-item.result c.loop-line-test.true c.line-item.is c.args.late c.args.ledger.now c.loop-line.ledger c.move_line.new.ledger c.requires.fits
    c.loop-line.invariant c.move_line.ensures

pub returns : goal.returns
returns c = moved_all c.args.late c.args.lines.now c.loop-line.line-index c.args.ledger.now c.loop-line.ledger c.loop-line-test.false c.loop-line.invariant
