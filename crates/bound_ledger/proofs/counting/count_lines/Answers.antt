use Rattle.bound_ledger.proofs.LineLaws.{moves_fit, stands_more}
use Rattle.bound_ledger.proofs.counting.count_lines.Goals as goal

pub grant_lines-requires : goal.grant_lines-requires
grant_lines-requires c = record { fits = c.requires.fits.grants }

pub move_lines-requires : goal.move_lines-requires
move_lines-requires c = record { fits = moves_fit c.args.late c.args.lines.now c.args.ledger.now c.grant_lines.new.ledger c.requires.fits c.in_ok-grant_lines.ensures }

pub returns : goal.returns
returns c = λ h n l s.
    stands_more c.args.late h n c.args.lines.now c.args.ledger.now c.grant_lines.new.ledger c.move_lines.new.ledger c.requires.fits c.in_ok-grant_lines.ensures c.move_lines.ensures l s
