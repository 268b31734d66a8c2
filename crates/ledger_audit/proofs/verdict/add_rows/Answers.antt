use Rattle.std.proofs.Common.{get_or, refl, arith}
use Rattle.plan_base.specs.declared.ids.Family.{Family}
use Rattle.ledger_audit.specs.Ledgers.{row_in}
use Rattle.ledger_audit.proofs.VerdictLaws.{no_rows, row_next, rows_put}
use Rattle.ledger_audit.proofs.verdict.add_rows.Goals as goal

pub loop-family-init : goal.loop-family-init
loop-family-init c = no_rows c.args.rows.now

pub loop-family-preserved : goal.loop-family-preserved
loop-family-preserved c =
    let none : Family = record { source = record { 0 = 0 }; serial = 0 } in
    row_next (row_in c.args.book.now) c.args.host c.args.families.now c.loop-family.family-index none (get_or c.args.families.now c.loop-family.family-index none) c.loop-family-test.true refl c.args.rows.now c.loop-family.rows
    c.loop-family.invariant c.add_row.new.rows c.in_ok-add_row.ensures

pub returns : goal.returns
returns c =
    rows_put (row_in c.args.book.now) c.args.host c.args.families.now c.loop-family.family-index c.args.rows.now c.loop-family.rows (omega (arith, c.loop-family-test.false)) c.loop-family.invariant
