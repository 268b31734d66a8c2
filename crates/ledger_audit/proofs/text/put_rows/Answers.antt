use Rattle.plan_base.specs.declared.ids.Family.{Family}
use Rattle.bound_ledger.specs.declared.row.Row.{Row}
use Rattle.ledger_audit.proofs.TextLaws.{no_text, next_row}
use Rattle.ledger_audit.proofs.text.put_rows.Goals as goal

pub loop-row-init : goal.loop-row-init
loop-row-init c = no_text c.args.out.now

pub loop-row-preserved : goal.loop-row-preserved
loop-row-preserved c =
    let none : Family × Row = (record { source = record { 0 = 0 }; serial = 0 }, record { granted = 0; hops = 0; evals = 0; live = 0; left = 0 }) in
    next_row c.args.rows.now c.loop-row.row-index none c.args.out.now c.loop-row.out c.put_row.new.out c.loop-row-test.true c.loop-row.invariant c.in_ok-put_row.ensures
