use Rattle.std.proofs.Common.{get_or, refl, arith}
use Rattle.plan_base.specs.declared.ids.Host.{Host}
use Rattle.ledger_audit.specs.Ledgers.{row_in}
use Rattle.ledger_audit.proofs.VerdictLaws.{host_put, hosts_put}
use Rattle.ledger_audit.proofs.verdict.rows_by.Goals as goal

pub loop-host-preserved : goal.loop-host-preserved
loop-host-preserved c =
    let none : Host = record { 0 = 0 } in
    host_put (row_in c.args.book.now) c.args.families.now c.args.hosts.now c.loop-host.host-index none (get_or c.args.hosts.now c.loop-host.host-index none) c.loop-host.rows c.add_rows.new.rows c.loop-host-test.true refl
    c.loop-host.invariant c.in_ok-add_rows.ensures

pub returns : goal.returns
returns c = hosts_put (row_in c.args.book.now) c.args.families.now c.args.hosts.now c.loop-host.host-index c.loop-host.rows (omega (arith, c.loop-host-test.false)) c.loop-host.invariant
