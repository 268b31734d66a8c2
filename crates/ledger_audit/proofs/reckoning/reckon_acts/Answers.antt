use Rattle.std.proofs.Common.{take, arith}
use Rattle.ledger_audit.specs.Pasts.{with_acts}
use Rattle.ledger_audit.proofs.PastLaws.{no_acts, next_act, all_acts}
use Rattle.ledger_audit.proofs.reckoning.reckon_acts.Goals as goal

pub loop-act-init : goal.loop-act-init
loop-act-init c = λ p h. no_acts c.args.reckoning.now p h

pub loop-act-preserved : goal.loop-act-preserved
loop-act-preserved c = λ p h.
    next_act c.reckon_act.new.reckoning p c.args.acts.now c.loop-act.act-index c.act-item.result c.loop-act-test.true c.act-item.is
    (c.in_ok-reckon_act.ensures (with_acts (take c.loop-act.act-index c.args.acts.now) p) (c.loop-act.invariant p h))

pub returns : goal.returns
returns c = λ p h. all_acts c.loop-act.reckoning p c.args.acts.now c.loop-act.act-index (omega (arith, c.loop-act-test.false)) (c.loop-act.invariant p h)
