use Rattle.std.proofs.Common.{ap, subst, ◌∙◌, arith}
use Rattle.ledger_audit.specs.Tallies.{one_accepted, tally_in, Changes}
use Rattle.ledger_audit.proofs.JudgeLaws.{judging_none, judging_over, judging_next, judging_all}
use Rattle.ledger_audit.proofs.judging.first_over_of.Goals as goal

pub loop-arrival-init : goal.loop-arrival-init
loop-arrival-init c = λ sent few h. judging_none sent c.args.arrived.now c.args.tallies.now h

pub returns-then-tally : goal.returns-then-tally
returns-then-tally c = λ sent few h.
    judging_over sent c.args.arrived.now few c.loop-arrival.arrival-index c.arrival-item.result c.loop-arrival.tallies c.accept.new.self c.loop-arrival-test.true c.arrival-item.is (c.loop-arrival.invariant sent few h)
    c.in_ok-tally.tally (c.in_ok-tally.ensures.tally ∙ ap (λ x. one_accepted (tally_in x c.loop-arrival.tallies)) c.in_ok-key.ensures) c.if-tally.true

pub loop-arrival-preserved : goal.loop-arrival-preserved
loop-arrival-preserved c = λ sent few h.
    judging_next sent c.args.arrived.now few c.loop-arrival.arrival-index c.arrival-item.result c.loop-arrival.tallies c.accept.new.self c.loop-arrival-test.true c.arrival-item.is (c.loop-arrival.invariant sent few h)
    c.in_ok-tally.tally (c.in_ok-tally.ensures.tally ∙ ap (λ x. one_accepted (tally_in x c.loop-arrival.tallies)) c.in_ok-key.ensures) c.if-tally.false
    (subst (λ x. Changes one_accepted x c.loop-arrival.tallies c.accept.new.self) c.in_ok-key.ensures c.in_ok-tally.ensures.after)

pub returns : goal.returns
returns c = λ sent few h. judging_all sent c.args.arrived.now c.loop-arrival.arrival-index c.loop-arrival.tallies (omega (arith, c.loop-arrival-test.false)) (c.loop-arrival.invariant sent few h)
