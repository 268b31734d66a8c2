use Rattle.std.proofs.Common.{arith, sym}
use Rattle.plan_eval.proofs.Walks.{inside_none, nearest_found}
use Rattle.plan_eval.proofs.place.nearest.Goals as goal

pub loop-i-init : goal.loop-i-init
loop-i-init c = record { within = omega (arith, c.len-i.ensures); inside = inside_none c.args.first c.args.conts.now c.len-i.result c.len-i.ensures }

pub returns-in-Some : goal.returns-in-Some
returns-in-Some c =
    nearest_found c.args.first c.args.conts.now c.loop-i.i c.at.result.now c.in-Some.a c.loop-i-test.true c.loop-i.invariant.within c.at.ensures (sym c.in-Some.ensures)
    c.loop-i.invariant.inside
