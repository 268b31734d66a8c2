use Rattle.std.proofs.Common.{ap, ◌∙◌}
use Rattle.plan_eval_settle.specs.Settles.{visit_settled}
use Rattle.node_core_parts.specs.Turns.{closed_services}
use Rattle.node_core_parts.proofs.TurnLaws.{turn_visit, turn_closes}
use Rattle.node_core.proofs.idle_services.settled_of.Goals as goal

pub returns-clause-made : goal.returns-clause-made
returns-clause-made g c =
    let old = g.S.Services.stands c.args.services.now in
    let mid = g.S.Services.stands c.visit.new.svc in
    let done = c.in_ok-made.ensures in
    let made = turn_visit c.args.ctx.now old c.args.packet.now c.in_ok-made.made mid c.requires.own.bound done.visits in
    record {
      settled = c.in_ok-settled.ensures.settled ∙ ap (visit_settled c.args.packet.now c.args.ctx.now) made;
      left = ap (λ v. v.left) made;
      closing = λ now e. ap (λ spent. closed_services spent now) c.is_spent-is_spent.ensures
          ∙ turn_closes c.args.ctx.now old c.args.packet.now c.in_ok-made.made mid now done.visits done.offer done.begun c.requires.open.begun e;
    }
