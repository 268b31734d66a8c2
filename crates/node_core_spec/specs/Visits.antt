-- The visit of a packet at a node: the meaning of its chunk, and what it leaves.
use Rattle.std.specs.Prelude.{◌≡◌, ◌≢◌, ℕ, ◌+◌, ◌<◌, All}
use Rattle.plan_base.specs.declared.tree.Packet.{Packet}
use Rattle.plan_base.specs.declared.tree.Value.{Value}
use Rattle.service_api.specs.declared.ctx.Ctx.{Ctx}
use Rattle.service_api.specs.Services.{ServiceState, begun_now, kept_services, abandoned_services}
use Rattle.plan_meaning.specs.declared.stop.EvalStop.TheVariants as stop
use Rattle.plan_meaning.specs.declared.outcome.Outcome.TheVariants as outcome
use Rattle.plan_meaning.specs.declared.outcome.Visit.{Visit}
use Rattle.plan_meaning.specs.State.{VisitState}
use Rattle.plan_meaning.specs.Run.{After, gave, stopped}
use Rattle.plan_meaning.specs.Meaning.{meaning, visited_chunk}
use Rattle.plan_meaning.specs.Visit.{allowance, begun_state, ended_visit, spent_visit, bounds}
use Rattle.plan_eval_settle.specs.declared.settling.Settled.{Settled}
use Rattle.plan_eval_settle.specs.Settles.{visit_settled}
use Rattle.dv_routing.specs.Routing.{all_routes}
use Rattle.node_core_spec.specs.State.{NodeState, routing_of}

-- how the evaluation of a packet's chunk ends in these surroundings, with these services
unfoldable pub evaluated_packet : Ctx → ServiceState → Packet → After Value
evaluated_packet ctx services p = (visited_chunk meaning p.chunk (begun_state allowance ctx p.family services)).after

-- the value or exception of a visit with its effects; one whose work is spent has none. A typed chunk always has a case, so the
-- last line is for spent work alone.
abbrev pub visit_end : ℕ → After Value → Visit
visit_end bound (gave v s) = ended_visit allowance (outcome.Value v) s
visit_end bound (stopped (stop.Raised x) s) = ended_visit allowance (outcome.Raised x) s
visit_end bound (stopped _ s) = spent_visit allowance bound

-- the visit of a packet
unfoldable pub visit_of : Ctx → ServiceState → Packet → Visit
visit_of ctx services p = visit_end p.bound (evaluated_packet ctx services p)

-- the services afterwards: what a visit changed stands, but for one whose work is spent
abbrev pub services_end : ServiceState → After Value → ServiceState
services_end begun (gave v s) = kept_services s.services
services_end begun (stopped (stop.Raised x) s) = kept_services s.services
services_end begun (stopped _ s) = abandoned_services begun

unfoldable pub services_after : Ctx → ServiceState → Packet → ServiceState
services_after ctx services p = services_end services (evaluated_packet ctx services p)

-- the context of the visit of a packet at a node: the packet's bound is the purse
abbrev pub around : NodeState → Packet → Ctx
around node p =
    record {
      here = node.here;
      source = p.family.source;
      purse = p.bound;
      now = node.now;
      neighbours = node.neighbours;
      router = all_routes (routing_of node);
    }

-- the visit of a packet at a node
abbrev pub visit_at : NodeState → Packet → Visit
visit_at node p = visit_of (around node p) (begun_now node.services) p

-- that visit, settled
abbrev pub settled_at : NodeState → Packet → Settled
settled_at node p = visit_settled p (around node p) (visit_at node p)

-- what every visit keeps: the packet's bound is what it paid, left and sent, each send has the
-- packet's family, and each paid at least 1
pub record VisitKeeps (p : Packet) (v : Visit) : Type 0 where
  pub balance : v.evals + v.left + bounds v.outbox ≡ p.bound
  pub family : All (λ s. s.packet.family ≡ p.family) v.outbox
  pub paid_each : All (λ s. 0 < s.packet.bound) v.outbox

-- the evaluation never is without a case
abbrev pub HasCase : After Value → Type 0
HasCase a = (s : VisitState) → a ≢ stopped stop.Wrong s
