-- What a node's services come to in the visit of a packet.
use Rattle.std.specs.Prelude.{◌≡◌, ◌++◌, ℕ, Bool, List, Option, Result, IfOk, OnOk, OnErr, IsTrue}
use Rattle.plan_base.specs.declared.memory.NoMemory.{NoMemory}
use Rattle.plan_base.specs.declared.stamp.Stamp.{Stamp}
use Rattle.plan_base.specs.declared.tree.Packet.{Packet}
use Rattle.packet_frame.specs.Spelled.{MayCarry}
use Rattle.service_api.specs.declared.ctx.Ctx.{Ctx}
use Rattle.service_api.specs.Services.{ServiceState, begun_now, made_ready}
use Rattle.plan_eval_settle.specs.Settles.{visit_settled}
use Rattle.plan_eval_settle.specs.declared.settling.Settled.{Settled}
use Rattle.node_core_spec.specs.declared.acts.Act.{Act}
use Rattle.node_core_spec.specs.State.{Queues}
use Rattle.node_core_spec.specs.Node.{visit_acts, visit_sends, sends_queues}
use Rattle.node_core_spec.specs.Visits.{visit_of, services_after}
use Rattle.node_core_parts.specs.declared.turns.Turn.{Turn}
use Rattle.node_core_parts.specs.Turns.{IsOpen, closed_services}
use Rattle.node_core_parts.specs.Visiting.{IsAround}

-- a packet may be visited in a context, and what it sends may bear this mark: without one it has no handler
pub record MayVisit (mark : Option Stamp) (ctx : Ctx) (p : Packet) : Type 0 where
  pub own : IsAround ctx p
  pub carried : MayCarry mark p.handler

-- a packet was visited in services, and its visit settled: what was left before that, whether its work was spent, and what the
-- services are once they are ready and closed
pub record IsSettled (ctx : Ctx) (p : Packet) (old new : ServiceState) (made : Settled × ℕ × Bool) : Type 0 where
  pub settled : made.0 ≡ visit_settled p ctx (visit_of ctx old p)
  pub left : made.1 ≡ (visit_of ctx old p).left
  pub closing : (now : ServiceState) → now ≡ made_ready new → closed_services made.2 now ≡ services_after ctx old p

-- the turn of a packet, after some acts, in services that are ready to be closed
pub record IsTurn (mark : Option Stamp) (ctx : Ctx) (p : Packet) (before : List Act) (old new : ServiceState) (turn : Turn) : Type 0 where
  pub is : IsOpen mark before p (visit_of ctx old p).left (visit_settled p ctx (visit_of ctx old p)) turn
  pub closing : closed_services turn.is_spent new ≡ services_after ctx old p
  pub ready : IsTrue new.ready

-- a packet was visited in a context, after some acts: its acts, with its sends queued, and the services after it; or, where an
-- allocation failed, queues and services stay
pub record TurnsPacket (mark : Option Stamp) (ctx : Ctx) (p : Packet) (before : List Act) (old new : ServiceState) (queues queues_new : Queues)
    (r : Result (List Act) NoMemory) : Type 0 where
  pub acts : IfOk r (λ acts. acts ≡ before ++ visit_acts mark queues p (visit_of ctx (begun_now old) p).left
      (visit_settled p ctx (visit_of ctx (begun_now old) p)))
  pub lanes : OnOk r (queues_new ≡ sends_queues queues (visit_sends mark (visit_settled p ctx (visit_of ctx (begun_now old) p)).visit))
  pub services : OnOk r (new ≡ services_after ctx (begun_now old) p)
  pub same : OnErr r (queues_new ≡ queues)
  pub undone : OnErr r (new ≡ old)
