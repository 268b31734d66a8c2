-- A visit that was made, of which nothing stands yet.
use Rattle.std.specs.Prelude.{◌≡◌, ℕ, ◌+◌, ◌≤◌, Bool, true, false, if◌then◌else◌, List, Option, None, ◌∷◌, ◌++◌, length, map, vec_len, vec_capacity}
use Rattle.plan_base.specs.declared.stamp.Stamp.{Stamp}
use Rattle.plan_base.specs.declared.tree.Packet.{Packet}
use Rattle.service_api.specs.Services.{ServiceState, kept_services, abandoned_services}
use Rattle.plan_meaning.specs.declared.outcome.Outcome.{Outcome}
use Rattle.plan_meaning.specs.declared.outcome.Outcome.TheVariants.{WorkSpent}
use Rattle.node_core_spec.specs.declared.acts.Act.{Act}
use Rattle.node_core_spec.specs.declared.acts.Act.TheVariants.{Noted, Ended}
use Rattle.node_core_spec.specs.Node.{handled_acts, visit_sends}
use Rattle.plan_eval_settle.specs.declared.settling.Settled.{Settled}
use Rattle.node_core_parts.specs.declared.turns.Turn.{Turn}
use Rattle.node_core_parts.specs.declared.turns.Listing.{Listing}
use Rattle.plan_meaning.specs.declared.sent.Sent.{Sent}

-- no visit is open
pub record IsResting (n : ServiceState) : Type 0 where
  pub closed : n.begun ≡ None
  pub waits : n.ready ≡ false

-- whether an outcome is that of spent work
abbrev pub is_spent : Outcome → Bool
is_spent WorkSpent = true
is_spent _ = false

-- the services once a visit is closed
abbrev pub closed_services : Bool → ServiceState → ServiceState
closed_services spent n = if spent then abandoned_services n else kept_services n

-- the acts of a settled visit up to its sends, these, and room for their acts
pub record IsOpen (m : Option Stamp) (before : List Act) (p : Packet) (left : ℕ) (s : Settled) (turn : Turn) : Type 0 where
  pub acts : turn.acts.items
      ≡ before ++ (map Noted s.visit.notes ++ (Ended p.family s.visit.outcome s.visit.evals s.visit.left ∷ handled_acts p.family s.handled left))
  pub sends : turn.sends ≡ visit_sends m s.visit
  pub room : vec_len turn.acts + length turn.sends ≤ vec_capacity turn.acts

-- what a settled visit lists behind these acts, and what it sends
pub record IsListing (s : Settled) (acts : List Act) (made : Listing × List Sent) : Type 0 where
  pub before : made.0.before ≡ acts
  pub notes : made.0.notes ≡ s.visit.notes
  pub outcome : made.0.outcome ≡ s.visit.outcome
  pub evals : made.0.evals ≡ s.visit.evals
  pub rest : made.0.rest ≡ s.visit.left
  pub handled : made.0.handled ≡ s.handled
  pub outbox : made.1 ≡ s.visit.outbox
