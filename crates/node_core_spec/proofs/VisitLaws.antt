-- Each visit keeps its balance; with good services and a typed chunk it never is without a case, and what it sends and leaves is good.
use Rattle.std.proofs.Common.{◌≡◌, ℕ, ◌+◌, ◌<◌, ◌≤◌, [], refl, ap, ◌∙◌, subst, arith}
use Rattle.std.specs.Prelude.{length}
use Rattle.std.proofs.lemmas.List.Elements.{All-nil}
use Rattle.plan_base.specs.declared.tree.Chunk.{Chunk}
use Rattle.plan_base.specs.declared.tree.Packet.{Packet}
use Rattle.plan_base.specs.declared.tree.Value.{Value}
use Rattle.plan_types_spec.specs.Typing.{IsTypedChunk, within}
use Rattle.plan_base.specs.WellFormed.{IsWellFormedChunk}
use Rattle.service_api.specs.Services.{ServiceState, IsGood, IsGoodChunk, IsGoodNote, kept_services, abandoned_services, begun_now}
use Rattle.plan_meaning.specs.declared.stop.EvalStop.TheVariants.{Raised, WorkSpent, Wrong, NoMemory}
use Rattle.plan_meaning.specs.declared.outcome.Visit.{Visit}
use Rattle.plan_meaning.specs.declared.sent.Sent.{Sent}
use Rattle.plan_meaning.specs.State.{VisitState}
use Rattle.plan_meaning.specs.Run.{After, gave, stopped}
use Rattle.plan_meaning.specs.Meaning.{meaning, visited_chunk}
use Rattle.plan_meaning.specs.Safe.{IsGoodSent, AreGoodPackets, IsGoodState, Holds}
use Rattle.plan_meaning.specs.Visit.{allowance, begun_state, spent_visit, bounds}
use Rattle.plan_meaning.specs.Laws.{left_by, total}
use Rattle.plan_meaning.proofs.Even as even
use Rattle.plan_meaning.proofs.Sound.{visit_soundness}
use Rattle.node_core_spec.specs.State.{NodeState}
use Rattle.plan_eval_settle.proofs.Sums.{settled_balance}
use Rattle.plan_eval_settle.proofs.Sends.{all_settled}
use Rattle.node_core_spec.specs.Visits.{around, evaluated_packet, visit_end, visit_of, visit_at, settled_at, services_end, services_after, VisitKeeps, HasCase}
use Rattle.node_core_spec.specs.Fits.{ServicesFit}
use Rattle.node_core_spec.proofs.Outgoing.{Outgoing, Out, visit_sends}

abbrev start : NodeState → Packet → VisitState
start node p = begun_state allowance (around node p) p.family (begun_now node.services)

balance_of : (purse evals sent bound : ℕ) → purse + evals + sent ≡ bound + 0 + 0 → evals + purse + sent ≡ bound
balance_of purse evals sent bound e = omega arith

spent_keeps : (p : Packet) → VisitKeeps p (spent_visit allowance p.bound)
spent_keeps p = record { balance = omega arith; family = All-nil (λ s. s.packet.family ≡ p.family); paid_each = All-nil (λ s. 0 < s.packet.bound) }

end_keeps : (p : Packet) (a : After Value) → total (left_by a) ≡ p.bound + 0 + 0 → Out p.family a → VisitKeeps p (visit_end p.bound a)
end_keeps p (gave v s) t o = record { balance = balance_of s.ctx.purse s.evals (bounds s.outbox) p.bound t; family = o.family; paid_each = o.paid }
end_keeps p (stopped (Raised x) s) t o = record { balance = balance_of s.ctx.purse s.evals (bounds s.outbox) p.bound t; family = o.family; paid_each = o.paid }
end_keeps p (stopped WorkSpent s) t o = spent_keeps p
end_keeps p (stopped Wrong s) t o = spent_keeps p
end_keeps p (stopped NoMemory s) t o = spent_keeps p

none_sent : (p : Packet) → Outgoing p.family p.family []
none_sent p = record { same = refl; family = All-nil (λ s. s.packet.family ≡ p.family); paid = All-nil (λ s. 0 < s.packet.bound) }

-- each visit keeps its balance
pub visit_keeps : (node : NodeState) (p : Packet) → VisitKeeps p (visit_at node p)
unfolding visit_of evaluated_packet
visit_keeps node p = end_keeps p (visited_chunk meaning p.chunk (start node p)).after (even.visit_balance p.chunk (start node p)) (visit_sends p.family p.chunk (start node p) (none_sent p))

-- a settled visit keeps it too
pub settled_keeps : (node : NodeState) (p : Packet) → VisitKeeps p (settled_at node p).visit
settled_keeps node p =
    let k = visit_keeps node p in
    let ctx = around node p in
    let v = visit_at node p in
    record {
      balance = settled_balance p ctx v ∙ k.balance;
      family = all_settled (λ s. s.packet.family ≡ p.family) p ctx v k.family (λ t h. ap (λ (x : Sent). x.packet.family) h.is);
      paid_each = all_settled (λ s. 0 < s.packet.bound) p ctx v k.paid_each (λ t h. omega (arith, h.some, ap (λ (x : Sent). x.packet.bound) h.is));
    }

-- ---- good services and a good chunk

good_start : (node : NodeState) (p : Packet) → IsGood node.services → length node.neighbours ≤ 8 → IsGoodState (start node p)
good_start node p g n = record {
  services = record { serve = g.serve; rows = g.rows };
  notes = All-nil IsGoodNote;
  outbox = All-nil IsGoodSent;
  near = n;
}

-- what holds of an evaluation, whatever the type of its value
record Ends (a : After Value) : Type 0 where
  case : HasCase a
  state : IsGoodState (left_by a)

holds_case : (P : Value → Type 0) (a : After Value) → Holds P a → HasCase a
holds_case P a h s e = (subst (Holds P) e h).0 refl

holds_state : (P : Value → Type 0) (a : After Value) → Holds P a → IsGoodState (left_by a)
holds_state P (gave v s) h = h.1
holds_state P (stopped e s) h = h.1

holds_ends : (P : Value → Type 0) (a : After Value) → Holds P a → Ends a
holds_ends P a h = record { case = holds_case P a h; state = holds_state P a h }

typed_ends : (k : Chunk) → IsTypedChunk k → IsWellFormedChunk k → (s : VisitState) → IsGoodState s → Ends (visited_chunk meaning k s).after
typed_ends k (within at d t p g h n w) f s i =
    holds_ends _ (visited_chunk meaning k s).after (visit_soundness k at d (record { typed = within at d t p g h n w; formed = f }) p g s i).holds

ends : (node : NodeState) (p : Packet) → IsGood node.services → length node.neighbours ≤ 8 → IsGoodChunk p.chunk → Ends (evaluated_packet (around node p) (begun_now node.services) p)
unfolding evaluated_packet
ends node p g n k = typed_ends p.chunk k.typed k.formed (start node p) (good_start node p g n)

-- the evaluation of a typed chunk never is without a case
pub has_case : (node : NodeState) (p : Packet) → IsGood node.services → length node.neighbours ≤ 8 → IsGoodChunk p.chunk → HasCase (evaluated_packet (around node p) (begun_now node.services) p)
has_case node p g n k = (ends node p g n k).case

-- what a visit sends is good, and so are the services after it
pub record VisitFits (v : Visit) (after : ServiceState) : Type 0 where
  pub packets : AreGoodPackets v.outbox
  pub services : ServicesFit after

kept_fits : (n : ServiceState) → IsGood n → ServicesFit (kept_services n)
kept_fits n g = record { good = record { serve = g.serve; rows = g.rows }; closed = refl; waits = refl }

-- services without a visit are as they were where one is undone
undone_fits : (n : ServiceState) → IsGood n → ServicesFit (abandoned_services (begun_now n))
undone_fits n g = record { good = record { serve = g.serve; rows = g.rows }; closed = refl; waits = refl }

spent_fits : (bound : ℕ) (n : ServiceState) → IsGood n → VisitFits (spent_visit allowance bound) (abandoned_services (begun_now n))
spent_fits bound n g = record { packets = All-nil IsGoodSent; services = undone_fits n g }

end_fits : (bound : ℕ) (n : ServiceState) (a : After Value) → IsGood n → IsGoodState (left_by a) → VisitFits (visit_end bound a) (services_end (begun_now n) a)
end_fits bound n (gave v s) o g = record { packets = g.outbox; services = kept_fits s.services g.services }
end_fits bound n (stopped (Raised x) s) o g = record { packets = g.outbox; services = kept_fits s.services g.services }
end_fits bound n (stopped WorkSpent s) o g = spent_fits bound n o
end_fits bound n (stopped Wrong s) o g = spent_fits bound n o
end_fits bound n (stopped NoMemory s) o g = spent_fits bound n o

pub visit_fits : (node : NodeState) (p : Packet) → IsGood node.services → length node.neighbours ≤ 8 → IsGoodChunk p.chunk
    → VisitFits (visit_at node p) (services_after (around node p) (begun_now node.services) p)
unfolding visit_of services_after
visit_fits node p g n k = end_fits p.bound node.services (evaluated_packet (around node p) (begun_now node.services) p) g (ends node p g n k).state
