-- How a visit is made and closed.
use Rattle.std.proofs.Common.{◌≡◌, Bool, true, false, refl, ap, ◌∙◌, subst}
use Rattle.plan_base.specs.declared.tree.Packet.{Packet}
use Rattle.service_api.specs.declared.ctx.Ctx.{Ctx}
use Rattle.service_api.specs.Services.{ServiceState, begun_now, made_ready}
use Rattle.plan_meaning.specs.declared.outcome.Visit.{Visit}
use Rattle.plan_meaning.specs.Visit.{IsVisit, allowance}
use Rattle.node_core_parts.specs.Turns.{closed_services, is_spent}
use Rattle.example_services.specs.Visits.{IsMade, IsVisited}

pub visit_is_made : (p : Packet) (ctx : Ctx) (old mid new : ServiceState) (r : Visit) → IsVisit allowance p.chunk ctx p.family old r mid → new ≡ made_ready mid → IsMade p ctx old r new
visit_is_made p ctx old mid new r v e = record { after = mid; visit = v; ready = e }

closed_ready : (t : Bool) (n : ServiceState) → closed_services t (made_ready n) ≡ closed_services t n
closed_ready true n = refl
closed_ready false n = refl

pub packet_is_visited : (p : Packet) (ctx : Ctx) (old first mid new : ServiceState) (r : Visit) (t : Bool) → first ≡ begun_now old → IsMade p ctx first r mid → t ≡ is_spent r.outcome → new ≡ closed_services t mid → IsVisited p ctx old r new
packet_is_visited p ctx old first mid new r t o m s e = record {
  after = m.after;
  visit = subst (λ (n : ServiceState). IsVisit allowance p.chunk ctx p.family n r m.after) o m.visit;
  ends = e ∙ ap (λ (n : ServiceState). closed_services t n) m.ready ∙ closed_ready t m.after ∙ ap (λ (b : Bool). closed_services b m.after) s;
}
