-- What a visit ends with, by its definition; and how services are closed after it.
use Rattle.std.proofs.Common.{◌≡◌, ℕ, Bool, true, false, List, [], ◌∷◌, refl, sym, ap, ◌∙◌, subst}
use Rattle.std.specs.Prelude.{Option, Some, None, IsSome, All}
use Rattle.std.proofs.lemmas.List.Elements.{All-nil, All-cons}
use Rattle.plan_base.specs.declared.stamp.Stamp.{Stamp}
use Rattle.plan_base.specs.declared.tree.Packet.{Packet}
use Rattle.plan_base.specs.declared.tree.Value.{Value}
use Rattle.service_api.specs.declared.ctx.Ctx.{Ctx}
use Rattle.service_api.specs.Services.{Rows, ServiceState, begun_now, made_ready, kept_services, abandoned_services, rows_at}
use Rattle.plan_meaning.specs.declared.stop.EvalStop.TheVariants.{Raised, WorkSpent, Wrong, NoMemory}
use Rattle.plan_meaning.specs.declared.outcome.Visit.{Visit}
use Rattle.plan_meaning.specs.declared.sent.Sent.{Sent}
use Rattle.packet_frame.specs.Spelled.{MayCarry}
use Rattle.plan_meaning.specs.Run.{After, gave, stopped}
use Rattle.plan_meaning.specs.Meaning.{meaning, visited_chunk}
use Rattle.plan_meaning.specs.Visit.{IsVisit, Ends, allowance, begun_state}
use Rattle.node_core_spec.specs.Visits.{evaluated_packet, visit_end, visit_of, services_end, services_after}
use Rattle.plan_eval_settle.specs.Settles.{visit_settled}
use Rattle.plan_eval_settle.proofs.Sends.{settled_plain}
use Rattle.node_core_parts.specs.Turns.{closed_services, is_spent, IsResting}
use Rattle.node_core_parts.specs.Carried.{Carries}

visit_is : (bound : ℕ) (a : After Value) (r : Visit) (new : ServiceState) → Ends allowance bound a r new → r ≡ visit_end bound a
visit_is bound (gave v s) r new e = e.0
visit_is bound (stopped (Raised x) s) r new e = e.0
visit_is bound (stopped WorkSpent s) r new e = e.0
visit_is bound (stopped Wrong s) r new e = absurd e
visit_is bound (stopped NoMemory s) r new e = absurd e

abbrev ends_as : Ctx → ServiceState → Packet → Visit → ServiceState → ℕ → Type 0
ends_as ctx old p r new bound = Ends allowance bound (visited_chunk meaning p.chunk (begun_state allowance ctx p.family old)).after r new

-- the visit by the meaning is that of the definition
pub turn_visit : (ctx : Ctx) (old : ServiceState) (p : Packet) (r : Visit) (new : ServiceState) → ctx.purse ≡ p.bound
    → IsVisit allowance p.chunk ctx p.family old r new → r ≡ visit_of ctx old p
unfolding IsVisit visit_of evaluated_packet
turn_visit ctx old p r new b v = visit_is p.bound (visited_chunk meaning p.chunk (begun_state allowance ctx p.family old)).after r new (subst (ends_as ctx old p r new) b v)

some_rows : (o : Option Rows) (a b : Rows) → IsSome o → rows_at o a ≡ rows_at o b
some_rows (Some rows) a b h = refl
some_rows None a b h = cc

undone_as : (old new : ServiceState) → new.offer ≡ old.offer → rows_at new.begun new.rows ≡ rows_at old.begun old.rows → abandoned_services new ≡ abandoned_services old
undone_as old new o r = λ i. record { offer = o i; rows = r i; begun = None; ready = false }

-- undone, the services are those at the same beginning
abandoned_same : (old new : ServiceState) → new.offer ≡ old.offer → new.begun ≡ old.begun → IsSome old.begun → abandoned_services new ≡ abandoned_services old
abandoned_same old new o b h = undone_as old new o (ap (λ x. rows_at x new.rows) b ∙ some_rows old.begun new.rows old.rows h)

closes : (bound : ℕ) (a : After Value) (old new : ServiceState) (r : Visit) → new.offer ≡ old.offer → new.begun ≡ old.begun → IsSome old.begun
    → Ends allowance bound a r new → closed_services (is_spent r.outcome) new ≡ services_end old a
closes bound (gave v s) old new r o b h e = ap (λ (x : Visit). closed_services (is_spent x.outcome) new) e.0 ∙ ap (λ (n : ServiceState). kept_services n) e.1
closes bound (stopped (Raised x) s) old new r o b h e = ap (λ (x : Visit). closed_services (is_spent x.outcome) new) e.0 ∙ ap (λ (n : ServiceState). kept_services n) e.1
closes bound (stopped WorkSpent s) old new r o b h e = ap (λ (x : Visit). closed_services (is_spent x.outcome) new) e.0 ∙ abandoned_same old new o b h
closes bound (stopped Wrong s) old new r o b h e = absurd e
closes bound (stopped NoMemory s) old new r o b h e = absurd e

closed_ready : (t : Bool) (n : ServiceState) → closed_services t (made_ready n) ≡ closed_services t n
closed_ready true n = refl
closed_ready false n = refl

-- closed, the services are those after the visit
pub turn_closes : (ctx : Ctx) (old : ServiceState) (p : Packet) (r : Visit) (mid new : ServiceState) → IsVisit allowance p.chunk ctx p.family old r mid
    → mid.offer ≡ old.offer → mid.begun ≡ old.begun → IsSome old.begun → new ≡ made_ready mid
    → closed_services (is_spent r.outcome) new ≡ services_after ctx old p
unfolding IsVisit services_after evaluated_packet
turn_closes ctx old p r mid new v o b h e =
    ap (λ (n : ServiceState). closed_services (is_spent r.outcome) n) e ∙ closed_ready (is_spent r.outcome) mid
    ∙ closes ctx.purse (visited_chunk meaning p.chunk (begun_state allowance ctx p.family old)).after old mid r o b h v

-- a visit that is undone leaves the services as they were
pub undone : (old new : ServiceState) → old.begun ≡ None → old.ready ≡ false → new.offer ≡ (begun_now old).offer → new.begun ≡ (begun_now old).begun → abandoned_services new ≡ old
undone old new c w o b =
    let r : rows_at new.begun new.rows ≡ old.rows = ap (λ x. rows_at x new.rows) b in
    λ i. record { offer = o i; rows = r i; begun = sym c i; ready = sym w i }

rests_so : (t : Bool) (n : ServiceState) → IsResting (closed_services t n)
rests_so true n = record { closed = refl; waits = refl }
rests_so false n = record { closed = refl; waits = refl }

-- closed or undone, the services rest
pub rests_closed : (t : Bool) (n m : ServiceState) → m ≡ closed_services t n → IsResting m
rests_closed t n m e = subst IsResting (sym e) (rests_so t n)

pub rests_abandoned : (n m : ServiceState) → m ≡ abandoned_services n → IsResting m
rests_abandoned n m e = subst IsResting (sym e) (record { closed = refl; waits = refl })

all_carry : (s : Stamp) (ss : List Sent) → All (Carries (Some s)) ss
all_carry s [] = All-nil (Carries (Some s))
all_carry s (x ∷ xs) = All-cons (Carries (Some s)) x xs tt (all_carry s xs)

-- what the settled visit of such a packet sends may bear the mark as well
pub settled_carries : (m : Option Stamp) (p : Packet) (ctx : Ctx) (v : Visit) → MayCarry m p.handler → All (Carries m) (visit_settled p ctx v).visit.outbox
settled_carries None p ctx v h = settled_plain p ctx v h
settled_carries (Some s) p ctx v h = all_carry s (visit_settled p ctx v).visit.outbox
