-- Sends on a way that is there, and sends that are refused.
use Rattle.std.proofs.Common.{◌≡◌, ◌≢◌, ◌↔◌, ℕ, ℤ, Bool, true, false, IsTrue, if◌then◌else◌, Result, Ok, Err, IsOk, refl, sym, ◌∙◌, ap, subst}
use Rattle.plan_base.specs.declared.name.Name.{Name}
use Rattle.plan_base.specs.declared.ids.Host.{Host}
use Rattle.plan_base.specs.declared.ids.Dev.{Dev}
use Rattle.plan_base.specs.declared.tree.Chunk.{Chunk}
use Rattle.checked_chunks.specs.Kept.{IsCheckedChunk}
use Rattle.service_api.specs.declared.ctx.Ctx.{Ctx}
use Rattle.service_api.specs.declared.router.Hop.{Hop}
use Rattle.service_api.specs.declared.router.Hop.TheVariants.{To, NoService, NoRoute}
use Rattle.service_api.specs.Routes.{hop, default_route}
use Rattle.service_api.specs.Services.{ServiceState, IsGoodChunk}
use Rattle.plan_meaning.specs.declared.stop.EvalStop.{EvalStop}
use Rattle.plan_meaning.specs.declared.stop.EvalStop.TheVariants.{NoMemory}
use Rattle.plan_meaning.specs.State.{VisitState, Own, joined_state}
use Rattle.plan_meaning.specs.Run.{RunStep, stopped, raise}
use Rattle.plan_meaning.specs.Safe.{IsSafe}
use Rattle.plan_meaning.specs.Meaning.{is_paid, bound_of, sent_packet, sent_by, send_remote, send_neighbour, is_next, no_bound, not_neighbour}
use Rattle.remote_calls.specs.declared.fault.SendFault.{SendFault}
use Rattle.remote_calls.specs.declared.fault.SendFault.TheVariants as fault
use Rattle.remote_calls.specs.declared.way.SendWay.{SendWay}
use Rattle.remote_calls.specs.Sends.{leads}
use Rattle.plan_meaning.proofs.Full.{full_chunk}
use Rattle.visit_state.specs.Meets.{Meets, StopsBy}

-- no type is missing in a typed chunk
pub good_is_checked : (k : Chunk) → IsGoodChunk k → IsCheckedChunk k
good_is_checked k h = record { typed = h.typed; formed = h.formed; full = full_chunk h.typed }

-- the stop that a fault says
by_fault : (f g : SendFault) (e : EvalStop) → f ≡ g → StopsBy f e → StopsBy g e
by_fault f g e is h = subst (λ x. StopsBy x e) is h

same_fault : {W : Type 0} {f g : SendFault} → ◌≡◌ {A = Result W SendFault} (Err f) (Err g) → f ≡ g
same_fault h = cc

not_ok : {W : Type 0} (r : Result W SendFault) (f : SendFault) → r ≡ Err f → IsOk r → ⊥
not_ok (Ok w) f is h = cc
not_ok (Err g) f is h = cc

module _ (k : Chunk) (host : Host) (n : ℤ) where
  -- ---- by a routing name

  module _ (route : Name) where
    refused_by : (s : VisitState) (b : Bool) (x : Hop) (f : SendFault) (e : EvalStop) → (b ≡ false → f ≡ fault.NoBound)
        → (b ≡ true → x ≡ NoService → f ≡ fault.NoService) → (b ≡ true → x ≡ NoRoute → f ≡ fault.NoRoute)
        → ((via : Host) (dev : Dev) → b ≡ true → x ≡ To via dev → ⊥) → StopsBy f e → e ≢ NoMemory
        → (if b then sent_by x k host (bound_of n) route s else raise no_bound s).after ≡ stopped e s
    refused_by s false x f e unpaid no_service no_route never by other = ap (λ q. stopped q s) (sym (by_fault f _ e (unpaid refl) by other))
    refused_by s true (To via dev) f e unpaid no_service no_route never by other = absurd (never via dev refl refl)
    refused_by s true NoService f e unpaid no_service no_route never by other = ap (λ q. stopped q s) (sym (by_fault f _ e (no_service refl refl) by other))
    refused_by s true NoRoute f e unpaid no_service no_route never by other = ap (λ q. stopped q s) (sym (by_fault f _ e (no_route refl refl) by other))

    remote_is : (s : VisitState) (via : Host) (dev : Dev) → is_paid n s.ctx.purse ≡ true → hop s.ctx.router route s.ctx.here host ≡ To via dev
        → send_remote k host n route s ≡ sent_packet dev k host (bound_of n) route s
    unfolding send_remote
    remote_is s via dev p q = rw (p, q) refl

    -- the same, where purse, surroundings and bound are known by an equation
    module _ (o : Own) (purse : ℕ) (ctx : Ctx) (m : ℤ) (same_purse : purse ≡ o.ctx.purse) (same_ctx : ctx ≡ o.ctx) (same_bound : m ≡ n) where
      abbrev pub Found : SendWay → Type 0
      Found w = IsTrue (is_paid m purse) × (w.bound ≡ bound_of m) × ((via : Host) × (hop ctx.router route ctx.here host ≡ To via w.dev))

      is_paid_here : (b : Bool) → is_paid m purse ≡ b → is_paid n o.ctx.purse ≡ b
      is_paid_here b h = subst (λ i. is_paid i o.ctx.purse ≡ b) same_bound (subst (λ x. is_paid m x ≡ b) same_purse h)

      was_paid : (b : Bool) → is_paid n o.ctx.purse ≡ b → is_paid m purse ≡ b
      was_paid b h = subst (λ x. is_paid m x ≡ b) (sym same_purse) (subst (λ i. is_paid i o.ctx.purse ≡ b) (sym same_bound) h)

      leads_here : (x : Hop) → hop ctx.router route ctx.here host ≡ x → hop o.ctx.router route o.ctx.here host ≡ x
      leads_here x h = subst (λ (y : Ctx). hop y.router route y.here host ≡ x) same_ctx h

      hop_is_same : (x : Hop) → hop o.ctx.router route o.ctx.here host ≡ x → hop ctx.router route ctx.here host ≡ x
      hop_is_same x h = subst (λ (y : Ctx). hop y.router route y.here host ≡ x) (sym same_ctx) h

      pub remote_good : (w : SendWay) → Found w → (t : ServiceState) × IsSafe (send_remote k host n route (joined_state o t)).asks → IsGoodChunk k
      remote_good w found h =
          subst (λ (r : RunStep (Unit {0})). IsSafe r.asks) (remote_is (joined_state o h.0) found.2.0 w.dev (is_paid_here true found.0) (leads_here _ found.2.1)) h.1

      pub remote_meets : (t : ServiceState) (w : SendWay) (copied : Name) (r : Result (Unit {0}) EvalStop) (new : VisitState) → Found w → copied ≡ route
          → Meets (sent_packet w.dev k host w.bound copied (joined_state o t)) r new → Meets (send_remote k host n route (joined_state o t)) r new
      remote_meets t w copied r new found is h =
          subst (λ (q : RunStep (Unit {0})). Meets q r new) (sym (remote_is (joined_state o t) found.2.0 w.dev (is_paid_here true found.0) (leads_here _ found.2.1)))
          (subst (λ x. Meets (sent_packet w.dev k host (bound_of n) x (joined_state o t)) r new) is (subst (λ b. Meets (sent_packet w.dev k host b copied (joined_state o t)) r new) (found.1 ∙ ap bound_of same_bound) h))

      pub remote_refused : (t : ServiceState) (r : Result SendWay SendFault) (f : SendFault) (e : EvalStop) → r ≡ Err f
          → ((via : Host) (dev : Dev) → IsTrue (is_paid m purse) → hop ctx.router route ctx.here host ≡ To via dev → IsOk r)
          → ((r ≡ Err fault.NoBound) ↔ (is_paid m purse ≡ false))
          → ((r ≡ Err fault.NoService) ↔ (IsTrue (is_paid m purse) × (hop ctx.router route ctx.here host ≡ NoService)))
          → ((r ≡ Err fault.NoRoute) ↔ (IsTrue (is_paid m purse) × (hop ctx.router route ctx.here host ≡ NoRoute)))
          → StopsBy f e → e ≢ NoMemory → (send_remote k host n route (joined_state o t)).after ≡ stopped e (joined_state o t)
      unfolding send_remote
      remote_refused t r f e is only unpaid no_service no_route by other =
          refused_by (joined_state o t) (is_paid n o.ctx.purse) (hop o.ctx.router route o.ctx.here host) f e
          (λ p. same_fault (sym is ∙ unpaid.1 (was_paid false p))) (λ p q. same_fault (sym is ∙ no_service.1 (was_paid true p, hop_is_same _ q)))
          (λ p q. same_fault (sym is ∙ no_route.1 (was_paid true p, hop_is_same _ q))) (λ via dev p q. not_ok r f is (only via dev (was_paid true p) (hop_is_same _ q))) by other

  -- ---- to a neighbour

  module _ (dev : Dev) where
    near_by : (s : VisitState) (b c : Bool) (f : SendFault) (e : EvalStop) → (b ≡ false → f ≡ fault.NoBound) → (b ≡ true → c ≡ false → f ≡ fault.NotNeighbor)
        → (b ≡ true → c ≡ true → ⊥) → StopsBy f e → e ≢ NoMemory
        → (if b then (if c then sent_packet dev k host (bound_of n) default_route s else raise not_neighbour s) else raise no_bound s).after ≡ stopped e s
    near_by s false c f e unpaid far never by other = ap (λ q. stopped q s) (sym (by_fault f _ e (unpaid refl) by other))
    near_by s true false f e unpaid far never by other = ap (λ q. stopped q s) (sym (by_fault f _ e (far refl refl) by other))
    near_by s true true f e unpaid far never by other = absurd (never refl refl)

    neighbour_is : (s : VisitState) → is_paid n s.ctx.purse ≡ true → leads s.ctx dev host ≡ true
        → send_neighbour k host n dev s ≡ sent_packet dev k host (bound_of n) default_route s
    unfolding send_neighbour is_next leads
    neighbour_is s p q = rw (p, q) refl

    module _ (o : Own) (purse : ℕ) (ctx : Ctx) (m : ℤ) (same_purse : purse ≡ o.ctx.purse) (same_ctx : ctx ≡ o.ctx) (same_bound : m ≡ n) where
      abbrev pub FoundNear : SendWay → Type 0
      FoundNear w = IsTrue (is_paid m purse) × (w.bound ≡ bound_of m) × (w.dev ≡ dev) × IsTrue (leads ctx dev host)

      pays : (b : Bool) → is_paid m purse ≡ b → is_paid n o.ctx.purse ≡ b
      pays b h = subst (λ i. is_paid i o.ctx.purse ≡ b) same_bound (subst (λ x. is_paid m x ≡ b) same_purse h)

      paid : (b : Bool) → is_paid n o.ctx.purse ≡ b → is_paid m purse ≡ b
      paid b h = subst (λ x. is_paid m x ≡ b) (sym same_purse) (subst (λ i. is_paid i o.ctx.purse ≡ b) (sym same_bound) h)

      is_near : (b : Bool) → leads ctx dev host ≡ b → leads o.ctx dev host ≡ b
      is_near b h = subst (λ (y : Ctx). leads y dev host ≡ b) same_ctx h

      was_near : (b : Bool) → leads o.ctx dev host ≡ b → leads ctx dev host ≡ b
      was_near b h = subst (λ (y : Ctx). leads y dev host ≡ b) (sym same_ctx) h

      pub neighbour_good : (w : SendWay) → FoundNear w → (t : ServiceState) × IsSafe (send_neighbour k host n dev (joined_state o t)).asks → IsGoodChunk k
      neighbour_good w found h =
          subst (λ (r : RunStep (Unit {0})). IsSafe r.asks) (neighbour_is (joined_state o h.0) (pays true found.0) (is_near true found.3)) h.1

      pub neighbour_meets : (t : ServiceState) (w : SendWay) (route : Name) (r : Result (Unit {0}) EvalStop) (new : VisitState) → FoundNear w → route ≡ default_route
          → Meets (sent_packet w.dev k host w.bound route (joined_state o t)) r new → Meets (send_neighbour k host n dev (joined_state o t)) r new
      neighbour_meets t w route r new found is h =
          subst (λ (q : RunStep (Unit {0})). Meets q r new) (sym (neighbour_is (joined_state o t) (pays true found.0) (is_near true found.3)))
          (subst (λ x. Meets (sent_packet dev k host (bound_of n) x (joined_state o t)) r new) is
          (subst (λ b. Meets (sent_packet dev k host b route (joined_state o t)) r new) (found.1 ∙ ap bound_of same_bound) (subst (λ d. Meets (sent_packet d k host w.bound route (joined_state o t)) r new) found.2 h)))

      pub neighbour_refused : (t : ServiceState) (r : Result SendWay SendFault) (f : SendFault) (e : EvalStop) → r ≡ Err f
          → (IsTrue (is_paid m purse) → IsTrue (leads ctx dev host) → IsOk r)
          → ((r ≡ Err fault.NoBound) ↔ (is_paid m purse ≡ false))
          → ((r ≡ Err fault.NotNeighbor) ↔ (IsTrue (is_paid m purse) × (leads ctx dev host ≡ false)))
          → StopsBy f e → e ≢ NoMemory → (send_neighbour k host n dev (joined_state o t)).after ≡ stopped e (joined_state o t)
      unfolding send_neighbour is_next leads
      neighbour_refused t r f e is only unpaid far by other =
          near_by (joined_state o t) (is_paid n o.ctx.purse) (leads o.ctx dev host) f e
          (λ p. same_fault (sym is ∙ unpaid.1 (paid false p))) (λ p q. same_fault (sym is ∙ far.1 (paid true p, was_near false q)))
          (λ p q. not_ok r f is (only (paid true p) (was_near true q))) by other
