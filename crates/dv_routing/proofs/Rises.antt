-- No advert that is heard raises a cost.
use Rattle.std.proofs.Common.{◌≡◌, ℕ, ◌+◌, ◌≤◌, Option, Some, None, List, [], ◌∷◌, ◌++◌, inl, inr, refl, sym, ap, subst, ◌∙◌, arith}
use Rattle.std.specs.List.{Contains}
use Rattle.plan_base.specs.declared.ids.Host.{Host}
use Rattle.plan_base.specs.declared.ids.Dev.{Dev}
use Rattle.service_api.specs.declared.router.RouteRow.{RouteRow}
use Rattle.service_api.specs.declared.advert.Advert.{Advert}
use Rattle.dv_routing.specs.Routing.{Routing, hears, least, told_on, heard_cost, own_cost, near_cost, route, route_cost, cost}
use Rattle.dv_routing.specs.Laws.{AtMost, NoRise, IsRouteAnswer}
use Rattle.dv_routing.proofs.Costs.{least-assoc, least_first, heard_more}
use Rattle.dv_routing.proofs.Best.{route_own, route_answer, same_or_not}

pub near_rises : (r : Routing) (d : Dev) (a : Advert) (x : Host) (link : Host × Dev) → NoRise (near_cost r x link) (near_cost (hears r d a) x link)
unfolding near_cost
near_rises r d a x link =
    let own = own_cost link.0 x in
    let heard = heard_cost r.hosts x link.1 r.heard in
    let told = told_on r.hosts x link.1 (d, a) in
    let more : least own (heard_cost r.hosts x link.1 (r.heard ++ (d, a) ∷ [])) ≡ least (least own heard) told =
    ap (least own) (heard_more r.hosts x link.1 r.heard (d, a)) ∙ sym (least-assoc own heard told) in
    subst (NoRise (least own heard)) (sym more) (least_first (least own heard) told)

pub at_most_some : (o : Option ℕ) (c : ℕ) → AtMost o c → (b : ℕ) × (o ≡ Some b) × (b ≤ c)
at_most_some None c h = absurd h
at_most_some (Some b) c h = (b, refl, h)

pub no_rise_self : (o : Option ℕ) → NoRise o o
no_rise_self None = tt
no_rise_self (Some b) = omega arith

pub no_rise_at : (o q : Option ℕ) (c : ℕ) → NoRise o q → o ≡ Some c → AtMost q c
no_rise_at o q c h e = let P : Option ℕ → Type 0 = λ p. NoRise p q in subst P e h

-- two answers, where no neighbour's cost rises
answers_rise : (r s : Routing) (x : Host) → s.neighbours ≡ r.neighbours → ((link : Host × Dev) → NoRise (near_cost r x link) (near_cost s x link))
    → (p q : Option RouteRow) → IsRouteAnswer r x p → IsRouteAnswer s x q → NoRise (route_cost p) (route_cost q)
answers_rise r s x same rises None q h k = tt
answers_rise r s x same rises (Some row) None h k =
    let link : Host × Dev = (row.«next», row.dev) in
    let among : Contains s.neighbours link = let P : List (Host × Dev) → Type 0 = λ ns. Contains ns link in subst P (sym same) h.link in
    let most = no_rise_at (near_cost r x link) (near_cost s x link) h.cost.0 (rises link) h.cost.2 in
    let P : Option ℕ → Type 0 = λ o. AtMost o h.cost.0 in
    absurd (subst P (k link among) most)
answers_rise r s x same rises (Some row) (Some new) h k =
    let link : Host × Dev = (row.«next», row.dev) in
    let among : Contains s.neighbours link = let P : List (Host × Dev) → Type 0 = λ ns. Contains ns link in subst P (sym same) h.link in
    let most = at_most_some (near_cost s x link) h.cost.0 (no_rise_at (near_cost r x link) (near_cost s x link) h.cost.0 (rises link) h.cost.2) in
    let cheapest : new.cost ≤ most.0 + 1 = k.cheapest link most.0 among most.1 in
    let below : most.0 ≤ h.cost.0 = most.2 in
    let is : row.cost ≡ h.cost.0 + 1 = h.cost.1 in
    omega arith

pub cost_rises : (r : Routing) (d : Dev) (a : Advert) (x : Host) → NoRise (cost r x) (cost (hears r d a) x)
cost_rises r d a x =
    elim (same_or_not r.here x) [
      | inl same ↦ own same
      | inr other ↦ answers_rise r (hears r d a) x refl (near_rises r d a x) (route r x) (route (hears r d a) x) (route_answer r x other) (route_answer (hears r d a) x other)
    ]
  where
    own : r.here ≡ x → NoRise (cost r x) (cost (hears r d a) x)
    own same =
        let P : Host → Type 0 = λ y. NoRise (cost r y) (cost (hears r d a) y) in
        let Q : Option ℕ → Type 0 = λ o. NoRise o (cost (hears r d a) r.here) in
        let here : NoRise (Some 0) (cost (hears r d a) r.here) = subst (NoRise (Some 0)) (sym (ap route_cost (route_own (hears r d a)))) (no_rise_self (Some 0)) in
        subst P same (subst Q (sym (ap route_cost (route_own r))) here)
