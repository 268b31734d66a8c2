-- Looking nodes up by host, and what a changed node changes of costs.
use Rattle.std.proofs.Common.{◌≡◌, ℕ, zero, suc, ◌≤◌, Bool, true, false, cond, eqb, Option, Some, None, List, [], ◌∷◌, ◌⊎◌, inl, inr, refl, sym, ap, subst, ◌∙◌, arith}
use Rattle.std.specs.Prelude.{map, slice_get, slice_set, remove}
use Rattle.std.specs.List.{All}
use Rattle.std.proofs.lemmas.List.{map-set}
use Rattle.std.proofs.lemmas.List.Elements.{All-head, All-tail, All-append, All-take, All-drop, All-get_or}
use Rattle.std.proofs.lemmas.Option.{slice_get_within, get_or_from_slice_get}
use Rattle.plan_base.specs.declared.ids.Host.{Host}
use Rattle.dv_routing.specs.Routing.{Routing, cost}
use Rattle.dv_routing.specs.Laws.{AtMost, NoRise}
use Rattle.dv_routing.proofs.Costs.{same_host}
use Rattle.dv_routing.proofs.Rises.{at_most_some, no_rise_self, no_rise_at}
use Rattle.net_world_spec.specs.Network.{Node, Network, routing_of, routings, routing_at, cost_by, cost_at, with_node}
use Rattle.net_world_spec.specs.Truths.{NoneRises, IsKnown}

-- what is read behind a write is what was written, or what was there
pub get_set : {X : Type 0} (xs : List X) (i j : ℕ) (v x : X) → slice_get (slice_set xs i v) j ≡ Some x → ((i ≡ j) × (v ≡ x)) ⊎ (slice_get xs j ≡ Some x)
get_set [] i j v x e = inr e
get_set (y ∷ ys) zero zero v x e = inl (refl, cc)
get_set (y ∷ ys) zero (suc j) v x e = inr e
get_set (y ∷ ys) (suc i) zero v x e = inr e
get_set (y ∷ ys) (suc i) (suc j) v x e = elim (get_set ys i j v x e) [ inl h ↦ inl (ap suc h.0, h.1) | inr h ↦ inr h ]

pub all_get : {X : Type 0} (P : X → Type 0) (xs : List X) (i : ℕ) (x : X) → All P xs → slice_get xs i ≡ Some x → P x
all_get P xs i x all e = subst P (get_or_from_slice_get xs i x x e) (All-get_or P xs i x (slice_get_within xs i x e) all)

pub all_remove : {X : Type 0} (P : X → Type 0) (xs : List X) (i : ℕ) → All P xs → All P (remove xs i)
all_remove P xs i all = All-append P _ _ (All-take P i xs all) (All-drop P (suc i) xs all)

pub at_most_more : (o : Option ℕ) (b c : ℕ) → AtMost o b → b ≤ c → AtMost o c
at_most_more None b c h k = h
at_most_more (Some a) b c h k = omega arith

pub at_most_known : (o : Option ℕ) (c : ℕ) → AtMost o c → IsKnown o
at_most_known None c h = absurd h
at_most_known (Some b) c h = (b, refl)

pub no_rise_over : (o p q : Option ℕ) → NoRise o p → NoRise p q → NoRise o q
no_rise_over None p q h k = tt
no_rise_over (Some c) p q h k =
    let m = at_most_some p c h in
    at_most_more q m.0 c (no_rise_at p q m.0 k m.1) m.2

pub none_rises_self : (rs : List Routing) → NoneRises rs rs
none_rises_self rs n x = no_rise_self (cost_at rs n x)

pub none_rises_over : (rs ss ts : List Routing) → NoneRises rs ss → NoneRises ss ts → NoneRises rs ts
none_rises_over rs ss ts h k n x = no_rise_over (cost_at rs n x) (cost_at ss n x) (cost_at ts n x) (h n x) (k n x)

pub rise_at_most : (rs ss : List Routing) (n x : Host) (c : ℕ) → NoneRises rs ss → AtMost (cost_at rs n x) c → AtMost (cost_at ss n x) c
rise_at_most rs ss n x c rises h =
    let m = at_most_some (cost_at rs n x) c h in
    at_most_more (cost_at ss n x) m.0 c (no_rise_at (cost_at rs n x) (cost_at ss n x) m.0 (rises n x) m.1) m.2

pub rise_known : (rs ss : List Routing) (n x : Host) → NoneRises rs ss → IsKnown (cost_at rs n x) → IsKnown (cost_at ss n x)
rise_known rs ss n x rises k = at_most_known (cost_at ss n x) k.0 (no_rise_at (cost_at rs n x) (cost_at ss n x) k.0 (rises n x) k.1)

-- the costs of one node don't rise, so none do
pub rises_set : (rs : List Routing) (at : ℕ) (old new : Routing) → slice_get rs at ≡ Some old → new.here ≡ old.here
    → ((x : Host) → NoRise (cost old x) (cost new x)) → NoneRises rs (slice_set rs at new)
unfolding cost_at
rises_set [] at old new e here less n x = tt
rises_set (r ∷ rs) zero old new e here less n x =
    let is : r ≡ old = cc in
    let test : eqb new.here.0 n.0 ≡ eqb r.here.0 n.0 = ap (λ h. eqb h.0 n.0) (here ∙ sym (ap (λ s. s.here) is)) in
    let P : Bool → Type 0 = λ t. NoRise (cost_by x (cond (eqb r.here.0 n.0) (Some r) (routing_at rs n))) (cost_by x (cond t (Some new) (routing_at rs n))) in
    subst P (sym test) (split (eqb r.here.0 n.0) is)
  where
    split : (t : Bool) → r ≡ old → NoRise (cost_by x (cond t (Some r) (routing_at rs n))) (cost_by x (cond t (Some new) (routing_at rs n)))
    split true is = let Q : Routing → Type 0 = λ s. NoRise (cost s x) (cost new x) in subst Q (sym is) (less x)
    split false is = no_rise_self (cost_by x (routing_at rs n))
rises_set (r ∷ rs) (suc at) old new e here less n x = split (rises_set rs at old new e here less n x) (eqb r.here.0 n.0)
  where
    split : NoRise (cost_by x (routing_at rs n)) (cost_by x (routing_at (slice_set rs at new) n)) → (t : Bool) → NoRise (cost_by x (cond t (Some r) (routing_at rs n))) (cost_by x (cond t (Some r) (routing_at (slice_set rs at new) n)))
    split rest true = no_rise_self (cost r x)
    split rest false = rest

pub routings_set : (w : Network) (at : ℕ) (node : Node) → routings (with_node w at node) ≡ slice_set (routings w) at node.routing
routings_set w at node = map-set routing_of w.nodes at node

pub routings_get : (nodes : List Node) (at : ℕ) (node : Node) → slice_get nodes at ≡ Some node → slice_get (map routing_of nodes) at ≡ Some node.routing
routings_get [] at node e = absurd (none e)
  where
    none : ◌≡◌ {A = Option Node} None (Some node) → ⊥
    none h = cc
routings_get (m ∷ nodes) zero node e = let is : m ≡ node = cc in ap (λ k. Some k.routing) is
routings_get (m ∷ nodes) (suc at) node e = routings_get nodes at node e

-- a node that was looked up, with what holds of all nodes
pub record Found (P : Node → Type 0) (n : Host) (r : Routing) : Type 0 where
  pub node : Node
  pub is : node.routing ≡ r
  pub holds : P node
  pub here : r.here ≡ n

pub routing_found : (P : Node → Type 0) (nodes : List Node) (n : Host) (r : Routing) → All P nodes → routing_at (map routing_of nodes) n ≡ Some r → Found P n r
routing_found P [] n r all e = absurd (none e)
  where
    none : ◌≡◌ {A = Option Routing} None (Some r) → ⊥
    none h = cc
routing_found P (m ∷ nodes) n r all e = split (routing_found P nodes n r (All-tail P m nodes all)) (eqb m.routing.here.0 n.0) refl e
  where
    split : (routing_at (map routing_of nodes) n ≡ Some r → Found P n r) → (t : Bool) → eqb m.routing.here.0 n.0 ≡ t → cond t (Some m.routing) (routing_at (map routing_of nodes) n) ≡ Some r → Found P n r
    split rest true h k =
        let is : m.routing ≡ r = cc in
        record { node = m; is = is; holds = All-head P m nodes all; here = ap (λ s. s.here) (sym is) ∙ same_host m.routing.here n h }
    split rest false h k = rest k

pub cost_found : (rs : List Routing) (n x : Host) (r : Routing) → routing_at rs n ≡ Some r → cost_at rs n x ≡ cost r x
unfolding cost_at
cost_found rs n x r e = ap (cost_by x) e

-- a host with a cost has a node
pub record CostOf (rs : List Routing) (n x : Host) (c : ℕ) : Type 0 where
  pub routing : Routing
  pub at : routing_at rs n ≡ Some routing
  pub is : cost routing x ≡ Some c

pub cost_of : (rs : List Routing) (n x : Host) (c : ℕ) → cost_at rs n x ≡ Some c → CostOf rs n x c
unfolding cost_at
cost_of rs n x c e = split (routing_at rs n) refl e
  where
    none : ◌≡◌ {A = Option ℕ} None (Some c) → ⊥
    none h = cc

    split : (o : Option Routing) → routing_at rs n ≡ o → cost_by x o ≡ Some c → CostOf rs n x c
    split None h k = absurd (none k)
    split (Some r) h k = record { routing = r; at = h; is = k }
