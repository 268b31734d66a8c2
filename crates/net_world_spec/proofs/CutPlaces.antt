-- The node at the first place of a host is the one that is looked up.
use Rattle.std.proofs.Common.{◌≡◌, ℕ, zero, suc, ◌<◌, true, false, cond, Some, List, [], ◌∷◌, length, get_or, sym, ap, ◌∙◌, arith}
use Rattle.std.specs.Prelude.{map, slice_get, position}
use Rattle.std.proofs.lemmas.List.Quantifiers.{position-Some}
use Rattle.std.proofs.lemmas.Option.{get_or_from_slice_get}
use Rattle.plan_base.specs.declared.ids.Host.{Host}
use Rattle.dv_routing.proofs.Costs.{same_host}
use Rattle.net_world_spec.specs.Network.{Node, Network, routing_of, routings, routing_at, is_of, IsAt}

first_found : (nodes : List Node) (h : Host) (at : ℕ) (d : Node) → at < length nodes → is_of h (get_or nodes at d) ≡ true
    → ((k : ℕ) → k < at → is_of h (get_or nodes k d) ≡ false) → routing_at (map routing_of nodes) h ≡ Some (get_or nodes at d).routing
first_found [] h at d within here before = absurd (omega arith)
first_found (m ∷ nodes) h zero d within here before = ap (λ t. cond t (Some m.routing) (routing_at (map routing_of nodes) h)) here
first_found (m ∷ nodes) h (suc at) d within here before =
    let low : 0 < suc at = omega arith in
    ap (λ t. cond t (Some m.routing) (routing_at (map routing_of nodes) h)) (before 0 low)
    ∙ first_found nodes h at d (omega arith) here (λ k below. before (suc k) (omega arith))

pub first_is_at : (w : Network) (h : Host) (at : ℕ) (node : Node) → position (is_of h) w.nodes ≡ Some at → slice_get w.nodes at ≡ Some node → IsAt w at node × (node.routing.here ≡ h)
first_is_at w h at node place get =
    let p = position-Some (is_of h) w.nodes at node place in
    let is : get_or w.nodes at node ≡ node = get_or_from_slice_get w.nodes at node node get in
    let here : node.routing.here ≡ h = same_host node.routing.here h (sym (ap (is_of h) is) ∙ p.1) in
    let looked : routing_at (routings w) h ≡ Some node.routing = first_found w.nodes h at node p.0 p.1 p.2 ∙ ap (λ n. Some n.routing) is in
    (record { place = get; first = ap (routing_at (routings w)) here ∙ looked }, here)
