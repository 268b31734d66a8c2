-- Walks along the links, distances, and the ways that packets go.
use Rattle.std.specs.Prelude.{◌≡◌, ◌≢◌, ℕ, zero, suc, ◌≤◌, Some}
use Rattle.plan_base.specs.declared.ids.Host.{Host}
use Rattle.plan_base.specs.declared.ids.Dev.{Dev}
use Rattle.service_api.specs.declared.router.RouteRow.{RouteRow}
use Rattle.net_world_spec.specs.Network.{Wiring, Network, Goes}
use Rattle.net_world_spec.specs.Truths.{IsHop}

-- a walk to b, with the number of its links
pub data LinkWalk (far : Wiring) (b : Host) : Host → ℕ → Type 0 where
  Here : LinkWalk far b b zero
  Along : (a : Host) (d : Dev) (m : Host) (e : Dev) (k : ℕ) → d.0 ≢ 0 → far a d ≡ Some (m, e) → LinkWalk far b m k → LinkWalk far b a (suc k)

-- a walk of at most this length
abbrev pub IsReached : Wiring → Host → Host → ℕ → Type 0
IsReached far a b n = (k : ℕ) × (k ≤ n) × LinkWalk far b a k

-- the length of the shortest walk
abbrev pub IsDist : Wiring → Host → Host → ℕ → Type 0
IsDist far a b n = LinkWalk far b a n × ((k : ℕ) → LinkWalk far b a k → n ≤ k)

-- a way towards x by default routes, with the number of its hops; anything may happen between two hops
pub data RouteWay (far : Wiring) (x : Host) : Network → Host → ℕ → Type 0 where
  Ends : (w : Network) (n : Host) → RouteWay far x w n zero
  Hops : (v w : Network) (n : Host) (row : RouteRow) (k : ℕ) → IsHop v x n row → Goes far v w → RouteWay far x w row.«next» k → RouteWay far x v n (suc k)
