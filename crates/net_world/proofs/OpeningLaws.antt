-- The nodes of a network at the beginning.
use Rattle.std.proofs.Common.{◌≡◌, ℕ, zero, suc, ◌<◌, List, [], ◌∷◌, ◌++◌, length, take, drop, refl, sym, ap, ◌∙◌, subst, arith}
use Rattle.std.specs.Prelude.{map, slice_get, Some}
use Rattle.std.proofs.lemmas.List.{map-append, length_push}
use Rattle.std.proofs.lemmas.Option.{slice_get_within}
use Rattle.service_api.specs.Services.{ServiceState}
use Rattle.network_config.specs.Rules.{KeepsNetwork}
use Rattle.network_config.specs.declared.node.NodeConfig.{NodeConfig}
use Rattle.network_config.specs.declared.schedule.HostSpec.{HostSpec}
use Rattle.network_config.specs.declared.schedule.Topology.{Topology}
use Rattle.node_core_spec.specs.State.{new_node}
use Rattle.node_core_spec.specs.Fits.{ConfigFits}
use Rattle.node_core.specs.declared.node.Node.{Node}
use Rattle.node_core.specs.Stands.{NodeStands}
use Rattle.node_core.specs.Turns.{IsResting}
use Rattle.net_world_spec.specs.World.{opening_services, config_of, opening_node}
use Rattle.net_world_spec.proofs.Opening.{config_fits}
use Rattle.net_world.specs.Stands.{AllStand}
use Rattle.net_world.proofs.StandLaws.{one_more}

pub begins : (t : Topology) (h : HostSpec) (config : NodeConfig) → KeepsNetwork t → config ≡ config_of t h → ConfigFits config
begins t h config k e = subst ConfigFits (sym e) (config_fits t h k)

module _ {S : Type 0} (stands : S → ServiceState) where
  -- the services of a host at the beginning rest
  pub rests : (own : S) (h : HostSpec) → stands own ≡ opening_services h → IsResting (stands own)
  rests own h e = subst IsResting (sym e) (record { closed = refl; waits = refl })

  pub opens : (t : Topology) (h : HostSpec) (config : NodeConfig) (own : S) (node : Node S) → config ≡ config_of t h → stands own ≡ opening_services h
      → NodeStands stands node (new_node config (stands own)) → NodeStands stands node (opening_node t h)
  unfolding opening_node
  opens t h config own node e f n = subst (NodeStands stands node) (λ i. new_node (e i) (f i)) n

  -- the next host, where services are left
  pub record Next (hosts : List HostSpec) (k : ℕ) (own : S) (rest : List S) : Type 0 where
    pub host : HostSpec
    pub there : slice_get hosts k ≡ Some host
    pub services : stands own ≡ opening_services host
    pub later : map stands rest ≡ map opening_services (drop (suc k) hosts)
    pub first : take (suc k) hosts ≡ take k hosts ++ host ∷ []

  none_left : (own : S) (rest : List S) → map stands (own ∷ rest) ≡ [] → ⊥
  none_left own rest e = cc

  pub next_of : (hosts : List HostSpec) (k : ℕ) (own : S) (rest : List S) → map stands (own ∷ rest) ≡ map opening_services (drop k hosts) → Next hosts k own rest
  next_of [] zero own rest e = absurd (none_left own rest e)
  next_of [] (suc k) own rest e = absurd (none_left own rest e)
  next_of (h ∷ hs) zero own rest e =
      let first : stands own ≡ opening_services h = cc in
      let later : map stands rest ≡ map opening_services hs = cc in
      record { host = h; there = refl; services = first; later = later; first = refl }
  next_of (h ∷ hs) (suc k) own rest e =
      let n = next_of hs k own rest e in
      record { host = n.host; there = n.there; services = n.services; later = n.later; first = ap (λ x. h ∷ x) n.first }

  some_same : (a b : HostSpec) → Some a ≡ Some b → a ≡ b
  some_same a b e = cc

  -- what is left of hosts and services in the loop over the services
  pub record Left (t : Topology) (nodes : List (Node S)) (services : List S) : Type 0 where
    pub opened : AllStand stands nodes (map (opening_node t) (take (length nodes) t.hosts))
    pub later : map stands services ≡ map opening_services (drop (length nodes) t.hosts)

  pub none_open : (t : Topology) (nodes : List (Node S)) (services : List S) → nodes ≡ [] → map stands services ≡ map opening_services t.hosts → Left t nodes services
  none_open t nodes services e h =
      let P : List (Node S) → Type 0 = λ ns. Left t ns services in
      subst P (sym e) (record { opened = tt; later = h })

  module _ (t : Topology) (nodes : List (Node S)) (own : S) (rest : List S) (l : Left t nodes (own ∷ rest)) where
    next : Next t.hosts (length nodes) own rest
    next = next_of t.hosts (length nodes) own rest l.later

    pub is_within : length nodes < length t.hosts
    is_within = slice_get_within t.hosts (length nodes) next.host next.there

    pub own_services : (host : HostSpec) → slice_get t.hosts (length nodes) ≡ Some host → stands own ≡ opening_services host
    own_services host e = next.services ∙ ap opening_services (some_same next.host host (sym next.there ∙ e))

    -- one node more
    pub one_opened : (new : List (Node S)) (host : HostSpec) (node : Node S) → new ≡ nodes ++ node ∷ [] → slice_get t.hosts (length nodes) ≡ Some host → NodeStands stands node (opening_node t host) → Left t new rest
    one_opened new host node e f n =
        let is : next.host ≡ host = some_same next.host host (sym next.there ∙ f) in
        let both = one_more stands nodes (map (opening_node t) (take (length nodes) t.hosts)) node (opening_node t host) l.opened n in
        let count : length new ≡ suc (length nodes) = ap length e ∙ length_push nodes node ∙ omega arith in
        let states : map (opening_node t) (take (length nodes) t.hosts) ++ opening_node t host ∷ [] ≡ map (opening_node t) (take (length new) t.hosts) =
        sym (map-append (opening_node t) (take (length nodes) t.hosts) (host ∷ [])) ∙ ap (λ h. map (opening_node t) (take (length nodes) t.hosts ++ h ∷ [])) (sym is)
        ∙ ap (map (opening_node t)) (sym next.first) ∙ ap (λ k. map (opening_node t) (take k t.hosts)) (sym count) in
        record {
          opened = subst (λ x. AllStand stands x (map (opening_node t) (take (length new) t.hosts))) (sym e) (subst (AllStand stands (nodes ++ node ∷ [])) states both);
          later = next.later ∙ ap (λ k. map opening_services (drop k t.hosts)) (sym count);
        }

  all_taken : (hosts : List HostSpec) (k : ℕ) → ◌≡◌ {A = List ServiceState} [] (map opening_services (drop k hosts)) → take k hosts ≡ hosts
  all_taken [] zero e = refl
  all_taken [] (suc k) e = refl
  all_taken (h ∷ hs) zero e = cc
  all_taken (h ∷ hs) (suc k) e = ap (λ x. h ∷ x) (all_taken hs k e)

  -- all nodes, where no services are left
  pub all_opened : (t : Topology) (nodes : List (Node S)) → Left t nodes [] → AllStand stands nodes (map (opening_node t) t.hosts)
  all_opened t nodes l = subst (λ hs. AllStand stands nodes (map (opening_node t) hs)) (all_taken t.hosts (length nodes) l.later) l.opened
