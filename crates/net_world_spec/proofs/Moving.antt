-- A send that is led is a move.
use Rattle.std.proofs.Common.{◌≡◌, ℕ, Some, List, inl, inr, sym, ap, subst, ◌∙◌}
use Rattle.std.specs.Prelude.{slice_get}
use Rattle.plan_base.specs.declared.ids.Dev.{Dev}
use Rattle.service_api.specs.declared.router.RouteRow.{RouteRow}
use Rattle.plan_meaning.specs.declared.sent.Sent.{Sent}
use Rattle.dv_routing.specs.Routing.{route, own_route, all_routes}
use Rattle.dv_routing.proofs.Best.{route_own}
use Rattle.dv_routing.proofs.Hops.{hop_leads}
use Rattle.net_world_spec.specs.Network.{Wiring, RouteFrame, Parcel, Node, Network, IsAt, with_node, queued_frame, Moves, Routed, Handed}
use Rattle.net_world_spec.specs.Led.{IsLed}

pub led_moves : (far : Wiring) (w : Network) (at : ℕ) (node : Node) (s : Sent) (queue : List RouteFrame) → IsAt w at node
    → IsLed node.routing.here node.routing.neighbours (all_routes node.routing) s → slice_get node.queues s.dev.0 ≡ Some queue
    → Moves far w (with_node w at (queued_frame node s.dev queue (Parcel s.packet.dest)))
led_moves far w at node s queue p led get = elim led.leads [
  | inl by ↦ let l = hop_leads node.routing s.packet.route s.packet.dest by.0 s.dev by.1 in routed_send_moves l.row l.by l.over
  | inr near ↦ elim near [
    | inl own ↦ routed_send_moves (own_route node.routing.here) (ap (route node.routing) own.1 ∙ route_own node.routing) (ap (λ n. let d : Dev = record { 0 = n } in d) (sym own.0))
    | inr among ↦ Handed w at node s.packet.dest s.dev queue p among get
  ]
]
  where
    routed_send_moves : (row : RouteRow) → route node.routing s.packet.dest ≡ Some row → row.dev ≡ s.dev → Moves far w (with_node w at (queued_frame node s.dev queue (Parcel s.packet.dest)))
    routed_send_moves row by over =
        let P : Dev → Type 0 = λ d. Moves far w (with_node w at (queued_frame node d queue (Parcel s.packet.dest))) in
        subst P over (Routed w at node s.packet.dest row queue p by (ap (λ d. slice_get node.queues d.0) over ∙ get))
