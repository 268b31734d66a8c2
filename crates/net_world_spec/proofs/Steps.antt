-- What a node's step queues and hears are moves; it keeps packets to the one routing function, and drops none for want of a route.
use Rattle.std.proofs.Common.{◌≡◌, ℕ, Bool, true, false, cond, not, eqb, Option, Some, None, Result, Ok, Err, List, [], ◌∷◌, ◌++◌, inl, refl, sym, ap, subst, ◌∙◌, arith}
use Rattle.std.specs.Prelude.{map, slice_get, slice_set, ◌==◌, ◌&&◌, All, Contains}
use Rattle.std.specs.Str.{bytes_eq}
use Rattle.std.proofs.lemmas.Bool.{false≢true}
use Rattle.std.proofs.lemmas.Bool.Decides.{Decides-eqb}
use Rattle.std.proofs.lemmas.List.{map-set, map_push}
use Rattle.std.proofs.lemmas.List.Elements.{All-nil, All-cons, All-head, All-tail, All-append, All-map, All-weaker, All-contains_itself}
use Rattle.plan_base.specs.declared.ids.Host.{Host}
use Rattle.plan_base.specs.declared.ids.Dev.{Dev}
use Rattle.plan_base.specs.declared.name.Name.{Name}
use Rattle.plan_base.specs.declared.ids.Family.{Family}
use Rattle.plan_base.specs.declared.tree.Chunk.{Chunk}
use Rattle.plan_base.specs.declared.tree.Packet.{Packet}
use Rattle.plan_base.specs.declared.tree.Value.{Value}
use Rattle.packet_frame.specs.declared.frame.PlainFrame.{PlainFrame}
use Rattle.packet_frame.specs.declared.frame.PlainStamped.{PlainStamped}
use Rattle.packet_frame.specs.declared.fault.FrameFault.{FrameFault}
use Rattle.packet_frame.specs.Decoding.{read_by}
use Rattle.plan_base.specs.declared.stamp.Stamp.{Stamp}
use Rattle.replay_window.specs.declared.window.Took.{Took}
use Rattle.replay_window.specs.declared.window.Took.TheVariants.{Fresh, Repeated, TooOld}
use Rattle.service_api.specs.declared.advert.Advert.{Advert}
use Rattle.service_api.specs.declared.router.Hop.{Hop}
use Rattle.service_api.specs.declared.router.Hop.TheVariants.{To}
use Rattle.service_api.specs.Routes.{hop, default_route}
use Rattle.service_api.specs.Services.{begun_now}
use Rattle.plan_meaning.specs.declared.sent.Sent.{Sent}
use Rattle.plan_meaning.specs.declared.stop.EvalStop.TheVariants.{Raised, WorkSpent, Wrong, NoMemory}
use Rattle.plan_meaning.specs.Meaning as means
use Rattle.plan_meaning.specs.Meaning.{meaning}
use Rattle.plan_meaning.specs.Run.{After, gave, stopped}
use Rattle.plan_meaning.specs.Visit.{allowance, begun_state}
use Rattle.plan_meaning.specs.Laws.{left_by}
use Rattle.dv_routing.specs.Routing.{Routing, all_routes, own_advert}
use Rattle.dv_routing.proofs.Best.{contains_later}
use Rattle.dv_routing.proofs.Costs.{same_host}
use Rattle.net_world_spec.specs.Network.{Wiring, RouteFrame, Told, Network, IsAt, with_node, queued_frame, Moves, Tells, Hears, Goes, Stays, Then}
use Rattle.net_world_spec.specs.Led.{IsLed}
use Rattle.net_world_spec.proofs.Leading.{visit_led}
use Rattle.net_world_spec.proofs.Moving.{led_moves}
use Rattle.node_core_spec.specs.declared.acts.Act.{Act}
use Rattle.node_core_spec.specs.declared.acts.Act.TheVariants.{Injected, Arrived, Noted, Ended, Handled, Bad, Misplaced, Stale, Heard, Ticked, SerialsSpent}
use Rattle.node_core_spec.specs.declared.acts.TxQueue.{TxQueue}
use Rattle.node_core_spec.specs.declared.acts.Sending.{Sending}
use Rattle.node_core_spec.specs.State.{Links, Queues, NodeState, routing_of, is_host, neighbour_on, is_the_host, leads_to}
use Rattle.plan_eval_settle.specs.Settles.{handed_packet, telling}
use Rattle.plan_eval_settle.proofs.Tellings.{Tells as TellsSource}
use Rattle.plan_eval_settle.proofs.Sends.{all_settled}
use Rattle.node_core_spec.specs.Visits.{around, evaluated_packet, visit_end, visit_of, visit_at, settled_at}
use Rattle.packet_frame.specs.Spelled.{what_of, numbered_frame}
use Rattle.node_core_spec.specs.Node.{NodeStep, stepped_node, lane_room, queue_room, has_room, lane_with, queue_push, mark, drop_act, takes_as, noting, stamped_as, stamped_step, arrived_read}
use Rattle.node_core_spec.specs.Node.{arrive_step, send_act, send_queues, sends_acts, sends_queues, packet_sending, visit_sends, handled_acts, visit_acts, visit_step, next_serial, injected_packet}
use Rattle.node_core_spec.specs.Node.{inject_step, only_acts, forward_by, forward_step, packet_step, hearing, advert_step, frame_step, next_tick, advert_sending, tick_sends, tick_step}
use Rattle.node_core_spec.specs.Fits.{QueuesKeep}
use Rattle.node_core_spec.proofs.Keeping.{Sends, send_keeps, sends_keep}
use Rattle.net_world_spec.specs.Roads.{IsAsk, CarriesNone}
use Rattle.net_world_spec.specs.Routes.{IsRoutedAct}
use Rattle.net_world_spec.proofs.Cut.{cut_frame, cut_stamped, cut_lane, cut_queues, node_with, cut_node, get_map, same_net, with_with, at_after, goes_over}

-- a packet goes by the one routing function
abbrev pub IsDefault : PlainFrame → Type 0
IsDefault (PlainFrame.Packet p) = bytes_eq p.route default_route ≡ true
IsDefault _ = Unit {0}

abbrev pub GoesDefault : PlainStamped → Type 0
GoesDefault x = IsDefault x.frame

pub stays_at : (far : Wiring) (w : Network) (at : ℕ) (r : Routing) (queues : Queues) → IsAt w at (node_with r queues) → Goes far w (with_node w at (node_with r queues))
stays_at far w at r queues p = subst (Goes far w) (sym (same_net w at (node_with r queues) p)) (Stays w)

-- ---- frames into queues

module _ (far : Wiring) (r : Routing) where
  -- queueing a frame at a node that knows this is a move
  abbrev pub MayGo : Sending → Type 0
  MayGo s = (w : Network) (at : ℕ) (queues : Queues) (queue : List RouteFrame) → IsAt w at (node_with r queues) → slice_get (cut_queues queues) s.dev.0 ≡ Some queue
      → Moves far w (with_node w at (queued_frame (node_with r queues) s.dev queue (cut_stamped s.frame)))

  pub record MayLeave (s : Sending) : Type 0 where
    pub goes : MayGo s
    pub default : GoesDefault s.frame
    pub queued : IsRoutedAct s.queued
    pub dropped : IsRoutedAct s.dropped
    pub spent : IsRoutedAct s.spent

  cut_is_pushed : (queues : Queues) (d : Dev) (x : PlainStamped) (lane : TxQueue) → slice_set (cut_queues queues) d.0 (cut_lane lane ++ cut_stamped x ∷ []) ≡ cut_queues (slice_set queues d.0 (lane_with lane x))
  cut_is_pushed queues d x lane = sym (map-set cut_lane queues d.0 (lane_with lane x) ∙ ap (slice_set (cut_queues queues) d.0) (map_push cut_stamped lane.frames (numbered_frame lane.number x)))

  push_goes : (t : Bool) (w : Network) (at : ℕ) (queues : Queues) (s : Sending) (lane : TxQueue) → MayGo s → IsAt w at (node_with r queues) → slice_get queues s.dev.0 ≡ Some lane
      → Goes far w (with_node w at (node_with r (cond t (queue_push queues s.dev s.frame (Some lane)) queues)))
  push_goes true w at queues s lane m p e =
      let move = m w at queues (cut_lane lane) p (get_map cut_lane queues s.dev.0 lane e) in
      let P : List (List RouteFrame) → Type 0 = λ qs. Moves far w (with_node w at (record { routing = r; queues = qs })) in
      Then w _ _ (subst P (cut_is_pushed queues s.dev s.frame lane) move) (Stays _)
  push_goes false w at queues s lane m p e = stays_at far w at r queues p

  place_goes : (o : Option TxQueue) (w : Network) (at : ℕ) (queues : Queues) (s : Sending) → MayGo s → IsAt w at (node_with r queues) → slice_get queues s.dev.0 ≡ o
      → Goes far w (with_node w at (node_with r (cond (queue_room o s.frame) (queue_push queues s.dev s.frame o) queues)))
  place_goes None w at queues s m p e = stays_at far w at r queues p
  place_goes (Some lane) w at queues s m p e = push_goes (queue_room (Some lane) s.frame) w at queues s lane m p e

  pub send_goes : (w : Network) (at : ℕ) (queues : Queues) (s : Sending) → MayGo s → IsAt w at (node_with r queues) → Goes far w (with_node w at (node_with r (send_queues queues s)))
  unfolding send_queues has_room
  send_goes w at queues s m p = place_goes (slice_get queues s.dev.0) w at queues s m p refl

  pub sends_go : (w : Network) (at : ℕ) (queues : Queues) (ss : List Sending) → All MayLeave ss → IsAt w at (node_with r queues) → Goes far w (with_node w at (node_with r (sends_queues queues ss)))
  unfolding sends_queues
  sends_go w at queues [] all p = stays_at far w at r queues p
  sends_go w at queues (s ∷ ss) all p =
      let first = node_with r (send_queues queues s) in
      let one = send_goes w at queues s (All-head MayLeave s ss all).goes p in
      let rest = sends_go (with_node w at first) at (send_queues queues s) ss (All-tail MayLeave s ss all) (at_after w at (node_with r queues) first p refl) in
      let last = node_with r (sends_queues (send_queues queues s) ss) in
      goes_over far w (with_node w at first) (with_node w at last) one (subst (Goes far (with_node w at first)) (with_with w at first last) rest)

  either_routed : (t : Bool) (a b : Act) → IsRoutedAct a → IsRoutedAct b → IsRoutedAct (cond t a b)
  either_routed true a b x y = x
  either_routed false a b x y = y

  drop_routed : (o : Option TxQueue) (s : Sending) → MayLeave s → IsRoutedAct (drop_act o s)
  drop_routed None s m = m.dropped
  drop_routed (Some lane) s m = either_routed (lane_room lane) s.spent s.dropped m.spent m.dropped

  pub send_routed : (queues : Queues) (s : Sending) → MayLeave s → IsRoutedAct (send_act queues s)
  unfolding send_act
  send_routed queues s m = let drop = slice_get queues s.dev.0 in either_routed (has_room queues s.dev s.frame) s.queued (drop_act drop s) m.queued (drop_routed drop s m)

  pub sends_routed : (queues : Queues) (ss : List Sending) → All MayLeave ss → All IsRoutedAct (sends_acts queues ss)
  unfolding sends_acts
  sends_routed queues [] all = All-nil IsRoutedAct
  sends_routed queues (s ∷ ss) all =
      All-cons IsRoutedAct (send_act queues s) (sends_acts (send_queues queues s) ss)
      (send_routed queues s (All-head MayLeave s ss all)) (sends_routed (send_queues queues s) ss (All-tail MayLeave s ss all))

  pub sends_default : (queues : Queues) (ss : List Sending) → All MayLeave ss → QueuesKeep GoesDefault queues → QueuesKeep GoesDefault (sends_queues queues ss)
  sends_default queues ss all q = sends_keep GoesDefault (λ n x h. h) queues ss (All-weaker MayLeave (Sends GoesDefault) (λ s m. m.default) ss all) q

  -- a send that is led, and an advert for a neighbour
  pub led_leaves : (m : Option Stamp) (s : Sent) → IsLed r.here r.neighbours (all_routes r) s → MayLeave (packet_sending m s)
  led_leaves m s led = record {
    goes = λ w at queues queue p get. led_moves far w at (node_with r queues) s queue p led get;
    default = led.default;
    queued = tt;
    dropped = tt;
    spent = tt;
  }

  pub advert_leaves : (m : Option Stamp) (link : Host × Dev) → Contains r.neighbours link → MayLeave (advert_sending m (own_advert r) link)
  advert_leaves m link among = record {
    goes = λ w at queues queue p get. Tells w at (node_with r queues) link.0 link.1 queue p among get;
    default = tt;
    queued = tt;
    dropped = tt;
    spent = tt;
  }

-- ---- steps

-- a step is some moves, where the network keeps this
pub record StepKeeps (far : Wiring) (On : Network → Type 0) (node : NodeState) (step : NodeStep) : Type 0 where
  pub goes : (w : Network) (at : ℕ) → On w → IsAt w at (cut_node node) → Goes far w (with_node w at (cut_node step.node))
  pub queues : QueuesKeep GoesDefault step.node.queues
  pub acts : All IsRoutedAct step.acts

end_led : (P : Sent → Type 0) (bound : ℕ) (a : After Value) → All P (left_by a).outbox → All P (visit_end bound a).outbox
end_led P bound (gave v s) h = h
end_led P bound (stopped (Raised x) s) h = h
end_led P bound (stopped WorkSpent s) h = All-nil P
end_led P bound (stopped Wrong s) h = All-nil P
end_led P bound (stopped NoMemory s) h = All-nil P

-- what a visit at a node sends is led by its routes and neighbours
visit_is_led : (node : NodeState) (p : Packet) → All (IsLed node.here node.neighbours (all_routes (routing_of node))) (visit_at node p).outbox
unfolding visit_of evaluated_packet
visit_is_led node p =
    end_led (IsLed node.here node.neighbours (all_routes (routing_of node))) p.bound
    (means.visited_chunk meaning p.chunk (begun_state allowance (around node p) p.family (begun_now node.services))).after
    (visit_led p.chunk (begun_state allowance (around node p) p.family (begun_now node.services)) refl)

-- so is what the settled visit sends: a handler changes no way, and what reports to the source goes over the next hop to it
settled_is_led : (node : NodeState) (p : Packet) → All (IsLed node.here node.neighbours (all_routes (routing_of node))) (settled_at node p).visit.outbox
settled_is_led node p =
    let P : Sent → Type 0 = IsLed node.here node.neighbours (all_routes (routing_of node)) in
    let v = visit_at node p in
    all_settled P p (around node p) v (All-weaker P (λ s. P (handed_packet p.handler s)) (λ s led. record { default = led.default; leads = led.leads }) v.outbox (visit_is_led node p)) (λ t k. tells_led t k)
  where
    tells_led : (t : Sent) → TellsSource p (around node p) (visit_at node p) t → IsLed node.here node.neighbours (all_routes (routing_of node)) t
    tells_led t k =
        let led : IsLed node.here node.neighbours (all_routes (routing_of node)) (telling p k.name k.text (visit_at node p).left t.dev) = record { default = refl; leads = inl (k.via, k.way) } in
        subst (IsLed node.here node.neighbours (all_routes (routing_of node))) (sym k.is) led

module _ (far : Wiring) where
  visit_leaves : (node : NodeState) (p : Packet) → All (MayLeave far (routing_of node)) (visit_sends (mark node) (settled_at node p).visit)
  unfolding visit_sends
  visit_leaves node p =
      let P : Sent → Type 0 = λ s. MayLeave far (routing_of node) (packet_sending (mark node) s) in
      let outbox = (settled_at node p).visit.outbox in
      All-map (MayLeave far (routing_of node)) (packet_sending (mark node)) outbox
      (All-weaker (IsLed node.here node.neighbours (all_routes (routing_of node))) P (λ s led. led_leaves far (routing_of node) (mark node) s led) outbox (settled_is_led node p))

  tick_leaves : (node : NodeState) → All (MayLeave far (routing_of node)) (tick_sends node)
  unfolding tick_sends
  tick_leaves node =
      let P : Host × Dev → Type 0 = λ link. MayLeave far (routing_of node) (advert_sending (mark node) (own_advert (routing_of node)) link) in
      All-map (MayLeave far (routing_of node)) (advert_sending (mark node) (own_advert (routing_of node))) node.neighbours
      (All-weaker (Contains node.neighbours) P (λ link among. advert_leaves far (routing_of node) (mark node) link among) node.neighbours (All-contains_itself node.neighbours))

  module _ (On : Network → Type 0) where
    cases : (t : Bool) (node : NodeState) (a b : NodeStep) → StepKeeps far On node a → StepKeeps far On node b → StepKeeps far On node (cond t a b)
    cases true node a b x y = x
    cases false node a b x y = y

    still : (acts : List Act) (node : NodeState) → All IsRoutedAct acts → QueuesKeep GoesDefault node.queues → StepKeeps far On node (stepped_node acts None node)
    still acts node a q = record { goes = λ w at on p. stays_at far w at (routing_of node) node.queues p; queues = q; acts = a }

    two_acts : (a b : Act) → IsRoutedAct a → IsRoutedAct b → All IsRoutedAct (a ∷ b ∷ [])
    two_acts a b x y = All-cons IsRoutedAct a (b ∷ []) x (All-cons IsRoutedAct b [] y (All-nil IsRoutedAct))

    handled_routed : (g : Family) (h : Option Name) (bound : ℕ) → All IsRoutedAct (handled_acts g h bound)
    handled_routed g None bound = All-nil IsRoutedAct
    handled_routed g (Some n) bound = All-cons IsRoutedAct (Handled g n bound) [] tt (All-nil IsRoutedAct)

    visit_routed : (node : NodeState) (p : Packet) → All IsRoutedAct (visit_acts (mark node) node.queues p (visit_at node p).left (settled_at node p))
    unfolding visit_acts
    visit_routed node p =
        let s = settled_at node p in
        let v = s.visit in
        let handled = handled_acts p.family s.handled (visit_at node p).left in
        let sends = sends_acts node.queues (visit_sends (mark node) v) in
        All-append IsRoutedAct (map Noted v.notes) (Ended p.family v.outcome v.evals v.left ∷ (handled ++ sends))
        (All-map IsRoutedAct Noted v.notes (λ k d lt. tt))
        (All-cons IsRoutedAct (Ended p.family v.outcome v.evals v.left) (handled ++ sends) tt
        (All-append IsRoutedAct handled sends (handled_routed p.family s.handled (visit_at node p).left) (sends_routed far (routing_of node) node.queues (visit_sends (mark node) v) (visit_leaves node p))))

    visited_keeps : (acts : List Act) (node : NodeState) (p : Packet) → All IsRoutedAct acts → QueuesKeep GoesDefault node.queues → StepKeeps far On node (visit_step acts node p)
    unfolding visit_step
    visited_keeps acts node p a q = record {
      goes = λ w at on k. sends_go far (routing_of node) w at node.queues (visit_sends (mark node) (settled_at node p).visit) (visit_leaves node p) k;
      queues = sends_default far (routing_of node) node.queues (visit_sends (mark node) (settled_at node p).visit) (visit_leaves node p) q;
      acts = All-append IsRoutedAct acts (visit_acts (mark node) node.queues p (visit_at node p).left (settled_at node p)) a (visit_routed node p);
    }

    inject_cases : (t : Bool) (node : NodeState) (chunk : Chunk) (bound : ℕ) (handler : Option Name) → QueuesKeep GoesDefault node.queues
        → StepKeeps far On node (cond t (stepped_node ([] ++ SerialsSpent ∷ []) None node)
        (visit_step ([] ++ Injected (record { source = node.here; serial = node.serial }) bound ∷ []) (next_serial node) (injected_packet node chunk bound handler)))
    inject_cases true node chunk bound handler q = still (SerialsSpent ∷ []) node (All-cons IsRoutedAct SerialsSpent [] tt (All-nil IsRoutedAct)) q
    inject_cases false node chunk bound handler q =
        let act = Injected (record { source = node.here; serial = node.serial }) bound in
        let v = visited_keeps (act ∷ []) (next_serial node) (injected_packet node chunk bound handler) (All-cons IsRoutedAct act [] tt (All-nil IsRoutedAct)) q in
        record { goes = v.goes; queues = v.queues; acts = v.acts }

    pub inject_keeps : (node : NodeState) (chunk : Chunk) (bound : ℕ) (handler : Option Name) → QueuesKeep GoesDefault node.queues → StepKeeps far On node (inject_step [] node chunk bound handler)
    unfolding inject_step
    inject_keeps node chunk bound handler q = inject_cases (node.serial == 18446744073709551615) node chunk bound handler q

    pub tick_keeps : (node : NodeState) → QueuesKeep GoesDefault node.queues → StepKeeps far On node (tick_step node)
    unfolding tick_step
    tick_keeps node q = record {
      goes = λ w at on k. sends_go far (routing_of node) w at node.queues (tick_sends node) (tick_leaves node) k;
      queues = sends_default far (routing_of node) node.queues (tick_sends node) (tick_leaves node) q;
      acts = All-cons IsRoutedAct (Ticked (next_tick node.now)) (sends_acts node.queues (tick_sends node)) tt
          (sends_routed far (routing_of node) node.queues (tick_sends node) (tick_leaves node));
    }

    -- a packet that goes on by a hop
    onward_keeps : (node : NodeState) (d : Dev) (p : Packet) (host : Host) (over : Dev) → hop (all_routes (routing_of node)) p.route node.here p.dest ≡ To host over → bytes_eq p.route default_route ≡ true
        → QueuesKeep GoesDefault node.queues → StepKeeps far On node (forward_by node d p (To host over))
    unfolding forward_by
    onward_keeps node d p host over e default q =
        let s : Sent = record { dev = over; packet = p } in
        let m = mark node in
        let led = led_leaves far (routing_of node) m s (record { default = default; leads = inl (host, e) }) in
        record {
          goes = λ w at on k. send_goes far (routing_of node) w at node.queues (packet_sending m s) led.goes k;
          queues = send_keeps GoesDefault (λ n x h. h) node.queues (packet_sending m s) default q;
          acts = two_acts (Arrived d) (send_act node.queues (packet_sending m s)) tt (send_routed far (routing_of node) node.queues (packet_sending m s) led);
        }

    forward_keeps : (node : NodeState) (d : Dev) (p : Packet) (host : Host) (over : Dev) → hop (all_routes (routing_of node)) p.route node.here p.dest ≡ To host over → bytes_eq p.route default_route ≡ true
        → QueuesKeep GoesDefault node.queues → StepKeeps far On node (forward_step node d p)
    unfolding forward_step
    forward_keeps node d p host over e default q =
        let P : Hop → Type 0 = λ o. StepKeeps far On node (forward_by node d p o) in
        cases (p.bound == 0) node _ _ (still _ node (two_acts _ _ tt tt) q) (subst P (sym e) (onward_keeps node d p host over e default q))

    packet_keeps : (node : NodeState) (d : Dev) (p : Packet) (host : Host) (over : Dev) → hop (all_routes (routing_of node)) p.route node.here p.dest ≡ To host over → bytes_eq p.route default_route ≡ true
        → QueuesKeep GoesDefault node.queues → StepKeeps far On node (packet_step node d p)
    unfolding packet_step
    packet_keeps node d p host over e default q =
        cases (is_host p.dest node.here) node _ _ (visited_keeps (Arrived d ∷ []) node p (All-cons IsRoutedAct (Arrived d) [] tt (All-nil IsRoutedAct)) q)
        (forward_keeps node d p host over e default q)

  -- an advert that is on the wire is heard
  neighbour_among : (links : Links) (d : Dev) (m : Host) → neighbour_on links d ≡ Some m → Contains links (m, d)
  neighbour_among [] d m e = absurd (none e)
    where
      none : ◌≡◌ {A = Option Host} None (Some m) → ⊥
      none h = cc
  neighbour_among (link ∷ links) d m e = split (neighbour_among links d m) (eqb link.1.0 d.0) refl e
    where
      split : (neighbour_on links d ≡ Some m → Contains links (m, d)) → (t : Bool) → eqb link.1.0 d.0 ≡ t → cond t (Some link.0) (neighbour_on links d) ≡ Some m → Contains (link ∷ links) (m, d)
      split rest true k found =
          let host : link.0 ≡ m = cc in
          let dev : link.1 ≡ d = ap (λ n. let x : Dev = record { 0 = n } in x) ((Decides-eqb link.1.0 d.0).0 k) in
          (0, omega arith, ap (λ h. (h, link.1)) host ∙ ap (λ x. (m, x)) dev)
      split rest false k found = contains_later link links (m, d) (rest found)

  led_among : (links : Links) (d : Dev) (h : Host) → leads_to links d h ≡ true → Contains links (h, d)
  led_among links d h e = split (eqb d.0 0) (neighbour_on links d) refl e
    where
      split : (t : Bool) (o : Option Host) → neighbour_on links d ≡ o → (not t && is_the_host o h) ≡ true → Contains links (h, d)
      split true o k found = absurd (false≢true found)
      split false None k found = absurd (false≢true found)
      split false (Some g) k found = let P : Host → Type 0 = λ x. Contains links (x, d) in subst P (same_host g h found) (neighbour_among links d g k)

  advert_cases : (t : Bool) (node : NodeState) (d : Dev) (a : Advert) → leads_to node.neighbours d a.host ≡ t → QueuesKeep GoesDefault node.queues
      → StepKeeps far (λ w. Contains w.wire ((node.here, d), Told a)) node (cond t (only_acts (Arrived d) (Heard d) (hearing node d a)) (only_acts (Arrived d) Misplaced node))
  advert_cases true node d a e q = record {
    goes = λ w at on k. Then w _ _ (Hears w at (cut_node node) d a k on (led_among node.neighbours d a.host e)) (Stays _);
    queues = q;
    acts = two_acts (λ w. Contains w.wire ((node.here, d), Told a)) (Arrived d) (Heard d) tt tt;
  }
  advert_cases false node d a e q =
      let On : Network → Type 0 = λ w. Contains w.wire ((node.here, d), Told a) in
      still On (Arrived d ∷ Misplaced ∷ []) node (two_acts On (Arrived d) Misplaced tt tt) q

  advert_keeps : (node : NodeState) (d : Dev) (a : Advert) → QueuesKeep GoesDefault node.queues → StepKeeps far (λ w. Contains w.wire ((node.here, d), Told a)) node (advert_step node d a)
  unfolding advert_step
  advert_keeps node d a q = advert_cases (leads_to node.neighbours d a.host) node d a refl q

  -- a packet has a next hop at a node
  abbrev pub HopsOn : NodeState → PlainFrame → Type 0
  HopsOn node (PlainFrame.Packet p) = (host : Host) × (over : Dev) × (hop (all_routes (routing_of node)) p.route node.here p.dest ≡ To host over)
  HopsOn node _ = Unit {0}

  frame_keeps : (node : NodeState) (d : Dev) (x : PlainFrame) → HopsOn node x → IsDefault x → QueuesKeep GoesDefault node.queues
      → StepKeeps far (λ w. Contains w.wire ((node.here, d), cut_frame x)) node (frame_step node d x)
  frame_keeps node d (PlainFrame.Packet p) way default q = packet_keeps (λ w. Contains w.wire ((node.here, d), cut_frame (PlainFrame.Packet p))) node d p way.0 way.1 way.2 default q
  frame_keeps node d (PlainFrame.Advert a) way default q = advert_keeps node d a q
  frame_keeps node d (PlainFrame.Ask bound chunk) way default q =
      let On : Network → Type 0 = λ w. Contains w.wire ((node.here, d), cut_frame (PlainFrame.Ask bound chunk)) in
      still On (Arrived d ∷ Misplaced ∷ []) node (two_acts On (Arrived d) Misplaced tt tt) q

  -- what is noted of a stamp changes no route and no queue, and a frame that is stale moves nothing
  as_keeps : (node : NodeState) (d : Dev) (x : PlainStamped) (t : Took) → HopsOn node x.frame → GoesDefault x → QueuesKeep GoesDefault node.queues
      → StepKeeps far (λ w. Contains w.wire ((node.here, d), cut_stamped x)) node (stamped_as node d x t)
  as_keeps node d x Fresh way default q = let k = frame_keeps node d x.frame way default q in record { goes = k.goes; queues = k.queues; acts = k.acts }
  as_keeps node d x Repeated way default q =
      let On : Network → Type 0 = λ w. Contains w.wire ((node.here, d), cut_stamped x) in
      let act = Stale Repeated (what_of x.frame) in
      still On (Arrived d ∷ act ∷ []) node (two_acts On (Arrived d) act tt tt) q
  as_keeps node d x TooOld way default q =
      let On : Network → Type 0 = λ w. Contains w.wire ((node.here, d), cut_stamped x) in
      let act = Stale TooOld (what_of x.frame) in
      still On (Arrived d ∷ act ∷ []) node (two_acts On (Arrived d) act tt tt) q

  pub stamped_keeps : (node : NodeState) (d : Dev) (x : PlainStamped) → HopsOn node x.frame → GoesDefault x → QueuesKeep GoesDefault node.queues
      → StepKeeps far (λ w. Contains w.wire ((node.here, d), cut_stamped x)) node (stamped_step node d x)
  unfolding stamped_step
  stamped_keeps node d x way default q = as_keeps node d x (takes_as node.seen d x.stamp) way default q

  -- a frame that is an ask is noted, and moves nothing
  fresh_ask : (On : Network → Type 0) (node : NodeState) (d : Dev) (s : Option Stamp) (x : PlainFrame) → IsAsk x → QueuesKeep GoesDefault node.queues → StepKeeps far On node (noting node d s (frame_step node d x))
  fresh_ask On node d s (PlainFrame.Packet p) ask q = absurd ask
  fresh_ask On node d s (PlainFrame.Advert a) ask q = absurd ask
  fresh_ask On node d s (PlainFrame.Ask bound chunk) ask q =
      let k = still On (Arrived d ∷ Misplaced ∷ []) node (two_acts On (Arrived d) Misplaced tt tt) q in
      record { goes = k.goes; queues = k.queues; acts = k.acts }

  ask_keeps : (On : Network → Type 0) (node : NodeState) (d : Dev) (x : PlainStamped) (t : Took) → IsAsk x.frame → QueuesKeep GoesDefault node.queues → StepKeeps far On node (stamped_as node d x t)
  ask_keeps On node d x Fresh ask q = fresh_ask On node d x.stamp x.frame ask q
  ask_keeps On node d x Repeated ask q =
      let act = Stale Repeated (what_of x.frame) in
      still On (Arrived d ∷ act ∷ []) node (two_acts On (Arrived d) act tt tt) q
  ask_keeps On node d x TooOld ask q =
      let act = Stale TooOld (what_of x.frame) in
      still On (Arrived d ∷ act ∷ []) node (two_acts On (Arrived d) act tt tt) q

  read_keeps : (On : Network → Type 0) (node : NodeState) (d : Dev) (r : Result PlainStamped FrameFault) → CarriesNone r → QueuesKeep GoesDefault node.queues → StepKeeps far On node (arrived_read node d r)
  unfolding stamped_step
  read_keeps On node d (Ok x) none q = ask_keeps On node d x (takes_as node.seen d x.stamp) none q
  read_keeps On node d (Err e) none q = still On (Arrived d ∷ Bad e ∷ []) node (two_acts On (Arrived d) (Bad e) tt tt) q

  -- nor do bytes that are no frame
  pub bytes_keep : (On : Network → Type 0) (node : NodeState) (d : Dev) (bytes : List ℕ) → CarriesNone (read_by node.version bytes) → QueuesKeep GoesDefault node.queues → StepKeeps far On node (arrive_step node d bytes)
  unfolding arrive_step
  bytes_keep On node d bytes none q = read_keeps On node d (read_by node.version bytes) none q
