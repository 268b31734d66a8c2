-- What holds of routes in every network that is reached, at each event and in each run.
use Rattle.std.proofs.Common.{◌≡◌, ℕ, zero, ◌+◌, ◌≤◌, ◌<◌, Some, List, [], ◌∷◌, ◌++◌, refl, sym, ap, subst, ◌∙◌, arith, take, drop}
use Rattle.std.specs.Prelude.{Option, All}
use Rattle.std.proofs.lemmas.List.{take-append-drop}
use Rattle.std.proofs.lemmas.List.Elements.{All-nil, All-head, All-tail, All-append, All-map, All-push, All-take, All-drop, All-contains}
use Rattle.plan_base.specs.declared.ids.Host.{Host}
use Rattle.plan_base.specs.declared.ids.Dev.{Dev}
use Rattle.network_config.specs.Rules.{KeepsNetwork}
use Rattle.network_config.specs.declared.schedule.Topology.{Topology}
use Rattle.network_config.specs.declared.event.WorldEvent.{WorldEvent}
use Rattle.dv_routing.specs.Routing.{route_cost}
use Rattle.dv_routing.specs.Laws.{NoRise}
use Rattle.dv_routing.proofs.Rises.{at_most_some, no_rise_at}
use Rattle.net_world_spec.specs.Network.{routings, cost_at as cut_cost, Goes, Stays}
use Rattle.net_world_spec.proofs.Keep.{goes_rise}
use Rattle.net_world_spec.specs.declared.lines.Entry.{Entry}
use Rattle.net_world_spec.specs.declared.lines.FrameOnWire.{FrameOnWire}
use Rattle.net_world_spec.specs.World.{Cables, WorldState, far_end, happens, entry_at, entries, world_after, history_of, opening}
use Rattle.net_world_spec.specs.Roads.{cost_at, IsDist, BringsNone, WorldWay, Ends, Hops, Journey, Rests, Waits, Rides}
use Rattle.net_world_spec.specs.Routes.{Reached, RoutesHold, NoneRises, IsRouted, KeepsRoutes, RunKeepsRoutes}
use Rattle.net_world_spec.proofs.Cut.{cut, end_of, wiring, same_cost, goes_over}
use Rattle.net_world_spec.proofs.Holding.{WorldHolds, held_routes, held_fall, held_dist, held_over}
use Rattle.net_world_spec.proofs.Events.{event_keeps, event_holds}
use Rattle.net_world_spec.proofs.Openings.{opening_holds}

-- ---- runs

record RunHolds (es : List WorldEvent) (w : WorldState) : Type 0 where
  holds : WorldHolds (world_after es w)
  links : (world_after es w).links ≡ w.links
  version : (world_after es w).version ≡ w.version
  goes : Goes (wiring w.links) (cut w) (cut (world_after es w))
  routed : All (λ e. IsRouted e.line) (history_of es w)

run_holds : (es : List WorldEvent) (w : WorldState) → All (BringsNone w.version) es → WorldHolds w → RunHolds es w
unfolding world_after history_of entries
run_holds [] w n k = record { holds = k; links = refl; version = refl; goes = Stays (cut w); routed = All-nil (λ e. IsRouted e.line) }
run_holds (e ∷ es) w n k =
    let inside = All-head (BringsNone w.version) e es n in
    let one = event_keeps w e inside k in
    let after = (happens w e).world in
    let later = subst (λ v. All (BringsNone v) es) (sym one.version) (All-tail (BringsNone w.version) e es n) in
    let more = run_holds es after later (event_holds w e inside k) in
    let P : Cables → Type 0 = λ links. Goes (wiring links) (cut after) (cut (world_after es after)) in
    let IsRight : Entry → Type 0 = λ x. IsRouted x.line in
    record {
      holds = more.holds;
      links = more.links ∙ one.links;
      version = more.version ∙ one.version;
      goes = goes_over (wiring w.links) (cut w) (cut after) (cut (world_after es after)) one.goes (subst P one.links more.goes);
      routed = All-append IsRight (entries w e) (history_of es after) (All-map IsRight (entry_at (w.made + 1)) (happens w e).lines one.lines) more.routed;
    }

rises_of : (v w : WorldState) → Goes (wiring v.links) (cut v) (cut w) → NoneRises v.nodes w.nodes
rises_of v w g n x =
    let P : Option ℕ → Type 0 = λ o. NoRise o (cost_at w.nodes n x) in
    let Q : Option ℕ → Type 0 = λ o. NoRise (cut_cost (routings (cut v)) n x) o in
    subst P (sym (same_cost v n x)) (subst Q (sym (same_cost w n x)) (goes_rise (wiring v.links) (cut v) (cut w) g n x))

after_append : (es fs : List WorldEvent) (w : WorldState) → world_after (es ++ fs) w ≡ world_after fs (world_after es w)
unfolding world_after
after_append [] fs w = refl
after_append (e ∷ es) fs w = after_append es fs (happens w e).world

after_one : (e : WorldEvent) (w : WorldState) → world_after (e ∷ []) w ≡ (happens w e).world
unfolding world_after
after_one e w = refl

-- ---- ways

some_cost : (a b : ℕ) → Some a ≡ Some b → a ≡ b
some_cost a b e = cc

way_short : (x : Host) (w : WorldState) (n : Host) (k c : ℕ) → WorldHolds w → cost_at w.nodes n x ≡ Some c → WorldWay x w n k → k ≤ c
unfolding cost_at
way_short x w n k c h e (Ends v m) = omega arith
way_short x w n k c h e (Hops v es m row j hop inside rest) =
    let f = held_fall v h m x row hop in
    let run = run_holds es v inside h in
    let after = world_after es v in
    let later = at_most_some (cost_at after.nodes row.«next» x) f.cost
    (no_rise_at (cost_at v.nodes row.«next» x) (cost_at after.nodes row.«next» x) f.cost (rises_of v after run.goes row.«next» x) f.there) in
    let short : j ≤ later.0 = way_short x after row.«next» j later.0 run.holds later.1 rest in
    let same : row.cost ≡ c = some_cost row.cost c (sym (ap route_cost hop.by) ∙ e) in
    let lower : f.cost < row.cost = f.lower in
    let low : later.0 ≤ f.cost = later.2 in
    omega arith

-- ---- journeys

first_is : (a b : Host) (d e : Dev) → ◌≡◌ {A = Option (Host × Dev)} (Some (a, d)) (Some (b, e)) → a ≡ b
first_is a b d e same = ap (λ p. p.0) (pair_is same)
  where
    pair_is : ◌≡◌ {A = Option (Host × Dev)} (Some (a, d)) (Some (b, e)) → ◌≡◌ {A = Host × Dev} (a, d) (b, e)
    pair_is z = cc

-- frames go the way of the routes
journey_way : (x : Host) (w : WorldState) (n : Host) (k : ℕ) → WorldHolds w → Journey x w n k → WorldWay x w n k
journey_way x w n k h (Rests v m) = Ends v m
journey_way x w n k h (Waits v m d other over) =
    let o = held_over v h x m d other over in
    Hops v [] m o.row zero o.hop (All-nil (BringsNone v.version)) (Ends (world_after [] v) o.row.«next»)
journey_way x w n k h (Rides v es m y j other over from packet inside on rest) =
    let o = held_over v h x m y.from.dev other over in
    let run = run_holds es v inside h in
    let after = world_after es v in
    let there = All-contains (λ (z : FrameOnWire). far_end after.links z.from.host z.from.dev ≡ Some z.to) after.wire y run.holds.leads on in
    let arrives : wiring v.links m y.from.dev ≡ Some (y.to.host, y.to.dev) =
    ap (λ i. wiring v.links i y.from.dev) (sym from) ∙ (ap (λ links. wiring links y.from.host y.from.dev) (sym run.links) ∙ ap end_of there) in
    let same : o.row.«next» ≡ y.to.host = first_is o.row.«next» y.to.host o.end y.to.dev (sym o.leads ∙ arrives) in
    let P : Host → Type 0 = λ i. WorldWay x after i j in
    Hops v es m o.row j o.hop inside (subst P (sym same) (journey_way x after y.to.host j run.holds rest))

routes_held : (w : WorldState) → WorldHolds w → RoutesHold w
routes_held w h = held_routes w h (λ n x k c e journey. way_short x w n k c h e (journey_way x w n k h journey))

-- ---- networks that are reached

pub opening_reached : (t : Topology) → KeepsNetwork t → Reached (opening t)
unfolding world_after
opening_reached t k = record { topology = t; keeps = k; events = []; inside = All-nil (BringsNone t.version); is = refl }

reached_run : (w : WorldState) (r : Reached w) → RunHolds r.events (opening r.topology)
unfolding opening
reached_run w r = run_holds r.events (opening r.topology) r.inside (opening_holds r.topology r.keeps)

reached_version : (w : WorldState) (r : Reached w) → w.version ≡ r.topology.version
unfolding opening
reached_version w r = ap (λ (v : WorldState). v.version) r.is ∙ (reached_run w r).version

pub event_reaches : (w : WorldState) (e : WorldEvent) → Reached w → BringsNone w.version e → Reached (happens w e).world
unfolding opening
event_reaches w e r n = record {
  topology = r.topology;
  keeps = r.keeps;
  events = r.events ++ e ∷ [];
  inside = All-push (BringsNone r.topology.version) r.events e r.inside (subst (λ v. BringsNone v e) (reached_version w r) n);
  is = ap (λ v. (happens v e).world) r.is ∙ sym (after_append r.events (e ∷ []) (opening r.topology) ∙ after_one e (world_after r.events (opening r.topology)));
}

reached_is : (w : WorldState) → Reached w → WorldHolds w
reached_is w r = subst WorldHolds (sym r.is) (reached_run w r).holds

pub reached_hold : (w : WorldState) → Reached w → RoutesHold w
reached_hold w r = routes_held w (reached_is w r)

pub reached_dist : (w : WorldState) (n x : Host) (c d : ℕ) → Reached w → cost_at w.nodes n x ≡ Some c → IsDist w.links n x d → d ≤ c
reached_dist w n x c d r e dist = held_dist w (reached_is w r) n x c d e dist

pub event_keeps_routes : (w : WorldState) (e : WorldEvent) → Reached w → BringsNone w.version e → KeepsRoutes w (happens w e)
event_keeps_routes w e r n =
    let k = reached_is w r in
    let one = event_keeps w e n k in
    record {
      holds = routes_held (happens w e).world (event_holds w e n k);
      rises = rises_of w (happens w e).world one.goes;
      routed = one.lines;
    }

pub run_keeps_routes : (t : Topology) (es : List WorldEvent) → KeepsNetwork t → All (BringsNone t.version) es → RunKeepsRoutes es (opening t)
unfolding opening
run_keeps_routes t es k n = record {
  holds = λ j. routes_held (world_after (take j es) (opening t)) (front j).holds;
  rises = λ j.
      let w = world_after (take j es) (opening t) in
      let whole : world_after (drop j es) w ≡ world_after es (opening t) =
      sym (after_append (take j es) (drop j es) (opening t)) ∙ ap (λ fs. world_after fs (opening t)) (take-append-drop j es) in
      let P : WorldState → Type 0 = λ v. NoneRises w.nodes v.nodes in
      subst P whole (rises_of w (world_after (drop j es) w) (run_holds (drop j es) w (later j) (front j).holds).goes);
  routed = (run_holds es (opening t) n (opening_holds t k)).routed;
}
  where
    front : (j : ℕ) → RunHolds (take j es) (opening t)
    front j = run_holds (take j es) (opening t) (All-take (BringsNone t.version) j es n) (opening_holds t k)

    later : (j : ℕ) → All (BringsNone (world_after (take j es) (opening t)).version) (drop j es)
    later j = subst (λ v. All (BringsNone v) (drop j es)) (sym (front j).version) (All-drop (BringsNone t.version) j es n)

pub ways_short : (x : Host) (w : WorldState) (n : Host) (k c : ℕ) → Reached w → cost_at w.nodes n x ≡ Some c → WorldWay x w n k → k ≤ c
ways_short x w n k c r e way = way_short x w n k c (reached_is w r) e way

pub journeys_short : (x : Host) (w : WorldState) (n : Host) (k c : ℕ) → Reached w → cost_at w.nodes n x ≡ Some c → Journey x w n k → k ≤ c
journeys_short x w n k c r e journey = (reached_hold w r).short n x k c e journey
