-- What no step of a node changes, and the one act that gives a serial number.
use Rattle.std.proofs.Common.{◌≡◌, ℕ, Bool, true, false, cond, List, [], ◌∷◌, ◌++◌, refl, ◌∙◌, length}
use Rattle.std.specs.Prelude.{slice_get, ◌==◌, Option, Some, None, Result, Ok, Err}
use Rattle.std.proofs.lemmas.List.{length-set}
use Rattle.plan_base.specs.declared.name.Name.{Name}
use Rattle.plan_base.specs.declared.ids.Dev.{Dev}
use Rattle.plan_base.specs.declared.tree.Chunk.{Chunk}
use Rattle.plan_base.specs.declared.tree.Packet.{Packet}
use Rattle.packet_frame.specs.declared.frame.PlainFrame.{PlainFrame}
use Rattle.packet_frame.specs.declared.frame.PlainStamped.{PlainStamped}
use Rattle.replay_window.specs.declared.window.Took.{Took}
use Rattle.replay_window.specs.declared.window.Took.TheVariants.{Fresh, Repeated, TooOld}
use Rattle.node_core_spec.specs.declared.acts.TxQueue.{TxQueue}
use Rattle.packet_frame.specs.declared.fault.FrameFault.{FrameFault}
use Rattle.packet_frame.specs.Decoding.{read_by}
use Rattle.service_api.specs.declared.advert.Advert.{Advert}
use Rattle.service_api.specs.declared.router.Hop.{Hop}
use Rattle.service_api.specs.declared.router.Hop.TheVariants.{To, NoService, NoRoute}
use Rattle.service_api.specs.Routes.{hop}
use Rattle.dv_routing.specs.Routing.{all_routes}
use Rattle.node_core_spec.specs.declared.acts.Act.{Act}
use Rattle.node_core_spec.specs.declared.acts.Act.TheVariants.{Injected, SerialsSpent}
use Rattle.node_core_spec.specs.declared.acts.Sending.{Sending}
use Rattle.node_core_spec.specs.State.{Queues, NodeState, routing_of, is_host, leads_to}
use Rattle.node_core_spec.specs.Visits.{settled_at}
use Rattle.plan_base.specs.declared.stamp.Stamp.{Stamp}
use Rattle.replay_window.specs.Seen.{Seen, seen_with}
use Rattle.node_core_spec.specs.Node.{NodeStep, stepped_node, queue_room, has_room, lane_with, queue_push, mark, takes_as, seen_at, seen_then, noting, stamped_as, stamped_step, take_first}
use Rattle.node_core_spec.specs.Node.{packet_sending, visit_sends, tick_sends, send_queues, sends_queues, visit_step, next_serial, injected_packet, inject_step, forward_by, forward_step, packet_step}
use Rattle.node_core_spec.specs.Node.{advert_step, frame_step, arrived_read, arrive_step, tick_step, take_from, take_step}

-- a node with the same host, hosts and neighbours, and as many queues
pub record Stays (old new : NodeState) : Type 0 where
  pub here : new.here ≡ old.here
  pub hosts : new.hosts ≡ old.hosts
  pub neighbours : new.neighbours ≡ old.neighbours
  pub count : length new.queues ≡ length old.queues
  pub version : new.version ≡ old.version
  pub boot : new.boot ≡ old.boot
  pub windows : length new.seen ≡ length old.seen

itself : (node : NodeState) → Stays node node
itself node = record { here = refl; hosts = refl; neighbours = refl; count = refl; version = refl; boot = refl; windows = refl }

after : (a b c : NodeState) → Stays a b → Stays b c → Stays a c
after a b c x y = record {
  here = y.here ∙ x.here;
  hosts = y.hosts ∙ x.hosts;
  neighbours = y.neighbours ∙ x.neighbours;
  count = y.count ∙ x.count;
  version = y.version ∙ x.version;
  boot = y.boot ∙ x.boot;
  windows = y.windows ∙ x.windows;
}

push_count : (t : Bool) (queues : Queues) (d : Dev) (x : PlainStamped) (lane : TxQueue) → length (cond t (queue_push queues d x (Some lane)) queues) ≡ length queues
push_count true queues d x lane = length-set queues d.0 (lane_with lane x)
push_count false queues d x lane = refl

place_count : (o : Option TxQueue) (queues : Queues) (d : Dev) (x : PlainStamped) → length (cond (queue_room o x) (queue_push queues d x o) queues) ≡ length queues
place_count None queues d x = refl
place_count (Some lane) queues d x = push_count (queue_room (Some lane) x) queues d x lane

send_count : (queues : Queues) (s : Sending) → length (send_queues queues s) ≡ length queues
unfolding send_queues has_room
send_count queues s = place_count (slice_get queues s.dev.0) queues s.dev s.frame

sends_count : (queues : Queues) (ss : List Sending) → length (sends_queues queues ss) ≡ length queues
unfolding sends_queues
sends_count queues [] = refl
sends_count queues (s ∷ ss) = sends_count (send_queues queues s) ss ∙ send_count queues s

-- a step that changes none of them, nor the serial number, nor what was taken
pub record StepStays (old : NodeState) (step : NodeStep) : Type 0 where
  pub node : Stays old step.node
  pub serial : step.node.serial ≡ old.serial
  pub seen : step.node.seen ≡ old.seen

cases : (t : Bool) (old : NodeState) (a b : NodeStep) → StepStays old a → StepStays old b → StepStays old (cond t a b)
cases true old a b x y = x
cases false old a b x y = y

still : (acts : List Act) (node : NodeState) → StepStays node (stepped_node acts None node)
still acts node = record { node = itself node; serial = refl; seen = refl }

pub visited_stays : (acts : List Act) (node : NodeState) (p : Packet) → StepStays node (visit_step acts node p)
unfolding visit_step
visited_stays acts node p = record {
  node = record { here = refl; hosts = refl; neighbours = refl; count = sends_count node.queues (visit_sends (mark node) (settled_at node p).visit); version = refl; boot = refl; windows = refl };
  serial = refl;
  seen = refl;
}

by_stays : (node : NodeState) (d : Dev) (p : Packet) (o : Hop) → StepStays node (forward_by node d p o)
unfolding forward_by
by_stays node d p (To host over) = record {
  node = record { here = refl; hosts = refl; neighbours = refl; count = send_count node.queues (packet_sending (mark node) (record { dev = over; packet = p })); version = refl; boot = refl; windows = refl };
  serial = refl;
  seen = refl;
}
by_stays node d p NoService = still _ node
by_stays node d p NoRoute = still _ node

forward_stays : (node : NodeState) (d : Dev) (p : Packet) → StepStays node (forward_step node d p)
unfolding forward_step
forward_stays node d p = cases (p.bound == 0) node _ _ (still _ node) (by_stays node d p (hop (all_routes (routing_of node)) p.route node.here p.dest))

packet_stays : (node : NodeState) (d : Dev) (p : Packet) → StepStays node (packet_step node d p)
unfolding packet_step
packet_stays node d p = cases (is_host p.dest node.here) node _ _ (visited_stays _ node p) (forward_stays node d p)

advert_stays : (node : NodeState) (d : Dev) (a : Advert) → StepStays node (advert_step node d a)
unfolding advert_step
advert_stays node d a =
    cases (leads_to node.neighbours d a.host) node _ _
    (record { node = record { here = refl; hosts = refl; neighbours = refl; count = refl; version = refl; boot = refl; windows = refl }; serial = refl; seen = refl }) (still _ node)

pub frame_stays : (node : NodeState) (d : Dev) (x : PlainFrame) → StepStays node (frame_step node d x)
frame_stays node d (PlainFrame.Packet p) = packet_stays node d p
frame_stays node d (PlainFrame.Advert a) = advert_stays node d a
frame_stays node d (PlainFrame.Ask bound chunk) = still _ node

-- a stamp that is taken
seen_count : (seen : List Seen) (d : Dev) (stamp : Option Stamp) → length (seen_then seen d stamp) ≡ length seen
unfolding seen_then
seen_count seen d None = refl
seen_count seen d (Some s) = place (slice_get seen d.0)
  where
    place : (o : Option Seen) → length (seen_at seen d s o) ≡ length seen
    place None = refl
    place (Some old) = length-set seen d.0 (seen_with old s)

-- a step that changes none of them but what was taken
pub record StampedStays (old : NodeState) (step : NodeStep) : Type 0 where
  pub node : Stays old step.node
  pub serial : step.node.serial ≡ old.serial

noting_stays : (node : NodeState) (d : Dev) (stamp : Option Stamp) (step : NodeStep) → StepStays node step → StampedStays node (noting node d stamp step)
noting_stays node d stamp step s = record {
  node = record {
    here = s.node.here;
    hosts = s.node.hosts;
    neighbours = s.node.neighbours;
    count = s.node.count;
    version = s.node.version;
    boot = s.node.boot;
    windows = seen_count node.seen d stamp;
  };
  serial = s.serial;
}

unstamped_stays : (node : NodeState) (step : NodeStep) → StepStays node step → StampedStays node step
unstamped_stays node step s = record { node = s.node; serial = s.serial }

as_stays : (node : NodeState) (d : Dev) (x : PlainStamped) (t : Took) → StampedStays node (stamped_as node d x t)
as_stays node d x Fresh = noting_stays node d x.stamp _ (frame_stays node d x.frame)
as_stays node d x Repeated = unstamped_stays node _ (still _ node)
as_stays node d x TooOld = unstamped_stays node _ (still _ node)

pub stamped_stays : (node : NodeState) (d : Dev) (x : PlainStamped) → StampedStays node (stamped_step node d x)
unfolding stamped_step
stamped_stays node d x = as_stays node d x (takes_as node.seen d x.stamp)

arrived_stays : (node : NodeState) (d : Dev) (r : Result PlainStamped FrameFault) → StampedStays node (arrived_read node d r)
arrived_stays node d (Ok x) = stamped_stays node d x
arrived_stays node d (Err e) = unstamped_stays node _ (still _ node)

pub arrive_stays : (node : NodeState) (d : Dev) (bytes : List ℕ) → StampedStays node (arrive_step node d bytes)
unfolding arrive_step
arrive_stays node d bytes = arrived_stays node d (read_by node.version bytes)

pub tick_stays : (node : NodeState) → StepStays node (tick_step node)
unfolding tick_step
tick_stays node = record { node = record { here = refl; hosts = refl; neighbours = refl; count = sends_count node.queues (tick_sends node); version = refl; boot = refl; windows = refl }; serial = refl; seen = refl }

take_first_stays : (node : NodeState) (d : Dev) (n : ℕ) (queue : List PlainStamped) → StepStays node (take_first node d n queue)
take_first_stays node d n [] = still [] node
take_first_stays node d n (x ∷ queue) = record {
  node = record { here = refl; hosts = refl; neighbours = refl; count = length-set node.queues d.0 (record { frames = queue; number = n }); version = refl; boot = refl; windows = refl };
  serial = refl;
  seen = refl;
}

take_from_stays : (node : NodeState) (d : Dev) (o : Option TxQueue) → StepStays node (take_from node d o)
take_from_stays node d None = still [] node
take_from_stays node d (Some lane) = take_first_stays node d lane.number lane.frames

pub take_stays : (node : NodeState) (d : Dev) → StepStays node (take_step node d)
unfolding take_step
take_stays node d = take_from_stays node d (slice_get node.queues d.0)

-- an injection changes the serial number alone
inject_cases : (t : Bool) (node : NodeState) (chunk : Chunk) (bound : ℕ) (handler : Option Name)
    → Stays node (cond t (stepped_node ([] ++ SerialsSpent ∷ []) None node) (visit_step ([] ++ Injected (record { source = node.here; serial = node.serial }) bound ∷ []) (next_serial node) (injected_packet node chunk bound handler))).node
inject_cases true node chunk bound handler = itself node
inject_cases false node chunk bound handler =
    let s = visited_stays ([] ++ Injected (record { source = node.here; serial = node.serial }) bound ∷ []) (next_serial node) (injected_packet node chunk bound handler) in
    after node (next_serial node) _ (record { here = refl; hosts = refl; neighbours = refl; count = refl; version = refl; boot = refl; windows = refl }) s.node

pub inject_stays : (node : NodeState) (chunk : Chunk) (bound : ℕ) (handler : Option Name) → Stays node (inject_step [] node chunk bound handler).node
unfolding inject_step
inject_stays node chunk bound handler = inject_cases (node.serial == 18446744073709551615) node chunk bound handler

-- ---- only a take takes a frame

abbrev NoFrame : NodeStep → Type 0
NoFrame step = step.frame ≡ None

none_cases : (t : Bool) (a b : NodeStep) → NoFrame a → NoFrame b → NoFrame (cond t a b)
none_cases true a b x y = x
none_cases false a b x y = y

visited_frame : (acts : List Act) (node : NodeState) (p : Packet) → NoFrame (visit_step acts node p)
unfolding visit_step
visited_frame acts node p = refl

pub inject_frame : (acts : List Act) (node : NodeState) (chunk : Chunk) (bound : ℕ) (handler : Option Name) → NoFrame (inject_step acts node chunk bound handler)
unfolding inject_step
inject_frame acts node chunk bound handler = none_cases (node.serial == 18446744073709551615) _ _ refl (visited_frame _ (next_serial node) (injected_packet node chunk bound handler))

by_frame : (node : NodeState) (d : Dev) (p : Packet) (o : Hop) → NoFrame (forward_by node d p o)
unfolding forward_by
by_frame node d p (To host over) = refl
by_frame node d p NoService = refl
by_frame node d p NoRoute = refl

forward_frame : (node : NodeState) (d : Dev) (p : Packet) → NoFrame (forward_step node d p)
unfolding forward_step
forward_frame node d p = none_cases (p.bound == 0) _ _ refl (by_frame node d p (hop (all_routes (routing_of node)) p.route node.here p.dest))

packet_frame : (node : NodeState) (d : Dev) (p : Packet) → NoFrame (packet_step node d p)
unfolding packet_step
packet_frame node d p = none_cases (is_host p.dest node.here) _ _ (visited_frame _ node p) (forward_frame node d p)

advert_frame : (node : NodeState) (d : Dev) (a : Advert) → NoFrame (advert_step node d a)
unfolding advert_step
advert_frame node d a = none_cases (leads_to node.neighbours d a.host) _ _ refl refl

pub frame_frame : (node : NodeState) (d : Dev) (x : PlainFrame) → NoFrame (frame_step node d x)
frame_frame node d (PlainFrame.Packet p) = packet_frame node d p
frame_frame node d (PlainFrame.Advert a) = advert_frame node d a
frame_frame node d (PlainFrame.Ask bound chunk) = refl

as_frame : (node : NodeState) (d : Dev) (x : PlainStamped) (t : Took) → NoFrame (stamped_as node d x t)
as_frame node d x Fresh = frame_frame node d x.frame
as_frame node d x Repeated = refl
as_frame node d x TooOld = refl

pub stamped_frame : (node : NodeState) (d : Dev) (x : PlainStamped) → NoFrame (stamped_step node d x)
unfolding stamped_step
stamped_frame node d x = as_frame node d x (takes_as node.seen d x.stamp)

arrived_frame : (node : NodeState) (d : Dev) (r : Result PlainStamped FrameFault) → NoFrame (arrived_read node d r)
arrived_frame node d (Ok x) = stamped_frame node d x
arrived_frame node d (Err e) = refl

pub arrive_frame : (node : NodeState) (d : Dev) (bytes : List ℕ) → NoFrame (arrive_step node d bytes)
unfolding arrive_step
arrive_frame node d bytes = arrived_frame node d (read_by node.version bytes)

pub tick_frame : (node : NodeState) → NoFrame (tick_step node)
unfolding tick_step
tick_frame node = refl
