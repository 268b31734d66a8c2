-- The run of a serving node: its turns, by what its link hears, what its clock answers, and which steps were refused.
use Rattle.std.specs.Prelude.{ℕ, zero, suc, ◌+◌, Bool, true, false, ◌==◌, nat_le, if◌then◌else◌, List, [], ◌∷◌, ◌++◌, length, map, drop}
use Rattle.std.specs.Prelude.{get_or, slice_get, Option, Some, None}
use Rattle.std.specs.List.{list_any}
use Rattle.plan_base.specs.declared.ids.Dev.{Dev}
use Rattle.packet_frame.specs.declared.frame.PlainStamped.{PlainStamped}
use Rattle.packet_frame.specs.Stamped.{stamped_bytes}
use Rattle.network_config.specs.declared.serve.Inject.{Inject as Injection}
use Rattle.network_config.specs.Hosts.{dev_of}
use Rattle.network_config.specs.declared.event.Event.{Event}
use Rattle.network_config.specs.declared.event.Event.TheVariants.{Inject, Frame, Control, Tick, Take}
use Rattle.network_config.specs.declared.event.LogEvent.{LogEvent}
use Rattle.network_config.specs.declared.event.LogEvent.TheVariants.{Step, Lost}
use Rattle.network_config.specs.declared.serve.ServeConfig.{ServeConfig}
use Rattle.node_io.specs.declared.link.Peer.{Peer}
use Rattle.node_io.specs.declared.link.Arrival.{Arrival}
use Rattle.node_io.specs.Links.{Heard, has_peer, next_heard}
use Rattle.node_core_spec.specs.declared.acts.TxQueue.{TxQueue}
use Rattle.node_core_spec.specs.State.{NodeState}
use Rattle.node_core_spec.specs.Node.{node_step}
use Rattle.node_core_spec.specs.declared.acts.Act.{Act}
use Rattle.node_core_spec.specs.declared.acts.Act.TheVariants.{NoMemory}

-- ---- what entries of a log give

-- a line of a trace: the number of its step, and the act
abbrev pub Entry : Type 0
Entry = ℕ × Act

-- what an entry of a log does: its acts, and the node afterwards; a step that found no memory changes nothing
abbrev pub acts_of : NodeState → LogEvent → List Act
acts_of node (Step e) = (node_step node e).acts
acts_of node Lost = NoMemory ∷ []

abbrev pub node_by : NodeState → LogEvent → NodeState
node_by node (Step e) = (node_step node e).node
node_by node Lost = node

-- the lines of a step with this number
abbrev pub entries_at : ℕ → List Act → List Entry
entries_at n acts = map (λ act. (n, act)) acts

-- the lines of the entries of a log, after so many steps
unfoldable pub played_entries : ℕ → NodeState → List LogEvent → List Entry
played_entries n node [] = []
played_entries n node (e ∷ es) = entries_at (n + 1) (acts_of node e) ++ played_entries (n + 1) (node_by node e) es

-- the node after them
unfoldable pub node_after : NodeState → List LogEvent → NodeState
node_after node [] = node
node_after node (e ∷ es) = node_after (node_by node e) es

-- ---- a run so far

-- the node, the time of its last tick, whether a taking was refused in this turn, and the entries of its log, the frames sent and
-- the lines so far
pub record Running : Type 0 where
  pub node : NodeState
  pub last : ℕ
  pub held : Bool
  pub events : List LogEvent
  pub sent : List Heard
  pub entries : List Entry

-- a run at its beginning
abbrev pub opened_run : NodeState → Running
opened_run node = record { node = node; last = 0; held = false; events = []; sent = []; entries = [] }

-- one entry more in the log, with its lines
unfoldable pub with_entry : LogEvent → Running → Running
with_entry e r = record r {
  node = node_by r.node e;
  events = r.events ++ e ∷ [];
  entries = r.entries ++ entries_at (length r.events + 1) (acts_of r.node e);
}

abbrev pub marked_running : ℕ → Running → Running
marked_running t r = record r { last = t }

abbrev pub holding : Bool → Running → Running
holding held r = record r { held = held }

abbrev pub with_sent : Dev → PlainStamped → Running → Running
with_sent d x r = record r { sent = r.sent ++ (d, stamped_bytes x) ∷ [] }

-- ---- what a run does

-- what is done, by the numbers of the steps for which an allocation failed
abbrev pub Action : Type 0
Action = List ℕ → Running → Running

abbrev pub stay : Action
stay refused r = r

abbrev pub then_do : Action → Action → Action
then_do f g refused r = g refused (f refused r)

-- whether the step with this number is refused
abbrev pub is_among : List ℕ → ℕ → Bool
is_among refused n = list_any (λ m. m == n) refused

-- whether the next step is refused
abbrev pub is_refused : List ℕ → Running → Bool
is_refused refused r = is_among refused (length r.events + 1)

-- one step
unfoldable pub make : Event → Action
make e refused r = with_entry (if is_refused refused r then Lost else Step e) r

-- ---- the parts of a turn

-- a tick, where the period is over
unfoldable pub tick : ℕ → ℕ → Action
tick period t refused r = if nat_le (r.last + period) t then marked_running t (make Tick refused r) else r

-- an injection of this turn
abbrev pub inject_one : ℕ → Option Injection → Action
inject_one turn None refused r = r
inject_one turn (Some x) refused r = if x.turn == turn then make (Inject x.chunk x.bound x.handler) refused r else r

-- the injections of this turn among the first so many
unfoldable pub inject_to : ℕ → List Injection → ℕ → Action
inject_to turn at zero refused r = r
inject_to turn at (suc n) refused r = inject_one turn (slice_get at n) refused (inject_to turn at n refused r)

-- what arrives on device 0 comes from the node's owner
abbrev pub arrival : Heard → Event
arrival x = if x.0.0 == 0 then Control x.1 else Frame x.0 x.1

-- what the link hears
abbrev pub hear : Option Heard → Action
hear None refused r = r
hear (Some x) refused r = make (arrival x) refused r

-- the first frame on a device, where there is one
abbrev pub first_on : NodeState → Dev → Option PlainStamped
first_on node d = (node_step node (Take d)).frame

-- whether a frame is queued on a device
abbrev pub frames_in : Option TxQueue → ℕ
frames_in None = 0
frames_in (Some lane) = length lane.frames

abbrev pub queued_on : NodeState → Dev → ℕ
queued_on node d = frames_in (slice_get node.queues d.0)

-- a frame to the node itself arrives
abbrev pub come_back : Option PlainStamped → Action
come_back None refused r = r
come_back (Some x) refused r = make (Frame (dev_of 0) (stamped_bytes x)) refused r

-- the first frame on device 0 is taken, and arrives; a refused taking ends this
unfoldable pub take_back : Action
take_back refused r = if is_refused refused r then with_entry Lost r
    else come_back (first_on r.node (dev_of 0)) refused (with_entry (Step (Take (dev_of 0))) r)

unfoldable pub loop_back : Action
loop_back refused r = if nat_le 1 (queued_on r.node (dev_of 0)) then take_back refused r else r

-- a frame that was taken is sent
abbrev pub send_taken : Dev → Option PlainStamped → Running → Running
send_taken d None r = r
send_taken d (Some x) r = with_sent d x r

-- the first frame on a device is taken and sent, unless a taking was refused in this turn
unfoldable pub take_send : Dev → Action
take_send d refused r = if r.held then r else (if is_refused refused r then holding true (with_entry Lost r)
    else send_taken d (first_on r.node d) (with_entry (Step (Take d)) r))

unfoldable pub repeat_send : Dev → ℕ → Action
repeat_send d zero refused r = r
repeat_send d (suc n) refused r = take_send d refused (repeat_send d n refused r)

-- as often as frames are queued on a device that leads to a neighbour
unfoldable pub flush_device : List Peer → Dev → Action
flush_device peers d refused r = if has_peer peers d then repeat_send d (queued_on r.node d) refused r else r

-- the devices from 1 up to this one
unfoldable pub flush_to : List Peer → ℕ → Action
flush_to peers zero refused r = r
flush_to peers (suc n) refused r = flush_device peers (dev_of (n + 1)) refused (flush_to peers n refused r)

abbrev pub release : Action
release refused r = holding false r

abbrev pub flush : List Peer → Action
flush peers = then_do release (flush_to peers 8)

-- ---- turns

-- the peers of a node: its owner on device 0, and its neighbours
abbrev pub peer : Dev → ℕ → Peer
peer d port = record { dev = d; port = port }

unfoldable pub peers_of : ServeConfig → List Peer
peers_of cfg = peer (dev_of 0) cfg.control ∷ map (λ d. peer d.0 d.1) cfg.devs

-- a turn up to the receiving
abbrev pub begin_turn : ServeConfig → ℕ → ℕ → Action
begin_turn cfg turn t = then_do (tick cfg.period t) (inject_to turn cfg.at (length cfg.at))

-- and from it on
abbrev pub end_turn : List Peer → Action
end_turn peers = then_do loop_back (flush peers)

abbrev pub turn : ServeConfig → ℕ → ℕ → Option Heard → Action
turn cfg i t h = then_do (begin_turn cfg i t) (then_do (hear h) (end_turn (peers_of cfg)))

-- the answer of the clock with this number, by its list and its last answer before
unfoldable pub time_at : ℕ → List ℕ → ℕ → ℕ
time_at last answers zero = last
time_at last answers (suc n) = get_or (drop n answers) 0 (time_at last answers n)

-- the first so many turns
unfoldable pub turns : ServeConfig → List Arrival → ℕ → List ℕ → ℕ → Action
turns cfg script last answers zero refused r = r
turns cfg script last answers (suc n) refused r =
    turn cfg (n + 1) (time_at last answers (n + 1)) (next_heard (peers_of cfg) (drop n script)) refused (turns cfg script last answers n refused r)

-- a run of so many turns
unfoldable pub node_run : ServeConfig → NodeState → List Arrival → ℕ → List ℕ → ℕ → List ℕ → Running
node_run cfg node script last answers n refused = turns cfg script last answers n refused (opened_run node)
