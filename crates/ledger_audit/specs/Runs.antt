-- What the run of a log accepts and sends.
use Rattle.std.specs.Prelude.{ℕ, ◌+◌, Bool, true, false, not, if◌then◌else◌, List, [], ◌∷◌, ◌++◌, Option, Some, None}
use Rattle.std.specs.List.{list_any}
use Rattle.plan_base.specs.declared.ids.Host.{Host}
use Rattle.plan_base.specs.declared.ids.Dev.{Dev}
use Rattle.packet_frame.specs.declared.frame.PlainStamped.{PlainStamped}
use Rattle.packet_frame.specs.Stamped.{stamped_bytes}
use Rattle.network_config.specs.declared.event.Event.TheVariants as event
use Rattle.network_config.specs.declared.event.LogEvent.{LogEvent}
use Rattle.network_config.specs.declared.event.LogEvent.TheVariants.{Step}
use Rattle.node_core_spec.specs.declared.acts.Act.{Act}
use Rattle.node_core_spec.specs.declared.acts.Act.TheVariants.{Bad, Misplaced, Stale}
use Rattle.node_core_spec.specs.State.{NodeState}
use Rattle.node_core_spec.specs.Node.{node_step}
use Rattle.node_log.specs.Runs.{acts_of, node_by}
use Rattle.net_world_spec.specs.World.{Cables, far_end}
use Rattle.ledger_audit.specs.Crossings.{Crossing, Arrival}

-- whether an act refuses the frame that arrived
abbrev pub is_refusal : Act → Bool
is_refusal (Bad f) = true
is_refusal Misplaced = true
is_refusal (Stale t w) = true
is_refusal _ = false

-- whether an arrival with these acts was accepted
abbrev pub is_accepted : List Act → Bool
is_accepted acts = not (list_any is_refusal acts)

-- bytes that arrive on a device of a host come from the other end of its link
abbrev pub crossing_to : Cables → Host → Dev → List ℕ → Crossing
crossing_to links h d bytes = record { from = far_end links h d; bytes = bytes }

-- bytes that a host sends on a device
abbrev pub crossing_from : Host → Dev → List ℕ → Crossing
crossing_from h d bytes = record { from = Some (record { host = h; dev = d }); bytes = bytes }

-- what an entry accepts
abbrev pub accepts : Cables → NodeState → LogEvent → List Crossing
accepts links node (Step (event.Frame d bytes)) =
    if is_accepted (node_step node (event.Frame d bytes)).acts then crossing_to links node.here d bytes ∷ [] else []
accepts links node _ = []

-- a frame that was taken
abbrev pub sends_frame : Host → Dev → Option PlainStamped → List Crossing
sends_frame h d None = []
sends_frame h d (Some x) = crossing_from h d (stamped_bytes x) ∷ []

-- what an entry sends
abbrev pub sends : NodeState → LogEvent → List Crossing
sends node (Step (event.Take d)) = sends_frame node.here d (node_step node (event.Take d)).frame
sends node _ = []

-- the arrivals of one entry, with its numbers
abbrev pub numbered_arrivals : ℕ → ℕ → List Crossing → List Arrival
numbered_arrivals log n [] = []
numbered_arrivals log n (c ∷ cs) = record { log = log; event = n; crossing = c } ∷ numbered_arrivals log n cs

-- all that the entries of a log accept, after so many
abbrev pub accepted_in : Cables → ℕ → ℕ → NodeState → List LogEvent → List Arrival
accepted_in links log n node [] = []
accepted_in links log n node (e ∷ es) = numbered_arrivals log (n + 1) (accepts links node e) ++ accepted_in links log (n + 1) (node_by node e) es

-- all that they send
abbrev pub sent_in : NodeState → List LogEvent → List Crossing
sent_in node [] = []
sent_in node (e ∷ es) = sends node e ++ sent_in (node_by node e) es

-- the acts of all entries
abbrev pub acts_in : NodeState → List LogEvent → List Act
acts_in node [] = []
acts_in node (e ∷ es) = acts_of node e ++ acts_in (node_by node e) es
