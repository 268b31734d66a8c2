-- The frames that the entries of a log send.
use Rattle.std.specs.Prelude.{◌≡◌, ◌==◌, if◌then◌else◌, List, [], ◌∷◌, ◌++◌, Option, Some, None}
use Rattle.plan_base.specs.declared.ids.Dev.{Dev}
use Rattle.packet_frame.specs.declared.frame.PlainStamped.{PlainStamped}
use Rattle.packet_frame.specs.Stamped.{stamped_bytes}
use Rattle.network_config.specs.declared.event.Event.{Event}
use Rattle.network_config.specs.declared.event.Event.TheVariants.{Take}
use Rattle.network_config.specs.declared.event.LogEvent.{LogEvent}
use Rattle.network_config.specs.declared.event.LogEvent.TheVariants.{Step}
use Rattle.node_io.specs.Links.{Heard}
use Rattle.node_core_spec.specs.State.{NodeState}
use Rattle.node_log.specs.Runs.{node_by, first_on}

-- a frame that was taken is sent, where there is one
abbrev pub sending : Dev → Option PlainStamped → List Heard
sending d None = []
sending d (Some x) = (d, stamped_bytes x) ∷ []

-- what an entry of a log sends: the frame that it took, unless that is one to the node itself
abbrev pub sent_at : NodeState → LogEvent → List Heard
sent_at node (Step (Take d)) = if d.0 == 0 then [] else sending d (first_on node d)
sent_at node _ = []

-- what its entries send
unfoldable pub frames_of : NodeState → List LogEvent → List Heard
frames_of node [] = []
frames_of node (e ∷ es) = sent_at node e ++ frames_of (node_by node e) es

-- a step that sends nothing
abbrev pub SendsNone : Event → Type 0
SendsNone e = (node : NodeState) → sent_at node (Step e) ≡ []
