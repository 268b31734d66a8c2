-- Logs from their beginning whose frames are read again.
use Rattle.std.specs.Prelude.{◌≡◌, ℕ, List, [], ◌∷◌, Option, Some, None, Ok}
use Rattle.wire_bytes.specs.Fields.{IsBytes}
use Rattle.packet_frame.specs.declared.frame.PlainStamped.{PlainStamped}
use Rattle.packet_frame.specs.Stamped.{stamped_bytes}
use Rattle.packet_frame.specs.Decoding.{read_by}
use Rattle.network_config.specs.declared.event.Event.{Event}
use Rattle.network_config.specs.declared.event.Event.TheVariants as event
use Rattle.network_config.specs.declared.event.LogEvent.{LogEvent}
use Rattle.network_config.specs.declared.event.LogEvent.TheVariants.{Step, Lost}
use Rattle.node_core_spec.specs.State.{NodeState, no_queues}
use Rattle.node_core_spec.specs.Node.{node_step}
use Rattle.node_log.specs.Runs.{node_by}
use Rattle.ledger_audit.specs.Audits.{Logged, version_in}

-- nothing is queued at first
abbrev pub Begins : Logged → Type 0
Begins l = (link : ℕ) × (l.node.queues ≡ no_queues link)

-- a frame that was taken, if one was, is read again
abbrev pub FrameReads : Option PlainStamped → Type 0
FrameReads None = Unit {0}
FrameReads (Some x) = read_by (version_in (stamped_bytes x)) (stamped_bytes x) ≡ Ok x

-- what arrives are bytes
abbrev pub BytesCome : Event → Type 0
BytesCome (event.Frame d bytes) = IsBytes bytes
BytesCome _ = Unit {0}

-- what an entry brings, and the frame that it takes, if any
abbrev pub EntryReads : NodeState → LogEvent → Type 0
EntryReads node (Step e) = BytesCome e × FrameReads (node_step node e).frame
EntryReads node Lost = Unit {0}

-- the same of all entries
abbrev pub EntriesRead : NodeState → List LogEvent → Type 0
EntriesRead node [] = Unit {0}
EntriesRead node (e ∷ es) = EntryReads node e × EntriesRead (node_by node e) es

-- what arrives are bytes, and each frame that is taken is read again from its own
abbrev pub ReadsAgain : Logged → Type 0
ReadsAgain l = EntriesRead l.node l.entries
