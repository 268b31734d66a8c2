-- What logs sent, accepted and did so far, and what the code keeps of it.
use Rattle.std.specs.Prelude.{◌≡◌, ℕ, ◌+◌, ◌≤◌, if◌then◌else◌, List, [], ◌∷◌, ◌++◌, length, map, Option, Some, None}
use Rattle.std.specs.List.{filter_map, All, AllByRecursion}
use Rattle.plan_base.specs.declared.ids.Host.{Host}
use Rattle.plan_base.specs.declared.ids.Family.{Family}
use Rattle.network_config.specs.declared.node.Log.{Log}
use Rattle.network_config.specs.declared.event.Event.{Event}
use Rattle.network_config.specs.declared.event.Event.TheVariants as event
use Rattle.network_config.specs.declared.event.LogEvent.{LogEvent}
use Rattle.network_config.specs.NodeRules.{KeepsEntry}
use Rattle.packet_frame.specs.declared.frame.PlainStamped.{PlainStamped}
use Rattle.service_registry_spec.specs.Beginning.{opening_standing, present_without}
use Rattle.node_core_spec.specs.declared.acts.Act.{Act}
use Rattle.node_core_spec.specs.declared.acts.Act.TheVariants.{Injected}
use Rattle.node_core_spec.specs.State.{NodeState, new_node}
use Rattle.node_log.specs.Runs.{acts_of, node_by}
use Rattle.net_world_spec.specs.declared.lines.LinkEnd.{LinkEnd}
use Rattle.net_world_spec.specs.World.{Cables, far_end}
use Rattle.ledger_audit.specs.Crossings.{Crossing, Arrival}
use Rattle.ledger_audit.specs.Runs.{is_accepted, accepts, sends_frame, sends, numbered_arrivals}
use Rattle.ledger_audit.specs.Audits.{Logged}
use Rattle.ledger_audit.specs.Spelling.{FrameReads, Begins, ReadsAgain}
use Rattle.ledger_audit.specs.declared.reckoning.Arrived.{Arrived}
use Rattle.ledger_audit.specs.declared.reckoning.AuditState.{AuditState}
use Rattle.ledger_audit.specs.Keys.{crossing_of}
use Rattle.ledger_audit.specs.Tallies.{Tallied}
use Rattle.ledger_audit.specs.Books.{capped, counts_in, acts_counts}

-- a log: its node at the beginning, and its entries
abbrev pub logged_of : Log → Logged
logged_of l = record { node = new_node l.node (opening_standing (present_without l.missing)); entries = l.events }

-- the hosts of logs, what they sent and accepted, and their acts
pub record Past : Type 0 where
  pub hosts : List Host
  pub sent : List Crossing
  pub accepted : List Arrival
  pub acts : List Act

abbrev pub nothing : Past
nothing = record { hosts = []; sent = []; accepted = []; acts = [] }

-- more acts, more that was sent and accepted, or a host more
abbrev pub with_acts : List Act → Past → Past
with_acts acts p = record { hosts = p.hosts; sent = p.sent; accepted = p.accepted; acts = p.acts ++ acts }

abbrev pub with_sent : List Crossing → Past → Past
with_sent sent p = record { hosts = p.hosts; sent = p.sent ++ sent; accepted = p.accepted; acts = p.acts }

abbrev pub with_accepted : List Arrival → Past → Past
with_accepted arrivals p = record { hosts = p.hosts; sent = p.sent; accepted = p.accepted ++ arrivals; acts = p.acts }

abbrev pub with_host : Host → Past → Past
with_host h p = record { hosts = p.hosts ++ h ∷ []; sent = p.sent; accepted = p.accepted; acts = p.acts }

-- bytes from an end, unless these acts refuse them
abbrev pub arrived_from : Option LinkEnd → List ℕ → List Act → List Crossing
arrived_from from bytes acts = if is_accepted acts then record { from = from; bytes = bytes } ∷ [] else []

-- what an event accepts, by the acts of its step
abbrev pub accepted_by : Cables → Host → Event → List Act → List Crossing
accepted_by links h (event.Frame d bytes) acts = arrived_from (far_end links h d) bytes acts
accepted_by links h _ acts = []

-- what an event sends, by the frame that it takes
abbrev pub taken_by : Host → Event → Option PlainStamped → List Crossing
taken_by h (event.Take d) frame = sends_frame h d frame
taken_by h _ frame = []

-- what an event accepts and sends, by its acts and the frame that it takes
abbrev pub with_frames : Cables → ℕ → ℕ → Host → Event → List Act → Option PlainStamped → Past → Past
with_frames links log n h e acts frame p = with_accepted (numbered_arrivals log n (accepted_by links h e acts)) (with_sent (taken_by h e frame) p)

-- one entry more, with its numbers
unfoldable pub with_entry : Cables → ℕ → ℕ → NodeState → LogEvent → Past → Past
with_entry links log n node e p =
    with_accepted (numbered_arrivals log n (accepts links node e)) (with_sent (sends node e) (with_acts (acts_of node e) p))

-- the entries of a log behind so many
abbrev pub with_entries : Cables → ℕ → ℕ → NodeState → List LogEvent → Past → Past
with_entries links log n node [] p = p
with_entries links log n node (e ∷ es) p = with_entries links log (n + 1) (node_by node e) es (with_entry links log (n + 1) node e p)

-- a log more, with its number
abbrev pub with_log : Cables → ℕ → Logged → Past → Past
with_log links k l p = with_host l.node.here (with_entries links k 0 l.node l.entries p)

-- logs behind so many
abbrev pub with_logs : Cables → ℕ → List Logged → Past → Past
with_logs links k [] p = p
with_logs links k (l ∷ ls) p = with_logs links (k + 1) ls (with_log links (k + 1) l p)

-- the frame that an event takes is read again
abbrev pub TakenReads : Event → Option PlainStamped → Type 0
TakenReads (event.Take d) frame = FrameReads frame
TakenReads _ frame = Unit {0}

-- ---- what the code keeps

-- an accepted frame in the code
abbrev pub arrival_of : Arrived → Arrival
arrival_of a = record { log = a.log; event = a.event; crossing = crossing_of a.key }

abbrev pub arrivals_of : List Arrived → List Arrival
arrivals_of all = map arrival_of all

-- the family that an act injects, if it does
abbrev pub injected_by : Act → Option Family
injected_by (Injected f bound) = Some f
injected_by _ = None

-- the families that acts inject, in order
unfoldable pub injected_families : List Act → List Family
injected_families acts = filter_map injected_by acts

-- the code keeps this of a past
pub record Holds (r : AuditState) (p : Past) : Type 0 where
  pub hosts : r.hosts ≡ p.hosts
  pub sent : Tallied p.sent [] r.tallies
  pub accepted : arrivals_of r.arrived ≡ p.accepted
  pub counts : (f : Family) → counts_in f r.book ≡ capped (acts_counts f p.acts)
  pub families : r.injected ≡ injected_families p.acts

-- a log has at most 50,000 entries, each within the limits of its node's version
pub record KeepsLimits (l : Logged) : Type 0 where
  pub few : length l.entries ≤ 50000
  pub entries : All (KeepsEntry l.node.version) l.entries

-- the code keeps this of at most 16 logs, in order, each of which begins with nothing queued and keeps its limits, and whose frames
-- are read again
pub record IsReckoned (links : Cables) (ls : List Logged) (r : AuditState) : Type 0 where
  pub holds : Holds r (with_logs links 0 ls nothing)
  pub begin : AllByRecursion Begins ls
  pub read : AllByRecursion ReadsAgain ls
  pub few : length ls ≤ 16
  pub limits : AllByRecursion KeepsLimits ls

-- the code keeps what is to be kept of some logs
pub record IsReckoning (r : AuditState) : Type 0 where
  pub links : Cables
  pub logs : List Logged
  pub is : IsReckoned links logs r
