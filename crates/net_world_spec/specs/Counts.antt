-- What a family has paid and what it still has, counted anew from the history and the network.
use Rattle.std.specs.Prelude.{◌≡◌, ℕ, ◌+◌, ◌*◌, ◌≤◌, ◌<◌, Bool, false, ◌==◌, if◌then◌else◌, List, [], ◌∷◌, ◌++◌, sum_by, slice_get, Option, None, Some, All}
use Rattle.std.specs.List.{list_any}
use Rattle.plan_base.specs.declared.ids.Host.{Host}
use Rattle.plan_base.specs.declared.ids.Family.{Family}
use Rattle.packet_frame.specs.declared.frame.PlainFrame.{PlainFrame}
use Rattle.node_core_spec.specs.State.{NodeState}
use Rattle.node_core_spec.specs.Counts.{only, act_granted, act_injections, act_hops, act_evals, act_left, act_stale, what_left, queues_sum}
use Rattle.node_core_spec.specs.Counts.{frame_live, frame_one}
use Rattle.node_core_spec.specs.declared.acts.Act.TheVariants.{Injected}
use Rattle.net_world_spec.specs.declared.lines.Line.{Line}
use Rattle.net_world_spec.specs.declared.lines.Line.TheVariants.{At, Forged, Off, Again, Lost}
use Rattle.net_world_spec.specs.declared.lines.Entry.{Entry}
use Rattle.net_world_spec.specs.declared.lines.FrameOnWire.{FrameOnWire}
use Rattle.network_config.specs.declared.event.WorldEvent.{WorldEvent}
use Rattle.network_config.specs.declared.event.WorldEvent.TheVariants.{Deliver, Repeat, Lose}
use Rattle.net_world_spec.specs.World.{WorldState, EventResult, wire_place, happens, entries}

-- ---- lines

abbrev pub line_granted : Family → Line → ℕ
line_granted f (At h act) = act_granted f act
line_granted f (Forged h g bound) = only f g bound
line_granted f _ = 0

-- how many injections
abbrev pub line_injections : Family → Line → ℕ
line_injections f (At h act) = act_injections f act
line_injections f _ = 0

-- how many packets from outside
abbrev pub line_forged : Family → Line → ℕ
line_forged f (Forged h g bound) = only f g 1
line_forged f _ = 0

abbrev pub line_hops : Family → Line → ℕ
line_hops f (At h act) = act_hops f act
line_hops f _ = 0

abbrev pub line_evals : Family → Line → ℕ
line_evals f (At h act) = act_evals f act
line_evals f _ = 0

-- what a line leaves, where its event hands or loses a frame that was handed before, and where it doesn't: what is stale or lost of
-- such a frame was counted when it was handed first
abbrev pub line_left : Family → Bool → Line → ℕ
line_left f late (At h act) = act_left f act + (if late then 0 else act_stale f act)
line_left f late (Lost w) = if late then 0 else what_left f w
line_left f late _ = 0

-- a count over the lines of an event
unfoldable pub line_sum : (Line → ℕ) → List Line → ℕ
line_sum count lines = sum_by count lines

-- a count over all lines of a history
unfoldable pub tally : (Line → ℕ) → List Entry → ℕ
tally count history = sum_by (λ e. count e.line) history

-- ---- histories

-- the sum of the bounds of a family's injections, and of its packets from outside
abbrev pub granted_sum : Family → List Entry → ℕ
granted_sum f = tally (line_granted f)

-- the number of a family's injections
abbrev pub injections : Family → List Entry → ℕ
injections f = tally (line_injections f)

-- the number of a family's packets from outside
abbrev pub forgeries : Family → List Entry → ℕ
forgeries f = tally (line_forged f)

-- the number of a family's frames queued
abbrev pub hops : Family → List Entry → ℕ
hops f = tally (line_hops f)

-- the sum of the evals of a family's visits
abbrev pub evals : Family → List Entry → ℕ
evals f = tally (line_evals f)

-- what stands of handings so far: the numbers of the frames that were handed and stayed, and whether the last frame that was handed or
-- lost was handed before. A handing is a frame's first where no line `again` of its number stands before it. What is stale or lost stands
-- behind the line `off` or `again` of its event, or behind its line `forged`, so it is counted by that line.
pub record Past : Type 0 where
  pub numbers : List ℕ
  pub late : Bool

abbrev pub no_past : Past
no_past = record { numbers = []; late = false }

abbrev pub was_handed : ℕ → Past → Bool
was_handed n p = list_any (λ m. m == n) p.numbers

abbrev pub past_with : Past → Line → Past
past_with p (Off n) = record { numbers = p.numbers; late = was_handed n p }
past_with p (Again n) = record { numbers = n ∷ p.numbers; late = was_handed n p }
past_with p (Forged h f bound) = record { numbers = p.numbers; late = false }
past_with p _ = p

-- what stands behind a history
unfoldable pub past_after : Past → List Entry → Past
past_after p [] = p
past_after p (e ∷ es) = past_after (past_with p e.line) es

-- what a family left in a history, behind this
unfoldable pub left_from : Family → Past → List Entry → ℕ
left_from f p [] = 0
left_from f p (e ∷ es) = line_left f (past_with p e.line).late e.line + left_from f (past_with p e.line) es

-- the sum of what a family's visits left, and of the bounds of its packets that were dropped, stale or lost: of a frame that was
-- handed and stayed on the wire only at its first handing
abbrev pub left_sum : Family → List Entry → ℕ
left_sum f = left_from f no_past

-- ---- frames in queues and on the wire

-- a count over the frames in the queues of all nodes
unfoldable pub nodes_sum : (PlainFrame → ℕ) → List NodeState → ℕ
nodes_sum count nodes = sum_by (λ node. queues_sum count node.queues) nodes

-- a count over the frames on the wire
unfoldable pub wire_sum : (PlainFrame → ℕ) → List FrameOnWire → ℕ
wire_sum count wire = sum_by (λ x. count x.frame.frame) wire

-- a count of a frame that was never handed
abbrev pub unhanded_count : (PlainFrame → ℕ) → FrameOnWire → ℕ
unhanded_count count x = if x.handed then 0 else count x.frame.frame

-- a count over the frames on the wire that were never handed
unfoldable pub unhanded_sum : (PlainFrame → ℕ) → List FrameOnWire → ℕ
unhanded_sum count wire = sum_by (unhanded_count count) wire

abbrev pub frames_sum : (PlainFrame → ℕ) → WorldState → ℕ
frames_sum count w = nodes_sum count w.nodes + wire_sum count w.wire

-- the sum of the bounds of a family's packets in queues, and on the wire where never handed
abbrev pub live : Family → WorldState → ℕ
live f w = nodes_sum (frame_live f) w.nodes + unhanded_sum (frame_live f) w.wire

-- the number of a family's packets in queues and on the wire
abbrev pub packets : Family → WorldState → ℕ
packets f w = frames_sum (frame_one f) w

-- ---- what holds of every run

-- what a family was granted is what it paid, what it still has and what it left
pub record Balanced (f : Family) (history : List Entry) (w : WorldState) : Type 0 where
  pub law : granted_sum f history ≡ hops f history + evals f history + live f w + left_sum f history

-- a family never pays and has more than it was granted; it is injected at most once, and with nothing from outside it was granted
-- the bound of that injection, at most 65,535
pub record IsBounded (f : Family) (history : List Entry) (w : WorldState) : Type 0 where
  pub once : injections f history ≤ 1
  pub limit : granted_sum f history ≤ 65535 * (injections f history + forgeries f history)
  pub alone : forgeries f history ≡ 0 → (before after : List Entry) (e : Entry) (h : Host) (bound : ℕ)
      → history ≡ before ++ e ∷ after → e.line ≡ At h (Injected f bound) → granted_sum f history ≡ bound
  pub within : hops f history + evals f history + live f w ≤ granted_sum f history

-- only a granted family has packets, and the nodes of its host go on with later serial numbers once it was injected
pub record IsGranted (f : Family) (history : List Entry) (w : WorldState) : Type 0 where
  pub packet : injections f history + forgeries f history ≡ 0 → packets f w ≡ 0
  pub serial : 0 < injections f history → All (λ node. node.here.0 ≡ f.source.0 → f.serial < node.serial) w.nodes

-- ---- events

abbrev pub late_frame : Option FrameOnWire → Bool
late_frame None = false
late_frame (Some x) = x.handed

abbrev pub late_at : List FrameOnWire → Option ℕ → Bool
late_at wire None = false
late_at wire (Some place) = late_frame (slice_get wire place)

-- whether an event hands or loses a frame on the wire that was handed before
abbrev pub late_in : List FrameOnWire → WorldEvent → Bool
late_in wire (Deliver number) = late_at wire (wire_place wire number)
late_in wire (Repeat number) = late_at wire (wire_place wire number)
late_in wire (Lose number) = late_at wire (wire_place wire number)
late_in wire _ = false

abbrev pub is_late : WorldState → WorldEvent → Bool
is_late w e = late_in w.wire e

-- what an event's lines say is in balance with what it changes
pub record EventInBalance (f : Family) (late : Bool) (old : WorldState) (h : EventResult) : Type 0 where
  pub law : line_sum (line_granted f) h.lines + live f old
      ≡ line_sum (line_hops f) h.lines + line_sum (line_evals f) h.lines + live f h.world + line_sum (line_left f late) h.lines

-- what an event leaves behind a history is what its lines leave by the wire
abbrev pub LeavesByWire : Family → List Entry → WorldState → WorldEvent → Type 0
LeavesByWire f h w e = left_sum f (h ++ entries w e) ≡ left_sum f h + line_sum (line_left f (is_late w e)) (happens w e).lines

-- what stands of handings agrees with the wire: a frame there was handed where its number is among those, which are below the next one
pub record PastAgrees (p : Past) (w : WorldState) : Type 0 where
  pub handed : All (λ x. x.handed ≡ was_handed x.number p) w.wire
  pub below : All (λ n. n < w.«next») p.numbers
