-- What the audit of logs answers, and the counts of a family over them.
use Rattle.std.specs.Prelude.{◌≡◌, ℕ, ◌+◌, List, [], ◌∷◌, ◌++◌, sum_by, codes, nat_eq, Option, Result, Ok, Err, if◌then◌else◌}
use Rattle.std.specs.List.{starts_with}
use Rattle.plan_base.specs.declared.ids.Family.{Family}
use Rattle.plan_base.specs.declared.stamp.Version.{Version}
use Rattle.plan_base.specs.declared.stamp.Version.TheVariants.{One, Two}
use Rattle.packet_frame.specs.declared.frame.PlainStamped.{PlainStamped}
use Rattle.packet_frame.specs.declared.fault.FrameFault.{FrameFault}
use Rattle.packet_frame.specs.Decoding.{read_by}
use Rattle.network_config.specs.declared.event.LogEvent.{LogEvent}
use Rattle.node_core_spec.specs.State.{NodeState}
use Rattle.node_core_spec.specs.Counts.{act_sum, act_granted, act_hops, act_evals, act_left, node_live, frame_live}
use Rattle.node_log.specs.Runs.{node_after}
use Rattle.net_world_spec.specs.World.{Cables}
use Rattle.bound_ledger.specs.declared.row.Row.{Row}
use Rattle.ledger_audit.specs.Crossings.{Crossing, Arrival, Over, first_over, crossings, less_each}
use Rattle.ledger_audit.specs.Runs.{accepted_in, sent_in, acts_in}

-- a node at its beginning, and the entries of its log
pub record Logged : Type 0 where
  pub node : NodeState
  pub entries : List LogEvent

-- all that the logs accept, the first one numbered n + 1
abbrev pub all_accepted : Cables → ℕ → List Logged → List Arrival
all_accepted links n [] = []
all_accepted links n (l ∷ ls) = accepted_in links (n + 1) 0 l.node l.entries ++ all_accepted links (n + 1) ls

-- all that they send
abbrev pub all_sent : List Logged → List Crossing
all_sent [] = []
all_sent (l ∷ ls) = sent_in l.node l.entries ++ all_sent ls

-- the first accepted frame that wasn't sent so often
unfoldable pub misfit : Cables → List Logged → Option Over
misfit links ls = first_over (all_sent ls) [] (all_accepted links 0 ls)

-- ---- counts of a family

-- the version of a frame, by how its bytes begin
abbrev pub version_in : List ℕ → Version
version_in bytes = if starts_with nat_eq bytes (codes "PLAN" ++ 2 ∷ []) then Two else One

-- the bound of what was read, where it is a packet of this family
abbrev pub read_live : Family → Result PlainStamped FrameFault → ℕ
read_live f (Ok x) = frame_live f x.frame
read_live f (Err e) = 0

-- the bound of a crossing's packet, where it is one of this family
abbrev pub crossing_live : Family → Crossing → ℕ
crossing_live f c = read_live f (read_by (version_in c.bytes) c.bytes)

-- what it was granted, over the acts of all logs
abbrev pub granted_sum : Family → List Logged → ℕ
granted_sum f ls = sum_by (λ l. act_sum (act_granted f) (acts_in l.node l.entries)) ls

-- the hops that it paid
abbrev pub hops : Family → List Logged → ℕ
hops f ls = sum_by (λ l. act_sum (act_hops f) (acts_in l.node l.entries)) ls

-- the evals that it paid
abbrev pub evals : Family → List Logged → ℕ
evals f ls = sum_by (λ l. act_sum (act_evals f) (acts_in l.node l.entries)) ls

-- what was left of it
abbrev pub left_sum : Family → List Logged → ℕ
left_sum f ls = sum_by (λ l. act_sum (act_left f) (acts_in l.node l.entries)) ls

-- queued at the ends of the logs
abbrev pub queued_sum : Family → List Logged → ℕ
queued_sum f ls = sum_by (λ l. node_live f (node_after l.node l.entries)) ls

-- sent and not accepted
abbrev pub on_the_way : Family → Cables → List Logged → ℕ
on_the_way f links ls = sum_by (crossing_live f) (less_each (crossings (all_accepted links 0 ls)) (all_sent ls))

-- all its counts; what is queued and what is on the way is live
abbrev pub row_of : Family → Cables → List Logged → Row
row_of f links ls = record {
  granted = granted_sum f ls;
  hops = hops f ls;
  evals = evals f ls;
  live = queued_sum f ls + on_the_way f links ls;
  left = left_sum f ls;
}

-- what a family was granted is what it paid, what is live and what was left
abbrev pub AddsUp : Family → Cables → List Logged → Type 0
AddsUp f links ls = granted_sum f ls ≡ hops f ls + evals f ls + (queued_sum f ls + on_the_way f links ls) + left_sum f ls
