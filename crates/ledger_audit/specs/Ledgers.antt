-- What the audit of logs answers.
use Rattle.std.specs.Prelude.{◌+◌, ◌-◌, ◌≤◌, Bool, ◌==◌, List, [], map, Option, Some, None}
use Rattle.std.specs.List.{filter, flat_map}
use Rattle.plan_base.specs.declared.ids.Host.{Host}
use Rattle.plan_base.specs.declared.ids.Family.{Family}
use Rattle.dv_routing.specs.Sorted.{sorted_into}
use Rattle.node_core_spec.specs.declared.acts.Act.{Act}
use Rattle.net_world_spec.specs.World.{Cables}
use Rattle.bound_ledger.specs.declared.row.Row.{Row}
use Rattle.ledger_audit.specs.Crossings.{Over}
use Rattle.ledger_audit.specs.Runs.{acts_in}
use Rattle.ledger_audit.specs.Audits.{Logged, misfit, row_of}
use Rattle.ledger_audit.specs.declared.judging.Over as code
use Rattle.ledger_audit.specs.declared.verdict.Verdict.{Verdict}
use Rattle.ledger_audit.specs.declared.verdict.Verdict.TheVariants.{Yes, No}
use Rattle.ledger_audit.specs.declared.book.Counts.{Counts}
use Rattle.ledger_audit.specs.declared.book.FamilyTotals.{FamilyTotals}
use Rattle.ledger_audit.specs.Books.{counts_in}
use Rattle.ledger_audit.specs.Pasts.{injected_families}

-- the acts of logs, and their hosts, in order
abbrev pub all_acts : List Logged → List Act
all_acts ls = flat_map (λ l. acts_in l.node l.entries) ls

abbrev pub hosts_of : List Logged → List Host
hosts_of ls = map (λ l. l.node.here) ls

abbrev pub is_from : Host → Family → Bool
is_from h f = f.source.0 == h.0

-- families, host by host
abbrev pub by_hosts : List Host → List Family → List Family
by_hosts hosts fs = flat_map (λ h. filter (is_from h) fs) hosts

-- the families of a ledger: those that acts of the logs inject, by host, and under one host in the order of their injections,
-- which is that of their serial numbers
unfoldable pub families_of : List Logged → List Family
families_of ls = by_hosts (sorted_into [] (hosts_of ls)) (injected_families (all_acts ls))

-- the ledger of logs: a row for each of these families
unfoldable pub ledger_of : Cables → List Logged → List (Family × Row)
ledger_of links ls = map (λ f. (f, row_of f links ls)) (families_of ls)

-- no frame that doesn't fit, and the ledger; or the first such frame
abbrev pub verdict_by : Option Over → List (Family × Row) → Verdict
verdict_by None rows = Yes rows
verdict_by (Some o) rows = No o.log o.event o.accepted o.sent

-- what the audit answers
abbrev pub verdict_of : Cables → List Logged → Verdict
verdict_of links ls = verdict_by (misfit links ls) (ledger_of links ls)

-- logs fit
abbrev pub IsYes : Verdict → Type 0
IsYes (Yes rows) = Unit {0}
IsYes _ = ⊥

-- ---- what the code keeps

-- a frame that doesn't fit, in the code
abbrev pub over_in : Option code.Over → Option Over
over_in None = None
over_in (Some o) = Some (record { log = o.log; event = o.event; accepted = o.accepted; sent = o.sent })

-- what a family paid and left is at most what it was granted
abbrev pub Pays : Counts → Type 0
Pays c = c.hops + c.evals + c.left ≤ c.granted

-- the row of counts: what was neither paid nor left is live
abbrev pub counted_row : Counts → Row
counted_row c = record { granted = c.granted; hops = c.hops; evals = c.evals; live = c.granted - (c.hops + c.evals + c.left); left = c.left }

abbrev pub row_in : FamilyTotals → Family → Family × Row
row_in b f = (f, counted_row (counts_in f b))
