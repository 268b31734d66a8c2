-- The summary of a growing network.
use Rattle.std.specs.Prelude.{ℕ, ◌+◌, ◌^◌, ◌<◌, List, ◌++◌, length, sum_by, codes}
use Rattle.std.specs.Fmt.{decimal}
use Rattle.plan_base.specs.declared.ids.Host.{Host}
use Rattle.plan_base.specs.declared.tree.Chunk.{Chunk}
use Rattle.bound_ledger.specs.declared.row.Row.{Row}
use Rattle.bound_ledger.specs.Rows.{FamilyRow}
use Rattle.node_core_spec.specs.declared.acts.Act.{Act}
use Rattle.node_core_spec.specs.declared.acts.Act.TheVariants.{Dropped, AdvertDropped}
use Rattle.net_world_spec.specs.declared.lines.Line.{Line}
use Rattle.net_world_spec.specs.declared.lines.Line.TheVariants.{At, Lost}
use Rattle.net_world_spec.specs.declared.lines.Entry.{Entry}
use Rattle.net_world_spec.specs.World.{WorldState, world_after, history_of, opening}
use Rattle.net_world_spec.specs.Counts as count
use Rattle.net_world_spec.specs.Counts.{tally}
use Rattle.net_world_spec.specs.Texts.{families}
use Rattle.net_world_spec.specs.Visits.{line_ends}
use Rattle.grow_run.specs.declared.summary.Summary.{Summary}
use Rattle.grow_run.specs.declared.sums.Totals.{Totals}
use Rattle.grow_run.specs.Grow.{Grow, ring}

-- ---- lines

-- 1 for a packet or an advert that was dropped
abbrev pub act_drops : Act → ℕ
act_drops (Dropped r f bound) = 1
act_drops (AdvertDropped d) = 1
act_drops _ = 0

abbrev pub line_drops : Line → ℕ
line_drops (At h act) = act_drops act
line_drops _ = 0

-- 1 for a frame that was lost
abbrev pub line_lost : Line → ℕ
line_lost (Lost what) = 1
line_lost _ = 0

-- counts with those of one more line
abbrev pub with_line : Line → Summary → Summary
with_line l s = record { lines = s.lines + 1; visits = s.visits + line_ends l; drops = s.drops + line_drops l; lost = s.lost + line_lost l }

-- each count stays below 2^128 with n more
abbrev pub HasRoom : ℕ → Summary → Type 0
HasRoom n s = (s.lines + n < 2 ^ 128) × (s.visits + n < 2 ^ 128) × (s.drops + n < 2 ^ 128) × (s.lost + n < 2 ^ 128)

-- the counts of a history
unfoldable pub summary_of : List Entry → Summary
summary_of h = record {
  lines = length h;
  visits = tally line_ends h;
  drops = tally line_drops h;
  lost = tally line_lost h;
}

-- ---- all families

-- sums with those of one more row
abbrev pub plus : Totals → Row → Totals
plus a b = record { granted = a.granted + b.granted; hops = a.hops + b.hops; evals = a.evals + b.evals; live = a.live + b.live; left = a.left + b.left }

-- each sum stays below 2^128 with n more
abbrev pub SumsHaveRoom : ℕ → Totals → Type 0
SumsHaveRoom n s = (s.granted + n < 2 ^ 128) × (s.hops + n < 2 ^ 128) × (s.evals + n < 2 ^ 128) × (s.live + n < 2 ^ 128) × (s.left + n < 2 ^ 128)

-- the sums of the counts of all rows
unfoldable pub row_sums : List FamilyRow → Totals
row_sums rows = record {
  granted = sum_by (λ e. e.1.granted) rows;
  hops = sum_by (λ e. e.1.hops) rows;
  evals = sum_by (λ e. e.1.evals) rows;
  live = sum_by (λ e. e.1.live) rows;
  left = sum_by (λ e. e.1.left) rows;
}

-- the sums of the counts of all families of a history, and of what they have in a network
unfoldable pub all_sums : List Entry → WorldState → Totals
all_sums h w = record {
  granted = sum_by (λ f. count.granted_sum f h) (families h);
  hops = sum_by (λ f. count.hops f h) (families h);
  evals = sum_by (λ f. count.evals f h) (families h);
  live = sum_by (λ f. count.live f w) (families h);
  left = sum_by (λ f. count.left_sum f h) (families h);
}

-- ---- texts

-- what was asked
abbrev pub asked_text : ℕ → ℕ → List ℕ
asked_text seed n = (codes "planet grow " ++ decimal seed) ++ ((codes " " ++ decimal n) ++ codes "\n")

-- how large the network is, and how many events it has
abbrev pub size_text : ℕ → List ℕ
size_text n = (codes "hosts 8 links 8 events " ++ decimal n) ++ codes "\n"

-- what happened
abbrev pub happened_text : Summary → List ℕ
happened_text s =
    (codes "lines " ++ decimal s.lines)
    ++ ((codes "\nvisits " ++ decimal s.visits) ++
    ((codes " drops " ++ decimal s.drops) ++ ((codes " lost " ++ decimal s.lost) ++ codes "\n")))

-- what the families were granted, paid, have and left
abbrev pub sums_text : Totals → List ℕ
sums_text r =
    (codes "granted " ++ decimal r.granted)
    ++ ((codes " hops " ++ decimal r.hops) ++
    ((codes " evals " ++ decimal r.evals) ++
    ((codes " live " ++ decimal r.live) ++ ((codes " left " ++ decimal r.left) ++ codes "\n"))))

-- a summary
unfoldable pub summary_text : ℕ → ℕ → Summary → Totals → List ℕ
summary_text seed n s r = asked_text seed n ++ (size_text n ++ (happened_text s ++ (sums_text r ++ codes "end\n")))

-- the summary of a history
unfoldable pub grown_text : ℕ → ℕ → List Entry → WorldState → List ℕ
grown_text seed n h w = summary_text seed n (summary_of h) (all_sums h w)

-- what a seed and a number of events give
unfoldable pub GrowText : (Host → Host → Chunk) → ℕ → ℕ → List ℕ
GrowText ping seed n = grown_text seed n (history_of (Grow ping seed n) (opening ring)) (world_after (Grow ping seed n) (opening ring))
