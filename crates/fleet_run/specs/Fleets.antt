-- A fleet: the words of its starts, the lines of its statuses, how it ends, and what stands after each answer.
use Rattle.std.specs.Prelude.{ℕ, ◌==◌, if◌then◌else◌, List, [], ◌∷◌, ◌++◌, map}
use Rattle.std.specs.Fmt.{decimal}
use lib.Chars.{codes}
use Rattle.plan_base.specs.declared.ids.Host.{Host}
use Rattle.network_config.specs.declared.fleet.Kid.{Kid}
use Rattle.network_config.specs.declared.fleet.Kid.TheVariants.{Node, Ask}
use Rattle.node_io.specs.Spawners.{Words}
use Rattle.fleet_run.specs.declared.reports.FleetEnd.{FleetEnd}
use Rattle.fleet_run.specs.declared.reports.FleetEnd.TheVariants.{Well, Failed}

-- ---- children

-- the words with which a child is started
abbrev pub kid_words : Kid → Words
kid_words (Node host file turns) = codes "node" ∷ file ∷ decimal turns ∷ []
kid_words (Ask host file) = codes "inject" ∷ file ∷ []

abbrev pub kid_host : Kid → Host
kid_host (Node host file turns) = host
kid_host (Ask host file) = host

-- the line of a child that ended with a status
abbrev pub kid_line : Kid → ℕ → List ℕ
kid_line (Node host file turns) status = codes "node @" ++ (decimal host.0 ++ (codes " status " ++ (decimal status ++ codes "\n")))
kid_line (Ask host file) status = codes "ask @" ++ (decimal host.0 ++ (codes " status " ++ (decimal status ++ codes "\n")))

-- ---- fleets

-- the starts of all children, in order
abbrev pub fleet_starts : List Kid → List Words
fleet_starts kids = map kid_words kids

-- the lines of the first children, as many as there are statuses
unfoldable pub fleet_text : List Kid → List ℕ → List ℕ
fleet_text [] statuses = []
fleet_text (kid ∷ kids) [] = []
fleet_text (kid ∷ kids) (status ∷ statuses) = kid_line kid status ++ fleet_text kids statuses

-- how a fleet ends: by the first child whose status isn't 0
unfoldable pub fleet_end : List Kid → List ℕ → FleetEnd
fleet_end [] statuses = Well
fleet_end (kid ∷ kids) [] = Well
fleet_end (kid ∷ kids) (status ∷ statuses) = if status == 0 then fleet_end kids statuses else Failed (kid_host kid) status
