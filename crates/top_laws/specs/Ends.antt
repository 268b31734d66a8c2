-- The lines in which visits end.
use Rattle.std.specs.Prelude.{Bool, ◌==◌}
use Rattle.node_core_spec.specs.declared.acts.Act.{Act}
use Rattle.node_core_spec.specs.declared.acts.Act.TheVariants.{Ended}
use Rattle.node_core_spec.specs.Visits.{settled_at}
use Rattle.net_world_spec.specs.declared.lines.Line.{Line}
use Rattle.net_world_spec.specs.declared.lines.Line.TheVariants.{At}
use Rattle.net_world_spec.specs.Visits.{Visiting, line_ends}

-- whether a line counts as the end of a visit
abbrev pub is_end : Line → Bool
is_end line = line_ends line == 1

-- the act in which a visit ends: with the packet's family, and what the settled visit gave, paid and left
abbrev pub ended_act : Visiting → Act
ended_act v = Ended v.packet.family (settled_at v.node v.packet).visit.outcome (settled_at v.node v.packet).visit.evals (settled_at v.node v.packet).visit.left

-- its line, at the node's host
abbrev pub ended_line : Visiting → Line
ended_line v = At v.node.here (ended_act v)
