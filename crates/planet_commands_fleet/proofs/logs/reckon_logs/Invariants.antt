use Rattle.std.proofs.Common.{◌≡◌}
use Rattle.planet_commands_fleet.proofs.FileTaking.{Along}
use Rattle.planet_commands_fleet.proofs.logs.reckon_logs.Given as goal

abbrev pub invariant-loop-name : goal.invariant-loop-name
invariant-loop-name g l = record {
  number : l.number ≡ l.name-index;
  along : Along l.links l.names l.name-index (g.F.Files.state l.initial.files) (g.F.Files.state l.files) l.reckoning;
}
