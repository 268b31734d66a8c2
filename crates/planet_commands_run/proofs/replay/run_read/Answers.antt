use Rattle.std.proofs.Common.{map, ap, ◌∙◌}
use Rattle.net_world_spec.specs.World.{opening_services}
use Rattle.planet_commands_run.proofs.replay.run_read.Goals as goal

pub run-requires : goal.run-requires
run-requires g c = record { rules = c.requires; services = c.in-Ok.ensures ∙ ap (map opening_services) c.as_slice.ensures }
