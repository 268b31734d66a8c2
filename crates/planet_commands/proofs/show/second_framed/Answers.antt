use Rattle.plan_base.specs.declared.stamp.Version.TheVariants.{Two}
use Rattle.packet_frame.proofs.Versions.{accepted_by}
use Rattle.planet_commands.proofs.ShowLemmas.{second_refused}
use Rattle.planet_commands.proofs.show.second_framed.Goals as goal

pub returns-in-Ok : goal.returns-in-Ok
returns-in-Ok c = accepted_by Two _ _ c.in-Ok.ensures.found

pub returns-in-Err : goal.returns-in-Err
returns-in-Err c = second_refused _ _ _ c.requires c.in-Err.ensures.fault c.from.ensures
