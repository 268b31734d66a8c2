use Rattle.std.proofs.Common.{◌≡◌, ℕ, List, Ok, ap}
use Rattle.plan_base.specs.declared.tree.Program.{Program}
use Rattle.program_text.specs.Texts.{program_of}
use Rattle.planet_commands.specs.Said.{says}
use Rattle.planet_commands.specs.Checks.{program_said, sizes_text, sizes_of}
use Rattle.planet_cli.specs.declared.kinds.Kind.TheVariants.{Check}
use Rattle.planet_cli.proofs.Writing.{text_written}
use Rattle.planet_cli.proofs.command_laws.checked.Goals as goal

sizes_said : (text : List ℕ) (p : Program) → program_of text ≡ Ok p → program_said text ≡ says (sizes_text p)
unfolding program_said
sizes_said text p e = ap sizes_of e

pub returns : goal.returns
returns c file bytes p cause old new n m call seen there e done = text_written Check file bytes (sizes_text p) cause old new n m call seen there (sizes_said bytes p e) done
