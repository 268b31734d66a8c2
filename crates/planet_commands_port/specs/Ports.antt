-- The command `port`: what its file says to it.
use Rattle.std.specs.Prelude.{ℕ, List}
use Rattle.planet_commands.specs.Said.{Said, says, said_by, said_then}
use Rattle.command_files.specs.PortFiles.{port_of}
use Rattle.reliable_ports_world.specs.Texts.{port_output}

-- what the two ends do that bytes say, or their first refusal
abbrev pub ends_said : List ℕ → Said (List ℕ)
ends_said bytes = said_then (said_by (port_of bytes)) (λ p. says (port_output p))
