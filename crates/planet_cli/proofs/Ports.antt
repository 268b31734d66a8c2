-- A run of two ends that is done wrote its output, and what a file says of two ends keeps their purses.
use Rattle.std.proofs.Common.{◌≡◌, ℕ, List, Ok, ap, subst}
use Rattle.node_io.specs.Outsides.{Outside}
use Rattle.node_io.specs.Sinks.{SinkState, Writes}
use Rattle.planet_commands.specs.declared.status.Cause.{Cause}
use Rattle.planet_commands.specs.declared.status.Cause.TheVariants.{Done}
use Rattle.planet_commands.specs.Said.{says, said_by, said_then}
use Rattle.command_files.specs.declared.port.PortFile.{PortFile}
use Rattle.command_files.specs.PortFiles.{port_of}
use Rattle.command_files.proofs.PortLaws.{port_keeps}
use Rattle.reliable_ports_world.specs.Texts.{port_output}
use Rattle.reliable_ports_world.specs.Keeping.{KeepsPurses}
use Rattle.reliable_ports_world.proofs.Promises.{keeps_purses}
use Rattle.planet_cli.specs.declared.kinds.Kind.TheVariants.{Port}
use Rattle.planet_cli.specs.Requests.{request_of}
use Rattle.planet_cli.specs.Calls.{Calls}
use Rattle.planet_cli.specs.PortCalls.{RunsPorts}
use Rattle.planet_cli.proofs.Writing.{text_written}

pub ports_write : (words : List (List ℕ)) (cause : Cause) (old new : Outside) (n m : SinkState) → Calls (request_of words) cause old new n m → (p : PortFile) → RunsPorts words old.files p
    → cause ≡ Done → Writes old.out new.out (port_output p)
ports_write words cause old new n m call p r done =
    text_written Port r.file r.bytes (port_output p) cause old new n m (subst (λ q. Calls q cause old new n m) r.asked call) r.seen r.there (ap (λ r. said_then (said_by r) (λ x. says (port_output x))) r.says) done

pub ports_pay : (bytes : List ℕ) (p : PortFile) → port_of bytes ≡ Ok p → KeepsPurses p
ports_pay bytes p e = keeps_purses p (port_keeps bytes p e)
