-- A call, with its notes.
use Rattle.std.specs.Prelude.{Option}
use Rattle.node_io.specs.Outsides.{Outside}
use Rattle.node_io.specs.Sinks.{SinkState}
use Rattle.planet_commands.specs.Notes.{Notes}
use Rattle.planet_commands.specs.declared.status.Cause.{Cause}
use Rattle.planet_cli.specs.Requests.{Request}
use Rattle.planet_cli.specs.Does.{Does}

-- what the words of a call ask for was done, ending for some cause, and the notes say it
pub record Calls (request : Option Request) (cause : Cause) (old new : Outside) (notes_old notes_new : SinkState) : Type 0 where
  pub found : Cause
  pub does : Does request found old new
  pub notes : Notes found notes_old notes_new cause
