-- The commands in the code, as requests.
use Rattle.std.specs.Prelude.{◌≤◌}
use Rattle.planet_cli.specs.declared.words.Command.{Command}
use Rattle.planet_cli.specs.declared.words.Command.TheVariants.{OnFile, Inject, Fleet, Audit, Node, Grow}
use Rattle.planet_cli.specs.Requests.{Request, on_file, inject, fleet, audit, node, grow}

-- the request that a command stands for
abbrev pub request_for : Command → Request
request_for (OnFile kind file) = on_file kind file.now
request_for (Inject file) = inject file.now
request_for (Fleet file) = fleet file.now
request_for (Audit file) = audit file.now
request_for (Node file turns) = node file.now turns
request_for (Grow seed n) = grow seed n

-- a network grows by at most 50,000 events
abbrev pub command_fits : Command → Type 0
command_fits (Grow seed n) = n ≤ 50000
command_fits _ = Unit {0}
