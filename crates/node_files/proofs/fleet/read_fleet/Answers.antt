use Rattle.std.proofs.Common.{subst}
use Rattle.line_reader.specs.Files.{file_of}
use Rattle.line_reader.specs.Reads.{FileGives}
use Rattle.node_files.specs.declared.fleet.FleetReading.{FleetReading}
use Rattle.node_files.specs.Fleets.{fleet_format}
use Rattle.node_files.proofs.FleetLaws.{fleet_rules}
use Rattle.node_files.proofs.fleet.read_fleet.Goals as goal

pub returns-clause-rules : goal.returns-clause-rules
returns-clause-rules c =
    fleet_rules c.args.bytes.now c.read_file.result
    (subst (λ (b : FleetReading). FileGives (λ s. s) c.read_file.result (file_of fleet_format b c.args.bytes.now)) c.nothing.ensures c.read_file.ensures)
