use Rattle.std.proofs.Common.{subst}
use Rattle.line_reader.specs.Files.{file_of}
use Rattle.line_reader.specs.Reads.{FileGives}
use Rattle.command_files.specs.declared.port.PortReading.{PortReading}
use Rattle.command_files.specs.PortFiles.{port_format}
use Rattle.command_files.proofs.PortLaws.{port_rules}
use Rattle.command_files.proofs.port_reading.read_port.Goals as goal

pub returns-clause-rules : goal.returns-clause-rules
returns-clause-rules c =
    port_rules c.args.bytes.now c.read_file.result
    (subst (λ (b : PortReading). FileGives (λ s. s) c.read_file.result (file_of port_format b c.args.bytes.now)) c.nothing.ensures c.read_file.ensures)
