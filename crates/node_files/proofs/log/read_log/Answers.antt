use Rattle.std.proofs.Common.{subst}
use Rattle.line_reader.specs.Files.{file_of}
use Rattle.line_reader.specs.Reads.{FileGives}
use Rattle.node_files.specs.declared.log.LogReading.{LogReading}
use Rattle.node_files.specs.Logs.{log_format}
use Rattle.node_files.proofs.LogLaws.{log_rules}
use Rattle.node_files.proofs.log.read_log.Goals as goal

pub returns-clause-rules : goal.returns-clause-rules
returns-clause-rules c =
    log_rules c.args.bytes.now c.read_file.result
    (subst (λ (b : LogReading). FileGives (λ s. s) c.read_file.result (file_of log_format b c.args.bytes.now)) c.nothing.ensures c.read_file.ensures)
