use Rattle.std.proofs.Common.{subst}
use Rattle.line_reader.specs.Files.{file_of}
use Rattle.line_reader.specs.Reads.{FileGives}
use Rattle.command_files.specs.declared.audit.AuditReading.{AuditReading}
use Rattle.command_files.specs.AuditFiles.{audit_format}
use Rattle.command_files.proofs.AuditLaws.{audit_rules}
use Rattle.command_files.proofs.audit.read_audit.Goals as goal

pub returns-clause-rules : goal.returns-clause-rules
returns-clause-rules c =
    audit_rules c.args.bytes.now c.read_file.result
    (subst (λ (b : AuditReading). FileGives (λ s. s) c.read_file.result (file_of audit_format b c.args.bytes.now)) c.nothing.ensures c.read_file.ensures)
