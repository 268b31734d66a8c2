use Rattle.std.proofs.Common.{subst}
use Rattle.line_reader.specs.Files.{file_of}
use Rattle.line_reader.specs.Reads.{FileGives}
use Rattle.node_files.specs.declared.config.ConfigReading.{ConfigReading}
use Rattle.node_files.specs.Configs.{config_format}
use Rattle.node_files.proofs.ConfigLaws.{config_rules}
use Rattle.node_files.proofs.config.read_config.Goals as goal

pub returns-clause-rules : goal.returns-clause-rules
returns-clause-rules c =
    config_rules c.args.bytes.now c.read_file.result
    (subst (λ (b : ConfigReading). FileGives (λ s. s) c.read_file.result (file_of config_format b c.args.bytes.now)) c.nothing.ensures c.read_file.ensures)
