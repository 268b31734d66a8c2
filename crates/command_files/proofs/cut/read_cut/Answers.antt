use Rattle.std.proofs.Common.{subst}
use Rattle.line_reader.specs.Files.{file_of}
use Rattle.line_reader.specs.Reads.{FileGives}
use Rattle.command_files.specs.declared.cut.CutReading.{CutReading}
use Rattle.command_files.specs.Cuts.{cut_format}
use Rattle.command_files.proofs.CutLaws.{cut_rules}
use Rattle.command_files.proofs.cut.read_cut.Goals as goal

pub returns-clause-rules : goal.returns-clause-rules
returns-clause-rules c =
    cut_rules c.args.bytes.now c.read_file.result
    (subst (λ (b : CutReading). FileGives (λ s. s) c.read_file.result (file_of cut_format b c.args.bytes.now)) c.nothing.ensures c.read_file.ensures)
