use Rattle.std.proofs.Common.{subst}
use Rattle.line_reader.specs.Files.{file_of}
use Rattle.line_reader.specs.Reads.{FileGives}
use Rattle.node_files.specs.declared.ask.AskReading.{AskReading}
use Rattle.node_files.specs.Asks.{ask_format}
use Rattle.node_files.proofs.AskLaws.{ask_rules}
use Rattle.node_files.proofs.ask.read_ask.Goals as goal

pub returns-clause-rules : goal.returns-clause-rules
returns-clause-rules c =
    ask_rules c.args.bytes.now c.read_file.result
    (subst (λ (b : AskReading). FileGives (λ s. s) c.read_file.result (file_of ask_format b c.args.bytes.now)) c.nothing.ensures c.read_file.ensures)
