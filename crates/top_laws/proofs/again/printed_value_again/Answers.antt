use Rattle.std.proofs.Common.{length}
use Rattle.plan_printer_spec.specs.Printed.{value_text}
use Rattle.top_laws.proofs.Segments.{lexes_whole}
use Rattle.top_laws.proofs.ValueTokens.{value_part}
use Rattle.top_laws.proofs.ValuesRead.{value_again}
use Rattle.top_laws.proofs.again.printed_value_again.Goals as goal

pub returns : goal.returns
returns c = λ v t h r. let l = lexes_whole (value_part h) 0 in record { tokens = l.0; toks = l.1; read = value_again v t l.0 (length (value_text v)) r l.2 }
