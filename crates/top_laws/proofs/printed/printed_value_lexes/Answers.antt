use Rattle.top_laws.proofs.Segments.{lexes_whole}
use Rattle.top_laws.proofs.ValueTokens.{value_part}
use Rattle.top_laws.proofs.printed.printed_value_lexes.Goals as goal

pub returns : goal.returns
returns c = λ v h. lexes_whole (value_part h)
