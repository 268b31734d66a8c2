use Rattle.top_laws.proofs.Segments.{lexes_whole}
use Rattle.top_laws.proofs.TypeTokens.{type_part}
use Rattle.top_laws.proofs.printed.printed_type_lexes.Goals as goal

pub returns : goal.returns
returns c = λ t h. lexes_whole (type_part h)
