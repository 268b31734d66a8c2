use Rattle.program_text_laws.proofs.TypesRead.{type_takes}
use Rattle.top_laws.proofs.again.printed_type_reads.Goals as goal

pub returns : goal.returns
returns c = λ t most f rest p small room h w. type_takes p most room small f rest h w
