use Rattle.std.proofs.Common.{arith}
use Rattle.program_text_laws.proofs.Forms.{level_took}
use Rattle.program_text_laws.proofs.ExprsRead.{expr_read}
use Rattle.top_laws.proofs.again.printed_expr_reads.Goals as goal

pub returns : goal.returns
returns c = λ e most level f rest p small room h w. level_took e (expr_read p small) most (omega (arith, small, room)) level f rest h w
