use Rattle.std.proofs.Common.{subst}
use Rattle.plan_parser_exprs.specs.Ahead.{Answers}
use Rattle.plan_parser.specs.Programs.{program_of}
use Rattle.plan_parser.proofs.Answered.{answered_found, answered_only, answered_fault}
use Rattle.plan_parser.proofs.FormedPrograms.{draft_formed, draft_placed}
use Rattle.plan_parser.proofs.parsing.parse.Goals as goal

pub returns-clause-found : goal.returns-clause-found
returns-clause-found c = answered_found (program_of c.args.tokens.now c.args.len) c.program_of.result (subst (λ ts. Answers (program_of ts c.args.len) c.program_of.result) c.as_slice.ensures c.program_of.ensures)

pub returns-clause-only : goal.returns-clause-only
returns-clause-only c = answered_only (program_of c.args.tokens.now c.args.len) c.program_of.result (subst (λ ts. Answers (program_of ts c.args.len) c.program_of.result) c.as_slice.ensures c.program_of.ensures)

pub returns-clause-fault : goal.returns-clause-fault
returns-clause-fault c = answered_fault (program_of c.args.tokens.now c.args.len) c.program_of.result (subst (λ ts. Answers (program_of ts c.args.len) c.program_of.result) c.as_slice.ensures c.program_of.ensures)

pub returns-clause-formed : goal.returns-clause-formed
returns-clause-formed c =
    draft_formed c.args.tokens.now c.args.len c.program_of.result c.requires.tokens (subst (λ ts. Answers (program_of ts c.args.len) c.program_of.result) c.as_slice.ensures c.program_of.ensures)

pub returns-clause-placed : goal.returns-clause-placed
returns-clause-placed c =
    draft_placed c.args.tokens.now c.args.len c.program_of.result c.requires.tokens (subst (λ ts. Answers (program_of ts c.args.len) c.program_of.result) c.as_slice.ensures c.program_of.ensures)
