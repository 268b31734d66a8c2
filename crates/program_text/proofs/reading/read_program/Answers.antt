use Rattle.program_text.proofs.Readings.{tokens_say, answer_found, answer_fault, answer_only, refused_all}
use Rattle.program_text.proofs.reading.read_program.Goals as goal

pub returns-clause-found : goal.returns-clause-found
returns-clause-found c = answer_found c.args.text.now c.in_ok-tokens.tokens c.in_ok-tokens.ensures.toks c.program_in.result c.program_in.ensures.found

pub returns-clause-fault : goal.returns-clause-fault
returns-clause-fault c = answer_fault c.args.text.now c.in_ok-tokens.tokens c.in_ok-tokens.ensures.toks c.program_in.result c.program_in.ensures.fault

pub returns-clause-only : goal.returns-clause-only
returns-clause-only c =
    answer_only c.args.text.now c.program_in.result
    (answer_found c.args.text.now c.in_ok-tokens.tokens c.in_ok-tokens.ensures.toks c.program_in.result c.program_in.ensures.found)
    (answer_fault c.args.text.now c.in_ok-tokens.tokens c.in_ok-tokens.ensures.toks c.program_in.result c.program_in.ensures.fault)

pub returns-clause-all : goal.returns-clause-all
returns-clause-all c = λ p s. c.program_in.ensures.all p (tokens_say c.args.text.now c.in_ok-tokens.tokens p c.in_ok-tokens.ensures.toks s)

pub returns-in_err-tokens-clause-all : goal.returns-in_err-tokens-clause-all
returns-in_err-tokens-clause-all c = λ p s. refused_all p c.from_residual.result c.in_err-tokens.field-0.0 c.from_residual.ensures.1 (c.in_err-tokens.ensures.none p s)
