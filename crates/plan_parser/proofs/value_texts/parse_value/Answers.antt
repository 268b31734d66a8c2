use Rattle.std.proofs.Common.{sym, ap, ◌∙◌, length}
use Rattle.plan_parser.specs.Values.{value_of}
use Rattle.plan_parser.proofs.Answered.{lex_only, lex_fault, parse_only, parse_fault}
use Rattle.plan_parser.proofs.FormedValues.{value_formed, value_full}
use Rattle.plan_parser.proofs.value_texts.parse_value.Goals as goal

pub returns-in_err-tokens-clause-only : goal.returns-in_err-tokens-clause-only
returns-in_err-tokens-clause-only c = lex_only value_of c.args.text.now c.from_residual.result c.in_err-tokens.field-0.0 c.from_residual.ensures.1 c.in_err-tokens.ensures.fault

pub returns-in_err-tokens-clause-fault : goal.returns-in_err-tokens-clause-fault
returns-in_err-tokens-clause-fault c = lex_fault value_of c.args.text.now c.from_residual.result c.in_err-tokens.field-0.0 c.from_residual.ensures.1 c.in_err-tokens.ensures.fault

pub returns-in_err-value_of-clause-only : goal.returns-in_err-value_of-clause-only
returns-in_err-value_of-clause-only c =
    parse_only value_of c.args.text.now c.from_residual-in_err-value_of.result c.in_err-value_of.field-0.0 c.as_slice.result.now c.in_ok-tokens.tokens c.as_slice.ensures c.in_ok-tokens.ensures.found
    c.from_residual-in_err-value_of.ensures.1 c.in_err-value_of.ensures

pub returns-in_err-value_of-clause-fault : goal.returns-in_err-value_of-clause-fault
returns-in_err-value_of-clause-fault c =
    parse_fault value_of c.args.text.now c.from_residual-in_err-value_of.result c.in_err-value_of.field-0.0 c.as_slice.result.now c.in_ok-tokens.tokens c.as_slice.ensures c.in_ok-tokens.ensures.found
    c.from_residual-in_err-value_of.ensures.1 c.in_err-value_of.ensures

pub returns-clause-formed : goal.returns-clause-formed
returns-clause-formed c =
    value_formed c.in_ok-tokens.tokens (length c.args.text.now) c.in_ok-tokens.ensures.kept c.in_ok-value_of.field-0
    (ap (λ ts. value_of ts (length c.args.text.now)) (sym c.as_slice.ensures) ∙ c.in_ok-value_of.ensures)

pub returns-clause-full : goal.returns-clause-full
returns-clause-full c =
    value_full c.in_ok-tokens.tokens (length c.args.text.now) c.in_ok-tokens.ensures.kept c.in_ok-value_of.field-0
    (ap (λ ts. value_of ts (length c.args.text.now)) (sym c.as_slice.ensures) ∙ c.in_ok-value_of.ensures)
