use Rattle.plan_parser_laws.proofs.TokenOwn.{refused_own}
use Rattle.plan_parser_laws.proofs.tokens.token_refusals_hold_no_memory.Goals as goal

pub returns : goal.returns
returns c = refused_own
