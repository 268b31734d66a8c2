use Rattle.plan_parser_laws.proofs.Own.{agenda_own}
use Rattle.plan_parser_laws.proofs.grammar.refusals_hold_no_memory.Goals as goal

pub returns : goal.returns
returns c = agenda_own
