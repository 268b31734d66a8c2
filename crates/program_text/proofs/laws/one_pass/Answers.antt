use Rattle.program_text.proofs.Scanning.{has_tokens, is_refused}
use Rattle.program_text.proofs.laws.one_pass.Goals as goal

pub returns-clause-tokens : goal.returns-clause-tokens
returns-clause-tokens c = has_tokens

pub returns-clause-refusal : goal.returns-clause-refusal
returns-clause-refusal c = is_refused
