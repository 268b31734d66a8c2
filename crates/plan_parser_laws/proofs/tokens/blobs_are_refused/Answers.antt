use Rattle.plan_parser_laws.proofs.Blobs.{blobs}
use Rattle.plan_parser_laws.proofs.tokens.blobs_are_refused.Goals as goal

pub returns : goal.returns
returns c = blobs
