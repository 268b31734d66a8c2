use Rattle.plan_parser_laws.proofs.Nested.{never_token, passed_where_ended, refused_where_unclosed}
use Rattle.plan_parser_laws.proofs.tokens.comments_are_passed.Goals as goal

pub returns : goal.returns
returns c = record { never = never_token; passed = passed_where_ended; refused = refused_where_unclosed }
