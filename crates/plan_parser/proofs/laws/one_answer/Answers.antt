use Rattle.std.proofs.Common.{◌≡◌, Result, Ok, Err, ◌⊎◌, inl, inr, refl}
use Rattle.plan_base.specs.declared.tree.Draft.{Draft}
use Rattle.plan_parser_exprs.specs.declared.fault.ParseFault.{ParseFault}
use Rattle.plan_parser.specs.Programs.{program_of}
use Rattle.plan_parser.proofs.laws.one_answer.Goals as goal

by_result : (r : Result Draft ParseFault) → ((d : Draft) × (r ≡ Ok d)) ⊎ ((e : ParseFault) × (r ≡ Err e))
by_result (Ok d) = inl (d, refl)
by_result (Err e) = inr (e, refl)

pub returns-clause-some : goal.returns-clause-some
returns-clause-some c tokens end = by_result (program_of tokens end)
