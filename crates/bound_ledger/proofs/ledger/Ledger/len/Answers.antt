use Rattle.std.proofs.Common.{sym, ap, ◌∙◌, subst, length}
use Rattle.bound_ledger.specs.Rows.{OneEach}
use Rattle.bound_ledger.proofs.KeyLaws.{once, length_at}
use Rattle.bound_ledger.proofs.ledger.Ledger.len.Goals as goal

pub returns-clause-len : goal.returns-clause-len
returns-clause-len c = c.len.ensures.len ∙ sym (length_at c.self.inside.rows.entries) ∙ ap length c.self.view_is

pub returns-clause-once : goal.returns-clause-once
returns-clause-once c = subst OneEach c.self.view_is (once c.self.inside.rows.entries c.len.ensures.unique)
