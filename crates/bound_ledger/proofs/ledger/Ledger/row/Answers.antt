use Rattle.std.proofs.Common.{ap, ◌∙◌}
use Rattle.bound_ledger.specs.Rows.{row_of}
use Rattle.bound_ledger.proofs.KeyLaws.{row_is_found, found_balanced}
use Rattle.bound_ledger.proofs.ledger.Ledger.row.Goals as goal

pub returns-clause-row : goal.returns-clause-row
returns-clause-row c =
    row_is_found c.args.f c.of.result c.self.inside.rows.entries c.copied.result c.of.ensures (c.copied.ensures ∙ c.get.ensures.value) ∙ ap (row_of c.args.f) c.self.view_is

pub returns-clause-balanced : goal.returns-clause-balanced
returns-clause-balanced c = found_balanced c.of.result c.self.inside.rows.entries c.copied.result c.self.invariant (c.copied.ensures ∙ c.get.ensures.value)
