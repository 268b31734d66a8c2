use Rattle.std.proofs.Common.{ap, ◌∙◌}
use Rattle.std.specs.Option.{option_map}
use Rattle.std.proofs.lemmas.Option.{slice_get_within}
use Rattle.bound_ledger.specs.Keys.{rows_at}
use Rattle.bound_ledger.specs.Rows.{row_of}
use Rattle.bound_ledger.proofs.KeyLaws.{row_balanced}
use Rattle.bound_ledger.proofs.ledger.Ledger.find.Goals as goal

pub returns-in_err-place-clause-row : goal.returns-in_err-place-clause-row
returns-in_err-place-clause-row c = ap (option_map (λ p. p.1)) c.from_residual.ensures ∙ c.in_err-place.ensures.row ∙ ap (row_of c.args.f) c.self.view_is

pub returns-clause-row : goal.returns-clause-row
returns-clause-row c = c.in_ok-place.ensures.row ∙ ap (row_of c.args.f) c.self.view_is

pub returns-clause-fits : goal.returns-clause-fits
returns-clause-fits c = (
  slice_get_within (rows_at c.self.inside.rows.entries) c.in_ok-place.place (c.args.f, c.in_ok-place.row) c.in_ok-place.ensures.place,
  row_balanced c.args.f c.in_ok-place.row c.self.inside.rows.entries c.self.invariant c.in_ok-place.ensures.row,
)
