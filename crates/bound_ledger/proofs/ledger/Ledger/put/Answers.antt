use Rattle.std.proofs.Common.{ap, ◌∙◌, arith, length, slice_get}
use Rattle.bound_ledger.specs.Rows.{changed_rows}
use Rattle.bound_ledger.proofs.KeyLaws.{length_at, row_put, kept_at}
use Rattle.bound_ledger.proofs.ledger.Ledger.put.Goals as goal

pub pair_mut-old-requires : goal.pair_mut-old-requires
pair_mut-old-requires c = omega (arith, c.requires.within, length_at c.self.inside.rows.entries, ap length c.self.view_is)

pub invariant_of-self : goal.invariant_of-self
invariant_of-self c = kept_at c.self.inside.rows.entries c.args.place c.args.row c.requires.balanced c.self.invariant

pub returns : goal.returns
returns c = λ move f v h m.
    row_put move f v c.args.row c.self.inside.rows.entries c.args.place c.pair_mut-old.ensures.unique (ap (λ rows. slice_get rows c.args.place) c.self.view_is ∙ h) m
    ∙ ap (changed_rows move f) c.self.view_is
