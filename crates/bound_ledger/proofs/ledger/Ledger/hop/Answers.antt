use Rattle.std.proofs.Common.{sym, ap, ◌∙◌, arith}
use Rattle.bound_ledger.specs.Counts.{hop_paid}
use Rattle.bound_ledger.specs.Rows.{changed_rows}
use Rattle.bound_ledger.proofs.RowLaws.{changed_none, counts_some}
use Rattle.bound_ledger.proofs.ledger.Ledger.hop.Goals as goal

pub with_hop-requires-clause-live : goal.with_hop-requires-clause-live
with_hop-requires-clause-live c = omega (arith, c.requires.live, ap (λ r. r.live) (counts_some c.args.f c.args.self.now c.in-Some.row (sym c.in-Some.ensures.row)))

pub returns-in_default : goal.returns-in_default
returns-in_default c = c.find.ensures.same ∙ sym (changed_none hop_paid c.args.f c.args.self.now (sym c.in_default.ensures.row))

pub returns : goal.returns
returns c = c.put.ensures hop_paid c.args.f c.in-Some.row c.in-Some.ensures.place c.with_hop.ensures.row ∙ ap (changed_rows hop_paid c.args.f) c.find.ensures.same
