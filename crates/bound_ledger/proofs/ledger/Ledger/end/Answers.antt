use Rattle.std.proofs.Common.{sym, ap, ◌∙◌, arith}
use Rattle.bound_ledger.specs.Counts.{paid, quit}
use Rattle.bound_ledger.specs.Rows.{changed_rows}
use Rattle.bound_ledger.proofs.RowLaws.{changed_none, changed_twice, counts_some}
use Rattle.bound_ledger.proofs.ledger.Ledger.end.Goals as goal

pub with_evals-ended-requires-clause-live : goal.with_evals-ended-requires-clause-live
with_evals-ended-requires-clause-live c = omega (arith, c.requires.live, ap (λ r. r.live) (counts_some c.args.f c.args.self.now c.in-Some.row (sym c.in-Some.ensures.row)))

pub with_left-requires-clause-live : goal.with_left-requires-clause-live
with_left-requires-clause-live c =
    omega (arith, c.requires.live, ap (λ r. r.live) c.with_evals-ended.ensures.row, ap (λ r. r.live) (counts_some c.args.f c.args.self.now c.in-Some.row (sym c.in-Some.ensures.row)))

pub returns-in_default : goal.returns-in_default
returns-in_default c =
    let none = sym c.in_default.ensures.row in
    c.find.ensures.same
    ∙ sym (ap (changed_rows (quit c.args.left) c.args.f) (changed_none (paid c.args.evals) c.args.f c.args.self.now none) ∙ changed_none (quit c.args.left) c.args.f c.args.self.now none)

pub returns : goal.returns
returns c =
    c.put.ensures (λ r. quit c.args.left (paid c.args.evals r)) c.args.f c.in-Some.row c.in-Some.ensures.place (c.with_left.ensures.row ∙ ap (quit c.args.left) c.with_evals-ended.ensures.row)
    ∙ ap (changed_rows (λ r. quit c.args.left (paid c.args.evals r)) c.args.f) c.find.ensures.same
    ∙ changed_twice (paid c.args.evals) (quit c.args.left) c.args.f c.args.self.now
