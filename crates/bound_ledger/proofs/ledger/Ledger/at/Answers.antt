use Rattle.std.proofs.Common.{◌≡◌, Some, List, sym, ap, subst, arith, length, slice_get, true≢false}
use Rattle.bound_ledger.specs.Rows.{FamilyRow}
use Rattle.bound_ledger.proofs.KeyLaws.{length_at, row_placed, placed_balanced}
use Rattle.bound_ledger.proofs.ledger.Ledger.at.Goals as goal

pub unreachable-requires : goal.unreachable-requires
unreachable-requires c = true≢false (sym (c.in_default.ensures.found.1 (omega (arith, c.requires, length_at c.self.inside.rows.entries, ap length c.self.view_is))))

pub returns-clause-row : goal.returns-clause-row
returns-clause-row c =
    let P : List FamilyRow → Type 0 = λ rows. slice_get rows c.args.i ≡ Some (c.family.result, c.in-Some.row.now) in
    subst P c.self.view_is (row_placed c.self.inside.rows.entries c.args.i c.in-Some.key.now c.in-Some.row.now c.family.result c.in-Some.ensures.entry c.family.ensures)

pub returns-clause-balanced : goal.returns-clause-balanced
returns-clause-balanced c = placed_balanced c.self.inside.rows.entries c.args.i c.in-Some.key.now c.in-Some.row.now c.self.invariant c.in-Some.ensures.entry
