use Rattle.std.proofs.Common.{◌≡◌, ap, ◌∙◌, arith, length, rules}
use Rattle.indexmap.specs.IndexMap.{insert_entry}
use Rattle.indexmap.specs.Entry.{map_with_value}
use Rattle.bound_ledger.specs.Rows.{counts_of}
use Rattle.bound_ledger.proofs.KeyLaws.{same_key, counts_at, counts_balanced, row_entered, kept_entered}
use Rattle.bound_ledger.proofs.ledger.Ledger.grant.Goals as goal

pub with_grant-requires-clause-balanced : goal.with_grant-requires-clause-balanced
with_grant-requires-clause-balanced c =
    let counts = counts_at c.args.f c.of.result c.or_insert-row.result.now c.without_counts.result _ c.self.inside.rows.entries c.of.ensures c.in-Ok.ensures.value c.without_counts.ensures.row c.or_insert-row.ensures.value in
    counts_balanced c.args.f c.or_insert-row.result.now c.self.inside.rows.entries c.self.invariant counts

pub with_grant-requires-clause-limit : goal.with_grant-requires-clause-limit
with_grant-requires-clause-limit c =
    let counts = counts_at c.args.f c.of.result c.or_insert-row.result.now c.without_counts.result _ c.self.inside.rows.entries c.of.ensures c.in-Ok.ensures.value c.without_counts.ensures.row c.or_insert-row.ensures.value in
    omega (arith, c.requires.limit, ap (λ r. r.granted) (counts ∙ ap (counts_of c.args.f) c.self.view_is))

pub invariant_of-self-2 : goal.invariant_of-self-2
invariant_of-self-2 c =
    let written : (map_with_value c.in-Ok.entry c.with_grant.result).entries ≡ insert_entry same_key c.self.inside.rows.entries c.of.result c.with_grant.result = c.in-Ok.ensures.update.1 c.with_grant.result in
    kept_entered c.of.result c.with_grant.result c.self.inside.rows.entries _ c.with_grant.ensures.balanced (omega (arith, c.requires.few, ap length c.self.view_is)) c.self.invariant (search (rules, written))

pub returns-clause-ok : goal.returns-clause-ok
returns-clause-ok c =
    let counts = counts_at c.args.f c.of.result c.or_insert-row.result.now c.without_counts.result _ c.self.inside.rows.entries c.of.ensures c.in-Ok.ensures.value c.without_counts.ensures.row c.or_insert-row.ensures.value in
    let written : (map_with_value c.in-Ok.entry c.with_grant.result).entries ≡ insert_entry same_key c.self.inside.rows.entries c.of.result c.with_grant.result = c.in-Ok.ensures.update.1 c.with_grant.result in
    row_entered c.args.f c.args.n c.of.result c.or_insert-row.result.now c.with_grant.result c.self.inside.rows.entries _ c.args.self.now c.self.view_is c.of.ensures c.entry.ensures.unique counts
    c.with_grant.ensures.row (search (rules, written))
