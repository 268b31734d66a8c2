use Rattle.std.specs.Option.{option_copied}
use Rattle.resident_tables.proofs.Over.{has_found, removed_counts}
use Rattle.resident_tables.proofs.tables.Tables.counts_without.Goals as goal

pub without-requires-clause-counted : goal.without-requires-clause-counted
without-requires-clause-counted g c = has_found (option_copied c.find.result) (g.Q.HasKey.key_of c.args.wanted.now) c.args.self.now.rows c.counts-counts.result c.find.ensures.row c.counts-counts.ensures.counts

pub returns-clause-counts : goal.returns-clause-counts
returns-clause-counts g c =
    (removed_counts (g.Q.HasKey.key_of c.args.wanted.now) c.args.self.now.rows (option_copied c.find.result) c.counts-counts.result c.without.result c.find.ensures.unique c.find.ensures.row
    c.counts-counts.ensures.counts c.counts-counts.ensures.within c.without.ensures).0

pub returns-clause-within : goal.returns-clause-within
returns-clause-within g c =
    (removed_counts (g.Q.HasKey.key_of c.args.wanted.now) c.args.self.now.rows (option_copied c.find.result) c.counts-counts.result c.without.result c.find.ensures.unique c.find.ensures.row
    c.counts-counts.ensures.counts c.counts-counts.ensures.within c.without.ensures).1
