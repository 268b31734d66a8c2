use Rattle.std.specs.Option.{option_copied}
use Rattle.service_api.specs.Rows.{row_key}
use Rattle.resident_tables.specs.PartRows.{part_row}
use Rattle.resident_tables.proofs.Fits.{fit_is}
use Rattle.resident_tables.proofs.Over.{has_found}
use Rattle.resident_tables.proofs.tables.Tables.fitting.Goals as goal

pub with-requires-clause-counted : goal.with-requires-clause-counted
with-requires-clause-counted c = has_found (option_copied c.find.result) (row_key (part_row c.args.parts.now)) c.args.self.now.rows c.counts-counts.result c.find.ensures.row c.counts-counts.ensures.counts

pub returns : goal.returns
returns c = fit_is (part_row c.args.parts.now) c.args.self.now.rows c.size.result c.size.ensures (option_copied c.find.result) c.counts-counts.result c.with.result c.find.ensures.row c.counts-counts.ensures.counts c.with.ensures
