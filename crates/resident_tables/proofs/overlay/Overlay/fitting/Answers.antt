use Rattle.std.specs.Option.{option_copied}
use Rattle.service_api.specs.Rows.{row_key}
use Rattle.resident_tables.specs.PartRows.{part_row}
use Rattle.resident_tables.specs.Layers.{over}
use Rattle.resident_tables.proofs.Fits.{fit_is}
use Rattle.resident_tables.proofs.Over.{has_found}
use Rattle.resident_tables.proofs.overlay.Overlay.fitting.Goals as goal

pub with-requires-clause-counted : goal.with-requires-clause-counted
with-requires-clause-counted c = has_found (option_copied c.find.result) (row_key (part_row c.args.parts.now)) (over c.args.base.now.rows c.args.self.now) c.counts-counts.result c.find.ensures.row c.counts-counts.ensures.counts

pub returns-clause-fit : goal.returns-clause-fit
returns-clause-fit c =
    fit_is (part_row c.args.parts.now) (over c.args.base.now.rows c.args.self.now) c.size.result c.size.ensures (option_copied c.find.result) c.counts-counts.result c.with.result c.find.ensures.row
    c.counts-counts.ensures.counts c.with.ensures
