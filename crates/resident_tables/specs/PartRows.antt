-- The row of parts that are to be put.
use Rattle.service_api.specs.declared.row.Row.{Row}
use Rattle.resident_tables.specs.declared.parts.Parts.{Parts}
use Rattle.resident_tables.specs.Tables.{row_of}

abbrev pub part_row : Parts → Row
part_row p = row_of p.name.now p.key p.ty.now p.value.now p.expiry
