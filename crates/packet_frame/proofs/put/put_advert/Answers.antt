use Rattle.std.proofs.Common.{arith}
use Rattle.packet_frame.proofs.Sizes.{spells_advert, rows_size}
use Rattle.packet_frame.proofs.put.put_advert.Goals as goal

pub put_rows-requires : goal.put_rows-requires
put_rows-requires c = grind (arith, spells_advert, rows_size)

pub returns : goal.returns
returns c = grind (arith, spells_advert, rows_size)
