use Rattle.std.proofs.Common.{arith}
use Rattle.packet_frame.proofs.StampedSizes.{spells_advert2}
use Rattle.packet_frame.proofs.Sizes.{rows_size}
use Rattle.packet_frame.proofs.put_stamped.put_advert2.Goals as goal

pub put_rows-requires : goal.put_rows-requires
put_rows-requires c = grind (arith, spells_advert2, rows_size)

pub returns : goal.returns
returns c = grind (arith, spells_advert2, rows_size)
