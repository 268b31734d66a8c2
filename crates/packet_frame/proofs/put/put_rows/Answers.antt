use Rattle.std.proofs.Common.{true}
use Rattle.service_api.specs.declared.advert.AdvertRow.{AdvertRow}
use Rattle.packet_frame.specs.Bytes.{row_bytes}
use Rattle.chunk_codec.proofs.Puts.{written_none, written_bytes, written_room, all_true}
use Rattle.packet_frame.proofs.Sizes.{row_room}
use Rattle.packet_frame.proofs.put.put_rows.Goals as goal

pub loop-r-init : goal.loop-r-init
loop-r-init c = written_none row_bytes (λ _. true) c.args.rows.now c.args.out.now.bytes c.args.out.now.room (all_true {X = AdvertRow} c.args.rows.now)

pub put_row-requires : goal.put_row-requires
put_row-requires c = row_room c.args.rows.now c.loop-r.r-index c.loop-r-test.true c.requires c.loop-r.invariant

pub returns : goal.returns
returns c = record {
  bytes = written_bytes row_bytes (λ _. true) c.args.rows.now c.loop-r.r-index c.loop-r-test.false c.loop-r.invariant;
  room = written_room row_bytes (λ _. true) c.args.rows.now c.loop-r.r-index c.loop-r-test.false c.loop-r.invariant;
}
