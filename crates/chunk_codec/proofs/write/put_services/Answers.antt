use Rattle.chunk_codec_spec.specs.Programs.{service_bytes}
use Rattle.chunk_codec_spec.specs.Kept.{service_kept}
use Rattle.chunk_codec.proofs.Puts.{written_none, item_kept, item_room, written_more, written_bytes, written_room}
use Rattle.chunk_codec.proofs.write.put_services.Goals as goal

pub loop-s-init : goal.loop-s-init
loop-s-init c = written_none service_bytes service_kept c.args.services.now c.args.out.now.bytes c.args.out.now.room c.requires.kept

pub put_service-requires-clause-kept : goal.put_service-requires-clause-kept
put_service-requires-clause-kept c = item_kept service_bytes service_kept c.args.services.now c.loop-s.s-index c.s-item.result c.loop-s-test.true c.s-item.is c.loop-s.invariant

pub put_service-requires-clause-room : goal.put_service-requires-clause-room
put_service-requires-clause-room c = item_room service_bytes service_kept c.args.services.now c.loop-s.s-index c.s-item.result c.loop-s-test.true c.s-item.is c.requires.room c.loop-s.invariant

pub loop-s-preserved : goal.loop-s-preserved
loop-s-preserved c = written_more service_bytes service_kept c.args.services.now c.loop-s.s-index c.s-item.result c.loop-s-test.true c.s-item.is c.loop-s.invariant c.put_service.ensures.bytes c.put_service.ensures.room

pub returns : goal.returns
returns c = record {
  bytes = written_bytes service_bytes service_kept c.args.services.now c.loop-s.s-index c.loop-s-test.false c.loop-s.invariant;
  room = written_room service_bytes service_kept c.args.services.now c.loop-s.s-index c.loop-s-test.false c.loop-s.invariant;
}
