use Rattle.chunk_codec_spec.specs.Programs.{param_bytes}
use Rattle.chunk_codec_spec.specs.Kept.{param_kept}
use Rattle.chunk_codec.proofs.Puts.{written_none, item_kept, item_room, written_more, written_bytes, written_room}
use Rattle.chunk_codec.proofs.write.put_params.Goals as goal

pub loop-p-init : goal.loop-p-init
loop-p-init c = written_none param_bytes param_kept c.args.params.now c.args.out.now.bytes c.args.out.now.room c.requires.kept

pub put_param-requires-clause-kept : goal.put_param-requires-clause-kept
put_param-requires-clause-kept c = item_kept param_bytes param_kept c.args.params.now c.loop-p.p-index c.p-item.result c.loop-p-test.true c.p-item.is c.loop-p.invariant

pub put_param-requires-clause-room : goal.put_param-requires-clause-room
put_param-requires-clause-room c = item_room param_bytes param_kept c.args.params.now c.loop-p.p-index c.p-item.result c.loop-p-test.true c.p-item.is c.requires.room c.loop-p.invariant

pub loop-p-preserved : goal.loop-p-preserved
loop-p-preserved c = written_more param_bytes param_kept c.args.params.now c.loop-p.p-index c.p-item.result c.loop-p-test.true c.p-item.is c.loop-p.invariant c.put_param.ensures.bytes c.put_param.ensures.room

pub returns : goal.returns
returns c = record {
  bytes = written_bytes param_bytes param_kept c.args.params.now c.loop-p.p-index c.loop-p-test.false c.loop-p.invariant;
  room = written_room param_bytes param_kept c.args.params.now c.loop-p.p-index c.loop-p-test.false c.loop-p.invariant;
}
