use Rattle.chunk_codec_spec.specs.Programs.{function_bytes}
use Rattle.chunk_codec_spec.specs.Kept.{function_kept}
use Rattle.chunk_codec.proofs.Puts.{written_none, item_kept, item_room, written_more, written_bytes, written_room}
use Rattle.chunk_codec.proofs.write.put_functions.Goals as goal

pub loop-f-init : goal.loop-f-init
loop-f-init c = written_none function_bytes function_kept c.args.functions.now c.args.out.now.bytes c.args.out.now.room c.requires.kept

pub put_function-requires-clause-kept : goal.put_function-requires-clause-kept
put_function-requires-clause-kept c = item_kept function_bytes function_kept c.args.functions.now c.loop-f.f-index c.f-item.result c.loop-f-test.true c.f-item.is c.loop-f.invariant

pub put_function-requires-clause-room : goal.put_function-requires-clause-room
put_function-requires-clause-room c = item_room function_bytes function_kept c.args.functions.now c.loop-f.f-index c.f-item.result c.loop-f-test.true c.f-item.is c.requires.room c.loop-f.invariant

pub loop-f-preserved : goal.loop-f-preserved
loop-f-preserved c = written_more function_bytes function_kept c.args.functions.now c.loop-f.f-index c.f-item.result c.loop-f-test.true c.f-item.is c.loop-f.invariant c.put_function.ensures.bytes c.put_function.ensures.room

pub returns : goal.returns
returns c = record {
  bytes = written_bytes function_bytes function_kept c.args.functions.now c.loop-f.f-index c.loop-f-test.false c.loop-f.invariant;
  room = written_room function_bytes function_kept c.args.functions.now c.loop-f.f-index c.loop-f-test.false c.loop-f.invariant;
}
