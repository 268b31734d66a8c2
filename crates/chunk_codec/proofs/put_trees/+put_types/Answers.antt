use Rattle.chunk_codec_spec.specs.Types.{type_bytes}
use Rattle.chunk_codec_spec.specs.Kept.{type_kept}
use Rattle.chunk_codec.proofs.Puts.{written_none, written_more, written_bytes, written_room}
use Rattle.chunk_codec.proofs.put_trees.+put_types.Goals as goal

pub put_types-loop-t-init : goal.put_types-loop-t-init
put_types-loop-t-init t c = written_none type_bytes type_kept c.args.types.now c.args.out.now.bytes c.args.out.now.room c.requires.kept

pub put_types-loop-t-preserved : goal.put_types-loop-t-preserved
put_types-loop-t-preserved t c = written_more type_bytes type_kept c.args.types.now c.loop-t.t-index c.t-item.result c.loop-t-test.true c.t-item.is c.loop-t.invariant c.put_ty.ensures.bytes c.put_ty.ensures.room

pub put_types-returns : goal.put_types-returns
put_types-returns t c = record {
  bytes = written_bytes type_bytes type_kept c.args.types.now c.loop-t.t-index c.loop-t-test.false c.loop-t.invariant;
  room = written_room type_bytes type_kept c.args.types.now c.loop-t.t-index c.loop-t-test.false c.loop-t.invariant;
}
