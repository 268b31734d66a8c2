use Rattle.std.proofs.Common.{true, ℕ, List}
use Rattle.chunk_codec_spec.specs.Fields.{name_bytes}
use Rattle.chunk_codec.proofs.Puts.{written_none, item_room, written_more, written_bytes, written_room, all_true}
use Rattle.chunk_codec.proofs.write.put_names.Goals as goal

pub loop-n-init : goal.loop-n-init
loop-n-init c = written_none name_bytes (λ _. true) c.args.names.now c.args.out.now.bytes c.args.out.now.room (all_true {X = List ℕ} c.args.names.now)

pub put_name-requires : goal.put_name-requires
put_name-requires c = item_room name_bytes (λ _. true) c.args.names.now c.loop-n.n-index c.n-item.result c.loop-n-test.true c.n-item.is c.requires c.loop-n.invariant

pub loop-n-preserved : goal.loop-n-preserved
loop-n-preserved c = written_more name_bytes (λ _. true) c.args.names.now c.loop-n.n-index c.n-item.result c.loop-n-test.true c.n-item.is c.loop-n.invariant c.put_name.ensures.bytes c.put_name.ensures.room

pub returns : goal.returns
returns c = record {
  bytes = written_bytes name_bytes (λ _. true) c.args.names.now c.loop-n.n-index c.loop-n-test.false c.loop-n.invariant;
  room = written_room name_bytes (λ _. true) c.args.names.now c.loop-n.n-index c.loop-n-test.false c.loop-n.invariant;
}
