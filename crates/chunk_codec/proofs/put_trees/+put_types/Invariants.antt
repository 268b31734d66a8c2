use Rattle.chunk_codec_spec.specs.Types.{type_bytes}
use Rattle.chunk_codec_spec.specs.Kept.{type_kept}
use Rattle.chunk_codec.proofs.Puts.{Written}
use Rattle.chunk_codec.proofs.put_trees.+put_types.Given as goal

abbrev pub invariant-put_types-loop-t : goal.invariant-put_types-loop-t
invariant-put_types-loop-t l = Written type_bytes type_kept l.types l.t-index l.fn.out.bytes l.fn.out.room l.out.bytes l.out.room
