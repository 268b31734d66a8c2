use Rattle.chunk_codec_spec.specs.Values.{value_bytes}
use Rattle.chunk_codec_spec.specs.Kept.{value_kept}
use Rattle.chunk_codec.proofs.Puts.{Written}
use Rattle.chunk_codec.proofs.write.+put_values.Given as goal

abbrev pub invariant-put_values-loop-v : goal.invariant-put_values-loop-v
invariant-put_values-loop-v l = Written value_bytes value_kept l.values l.v-index l.fn.out.bytes l.fn.out.room l.out.bytes l.out.room
