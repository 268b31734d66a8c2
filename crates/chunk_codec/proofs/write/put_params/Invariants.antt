use Rattle.chunk_codec_spec.specs.Programs.{param_bytes}
use Rattle.chunk_codec_spec.specs.Kept.{param_kept}
use Rattle.chunk_codec.proofs.Puts.{Written}
use Rattle.chunk_codec.proofs.write.put_params.Given as goal

abbrev pub invariant-loop-p : goal.invariant-loop-p
invariant-loop-p l = Written param_bytes param_kept l.params l.p-index l.fn.out.bytes l.fn.out.room l.out.bytes l.out.room
