use Rattle.chunk_codec_spec.specs.Programs.{function_bytes}
use Rattle.chunk_codec_spec.specs.Kept.{function_kept}
use Rattle.chunk_codec.proofs.Puts.{Written}
use Rattle.chunk_codec.proofs.write.put_functions.Given as goal

abbrev pub invariant-loop-f : goal.invariant-loop-f
invariant-loop-f l = Written function_bytes function_kept l.functions l.f-index l.fn.out.bytes l.fn.out.room l.out.bytes l.out.room
