use Rattle.chunk_codec_spec.specs.Programs.{service_bytes}
use Rattle.chunk_codec_spec.specs.Kept.{service_kept}
use Rattle.chunk_codec.proofs.Puts.{Written}
use Rattle.chunk_codec.proofs.write.put_services.Given as goal

abbrev pub invariant-loop-s : goal.invariant-loop-s
invariant-loop-s l = Written service_bytes service_kept l.services l.s-index l.fn.out.bytes l.fn.out.room l.out.bytes l.out.room
