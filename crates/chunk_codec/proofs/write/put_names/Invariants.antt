use Rattle.std.proofs.Common.{true}
use Rattle.chunk_codec_spec.specs.Fields.{name_bytes}
use Rattle.chunk_codec.proofs.Puts.{Written}
use Rattle.chunk_codec.proofs.write.put_names.Given as goal

abbrev pub invariant-loop-n : goal.invariant-loop-n
invariant-loop-n l = Written name_bytes (λ _. true) l.names l.n-index l.fn.out.bytes l.fn.out.room l.out.bytes l.out.room
