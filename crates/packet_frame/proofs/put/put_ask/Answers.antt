use Rattle.std.proofs.Common.{◌++◌, ◌∙◌, ap}
use Rattle.std.specs.Int.{w32, to_be_bytes}
use Rattle.chunk_codec_spec.specs.Values.{chunk_bytes}
use Rattle.packet_frame.specs.Bytes.{head_bytes}
use Rattle.packet_frame.proofs.Sizes.{ask_spelled}
use Rattle.packet_frame.proofs.put.put_ask.Goals as goal

pub returns : goal.returns
returns c =
    ask_spelled c.args.bound c.args.c.now c.spellable-chunk.result.now c.of.result c.spellable-chunk.ensures.value c.requires c.spellable-chunk.ensures.fits
    (c.of.ensures ∙ c.into_vec.ensures ∙ c.put_carried.ensures.bytes
    ∙ ap (λ l. l ++ chunk_bytes c.spellable-chunk.result.now) (c.put_u32.ensures.bytes
    ∙ ap (λ l. l ++ to_be_bytes w32 c.args.bound) (c.put_head.ensures.bytes
    ∙ ap (λ l. l ++ head_bytes 3) c.in_ok-out.ensures.bytes)))
