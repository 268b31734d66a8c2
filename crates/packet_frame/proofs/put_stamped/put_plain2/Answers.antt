use Rattle.packet_frame.proofs.Sizes.{route_short}
use Rattle.std.proofs.Common.{◌++◌, ◌∙◌, ap, arith}
use Rattle.std.specs.Int.{w32, w64, to_be_bytes}
use Rattle.chunk_codec_spec.specs.Fields.{name_bytes}
use Rattle.chunk_codec_spec.specs.Values.{chunk_bytes}
use Rattle.packet_frame.specs.Stamped.{stamped_head}
use Rattle.packet_frame.proofs.StampedSizes.{packet2_spelled}
use Rattle.packet_frame.proofs.put_stamped.put_plain2.Goals as goal

pub returns : goal.returns
returns c =
    let sizes = c.put_way.ensures.ranges in
    packet2_spelled c.args.s c.args.packet.now c.args.new_bound c.family.result c.dest.result c.route-route.result.now c.spellable-chunk.result.now c.of.result
    c.put_stamped_head.ensures.fits c.requires.plain c.family.ensures c.dest.ensures c.route-route.ensures (c.spellable-chunk.ensures.value ∙ c.chunk.ensures.value)
    sizes.0 sizes.1 sizes.2 c.requires.bound c.as_slice.ensures.name c.spellable-chunk.ensures.fits
    (c.of.ensures ∙ c.into_vec.ensures ∙ c.put_carried.ensures.bytes
    ∙ ap (λ l. l ++ chunk_bytes c.spellable-chunk.result.now) (c.put_name.ensures.bytes
    ∙ ap (λ l. l ++ name_bytes c.route-route.result.now) (c.put_u32.ensures.bytes
    ∙ ap (λ l. l ++ to_be_bytes w32 c.args.new_bound) (c.put_way.ensures.bytes
    ∙ ap (λ l. ((l ++ to_be_bytes w32 c.family.result.source.0) ++ to_be_bytes w64 c.family.result.serial) ++ to_be_bytes w32 c.dest.result.0) (c.put_stamped_head.ensures.bytes
    ∙ ap (λ l. l ++ stamped_head 1 c.args.s) c.in_ok-out.ensures.bytes)))))

pub overflow_cast-size : goal.overflow_cast-size
overflow_cast-size c = grind (arith, route_short)

pub overflow_add-size : goal.overflow_add-size
overflow_add-size c = grind (arith, route_short)

pub overflow_add-size-2 : goal.overflow_add-size-2
overflow_add-size-2 c = grind (arith, route_short)
