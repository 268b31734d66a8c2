use Rattle.std.proofs.Common.{◌++◌, ◌∷◌, [], ◌∙◌, ap}
use Rattle.std.specs.Int.{w32, w64, to_be_bytes}
use Rattle.packet_frame.specs.Bytes.{letters}
use Rattle.packet_frame.proofs.StampedSizes.{head_joined}
use Rattle.packet_frame.proofs.put_stamped.put_stamped_head.Goals as goal

pub returns-clause-bytes : goal.returns-clause-bytes
returns-clause-bytes c =
    c.put_u64-2.ensures.bytes
    ∙ ap (λ l. l ++ to_be_bytes w64 c.args.s.link) (c.put_u64.ensures.bytes
    ∙ ap (λ l. l ++ to_be_bytes w64 c.args.s.boot) (c.put_u8-2.ensures.bytes
    ∙ ap (λ l. l ++ c.args.kind ∷ []) (c.put_u8.ensures.bytes
    ∙ ap (λ l. l ++ 2 ∷ []) c.put_u32.ensures.bytes)))
    ∙ head_joined c.args.out.now.bytes (to_be_bytes w32 letters) (2 ∷ []) (c.args.kind ∷ []) (to_be_bytes w64 c.args.s.boot) (to_be_bytes w64 c.args.s.link)
