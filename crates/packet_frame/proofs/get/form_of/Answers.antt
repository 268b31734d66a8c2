use Rattle.std.proofs.Common.{sym, subst}
use Rattle.chunk_codec_spec.specs.Spelling.{from_front}
use Rattle.packet_frame.specs.declared.kind.Kind.{Kind}
use Rattle.packet_frame.specs.Forms.{reads, forms, frame_of_fields}
use Rattle.packet_frame.specs.Reading.{Gives}
use Rattle.packet_frame.proofs.get.form_of.Goals as goal

pub returns-in-Packet : goal.returns-in-Packet
returns-in-Packet c =
    let P : Kind → Type 0 = λ k. Gives c.packet_of.result c.packet_of.new.c (reads (forms k) (frame_of_fields k) (from_front c.args.c.now)) in
    subst P (sym c.in-Packet.is) c.packet_of.ensures

pub returns-in-Advert : goal.returns-in-Advert
returns-in-Advert c =
    let P : Kind → Type 0 = λ k. Gives c.advert_of.result c.advert_of.new.c (reads (forms k) (frame_of_fields k) (from_front c.args.c.now)) in
    subst P (sym c.in-Advert.is) c.advert_of.ensures

pub returns-in-Ask : goal.returns-in-Ask
returns-in-Ask c =
    let P : Kind → Type 0 = λ k. Gives c.ask_of.result c.ask_of.new.c (reads (forms k) (frame_of_fields k) (from_front c.args.c.now)) in
    subst P (sym c.in-Ask.is) c.ask_of.ensures
