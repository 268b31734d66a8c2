use Rattle.std.proofs.Common.{sym, subst}
use Rattle.chunk_codec_spec.specs.Spelling.{from_front}
use Rattle.packet_frame.specs.declared.kind.Form.{Form}
use Rattle.packet_frame.specs.Forms.{reads}
use Rattle.packet_frame.specs.Versions.{stamped_forms, stamped_of_fields}
use Rattle.packet_frame.specs.Reading.{Gives}
use Rattle.packet_frame.proofs.get_stamped.behind_form.Goals as goal

pub returns-in-Packet : goal.returns-in-Packet
returns-in-Packet c =
    let P : Form → Type 0 = λ k. Gives c.stamped_packet.result c.stamped_packet.new.c (reads (stamped_forms k) (stamped_of_fields k) (from_front c.args.c.now)) in
    subst P (sym c.in-Packet.is) c.stamped_packet.ensures

pub returns-in-Advert : goal.returns-in-Advert
returns-in-Advert c =
    let P : Form → Type 0 = λ k. Gives c.stamped_advert.result c.stamped_advert.new.c (reads (stamped_forms k) (stamped_of_fields k) (from_front c.args.c.now)) in
    subst P (sym c.in-Advert.is) c.stamped_advert.ensures

pub returns-in-Ask : goal.returns-in-Ask
returns-in-Ask c =
    let P : Form → Type 0 = λ k. Gives c.plain_ask.result c.plain_ask.new.c (reads (stamped_forms k) (stamped_of_fields k) (from_front c.args.c.now)) in
    subst P (sym c.in-Ask.is) c.plain_ask.ensures

pub returns-in-Handled : goal.returns-in-Handled
returns-in-Handled c =
    let P : Form → Type 0 = λ k. Gives c.stamped_handled.result c.stamped_handled.new.c (reads (stamped_forms k) (stamped_of_fields k) (from_front c.args.c.now)) in
    subst P (sym c.in-Handled.is) c.stamped_handled.ensures
