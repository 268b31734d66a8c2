use Rattle.packet_frame.specs.declared.frame.PlainFrame.{PlainFrame}
use Rattle.packet_frame.proofs.Reading.{none_accepted}
use Rattle.packet_frame.proofs.spelled.advert_bytes.Goals as goal

pub returns-in-None : goal.returns-in-None
returns-in-None c = none_accepted c.args.mark (PlainFrame.Advert c.args.advert.now) c.put_advert.result c.in-None.is tt c.put_advert.ensures
