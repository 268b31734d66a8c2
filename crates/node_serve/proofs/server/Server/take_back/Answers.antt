use Rattle.std.proofs.Common.{sym, subst, IsTrue}
use Rattle.node_serve.proofs.Joining.{no_link}
use Rattle.node_serve.proofs.Taking.{back_lost, back_comes, back_stops}
use Rattle.node_serve.proofs.server.Server.take_back.Goals as goal

pub returns-in-Ok-Lost : goal.returns-in-Ok-Lost
returns-in-Ok-Lost g c = λ l. back_lost g.S.Services.stands c.args.cfg.now c.args.self.now c.take_frame.new.self _ _ c.in-Ok-Lost.field-0 tt c.in-Ok-Lost.field-0-is (c.in-Ok-Lost.ensures l)

pub returns-in-Ok-Took : goal.returns-in-Ok-Took
returns-in-Ok-Took g c = λ l. back_comes g.S.Services.stands c.args.cfg.now c.args.self.now c.take_frame.new.self _ _ c.in-Ok-Took.field-0 c.in-Ok-Took.frame c.come_back.new.self _ c.come_back.result c.in-Ok-Took.field-0-is
    (c.in-Ok-Took.ensures l) (c.come_back.ensures l)

pub returns-in-Err : goal.returns-in-Err
returns-in-Err g c = λ l. back_stops g.S.Services.stands c.args.cfg.now c.args.self.now c.take_frame.new.self _ _ c.in-Err.fault (c.in-Err.ensures l)

pub come_back-requires : goal.come_back-requires
come_back-requires g c = subst IsTrue (sym (c.in-Ok-Took.ensures no_link).keeps.writing) c.requires
