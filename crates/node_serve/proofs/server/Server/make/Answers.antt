use Rattle.std.proofs.Common.{refl}
use Rattle.node_serve.specs.Desks.{desk}
use Rattle.node_serve.proofs.Joining.{unmade_same, unmade_written, made_written}
use Rattle.node_serve.proofs.server.Server.make.Goals as goal

pub returns-in_default : goal.returns-in_default
returns-in_default g c = λ l e ev. unmade_same g.S.Services.stands c.args.cfg.now e c.args.self.now _ (desk (g.F.Files.state c.args.files.now) (g.K.Sink.state c.args.out.now) l)

pub returns-in_default-try_step : goal.returns-in_default-try_step
returns-in_default-try_step g c = λ l e ev. unmade_same g.S.Services.stands c.args.cfg.now e c.args.self.now _ (desk (g.F.Files.state c.args.files.now) (g.K.Sink.state c.args.out.now) l)

pub returns-in_default-write_step : goal.returns-in_default-write_step
returns-in_default-write_step g c = λ l e ev.
    unmade_written g.S.Services.stands c.args.cfg.now e c.args.self.now _ (g.F.Files.state c.args.files.now) (g.F.Files.state c.write_step.new.files) (g.K.Sink.state c.args.out.now) (g.K.Sink.state c.write_step.new.out) l
    c.in-Ok-try_step.texts c.try_step.new.node c.in-Ok.number _ _ c.in-Ok.ensures (λ s h. c.in-Ok-try_step.ensures s e h ev) c.as_slice.ensures c.as_slice-2.ensures c.in_default-write_step.ensures

pub returns : goal.returns
returns g c = λ l e ev. rw c.into_made.ensures
    (made_written g.S.Services.stands c.args.cfg.now e c.args.self.now _ (g.F.Files.state c.args.files.now) (g.F.Files.state c.write_step.new.files) (g.K.Sink.state c.args.out.now) (g.K.Sink.state c.write_step.new.out) l
    c.in-Ok-try_step.texts c.try_step.new.node c.in-Ok.number _ _ c.in-Ok.ensures (λ s h. c.in-Ok-try_step.ensures s e h ev) c.as_slice.ensures c.as_slice-2.ensures c.in-Ok-write_step.ensures.0
    c.in-Ok-write_step.ensures.1 refl refl refl refl)

pub try_step-requires-clause-event : goal.try_step-requires-clause-event
try_step-requires-clause-event g c = c.requires.event.keeps

pub try_step-requires-clause-within : goal.try_step-requires-clause-within
try_step-requires-clause-within g c = c.requires.event.within
