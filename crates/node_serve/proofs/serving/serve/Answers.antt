use Rattle.node_serve.proofs.Moments.{one_served}
use Rattle.node_serve.proofs.serving.serve.Goals as goal

pub returns-in-One : goal.returns-in-One
returns-in-One g c = one_served c.args.cfg.now (g.S.Services.stands c.args.services) c.args.turns _ _ c.serve_as.result c.in-One.is c.requires.keeps c.serve_as.ensures

pub serve_booted-requires-clause-config : goal.serve_booted-requires-clause-config
serve_booted-requires-clause-config g c = record { keeps = c.requires.keeps; two = c.in-Two.is }
