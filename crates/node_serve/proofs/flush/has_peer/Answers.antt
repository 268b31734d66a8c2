use Rattle.std.proofs.Common.{ap, ◌∙◌}
use Rattle.std.specs.List.{list_any}
use Rattle.std.proofs.Common.{◌==◌}
use Rattle.node_serve.proofs.PeerLaws.{owner_found, neighbour_found}
use Rattle.node_serve.proofs.flush.has_peer.Goals as goal

pub returns-then-dev-eq0 : goal.returns-then-dev-eq0
returns-then-dev-eq0 c = owner_found c.args.cfg.now c.args.dev c.if-dev-eq0.true

pub returns : goal.returns
returns c = c.is_on.ensures ∙ ap (list_any (λ p. p.0.0 == c.args.dev.0)) c.as_slice.ensures ∙ neighbour_found c.args.cfg.now c.args.dev c.if-dev-eq0.false
