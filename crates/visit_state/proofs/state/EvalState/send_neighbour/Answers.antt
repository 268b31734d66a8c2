use Rattle.std.proofs.Common.{◌≡◌, refl, ap, ◌∙◌, w64, rules}
use Rattle.std.proofs.lemmas.Int.{to_z-of_z}
use Rattle.service_api.specs.Routes.{default_route}
use Rattle.visit_state.proofs.Sending.{neighbour_good, neighbour_meets, neighbour_refused}
use Rattle.visit_state.proofs.state.EvalState.send_neighbour.Goals as goal

pub send_named-requires-clause-good : goal.send_named-requires-clause-good
send_named-requires-clause-good c =
    let ctx : c.self.inside.ctx ≡ c.args.self.now.ctx = ap (λ own. own.ctx) c.self.view_is in
    let purse : c.of-purse.result ≡ c.args.self.now.ctx.purse = c.of-purse.ensures ∙ ap (λ around. around.purse) ctx in
    let same_bound = to_z-of_z w64 c.args.n (search rules) in
    neighbour_good c.args.chunk c.args.host c.args.n c.args.dev c.args.self.now _ _ _ purse ctx same_bound c.in-Ok.way c.in-Ok.ensures.found c.requires.safe

pub returns-in-Ok-clause-meets : goal.returns-in-Ok-clause-meets
returns-in-Ok-clause-meets c = λ s.
    let ctx : c.self.inside.ctx ≡ c.args.self.now.ctx = ap (λ own. own.ctx) c.self.view_is in
    let purse : c.of-purse.result ≡ c.args.self.now.ctx.purse = c.of-purse.ensures ∙ ap (λ around. around.purse) ctx in
    let same_bound = to_z-of_z w64 c.args.n (search rules) in
    neighbour_meets c.args.chunk c.args.host c.args.n c.args.dev c.args.self.now _ _ _ purse ctx same_bound s c.in-Ok.way default_route c.send_named.result _ c.in-Ok.ensures.found refl
    (c.send_named.ensures.meets default_route s c.default_route.ensures)

pub returns-in-Err-clause-meets : goal.returns-in-Err-clause-meets
returns-in-Err-clause-meets c = λ s other.
    let ctx : c.self.inside.ctx ≡ c.args.self.now.ctx = ap (λ own. own.ctx) c.self.view_is in
    let purse : c.of-purse.result ≡ c.args.self.now.ctx.purse = c.of-purse.ensures ∙ ap (λ around. around.purse) ctx in
    let same_bound = to_z-of_z w64 c.args.n (search rules) in
    neighbour_refused c.args.chunk c.args.host c.args.n c.args.dev c.args.self.now _ _ _ purse ctx same_bound s c.neighbour_way.result c.in-Err.fault c.unsent.result c.in-Err.is
    c.neighbour_way.ensures.only c.neighbour_way.ensures.no_bound c.neighbour_way.ensures.not_neighbour c.unsent.ensures other
