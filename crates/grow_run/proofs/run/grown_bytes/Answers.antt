use Rattle.std.proofs.Common.{◌≡◌, ◌∙◌, ap, subst}
use Rattle.net_world_spec.specs.World.{opening, world_after, history_of}
use Rattle.net_world_spec.proofs.Handings.{opening_balances}
use Rattle.plan_base.specs.declared.stamp.Version.TheVariants.{One}
use Rattle.net_world_spec.specs.Sound.{EventsFit}
use Rattle.grow_run.proofs.RingRules.{ring_keeps}
use Rattle.bound_ledger.specs.Stands.{Stands}
use Rattle.grow_run.specs.Grow.{ring, grown_events, Grow}
use Rattle.grow_run.specs.Summaries.{summary_of, grown_text}
use Rattle.net_world.proofs.StandLaws.{if_ok}
use Rattle.grow_run.specs.Pings.{ping, OfGrown}
use Rattle.grow_run.proofs.Growing.{output_is}
use Rattle.grow_run.proofs.run.grown_bytes.Goals as goal

pub returns : goal.returns
returns g c =
    let code = c.in_ok-code.code in
    let es = Grow (ping code) c.args.seed c.args.events in
    let h = history_of es (opening ring) in
    let w = world_after es (opening ring) in
    let same = ap (λ words. history_of (grown_events (ping code) c.args.events words (opening ring)) (opening ring)) c.in_ok-growth.ensures.words in
    let fits = subst (λ words. EventsFit One (grown_events (ping code) c.args.events words (opening ring))) c.in_ok-growth.ensures.words c.in_ok-grow.ensures.fits in
    if_ok (λ text. text ≡ grown_text c.args.seed c.args.events h w) (λ text. OfGrown c.args.seed c.args.events (λ whole. text ≡ whole)) c.text.result
    (λ text is. record { code = code; reads = c.in_ok-code.ensures.text; is = is ∙ output_is c.args.seed c.args.events code })
    (c.text.ensures h w (subst (λ x. Stands x c.grow.new.self.ledger) same c.in_ok-grow.ensures.ledger) (c.in_ok-grow.ensures.summary ∙ ap summary_of same) (λ f. opening_balances f ring es ring_keeps fits))
