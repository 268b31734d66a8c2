use Rattle.std.proofs.Common.{◌≡◌, true, false, arith, ap, sym, ◌∙◌}
use Rattle.dv_routing.specs.Routing.{is_among}
use Rattle.dv_routing.proofs.Tables.{within_is}
use Rattle.dv_routing.proofs.table.Table.route_within.Goals as goal

pub returns-then-not-is_among : goal.returns-then-not-is_among
returns-then-not-is_among c = λ r s.
    let none : c.is_among.result ≡ false = grind (arith, c.if-not-is_among.true) in
    within_is r c.args.self.now c.args.host s false (sym (c.is_among.ensures ∙ ap (λ hs. is_among hs c.args.host) c.as_slice.ensures) ∙ none)

pub returns : goal.returns
returns c = λ r s.
    let there : c.is_among.result ≡ true = grind (arith, c.if-not-is_among.false) in
    c.route.ensures r s ∙ within_is r c.args.self.now c.args.host s true (sym (c.is_among.ensures ∙ ap (λ hs. is_among hs c.args.host) c.as_slice.ensures) ∙ there)
