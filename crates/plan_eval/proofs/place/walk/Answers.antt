use Rattle.std.proofs.Common.{◌+◌, arith, sym, ap, ◌∙◌}
use Rattle.plan_eval.specs.Walk.{innermost, site_of, site_if}
use Rattle.plan_eval.proofs.Walks.{walk_start, walked_up, lost, lowest_all}
use Rattle.plan_eval.proofs.place.walk.Goals as goal

pub loop-i-init : goal.loop-i-init
loop-i-init c = record { within = omega arith; found = λ codes first a f near body is. walk_start codes first c.args.conts.now a c.args.from f (record { bindings = c.new.result; expr = c.args.body }) near body is c.new.ensures }

pub loop-i-preserved : goal.loop-i-preserved
loop-i-preserved c = record {
  within = omega (arith, c.loop-i.invariant.within);
  found = λ codes first a f near body is.
      let none = near.inside c.loop-i.i c.at.result.now c.loop-i.invariant.within c.at.ensures in
      walked_up codes first c.args.conts.now c.loop-i.i c.at.result.now (site_of a f c.loop-i.place) (c.loop-i.invariant.found codes first a f near body is) c.at.ensures none
      ∙ sym (c.in_ok-next.ensures codes a f none) ∙ ap (site_if a f) c.in-Some.is;
}

pub returns-in-None : goal.returns-in-None
returns-in-None c = λ codes first a f near body is.
    let none = near.inside c.loop-i.i c.at.result.now c.loop-i.invariant.within c.at.ensures in
    sym (lost codes first c.args.conts.now (c.loop-i.i + 1) (λ j k le at. near.inside j k (omega (arith, le, c.loop-i.invariant.within)) at)
    (walked_up codes first c.args.conts.now c.loop-i.i c.at.result.now (site_of a f c.loop-i.place) (c.loop-i.invariant.found codes first a f near body is) c.at.ensures none
    ∙ sym (c.in_ok-next.ensures codes a f none) ∙ ap (site_if a f) c.in-None.is))

pub returns : goal.returns
returns c = λ codes first a f near body is.
    sym (c.loop-i.invariant.found codes first a f near body is) ∙ ap (λ l. innermost codes first l) (lowest_all c.args.conts.now c.loop-i.i (omega (arith, c.loop-i-test.false, c.len.ensures)))
