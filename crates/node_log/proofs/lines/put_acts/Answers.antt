use Rattle.std.proofs.Common.{◌++◌, sym, ap, ◌∙◌, append-nil}
use Rattle.node_log.proofs.LineLaws.{lines_none, lines_put}
use Rattle.node_log.proofs.lines.put_acts.Goals as goal

pub loop-act-init : goal.loop-act-init
loop-act-init c = sym (append-nil c.args.out.now) ∙ ap (λ x. c.args.out.now ++ x) (sym (lines_none c.args.here c.args.number))

pub loop-act-preserved : goal.loop-act-preserved
loop-act-preserved c =
    lines_put c.args.here c.args.number c.args.acts.now c.loop-act.act-index c.act-item.result c.args.out.now c.loop-act.out c.put_act.new.out c.loop-act-test.true c.act-item.is
    c.in_ok-put_act.ensures.whole c.loop-act.invariant
