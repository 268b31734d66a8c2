use Rattle.std.proofs.Common.{◌∙◌, ◌<◌, length, sym, arith}
use Rattle.fleet_run.proofs.FleetLaws.{end_well, end_failed, end_none}
use Rattle.fleet_run.proofs.reports.end_of.Goals as goal

pub returns-then-status-ne0 : goal.returns-then-status-ne0
returns-then-status-ne0 c =
    let i = c.loop-i.i in
    let room : i < length c.args.statuses.now = omega (arith, c.loop-i-test.true, c.requires) in
    sym (c.loop-i.invariant.same ∙ end_failed c.args.kids.now c.args.statuses.now i c.index-kids-i.result c.kid_host.result c.loop-i-test.true room c.index-kids-i.is c.kid_host.ensures c.if-status-ne0.true)

pub loop-i-preserved : goal.loop-i-preserved
loop-i-preserved c =
    let i = c.loop-i.i in
    let room : i < length c.args.statuses.now = omega (arith, c.loop-i-test.true, c.requires) in
    record {
      within = omega (arith, c.loop-i-test.true);
      same = c.loop-i.invariant.same ∙ end_well c.args.kids.now c.args.statuses.now i c.index-kids-i.result c.loop-i-test.true room c.if-status-ne0.false;
    }

pub returns : goal.returns
returns c = sym (c.loop-i.invariant.same ∙ end_none c.args.kids.now c.args.statuses.now c.loop-i.i c.loop-i-test.false)
