use Rattle.std.proofs.Common.{length, replicate, sym, ap, ◌∙◌, subst, arith}
use Rattle.std.proofs.lemmas.List.{length_push}
use Rattle.replay_window.specs.Seen.{nothing_seen}
use Rattle.node_core_parts.specs.Windows.{AllSeen}
use Rattle.node_core_parts.proofs.WindowLaws.{opened_more}
use Rattle.node_core_parts.proofs.windows.nine_windows.Goals as goal

pub loop-windows-preserved : goal.loop-windows-preserved
loop-windows-preserved c =
    let e = c.in_ok-push.ensures.items in
    let count = ap length e ∙ length_push c.loop-windows.windows.items c.new.result in
    record {
      short = omega (arith, count, c.loop-windows-test.true, c.len.ensures, c.loop-windows.windows.ok.0, c.loop-windows.invariant.short);
      seen = subst (λ ws. AllSeen (replicate (length ws) nothing_seen) ws) (sym e) (opened_more c.loop-windows.windows.items c.new.result c.loop-windows.invariant.seen c.new.ensures);
    }
