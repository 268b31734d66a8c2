use Rattle.std.proofs.Common.{◌+◌, map, take, refl, sym, ap, arith}
use Rattle.std.proofs.lemmas.List.Elements.{All-get_or}
use Rattle.network_config.specs.NodeRules.{KeepsLog}
use Rattle.ledger_audit.specs.Pasts.{logged_of}
use Rattle.ledger_audit.proofs.VerdictLaws.{next_log, all_logs, log_number}
use Rattle.ledger_audit.proofs.verdict.reckon_logs.Goals as goal

pub loop-log-init : goal.loop-log-init
loop-log-init c = record { number = refl; reckoned = c.nothing_reckoned-reckoning.ensures c.args.links.now }

pub reckon_log-requires : goal.reckon_log-requires
reckon_log-requires c =
    let h = All-get_or KeepsLog c.args.logs.now c.loop-log.log-index c.log-item.result c.loop-log-test.true c.requires.rules in rw (sym c.log-item.is) at h

pub loop-log-preserved : goal.loop-log-preserved
loop-log-preserved c =
    let i = c.loop-log.log-index in
    let l = c.log-item.result in
    let n = ap (λ k. k + 1) c.loop-log.invariant.number in
    record {
      number = n;
      reckoned = next_log c.args.links.now c.args.logs.now i l c.reckon_log.new.reckoning c.loop-log-test.true c.log-item.is
          (c.in_ok-reckon_log.ensures (map logged_of (take i c.args.logs.now)) c.loop-log.invariant.reckoned (log_number c.args.logs.now i (c.loop-log.number + 1) c.loop-log-test.true n)
          (omega (arith, n, c.loop-log-test.true, c.requires.few)));
    }

pub returns : goal.returns
returns c = all_logs c.args.links.now c.args.logs.now c.loop-log.log-index c.loop-log.reckoning (omega (arith, c.loop-log-test.false)) c.loop-log.invariant.reckoned
