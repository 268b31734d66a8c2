use Rattle.std.proofs.Common.{sym, ap, subst, length, Some, IsTrue, get_or, ◌∙◌, ◌≤◌, ◌<◌}
use Rattle.std.proofs.lemmas.Option.{slice_get-get_or}
use Rattle.std.proofs.lemmas.List.Elements.{All-get_or}
use Rattle.network_config.specs.NodeRules.{KeepsInject}
use Rattle.node_log.specs.Runs.{Running, inject_to, inject_one}
use Rattle.node_serve.specs.Desks.{desk}
use Rattle.node_serve.proofs.MakeLaws.{inject_next, inject_none}
use Rattle.node_serve.proofs.Looping.{inject_up, inject_past}
use Rattle.node_serve.proofs.Joining.{goes_same, goes_as, goes_next, goes_no_more, no_link}
use Rattle.node_serve.proofs.server.Server.inject_all.Goals as goal

pub loop-inject-init : goal.loop-inject-init
loop-inject-init g c = record {
  writing = c.requires.writing;
  run = λ l. goes_same g.S.Services.stands c.args.cfg.now (inject_to c.args.turn c.args.cfg.now.at 0) c.args.self.now (desk (g.F.Files.state c.args.files.now) (g.K.Sink.state c.args.out.now) l) tt
      (λ r st. inject_none c.args.turn c.args.cfg.now.at r);
}

pub inject_one-requires-clause-writing : goal.inject_one-requires-clause-writing
inject_one-requires-clause-writing g c = c.loop-inject.invariant.writing

pub inject_one-requires-clause-keeps : goal.inject_one-requires-clause-keeps
inject_one-requires-clause-keeps g c =
    subst (KeepsInject c.args.cfg.now.node.version) (sym (c.inject-item.is ∙ ap (λ xs. get_or xs c.loop-inject.inject-index c.inject-item.result) c.as_slice-inject-items.ensures))
    (All-get_or (KeepsInject c.args.cfg.now.node.version) c.args.cfg.now.at c.loop-inject.inject-index c.inject-item.result
    (subst (λ xs. c.loop-inject.inject-index < length xs) c.as_slice-inject-items.ensures c.loop-inject-test.true) c.requires.keeps.injects)

pub loop-inject-preserved : goal.loop-inject-preserved
loop-inject-preserved g c =
    let i = c.loop-inject.inject-index in
    let x = c.inject-item.result in
    let at = c.args.cfg.now.at in
    let next = λ (r : Running). inject_next c.args.turn at i x r
    (slice_get-get_or at i x (subst (λ xs. i < length xs) c.as_slice-inject-items.ensures c.loop-inject-test.true) ∙ ap Some
    (sym (c.inject-item.is ∙ ap (λ xs. get_or xs i x) c.as_slice-inject-items.ensures))) in
    record {
      writing = subst IsTrue (sym (c.in_default.ensures no_link).keeps.writing) c.loop-inject.invariant.writing;
      run = λ l. goes_next g.S.Services.stands c.args.cfg.now (inject_to c.args.turn at) (inject_one c.args.turn (Some x)) i c.args.self.now c.loop-inject.self c.inject_one.new.self _ _ _
          next tt tt (c.loop-inject.invariant.run l) (c.in_default.ensures l);
    }

pub returns-in-Err : goal.returns-in-Err
returns-in-Err g c = λ l.
    let i = c.loop-inject.inject-index in
    let x = c.inject-item.result in
    let at = c.args.cfg.now.at in
    let within = subst (λ xs. i < length xs) c.as_slice-inject-items.ensures c.loop-inject-test.true in
    let next = λ (r : Running). inject_next c.args.turn at i x r (slice_get-get_or at i x within ∙ ap Some (sym (c.inject-item.is ∙ ap (λ xs. get_or xs i x) c.as_slice-inject-items.ensures))) in
    goes_no_more g.S.Services.stands c.args.cfg.now (inject_to c.args.turn at) (inject_one c.args.turn (Some x)) i c.args.self.now c.loop-inject.self c.inject_one.new.self _ _ _
    next (inject_up c.args.turn at) (length at) within tt c.in-Err.fault (c.loop-inject.invariant.run l) (c.in-Err.ensures l)

pub returns : goal.returns
returns g c = λ l.
    goes_as g.S.Services.stands c.args.cfg.now (inject_to c.args.turn c.args.cfg.now.at c.loop-inject.inject-index) (inject_to c.args.turn c.args.cfg.now.at (length c.args.cfg.now.at)) c.args.self.now c.loop-inject.self _ _ _
    (λ seen r st. inject_past c.args.turn c.args.cfg.now.at c.loop-inject.inject-index r (subst (λ xs. length xs ≤ c.loop-inject.inject-index) c.as_slice-inject-items.ensures c.loop-inject-test.false))
    (c.loop-inject.invariant.run l)
