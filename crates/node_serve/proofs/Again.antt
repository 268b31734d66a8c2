-- The log of a whole run, read again.
use Rattle.std.proofs.Common.{ℕ, ◌≤◌, ◌++◌, length, refl, ◌∙◌, ap}
use Rattle.network_config.specs.declared.node.Log.{Log}
use Rattle.network_config.specs.declared.serve.ServeConfig.{ServeConfig}
use Rattle.network_config.specs.NodeRules.{KeepsServe}
use Rattle.node_files.proofs.LogTextLaws.{log_again}
use Rattle.node_core_spec.specs.State.{NodeState}
use Rattle.node_log.specs.Texts.{whole_trace}
use Rattle.node_log.proofs.Going.{lines_of_run}
use Rattle.node_serve.specs.Shown.{run_log}
use Rattle.node_serve.specs.Desks.{Serving}
use Rattle.node_serve.specs.Served.{Served, run_in}
use Rattle.node_serve.specs.Again.{ReadsAgain}

pub again : (cfg : ServeConfig) (node : NodeState) (turns : ℕ) (old new : Serving) (s : Served cfg node turns old new) → KeepsServe cfg → length (run_in cfg node turns old s.refused).events ≤ 50000 → ReadsAgain cfg node old new
again cfg node turns old new s k few =
    let run = run_in cfg node turns old s.refused in
    let log : Log = record { node = cfg.node; missing = cfg.missing; events = run.events } in
    record {
      bytes = run_log cfg run;
      log = log;
      there = s.log.here;
      reads = log_again log (record { node = k.node; serial = k.serial; link = k.link; missing = k.missing; few = few; events = λ i d h. (s.readable i d h).keeps }) (λ i d h. (s.readable i d h).spells);
      begins = refl;
      missing = refl;
      trace = s.out ∙ ap (λ es. old.out.taken ++ whole_trace cfg.node.here es) (lines_of_run cfg node old.link.script old.clock.last old.clock.answers turns s.refused);
    }
