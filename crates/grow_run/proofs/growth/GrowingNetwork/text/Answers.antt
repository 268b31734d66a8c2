use Rattle.std.proofs.Common.{◌++◌, ◌∙◌, ap}
use Rattle.grow_run.specs.Summaries.{summary_text}
use Rattle.grow_run.proofs.Summing.{summary_is}
use Rattle.grow_run.proofs.growth.GrowingNetwork.text.Goals as goal

pub returns : goal.returns
returns g c = λ h w stands same law.
    c.in_ok-put_summary.ensures.whole ∙ ap (λ n. c.new-text.result ++ summary_text c.args.seed n c.args.self.now.summary c.sum_rows-sums.result) c.from.ensures
    ∙ ap (λ x. x ++ summary_text c.args.seed c.args.events c.args.self.now.summary c.sum_rows-sums.result) c.new-text.ensures
    ∙ summary_is c.args.seed c.args.events h w c.args.self.now.ledger c.args.self.now.summary c.sum_rows-sums.result c.sum_rows-sums.ensures.once stands law same c.sum_rows-sums.ensures.sums
