use Rattle.std.proofs.Common.{◌∙◌}
use Rattle.replay_window.proofs.Windows.{window_judges}
use Rattle.replay_window.proofs.window.Window.judge.Goals as goal

pub returns : goal.returns
returns c = λ seen h. c.judge_stamp.ensures ∙ window_judges seen c.args.self.now c.args.s h
