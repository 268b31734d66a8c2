use Rattle.std.proofs.Common.{refl}
use Rattle.replay_window.proofs.Windows.{begins}
use Rattle.replay_window.proofs.window.Window.new.Goals as goal

pub returns : goal.returns
returns c = begins 0 _ refl refl refl
