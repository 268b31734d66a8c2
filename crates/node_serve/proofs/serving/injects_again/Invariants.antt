use Rattle.std.proofs.Common.{◌≡◌, take}
use Rattle.node_serve.proofs.serving.injects_again.Given as goal

abbrev pub invariant-loop-inject : goal.invariant-loop-inject
invariant-loop-inject l = l.copy ≡ take l.inject-index l.at
