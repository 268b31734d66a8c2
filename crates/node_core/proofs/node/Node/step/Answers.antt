use Rattle.node_core_spec.proofs.Fitting.{step_fits}
use Rattle.node_core_spec.proofs.NodeBalance.{step_balances}
use Rattle.node_core.proofs.node.Node.step.Goals as goal

pub returns-in-Inject-clause-balance : goal.returns-in-Inject-clause-balance
returns-in-Inject-clause-balance g c = λ f s. step_balances f s c.args.event.now

pub returns-in-Inject-clause-keeps : goal.returns-in-Inject-clause-keeps
returns-in-Inject-clause-keeps g c = λ s h n. (step_fits s c.args.event.now h n).node

pub returns-in-Frame-clause-balance : goal.returns-in-Frame-clause-balance
returns-in-Frame-clause-balance g c = λ f s. step_balances f s c.args.event.now

pub returns-in-Frame-clause-keeps : goal.returns-in-Frame-clause-keeps
returns-in-Frame-clause-keeps g c = λ s h n. (step_fits s c.args.event.now h n).node

pub returns-in-Control-clause-balance : goal.returns-in-Control-clause-balance
returns-in-Control-clause-balance g c = λ f s. step_balances f s c.args.event.now

pub returns-in-Control-clause-keeps : goal.returns-in-Control-clause-keeps
returns-in-Control-clause-keeps g c = λ s h n. (step_fits s c.args.event.now h n).node

pub returns-in-Tick-clause-balance : goal.returns-in-Tick-clause-balance
returns-in-Tick-clause-balance g c = λ f s. step_balances f s c.args.event.now

pub returns-in-Tick-clause-keeps : goal.returns-in-Tick-clause-keeps
returns-in-Tick-clause-keeps g c = λ s h n. (step_fits s c.args.event.now h n).node

pub returns-in-Take-clause-balance : goal.returns-in-Take-clause-balance
returns-in-Take-clause-balance g c = λ f s. step_balances f s c.args.event.now

pub returns-in-Take-clause-keeps : goal.returns-in-Take-clause-keeps
returns-in-Take-clause-keeps g c = λ s h n. (step_fits s c.args.event.now h n).node
