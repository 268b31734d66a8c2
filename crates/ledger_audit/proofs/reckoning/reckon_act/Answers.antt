use Rattle.std.proofs.Common.{Some, None, refl, sym, append-nil}
use Rattle.ledger_audit.proofs.PastLaws.{act_held}
use Rattle.ledger_audit.proofs.reckoning.reckon_act.Goals as goal

pub returns-in_ok-add-in-Some : goal.returns-in_ok-add-in-Some
returns-in_ok-add-in-Some c = λ p h. act_held c.args.act.now p c.args.reckoning.now _ h c.in_ok-act.ensures refl refl refl (Some c.in-Some.family) c.in-Some.ensures c.in_ok-add-in-Some.ensures.ok

pub returns-in-None : goal.returns-in-None
returns-in-None c = λ p h. act_held c.args.act.now p c.args.reckoning.now _ h c.in_ok-act.ensures refl refl refl None c.in-None.ensures (sym (append-nil c.args.reckoning.now.injected))
