use Rattle.std.proofs.Common.{[], sym, subst}
use Rattle.std.specs.Prelude.{◌≡◌, IfOk}
use Rattle.ledger_audit.specs.Crossings.{first_over}
use Rattle.ledger_audit.specs.Tallies.{AreFew}
use Rattle.ledger_audit.specs.Pasts.{arrivals_of}
use Rattle.ledger_audit.specs.Ledgers.{over_in}
use Rattle.ledger_audit.proofs.verdict.misfit_in.Goals as goal

pub returns : goal.returns
returns c = λ sent few h.
    subst (λ xs. IfOk c.first_over_of.result (λ over. over_in over ≡ first_over sent [] (arrivals_of xs))) c.as_slice.ensures
    (c.first_over_of.ensures sent (subst (λ xs. AreFew sent (arrivals_of xs)) (sym c.as_slice.ensures) few) h)
