use Rattle.std.proofs.Common.{◌≡◌, Some, None, sym, ◌∙◌}
use Rattle.ledger_audit.specs.Audits.{misfit}
use Rattle.ledger_audit.specs.Ledgers.{over_in}
use Rattle.ledger_audit.proofs.VerdictLaws.{misfit_is, fits_pays, rows_are, answers_no, answers_yes}
use Rattle.ledger_audit.proofs.verdict.judge.Goals as goal

pub returns-in-Some : goal.returns-in-Some
returns-in-Some c = λ links ls k.
    let q = c.in-Some.is in
    let m = misfit_is links ls c.args.reckoning k c.in_ok-over.field-0 (λ sent few h. c.in_ok-over.ensures sent few h) in
    let e : over_in (Some c.in-Some.over) ≡ misfit links ls = cc in
    answers_no links ls c.in-Some.over.log c.in-Some.over.event c.in-Some.over.accepted c.in-Some.over.sent e

pub ledger_rows-requires : goal.ledger_rows-requires
ledger_rows-requires c =
    let k = c.requires in
    let q = c.in-None.is in
    let m = misfit_is k.links k.logs c.args.reckoning k.is c.in_ok-over.field-0 (λ sent few h. c.in_ok-over.ensures sent few h) in
    let e : over_in None ≡ misfit k.links k.logs = cc in
    fits_pays k.links k.logs c.args.reckoning k.is (sym e)

pub returns : goal.returns
returns c = λ links ls k.
    let q = c.in-None.is in
    let m = misfit_is links ls c.args.reckoning k c.in_ok-over.field-0 (λ sent few h. c.in_ok-over.ensures sent few h) in
    let e : over_in None ≡ misfit links ls = cc in
    answers_yes links ls c.in_ok-rows-in-None.rows e (c.in_ok-rows-in-None.ensures ∙ rows_are links ls c.args.reckoning k (sym e))
