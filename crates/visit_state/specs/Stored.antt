-- How the state of an evaluation is stored.
use Rattle.std.specs.Prelude.{ℕ, List, refl}
use Rattle.std.specs.Coded.{Coded, code_by, coded×, coded_ℕ, coded_list}
use Rattle.plan_base.specs.declared.ids.Family.{Family}
use Rattle.plan_base.specs.contracts.ids.Family as family_type
use Rattle.service_api.specs.declared.answer.Note.{Note}
use Rattle.service_api.specs.contracts.answer.Note as note_type
use Rattle.service_api.specs.declared.ctx.Ctx.{Ctx}
use Rattle.service_api.specs.contracts.ctx.Ctx as ctx_type
use Rattle.plan_meaning.specs.declared.sent.Sent.{Sent}
use Rattle.plan_meaning.specs.contracts.sent.Sent as sent_type
use Rattle.plan_meaning.specs.State.{Own}

-- as the tuple of its parts
abbrev pub own_code : Coded Own
own_code =
    code_by (Ctx × (Family × (ℕ × (ℕ × (List Sent × List Note)))))
    (coded× ctx_type.the_row.coded
    (coded× family_type.the_row.coded
    (coded× coded_ℕ (coded× coded_ℕ (coded× (coded_list sent_type.the_row.coded) (coded_list note_type.the_row.coded))))))
    (λ o. (o.ctx, (o.family, (o.work, (o.evals, (o.outbox, o.notes))))))
    (λ p. record { ctx = p.0; family = p.1.0; work = p.1.1.0; evals = p.1.1.1.0; outbox = p.1.1.1.1.0; notes = p.1.1.1.1.1 })
    (λ _. refl)
