use Rattle.plan_types_spec.proofs.Programs.{annotated_sound, annotated_complete, depths_kept}
use Rattle.plan_types_spec.proofs.laws.checking_is_typing.Goals as goal

pub returns : goal.returns
returns c = λ draft code w. (λ h. annotated_sound draft code h, λ h. annotated_complete draft code (depths_kept draft w) h.0 h.1)
