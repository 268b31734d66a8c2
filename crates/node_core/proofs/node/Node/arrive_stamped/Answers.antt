use Rattle.std.proofs.Common.{sym, subst, ◌∙◌, refl}
use Rattle.replay_window.specs.declared.window.Took.TheVariants.{Repeated, TooOld}
use Rattle.packet_frame.specs.Typed.{plain_of}
use Rattle.node_core_parts.specs.Carried.{MayBear}
use Rattle.node_core.specs.Stands.{with_stamp}
use Rattle.node_core.proofs.StepLaws.{fresh_steps, stale_steps}
use Rattle.node_core.proofs.node.Node.arrive_stamped.Goals as goal

pub note-requires : goal.note-requires
note-requires g c = subst (λ v. MayBear v c.args.stamp) (sym c.in_ok-acts-in-Fresh.ensures.same) c.requires.borne

pub returns-in_ok-acts-in-Fresh : goal.returns-in_ok-acts-in-Fresh
returns-in_ok-acts-in-Fresh g c =
    fresh_steps _ c.args.dev (with_stamp c.args.stamp (plain_of c.args.frame.now)) c.in_ok-acts-in-Fresh.acts c.args.self.now c.arrive_frame.new.self c.note.new.self
    (λ s h. sym (c.judge.ensures s h) ∙ c.in-Fresh.is) c.in_ok-acts-in-Fresh.ensures c.note.ensures.stands c.note.ensures.same

pub returns-in-Repeated : goal.returns-in-Repeated
returns-in-Repeated g c =
    stale_steps _ c.args.dev (with_stamp c.args.stamp (plain_of c.args.frame.now)) Repeated c.stale_step.result c.args.self.now
    (λ s h. sym c.in-Repeated.is ∙ c.judge.ensures s h) (λ s. refl) c.stale_step.ensures.list c.stale_step.ensures.frame

pub returns-in-TooOld : goal.returns-in-TooOld
returns-in-TooOld g c =
    stale_steps _ c.args.dev (with_stamp c.args.stamp (plain_of c.args.frame.now)) TooOld c.stale_step-in-TooOld.result c.args.self.now
    (λ s h. sym c.in-TooOld.is ∙ c.judge.ensures s h) (λ s. refl) c.stale_step-in-TooOld.ensures.list c.stale_step-in-TooOld.ensures.frame
