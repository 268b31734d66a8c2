use Rattle.std.proofs.Common.{sym, subst, ap, ◌∙◌}
use Rattle.replay_window.specs.Seen.{seen_with}
use Rattle.replay_window.specs.Stands.{WindowStands}
use Rattle.replay_window.proofs.Windows.{same_sender, new_sender}
use Rattle.replay_window.proofs.window.Window.keep.Goals as goal
use Rattle.replay_window.proofs.window.Window.keep.Goals.{then-s-self, else-s-self}

pub returns : goal.returns
returns c = λ seen h f.
    subst (WindowStands (seen_with seen c.args.s)) (sym c.note.ensures) (elim c.if-s-self.branch [
      | then-s-self w ↦ new_sender seen c.args.self.now c.if-s-self.self c.args.s w.if-s-self.true h (ap (λ x. x.boot) w.self-is ∙ w.forget.ensures.boot)
          (ap (λ x. x.top) w.self-is ∙ w.forget.ensures.top) (ap (λ x. x.turns) w.self-is ∙ w.forget.ensures.turns)
      | else-s-self w ↦ same_sender seen c.if-s-self.self c.args.s (w.if-s-self.false ∙ sym (ap (λ x. x.boot) w.self-is)) (subst (WindowStands seen) (sym w.self-is) h) f
    ])
