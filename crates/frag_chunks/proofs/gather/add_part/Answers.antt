use Rattle.std.proofs.Common.{◌≡◌, subst, sym, ap, ◌∙◌}
use Rattle.std.specs.Prelude.{IfOk}
use Rattle.frag_chunks.specs.declared.gather.Added.{Added}
use Rattle.frag_chunks.specs.Saying.{as_said}
use Rattle.frag_chunks.specs.Places.{position}
use Rattle.frag_chunks.proofs.Entries.{placed_judged}
use Rattle.frag_chunks.proofs.gather.add_part.Goals as goal

pub returns-in-Some-clause-answer : goal.returns-in-Some-clause-answer
returns-in-Some-clause-answer c =
    subst (λ (x : Added). IfOk c.add_to.result (λ a. a ≡ x))
    (placed_judged (as_said c.args.given) c.args.entries.now.items c.in-Some.i c.index_mut.result.now (sym (c.in-Some.ensures.place ∙ ap (position c.args.given.key) c.deref.ensures.value))
    c.index_mut.ensures.value) c.add_to.ensures.answer
