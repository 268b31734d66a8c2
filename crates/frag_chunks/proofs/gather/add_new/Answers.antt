use Rattle.std.proofs.Common.{ap, ◌∙◌, ◌++◌, ◌∷◌, [], List, w64, rules}
use Rattle.std.specs.Prelude.{ℤ}
use Rattle.std.proofs.lemmas.Int.{to_z-of_z}
use Rattle.frag_chunks.specs.declared.holding.Entry.{Entry}
use Rattle.frag_chunks.specs.Saying.{as_said}
use Rattle.frag_chunks.proofs.Entries.{after_new}
use Rattle.frag_chunks.proofs.gather.add_new.Goals as goal

pub returns-clause-entries : goal.returns-clause-entries
returns-clause-entries c =
    let es = c.args.entries.now.items in
    let one : ℤ → List Entry = λ k. es ++ record { key = k; holding = c.in_ok-answer.holding } ∷ [] in
    c.in_ok-push_entry.ensures.ok
    ∙ ap one (to_z-of_z w64 c.key-key.result (search rules) ∙ c.key-key.ensures)
    ∙ after_new c.in_ok-answer.answer c.in_ok-answer.holding (as_said c.args.given) es c.requires.new c.in_ok-answer.ensures.answer c.in_ok-answer.ensures.holding
