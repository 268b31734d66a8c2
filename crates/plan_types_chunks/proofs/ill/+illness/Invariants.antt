use Rattle.std.proofs.Common.{◌≡◌, drop}
use Rattle.std.specs.List.{list_all}
use Rattle.plan_types_spec.specs.TypingNames.{param_types}
use Rattle.plan_types_chunks.specs.Chunks.{ill_from, right, sound}
use Rattle.plan_types_chunks.proofs.ill.+illness.Given as goal

abbrev pub invariant-first_ill-loop-i : goal.invariant-first_ill-loop-i
invariant-first_ill-loop-i l = ill_from right 0 l.args (param_types l.params) ≡ ill_from right l.number (drop l.i l.args) (param_types (drop l.i l.params))

abbrev pub invariant-are_sound-loop-i : goal.invariant-are_sound-loop-i
invariant-are_sound-loop-i l = list_all sound l.values ≡ list_all sound (drop l.i l.values)
