use Rattle.std.proofs.Common.{◌≡◌, Some, None, sym, ap, ◌∙◌, slice_get}
use Rattle.plan_types_spec.specs.TypingNames.{place_of}
use Rattle.plan_eval_made.proofs.Entering.{none_of, no_place, no_function, other_number}
use Rattle.plan_eval_made.proofs.opening.entry_of.Goals as goal

pub returns-in_default : goal.returns-in_default
returns-in_default c =
    no_place c.args.chunk.now (ap (place_of c.args.chunk.now.entry) (sym (c.as_slice.ensures ∙ ap (λ p. p.funs) c.get.ensures)) ∙ sym c.place_of.ensures ∙ none_of c.place_of.result c.in_default.not-Some)

pub returns-in_default-get : goal.returns-in_default-get
returns-in_default-get c =
    no_function c.args.chunk.now c.in-Some.fun
    (ap (place_of c.args.chunk.now.entry) (sym (c.as_slice.ensures ∙ ap (λ p. p.funs) c.get.ensures)) ∙ sym c.in-Some.ensures)
    (ap (λ p. slice_get p.funs c.in-Some.fun) (sym c.get-2.ensures) ∙ sym c.in_default-get.ensures.value)

pub returns-then-len : goal.returns-then-len
returns-then-len c = record {
  function = c.in-Some-get.function.now;
  place = ap (place_of c.args.chunk.now.entry) (sym (c.as_slice.ensures ∙ ap (λ p. p.funs) c.get.ensures)) ∙ sym c.in-Some.ensures;
  there = ap (λ p. slice_get p.funs c.in-Some.fun) (sym c.get-2.ensures) ∙ sym c.in-Some-get.ensures.value;
  many = sym c.len.ensures ∙ c.if-len.true ∙ c.len-2.ensures;
}

pub returns-else-len : goal.returns-else-len
returns-else-len c =
    other_number c.args.chunk.now c.in-Some.fun c.in-Some-get.function.now
    (ap (place_of c.args.chunk.now.entry) (sym (c.as_slice.ensures ∙ ap (λ p. p.funs) c.get.ensures)) ∙ sym c.in-Some.ensures)
    (ap (λ p. slice_get p.funs c.in-Some.fun) (sym c.get-2.ensures) ∙ sym c.in-Some-get.ensures.value)
    (λ same. c.if-len.false (c.len.ensures ∙ same ∙ sym c.len-2.ensures))
