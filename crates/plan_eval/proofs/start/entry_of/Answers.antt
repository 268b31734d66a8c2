use Rattle.std.proofs.Common.{◌≡◌, slice_get, Some, None, refl, sym, ap, ◌∙◌}
use Rattle.plan_base.specs.declared.tree.Program.{Program}
use Rattle.plan_types_spec.specs.TypingNames.{place_of}
use Rattle.plan_eval.proofs.Starting.{nowhere, no_function, not_so_many}
use Rattle.plan_eval.proofs.start.entry_of.Goals as goal

pub returns-in_default-clause-none : goal.returns-in_default-clause-none
returns-in_default-clause-none c = λ st.
    let none : place_of c.args.chunk.now.entry c.args.chunk.now.code.funs ≡ None = cc in
    nowhere c.args.chunk.now st none

pub returns-in_default-get-clause-none : goal.returns-in_default-get-clause-none
returns-in_default-get-clause-none c = λ st.
    let place : place_of c.args.chunk.now.entry c.args.chunk.now.code.funs ≡ Some c.in-Some.fun = cc in
    let none = ap (λ (p : Program). slice_get p.funs c.in-Some.fun) (sym c.get-code.ensures) ∙ sym c.in_default-get.ensures.value in
    no_function c.args.chunk.now st c.in-Some.fun place none

pub returns-then-len-clause-none : goal.returns-then-len-clause-none
returns-then-len-clause-none c = λ st.
    let place : place_of c.args.chunk.now.entry c.args.chunk.now.code.funs ≡ Some c.in-Some.fun = cc in
    let there = ap (λ (p : Program). slice_get p.funs c.in-Some.fun) (sym c.get-code.ensures) ∙ sym c.in-Some-get.ensures.value in
    not_so_many c.args.chunk.now st c.in-Some.fun c.in-Some-get.function.now place there (λ same. c.if-len.true (c.len.ensures ∙ same ∙ sym c.len-2.ensures))

pub returns-clause-some : goal.returns-clause-some
returns-clause-some c =
    let place : place_of c.args.chunk.now.entry c.args.chunk.now.code.funs ≡ Some c.in-Some.fun = cc in
    record {
      code = refl;
      number = refl;
      size = c.requires.size;
      place = place;
      function = ap (λ (p : Program). slice_get p.funs c.in-Some.fun) (sym c.get-code.ensures) ∙ sym c.in-Some-get.ensures.value;
      many = sym c.len.ensures ∙ c.if-len.false ∙ c.len-2.ensures;
      base = refl;
      bindings = refl;
    }
