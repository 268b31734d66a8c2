use Rattle.std.proofs.Common.{◌∙◌, sym, arith}
use Rattle.std.proofs.lemmas.Grind.{common_steps}
use Rattle.std.specs.String.{string_bytes}
use Rattle.plan_lexer.specs.Quoted.{string_at}
use Rattle.plan_lexer.proofs.QuotedLemmas.{string_closes, string_open, string_wrong, string_more}
use Rattle.plan_lexer.proofs.quoted.string_at.Goals as goal

pub returns-in-Closes-clause-value : goal.returns-in-Closes-clause-value
unfolding string_at
returns-in-Closes-clause-value c = let e = string_closes c.args.start c.items.at c.items.rest.now (sym c.item_at.ensures.value ∙ c.in-Closes.is) in grind (arith, common_steps)

pub returns-in-Open : goal.returns-in-Open
unfolding string_at
returns-in-Open c = let e = string_open c.args.start c.items.at c.items.rest.now (sym c.item_at.ensures.value ∙ c.in-Open.is) in grind (arith, common_steps)

pub returns-in-Wrong : goal.returns-in-Wrong
unfolding string_at
returns-in-Wrong c = let e = string_wrong c.args.start c.items.at c.items.rest.now (sym c.item_at.ensures.value ∙ c.in-Wrong.is) in grind (arith, common_steps)

pub items-preserved : goal.items-preserved
items-preserved c =
    let e = string_more c.args.start c.items.at c.items.rest.now c.in-Code.code c.in-Code.width (string_bytes c.items.string) _ c.items.invariant.same (sym c.item_at.ensures.value ∙ c.in-Code.is)
    c.in-Code.ensures.within.0 in
    record { same = grind (arith, common_steps); later = omega arith; place = omega (arith, c.in-Code.ensures.within.1) }

pub returns-in-Closes-clause-within : goal.returns-in-Closes-clause-within
returns-in-Closes-clause-within c = (omega arith, omega (arith, c.in-Closes.ensures.within))
