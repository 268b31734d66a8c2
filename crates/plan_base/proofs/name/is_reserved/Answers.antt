use Rattle.std.proofs.Common.{sym, ◌∙◌}
use Rattle.plan_base.proofs.WordLaws.{of_length, reserved_at, reserved_other}
use Rattle.plan_base.proofs.name.is_reserved.Goals as goal

pub returns-then-size-eq2 : goal.returns-then-size-eq2
unfolding of_length
returns-then-size-eq2 c = c.is_among.ensures ∙ sym (reserved_at c.args.word.now 2 c.if-size-eq2.true)

pub returns-then-size-eq3 : goal.returns-then-size-eq3
unfolding of_length
returns-then-size-eq3 c = c.is_among-then-size-eq3.ensures ∙ sym (reserved_at c.args.word.now 3 c.if-size-eq3.true)

pub returns-then-size-eq4 : goal.returns-then-size-eq4
unfolding of_length
returns-then-size-eq4 c = c.is_among-then-size-eq4.ensures ∙ sym (reserved_at c.args.word.now 4 c.if-size-eq4.true)

pub returns-then-size-eq5 : goal.returns-then-size-eq5
unfolding of_length
returns-then-size-eq5 c = c.is_among-then-size-eq5.ensures ∙ sym (reserved_at c.args.word.now 5 c.if-size-eq5.true)

pub returns-then-size-eq6 : goal.returns-then-size-eq6
unfolding of_length
returns-then-size-eq6 c = c.is_among-then-size-eq6.ensures ∙ sym (reserved_at c.args.word.now 6 c.if-size-eq6.true)

pub returns-then-size-eq8 : goal.returns-then-size-eq8
unfolding of_length
returns-then-size-eq8 c = c.is_among-then-size-eq8.ensures ∙ sym (reserved_at c.args.word.now 8 c.if-size-eq8.true)

pub returns-then-size-eq9 : goal.returns-then-size-eq9
unfolding of_length
returns-then-size-eq9 c = c.is_among-then-size-eq9.ensures ∙ sym (reserved_at c.args.word.now 9 c.if-size-eq9.true)

pub returns-then-size-eq10 : goal.returns-then-size-eq10
unfolding of_length
returns-then-size-eq10 c = c.is_among-then-size-eq10.ensures ∙ sym (reserved_at c.args.word.now 10 c.if-size-eq10.true)

pub returns : goal.returns
returns c =
    sym (reserved_other c.args.word.now c.if-size-eq2.false c.if-size-eq3.false c.if-size-eq4.false c.if-size-eq5.false c.if-size-eq6.false c.if-size-eq8.false c.if-size-eq9.false c.if-size-eq10.false)
