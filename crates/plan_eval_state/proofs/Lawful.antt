-- The laws, each by its lemma.
use Rattle.std.proofs.Common.{refl, [], ◌∷◌}
use Rattle.plan_meaning.specs.Meaning.{as_bool}
use Rattle.plan_meaning.specs.Run.{◌>>=◌, weighed_value}
use Rattle.plan_eval_state.specs.Forms.{folded}
use Rattle.plan_eval_state.specs.Spots.{layer, after_step}
use Rattle.plan_eval_state.specs.Laws as laws
use Rattle.plan_eval_state.proofs.Leading.{onward, given_on}
use Rattle.plan_eval_state.proofs.Going.{begun, stopped_in}
use Rattle.plan_eval_state.proofs.Going as going
use Rattle.plan_eval_state.proofs.Forming.{branch_in_form, let_in_form, call_in_form, fold_in_form, step_in_form, step_goes_on, eval_in_form, try_in_form, caught_in_form, uncaught_in_form}
use Rattle.plan_eval_state.proofs.Forming as forming
use Rattle.plan_eval_state.proofs.Named as named
use Rattle.plan_eval_state.proofs.Stepping as stepping
use Rattle.plan_eval_state.proofs.Flowing.{waits_grown}
use Rattle.plan_eval_state.proofs.Looping as looping
use Rattle.plan_eval_state.proofs.Counting as counting

pub pays_first : laws.PaysFirst
pays_first s old new paid = begun s old new paid

pub begins_first : laws.BeginsFirst
begins_first s st e form first = going.begins_first s st e form first

pub begins_bare : laws.BeginsBare
begins_bare s st form none = going.begins_bare s st form none

pub goes_on : laws.GoesOn
goes_on s st n held v e there = going.second_in_form s st n held v e there

pub makes_last : laws.MakesLast
makes_last s st n held v none = going.last_in_form s st n held v none

pub chooses : laws.Chooses
chooses s st v n e h there = branch_in_form s.code s.fun s.env st (layer s) (as_bool v) v n e refl h there

pub binds : laws.Binds
binds s next st i v body = let_in_form s.code s.fun s.env st s next (layer s) i v body

pub calls : laws.Calls
calls s next st f es args held a form none other is body = rw form (call_in_form s.code s.fun s.env st f es args a next none other is body)

pub folds : laws.Folds
folds s st f acc v xs fold is = fold_in_form s.code s.fun s.env st (layer s) f acc v xs fold is

pub fold_steps : laws.FoldSteps
fold_steps s next st f a acc x w u n l left fold is body items =
    onward _ _ _ (step_in_form s.code s.fun s.env st (layer s) f a next acc x left fold is body) (step_goes_on s.code s.fun s.env st s next a w u n l left items)

pub fold_goes_on : laws.FoldGoesOn
fold_goes_on s st a v w u n l left items =
    onward _ _ _ (given_on v st (after_step s (w ∷ u ∷ n ∷ l ∷ []))) (rw items (given_on left st (λ xs. folded s.code s.fun s.env (layer s) v xs >>= weighed_value)))

pub fold_ends : laws.FoldEnds
fold_ends s st f acc fold = forming.fold_ends s.code s.fun s.env st (layer s) f acc fold

pub evals : laws.Evals
evals s next old new b v k a held form is paid there body = rw form (eval_in_form s.code s.fun s.env old b v k new a next is paid there body)

pub tries : laws.Tries
tries s st h e is = try_in_form s.code s.fun s.env st (layer s) e is

pub catches : laws.Catches
catches s st h r x n e is catch there = caught_in_form s.code s.fun s.env (layer s) r x n e st is catch there

pub catches_none : laws.CatchesNone
catches_none s st h r x is none = uncaught_in_form s.code s.fun s.env (layer s) r x st is none

pub stops : laws.Stops
stops s k held r e st passes is = stopped_in s k held r e st passes is

pub step_sees : laws.StepSees
step_sees codes s next k held pre steps at height = stepping.step_sees codes s k held pre next steps at height

pub step_walks : laws.StepWalks
step_walks codes s next k held steps is_open = stepping.step_walked codes s k held next steps is_open

pub waits_on : laws.WaitsOn
waits_on codes more s ks stack pre want st h = waits_grown codes more s ks stack pre want st h

pub begins_onto : laws.BeginsOnto
begins_onto codes first s pre stack low top want ks to st stands is_open at h = looping.begun_onto codes first pre top ks to stack low s want st stands is_open at h

pub passes_out : laws.PassesOut
passes_out first pre top k ks run n passes safe r = looping.raised_out first pre top k ks run n passes safe r

pub whole_ends : laws.WholeEnds
whole_ends codes first s pre stack top want p run n stands safe h = looping.whole_ends codes first pre top stack s want p run n stands safe h

pub lasts_spends : laws.LastsSpends
lasts_spends depth other old mid p run less h = counting.lasts_spends depth other old mid p run less h

pub spends_lasts : laws.SpendsLasts
spends_lasts depth old mid p run less h = counting.spends_lasts depth old mid p run less h

pub settled_lasts : laws.SettledLasts
settled_lasts depth old p run settled less = counting.settled_lasts depth old p run settled less

pub wakes_less : laws.WakesLess
wakes_less depth conts all p old new some e h = counting.wake_less depth conts all p old new some e h

pub goes_less : laws.GoesLess
goes_less depth conts p old new some h = counting.go_less depth conts p old new some h

pub names_stand : laws.NamesStand
names_stand = named.names_stand

pub no_name_stands : laws.NoNameStands
no_name_stands = named.no_name_stands
