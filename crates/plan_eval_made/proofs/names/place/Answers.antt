use Rattle.std.proofs.Common.{map, Some, sym, ap, ◌∙◌, subst}
use Rattle.std.specs.Option.{option_or}
use Rattle.plan_base.specs.declared.tree.Param.{Param}
use Rattle.plan_eval_state.specs.Spots.{counted}
use Rattle.plan_eval_state.specs.Loop.{place_named}
use Rattle.plan_eval_made.specs.declared.here.Binding.{Binding}
use Rattle.plan_eval_made.specs.Where.{AreBelow, names_here, places_here}
use Rattle.plan_eval_made.proofs.Standing.{below_front}
use Rattle.plan_eval_made.proofs.Named.{named_in_let, named_in_args, named_below, named_found_below}
use Rattle.plan_eval_made.proofs.names.place.Goals as goal

pub argument_place-requires : goal.argument_place-requires
argument_place-requires c = record {
  places = subst (λ ps. AreBelow (counted c.args.here.now.base ps) c.args.height) (sym c.as_slice.ensures)
      (below_front (counted c.args.here.now.base c.args.here.now.function.now.params) (map (λ (b : Binding). b.at) c.args.here.now.bindings.now) c.args.height c.requires.places);
}

pub returns-in-Some-clause-place : goal.returns-in-Some-clause-place
returns-in-Some-clause-place c = named_in_let c.args.here.now c.args.name.now c.in-Some.i c.in-Some.ensures

pub returns-in-Some-clause-within : goal.returns-in-Some-clause-within
returns-in-Some-clause-within c =
    named_below c.args.name.now (names_here c.args.here.now) (places_here c.args.here.now) c.in-Some.i c.args.height c.requires.places
    (sym (named_in_let c.args.here.now c.args.name.now c.in-Some.i c.in-Some.ensures))

pub returns-in-None-clause-place : goal.returns-in-None-clause-place
returns-in-None-clause-place c = named_in_args c.args.here.now c.args.name.now c.as_slice.result.now c.argument_place.result c.in-None.ensures c.as_slice.ensures c.argument_place.ensures

pub returns-in-None-clause-within : goal.returns-in-None-clause-within
returns-in-None-clause-within c =
    named_found_below c.args.name.now (names_here c.args.here.now) (places_here c.args.here.now) c.args.height c.argument_place.result c.requires.places
    (named_in_args c.args.here.now c.args.name.now c.as_slice.result.now c.argument_place.result c.in-None.ensures c.as_slice.ensures c.argument_place.ensures)
