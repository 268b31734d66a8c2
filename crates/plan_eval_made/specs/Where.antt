-- Where an expression is evaluated, seen from the code: the spot of an expression is computed from the stack.
use Rattle.std.specs.Prelude.{◌≡◌, ◌<◌, ℕ, ◌-◌, min, map, drop, length, slice_get, List, [], ◌∷◌, ◌++◌, Option, Some, None}
use Rattle.plan_base.specs.declared.name.Name.{Name}
use Rattle.plan_base.specs.declared.tree.Expr.{Expr}
use Rattle.plan_base.specs.declared.tree.Program.{Program}
use Rattle.plan_base.specs.declared.tree.Value.{Value}
use Rattle.plan_base.specs.declared.tree.Value as value
use Rattle.plan_base.specs.Sizes.{code_size}
use Rattle.plan_meaning.specs.Meaning.{Env, binds}
use Rattle.plan_eval_state.specs.Places.{at_place}
use Rattle.plan_eval_state.specs.Spots.{Spot, counted}
use Rattle.plan_eval_state.specs.Loop.{Site}
use Rattle.plan_eval_made.specs.declared.here.Here.{Here}

-- the names that an expression sees: those of the parameters, and behind them those of `let`s
abbrev pub names_here : Here → List Name
names_here here = map (λ p. p.name) here.function.now.params ++ map (λ b. b.name.now) here.bindings.now

-- the places of their values on the stack
abbrev pub places_here : Here → List ℕ
places_here here = counted here.base here.function.now.params ++ map (λ b. b.at) here.bindings.now

abbrev pub value_or_unit : Option Value → Value
value_or_unit (Some v) = v
value_or_unit None = value.Unit

-- the value at a place; unit where there is none
abbrev pub value_at : List Value → ℕ → Value
value_at stack i = value_or_unit (at_place stack i)

-- names with the values that stand at their places
abbrev pub bound_at : List Name → List ℕ → List Value → Env
bound_at (x ∷ xs) (i ∷ is) stack = binds x (value_at stack i) ∷ bound_at xs is stack
bound_at _ _ stack = []

-- the spot of an expression over a stack
abbrev pub spot : Here → Expr → List Value → Spot
spot here e stack = record {
  code = here.code.now;
  number = here.number;
  fun = here.fun;
  env = bound_at (names_here here) (places_here here) stack;
  places = places_here here;
  expr = e;
}

-- the same without its program and its values, as the walk finds it
abbrev pub site : Here → Expr → Site
site here e = record { number = here.number; fun = here.fun; names = names_here here; places = places_here here; expr = e }

-- its program is open under its number and has its size, and its function stands at its place
pub record IsHere (codes : List Program) (here : Here) : Type 0 where
  pub program : slice_get codes here.number ≡ Some here.code.now
  pub size : here.size ≡ min (code_size here.code.now) 18446744073709551615
  pub function : slice_get here.code.now.funs here.fun ≡ Some here.function.now

-- each place is below that height
abbrev pub AreBelow : List ℕ → ℕ → Type 0
AreBelow [] height = Unit {0}
AreBelow (i ∷ is) height = (i < height) × AreBelow is height

-- every name has its value on the stack
pub record Ready (here : Here) (stack : List Value) (codes : List Program) : Type 0 where
  pub is_here : IsHere codes here
  pub places : AreBelow (places_here here) (length stack)

-- the values that stood on the stack while it was so high
abbrev pub lowest : ℕ → List Value → List Value
lowest n stack = drop (length stack - n) stack
