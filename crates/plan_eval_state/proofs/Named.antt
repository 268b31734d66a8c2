-- Names whose values stand on the stack.
use Rattle.std.proofs.Common.{◌≡◌, ℕ, List, [], ◌∷◌, map, Bool, true, false, if◌then◌else◌, Option, Some, None, refl, sym, ap, ◌∙◌}
use Rattle.std.specs.Option.{option_or}
use Rattle.std.specs.Str.{bytes_eq}
use Rattle.containers.proofs.Options.{none-some, some-same}
use Rattle.plan_base.specs.declared.name.Name.{Name}
use Rattle.plan_base.specs.declared.tree.Value.{Value}
use Rattle.plan_meaning.specs.declared.binding.Binding.{Binding}
use Rattle.plan_meaning.specs.Meaning.{Env, value_of}
use Rattle.plan_eval_state.specs.Places.{at_place}
use Rattle.plan_eval_state.specs.Spots.{HasValues}
use Rattle.plan_eval_state.specs.Loop.{place_named}
use Rattle.plan_eval_state.specs.Laws.{NamesStand, NoNameStands}

-- a name's place and its value, or neither
data Named (place : Option ℕ) (value : Option Value) (stack : List Value) : Type 0 where
  there : (i : ℕ) (v : Value) → place ≡ Some i → value ≡ Some v → at_place stack i ≡ Some v → Named place value stack
  nowhere : place ≡ None → value ≡ None → Named place value stack

further : (place : Option ℕ) (value : Option Value) (stack : List Value) (c : Bool) (i : ℕ) (v : Value) → at_place stack i ≡ Some v → Named place value stack
    → Named (option_or place (if c then Some i else None)) (option_or value (if c then Some v else None)) stack
further place value stack c i v is (there j w p q r) = there j w (ap (λ o. option_or o (if c then Some i else None)) p) (ap (λ o. option_or o (if c then Some v else None)) q) r
further place value stack true i v is (nowhere p q) = there i v (ap (λ o. option_or o (Some i)) p) (ap (λ o. option_or o (Some v)) q) is
further place value stack false i v is (nowhere p q) = nowhere (ap (λ o. option_or o None) p) (ap (λ o. option_or o None) q)

named : (x : Name) (env : Env) (places : List ℕ) (stack : List Value) → HasValues env places stack → Named (place_named x (map (λ (b : Binding). b.name) env) places) (value_of x env) stack
named x [] [] stack h = nowhere refl refl
named x (b ∷ env) (i ∷ places) stack h =
    further (place_named x (map (λ (b : Binding). b.name) env) places) (value_of x env) stack (bytes_eq b.name x) i b.value h.0 (named x env places stack h.1)
named x [] (i ∷ places) stack h = absurd h
named x (b ∷ env) [] stack h = absurd h

found : (place : Option ℕ) (value : Option Value) (stack : List Value) (i : ℕ) → Named place value stack → place ≡ Some i → value ≡ at_place stack i
found place value stack i (there j w p q r) is = let same : j ≡ i = some-same (sym p ∙ is) in q ∙ sym r ∙ ap (at_place stack) same
found place value stack i (nowhere p q) is = absurd (none-some (sym p ∙ is))

missed : (place : Option ℕ) (value : Option Value) (stack : List Value) → Named place value stack → place ≡ None → value ≡ None
missed place value stack (there j w p q r) is = absurd (none-some (sym is ∙ p))
missed place value stack (nowhere p q) is = q

pub names_stand : NamesStand
names_stand x env places stack i h is = found (place_named x (map (λ (b : Binding). b.name) env) places) (value_of x env) stack i (named x env places stack h) is

pub no_name_stands : NoNameStands
no_name_stands x env places stack h is = missed (place_named x (map (λ (b : Binding). b.name) env) places) (value_of x env) stack (named x env places stack h) is
