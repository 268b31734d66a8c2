-- Where an expression is evaluated, over plain variables: names and places, and the spot that is computed from the stack.
use Rattle.std.proofs.Common.{◌≡◌, ◌<◌, ◌≤◌, ℕ, zero, suc, ◌+◌, arith, List, [], ◌∷◌, ◌++◌, length, length-append, map, reverse, slice_get, Some, None, refl, sym, ap, ◌∙◌, subst}
use Rattle.std.proofs.lemmas.List.{length-reverse, append-nil, append_assoc}
use Rattle.containers.proofs.Options.{none-some, some-same}
use Rattle.plan_base.specs.declared.name.Name.{Name}
use Rattle.plan_base.specs.declared.tree.Expr.{Expr}
use Rattle.plan_base.specs.declared.tree.Param.{Param}
use Rattle.plan_base.specs.declared.tree.Program.{Program}
use Rattle.plan_base.specs.declared.tree.Value.{Value}
use Rattle.plan_meaning.specs.declared.binding.Binding.{Binding as Bound}
use Rattle.plan_meaning.specs.Meaning.{Env, binds}
use Rattle.plan_eval_state.specs.Places.{at_place}
use Rattle.plan_eval_state.specs.Spots.{Spot, HasValues, HasEnv, IsOpen, counted}
use Rattle.plan_eval_state.specs.Loop.{Site, bare}
use Rattle.plan_eval_state.proofs.Bottoms.{place_under}
use Rattle.plan_eval_state.proofs.Envs.{env_under}
use Rattle.plan_eval_made.specs.declared.here.Here.{Here}
use Rattle.plan_eval_made.specs.declared.here.Binding.{Binding}
use Rattle.plan_eval_made.specs.Where.{names_here, places_here, value_at, bound_at, spot, site, IsHere, AreBelow, Ready}
use Rattle.plan_eval_made.specs.Comes.{Grows}

-- ---- places

there_is : {A : Type 0} (xs : List A) (i : ℕ) → i < length xs → (x : A) × (slice_get xs i ≡ Some x)
there_is [] i h = absurd (omega (arith, h))
there_is (x ∷ xs) zero h = (x, refl)
there_is (x ∷ xs) (suc i) h = there_is xs i (omega (arith, h))

is_within : {A : Type 0} (xs : List A) (i : ℕ) (x : A) → slice_get xs i ≡ Some x → i < length xs
is_within [] i x h = absurd (none-some h)
is_within (y ∷ xs) zero x h = omega arith
is_within (y ∷ xs) (suc i) x h = let less : i < length xs = is_within xs i x h in omega (arith, less)

-- a place below the height has a value
pub stands : (stack : List Value) (i : ℕ) → i < length stack → at_place stack i ≡ Some (value_at stack i)
unfolding at_place
stands stack i h =
    let there = there_is (reverse stack) i (omega (arith, h, length-reverse stack)) in
    rw there.1 refl

-- a place with a value is below the height
pub place_within : (stack : List Value) (i : ℕ) (v : Value) → at_place stack i ≡ Some v → i < length stack
unfolding at_place
place_within stack i v h = omega (arith, is_within (reverse stack) i v h, length-reverse stack)

value_is : (stack : List Value) (i : ℕ) (v : Value) → at_place stack i ≡ Some v → value_at stack i ≡ v
value_is stack i v h = rw h refl

pub below_higher : (places : List ℕ) (low high : ℕ) → low ≤ high → AreBelow places low → AreBelow places high
below_higher [] low high le h = tt
below_higher (i ∷ is) low high le h = (omega (arith, le, h.0), below_higher is low high le h.1)

pub below_both : (front back : List ℕ) (height : ℕ) → AreBelow front height → AreBelow back height → AreBelow (front ++ back) height
below_both [] back height f b = b
below_both (i ∷ is) back height f b = (f.0, below_both is back height f.1 b)

pub below_front : (front back : List ℕ) (height : ℕ) → AreBelow (front ++ back) height → AreBelow front height
below_front [] back height h = tt
below_front (i ∷ is) back height h = (h.0, below_front is back height h.1)

pub below_back : (front back : List ℕ) (height : ℕ) → AreBelow (front ++ back) height → AreBelow back height
below_back [] back height h = h
below_back (i ∷ is) back height h = below_back is back height h.1

-- places from one on, so many, end where they are counted to
pub counted_below : {A : Type 0} (xs : List A) (base height : ℕ) → base + length xs ≤ height → AreBelow (counted base xs) height
counted_below [] base height h = tt
counted_below (x ∷ xs) base height h = (omega (arith, h), counted_below xs (base + 1) height (omega (arith, h)))

pub counted_fits : {A : Type 0} (xs : List A) (base height k : ℕ) → AreBelow (counted base xs) height → k < length xs → base + k < height
counted_fits [] base height k h less = absurd (omega (arith, less))
counted_fits (x ∷ xs) base height zero h less = omega (arith, h.0)
counted_fits (x ∷ xs) base height (suc k) h less =
    let more : base + 1 + k < height = counted_fits xs (base + 1) height k h.1 (omega (arith, less)) in
    omega (arith, more)

pub length_counted : {A : Type 0} (xs : List A) (base : ℕ) → length (counted base xs) ≡ length xs
length_counted [] base = refl
length_counted (x ∷ xs) base = ap suc (length_counted xs (base + 1))

pub length_map : {A B : Type 0} (f : A → B) (xs : List A) → length (map f xs) ≡ length xs
length_map f [] = refl
length_map f (x ∷ xs) = ap suc (length_map f xs)

-- ---- environments

pub env_stands : (names : List Name) (places : List ℕ) (stack : List Value) → length names ≡ length places → AreBelow places (length stack) → HasValues (bound_at names places stack) places stack
env_stands [] [] stack same h = tt
env_stands (x ∷ names) (i ∷ places) stack same h = (stands stack i h.0, env_stands names places stack (omega (arith, same)) h.1)
env_stands [] (i ∷ places) stack same h = absurd (omega (arith, same))
env_stands (x ∷ names) [] stack same h = absurd (omega (arith, same))

pub names_bound : (names : List Name) (places : List ℕ) (stack : List Value) → length names ≡ length places → map (λ (b : Bound). b.name) (bound_at names places stack) ≡ names
names_bound [] [] stack same = refl
names_bound (x ∷ names) (i ∷ places) stack same = ap (λ l. x ∷ l) (names_bound names places stack (omega (arith, same)))
names_bound [] (i ∷ places) stack same = absurd (omega (arith, same))
names_bound (x ∷ names) [] stack same = absurd (omega (arith, same))

-- an environment whose values stand at places is the one that is computed
pub env_is : (env : Env) (places : List ℕ) (stack : List Value) → HasValues env places stack → bound_at (map (λ (b : Bound). b.name) env) places stack ≡ env
env_is [] [] stack h = refl
env_is (b ∷ env) (i ∷ places) stack h =
    let v : value_at stack i ≡ b.value = value_is stack i b.value h.0 in
    ap (λ (w : Value). binds b.name w ∷ bound_at (map (λ (b : Bound). b.name) env) places stack) v ∙ ap (λ (l : Env). b ∷ l) (env_is env places stack h.1)
env_is [] (i ∷ places) stack h = absurd h
env_is (b ∷ env) [] stack h = absurd h

pub env_below : (env : Env) (places : List ℕ) (stack : List Value) → HasValues env places stack → AreBelow places (length stack)
env_below [] [] stack h = tt
env_below (b ∷ env) (i ∷ places) stack h = (place_within stack i b.value h.0, env_below env places stack h.1)
env_below [] (i ∷ places) stack h = absurd h
env_below (b ∷ env) [] stack h = absurd h

value_under : (held pre : List Value) (i : ℕ) → i < length pre → value_at (held ++ pre) i ≡ value_at pre i
value_under held pre i h = value_is (held ++ pre) i (value_at pre i) (place_under held pre i (value_at pre i) (stands pre i h))

bound_under : (names : List Name) (places : List ℕ) (held pre : List Value) → AreBelow places (length pre) → bound_at names places (held ++ pre) ≡ bound_at names places pre
bound_under [] places held pre h = refl
bound_under (x ∷ names) [] held pre h = refl
bound_under (x ∷ names) (i ∷ places) held pre h =
    ap (λ (v : Value). binds x v ∷ bound_at names places (held ++ pre)) (value_under held pre i h.0) ∙ ap (λ (l : Env). binds x (value_at pre i) ∷ l) (bound_under names places held pre h.1)

-- ---- spots

pub as_many : (here : Here) → length (names_here here) ≡ length (places_here here)
as_many here =
    let f = length-append (map (λ (p : Param). p.name) here.function.now.params) (map (λ (b : Binding). b.name.now) here.bindings.now) in
    let g = length-append (counted here.base here.function.now.params) (map (λ (b : Binding). b.at) here.bindings.now) in
    omega (
      arith,
      f,
      g,
      length_map (λ (p : Param). p.name) here.function.now.params,
      length_map (λ (b : Binding). b.name.now) here.bindings.now,
      length_counted here.function.now.params here.base,
      length_map (λ (b : Binding). b.at) here.bindings.now,
    )

-- the spot sees its environment on the stack
pub sees : (here : Here) (e : Expr) (stack : List Value) → AreBelow (places_here here) (length stack) → HasEnv (spot here e stack) stack
sees here e stack h = env_stands (names_here here) (places_here here) stack (as_many here) h

pub ready_sees : (here : Here) (e : Expr) (stack : List Value) (codes : List Program) → Ready here stack codes → HasEnv (spot here e stack) stack
ready_sees here e stack codes r = sees here e stack r.places

-- it is open
pub ready_open : (here : Here) (e : Expr) (stack : List Value) (codes : List Program) → Ready here stack codes → IsOpen codes (spot here e stack)
ready_open here e stack codes r = r.is_here.program

-- the walk finds it
pub bare_is : (here : Here) (e : Expr) (stack : List Value) → bare (spot here e stack) ≡ site here e
bare_is here e stack = ap (λ (names : List Name). record (site here e) { names = names }) (names_bound (names_here here) (places_here here) stack (as_many here))

-- what stands on top changes no spot
pub spot_under : (here : Here) (e : Expr) (held pre : List Value) → AreBelow (places_here here) (length pre) → spot here e (held ++ pre) ≡ spot here e pre
spot_under here e held pre h = ap (λ (env : Env). record (spot here e pre) { env = env }) (bound_under (names_here here) (places_here here) held pre h)

pub ready_under : (here : Here) (held pre : List Value) (codes : List Program) → Ready here pre codes → Ready here (held ++ pre) codes
ready_under here held pre codes r = record { is_here = r.is_here; places = below_higher (places_here here) (length pre) (length (held ++ pre)) (omega (arith, length-append held pre)) r.places }

open_grown : (codes more : List Program) (n : ℕ) (p : Program) → slice_get codes n ≡ Some p → slice_get (codes ++ more) n ≡ Some p
open_grown [] more n p h = absurd (none-some h)
open_grown (c ∷ codes) more zero p h = h
open_grown (c ∷ codes) more (suc n) p h = open_grown codes more n p h

pub here_grown : (here : Here) (codes new : List Program) → Grows codes new → IsHere codes here → IsHere new here
here_grown here codes new g h = record {
  program = rw g.grown (open_grown codes g.more here.number here.code.now h.program);
  size = h.size;
  function = h.function;
}

pub ready_grown : (here : Here) (stack : List Value) (codes new : List Program) → Grows codes new → Ready here stack codes → Ready here stack new
ready_grown here stack codes new g r = record { is_here = here_grown here codes new g r.is_here; places = r.places }

pub grows_none : (codes : List Program) → Grows codes codes
grows_none codes = record { more = []; grown = sym (append-nil codes) }

pub grows_both : (codes mid new : List Program) → Grows codes mid → Grows mid new → Grows codes new
grows_both codes mid new f g = record { more = f.more ++ g.more; grown = g.grown ∙ ap (λ l. l ++ g.more) f.grown ∙ append_assoc codes f.more g.more }

pub grows_same : (codes new : List Program) → new ≡ codes → Grows codes new
grows_same codes new e = record { more = []; grown = e ∙ sym (append-nil codes) }

-- ---- the spot that waits or stands is the one that is computed

spot_parts : (a b : Spot) → a.code ≡ b.code → a.number ≡ b.number → a.fun ≡ b.fun → a.env ≡ b.env → a.places ≡ b.places → a.expr ≡ b.expr → a ≡ b
spot_parts a b c n f e p x = λ i. record { code = c i; number = n i; fun = f i; env = e i; places = p i; expr = x i }

pub spot_is : (here : Here) (e : Expr) (s : Spot) (codes : List Program) (stack : List Value) → bare s ≡ site here e → IsOpen codes s → IsHere codes here → HasEnv s stack
    → spot here e stack ≡ s
spot_is here e s codes stack same opened h at =
    let number : s.number ≡ here.number = ap (λ (t : Site). t.number) same in
    let code : s.code ≡ here.code.now = some-same (sym opened ∙ ap (slice_get codes) number ∙ h.program) in
    let names : map (λ (b : Bound). b.name) s.env ≡ names_here here = ap (λ (t : Site). t.names) same in
    let places : s.places ≡ places_here here = ap (λ (t : Site). t.places) same in
    let env : bound_at (names_here here) (places_here here) stack ≡ s.env =
    sym (ap (λ (l : List Name). bound_at l (places_here here) stack) names) ∙ sym (ap (λ (l : List ℕ). bound_at (map (λ (b : Bound). b.name) s.env) l stack) places) ∙ env_is s.env s.places stack at in
    spot_parts (spot here e stack) s (sym code) (sym number) (sym (ap (λ (t : Site). t.fun) same)) env (sym places) (sym (ap (λ (t : Site). t.expr) same))

-- where a spot sees its environment, the place is ready
pub sees_is : (here : Here) (e : Expr) (s : Spot) (codes : List Program) (stack : List Value) → bare s ≡ site here e → IsHere codes here → HasEnv s stack → Ready here stack codes
sees_is here e s codes stack same h at =
    let places : s.places ≡ places_here here = ap (λ (t : Site). t.places) same in
    record { is_here = h; places = subst (λ (l : List ℕ). AreBelow l (length stack)) places (env_below s.env s.places stack at) }
