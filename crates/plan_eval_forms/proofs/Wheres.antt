-- The spots of expressions, as they are computed from the stack.
use Rattle.std.proofs.Common.{◌≡◌, ◌<◌, ◌≤◌, ℕ, zero, suc, ◌+◌, arith, List, [], ◌∷◌, ◌++◌, length, map, reverse, take, drop, slice_get, Some, refl, sym, ap, ◌∙◌, subst, append-nil}
use Rattle.std.proofs.lemmas.List.{length-append, length-reverse, take-append-drop, length-map}
use Rattle.containers.proofs.Options.{none-some}
use Rattle.plan_base.specs.declared.name.Name.{Name}
use Rattle.plan_base.specs.declared.tree.Expr.{Expr}
use Rattle.plan_base.specs.declared.tree.Fun.{Fun}
use Rattle.plan_base.specs.declared.tree.Program.{Program}
use Rattle.plan_base.specs.declared.tree.Value.{Value}
use Rattle.plan_meaning.specs.declared.binding.Binding.{Binding}
use Rattle.plan_meaning.specs.Meaning.{Env, binds}
use Rattle.plan_eval_state.specs.declared.continuation.Activation.{Activation}
use Rattle.plan_eval_state.specs.Places.{at_place}
use Rattle.plan_eval_state.specs.Spots.{Spot, HasValues, HasEnv, counted}
use Rattle.plan_eval_state.proofs.Bottoms.{kept_in, place_under}
use Rattle.plan_eval_state.proofs.Envs.{env_in_let, env_in_body, map_one, names_in_body, places_in_body}
use Rattle.plan_eval_state.proofs.Stepping.{Entered}
use Rattle.plan_eval_made.specs.declared.here.Here.{Here}
use Rattle.plan_eval_made.specs.Where.{names_here, places_here, value_or_unit, value_at, bound_at, spot, IsHere, AreBelow, Ready}
use Rattle.plan_eval_made.specs.Comes.{Grows}

-- ---- places

pub there : {A : Type 0} (xs : List A) (i : ℕ) → i < length xs → (x : A) × (slice_get xs i ≡ Some x)
there [] i h = absurd (omega (arith, h))
there (x ∷ xs) zero h = (x, refl)
there (x ∷ xs) (suc i) h = there xs i (omega (arith, h))

pub inside : {A : Type 0} (xs : List A) (i : ℕ) (x : A) → slice_get xs i ≡ Some x → i < length xs
inside [] i x is = absurd (none-some is)
inside (y ∷ xs) zero x is = omega arith
inside (y ∷ xs) (suc i) x is = let h = inside xs i x is in omega (arith, h)

placed : (stack : List Value) (i : ℕ) → i < length stack → (v : Value) × (at_place stack i ≡ Some v)
unfolding at_place
placed stack i h = there (reverse stack) i (omega (arith, h, length-reverse stack))

below_height : (stack : List Value) (i : ℕ) (v : Value) → at_place stack i ≡ Some v → i < length stack
unfolding at_place
below_height stack i v is = let h = inside (reverse stack) i v is in omega (arith, h, length-reverse stack)

-- ---- environments

value_under : (held pre : List Value) (i : ℕ) → i < length pre → value_at (held ++ pre) i ≡ value_at pre i
value_under held pre i h =
    let p = placed pre i h in
    ap value_or_unit (place_under held pre i p.0 p.1) ∙ ap value_or_unit (sym p.1)

bound_under : (names : List Name) (places : List ℕ) (held pre : List Value) → AreBelow places (length pre) → bound_at names places (held ++ pre) ≡ bound_at names places pre
bound_under [] places held pre h = refl
bound_under (x ∷ xs) [] held pre h = refl
bound_under (x ∷ xs) (i ∷ is) held pre h =
    ap (λ v. binds x v ∷ bound_at xs is (held ++ pre)) (value_under held pre i h.0) ∙ ap (λ l. binds x (value_at pre i) ∷ l) (bound_under xs is held pre h.1)

has_values : (names : List Name) (places : List ℕ) (stack : List Value) → length names ≡ length places → AreBelow places (length stack) → HasValues (bound_at names places stack) places stack
has_values [] [] stack same h = tt
has_values (x ∷ xs) (i ∷ is) stack same h =
    let p = placed stack i h.0 in
    (p.1 ∙ ap Some (sym (ap value_or_unit p.1)), has_values xs is stack (omega (arith, same)) h.1)
has_values [] (i ∷ is) stack same h = absurd (omega (arith, same))
has_values (x ∷ xs) [] stack same h = absurd (omega (arith, same))

-- an environment is what its names are bound to at its places
bound_is : (env : Env) (places : List ℕ) (stack : List Value) → HasValues env places stack → bound_at (map (λ (b : Binding). b.name) env) places stack ≡ env
bound_is [] [] stack h = refl
bound_is (b ∷ bs) (i ∷ is) stack h =
    ap (λ v. binds b.name v ∷ bound_at (map (λ (b : Binding). b.name) bs) is stack) (ap value_or_unit h.0) ∙ ap (λ l. b ∷ l) (bound_is bs is stack h.1)
bound_is [] (i ∷ is) stack h = absurd h
bound_is (b ∷ bs) [] stack h = absurd h

-- its names are those that it binds
names_are : (names : List Name) (places : List ℕ) (stack : List Value) → length names ≡ length places → map (λ (b : Binding). b.name) (bound_at names places stack) ≡ names
names_are [] places stack same = refl
names_are (x ∷ xs) (i ∷ is) stack same = ap (λ l. x ∷ l) (names_are xs is stack (omega (arith, same)))
names_are (x ∷ xs) [] stack same = absurd (omega (arith, same))

-- places whose values stand are below the height
are_below : (env : Env) (places : List ℕ) (stack : List Value) → HasValues env places stack → AreBelow places (length stack)
are_below [] [] stack h = tt
are_below (b ∷ bs) (i ∷ is) stack h = (below_height stack i b.value h.0, are_below bs is stack h.1)
are_below [] (i ∷ is) stack h = absurd h
are_below (b ∷ bs) [] stack h = absurd h

higher : (places : List ℕ) (m n : ℕ) → m ≤ n → AreBelow places m → AreBelow places n
higher [] m n le h = tt
higher (i ∷ is) m n le h = (omega (arith, le, h.0), higher is m n le h.1)

length_counted : {A : Type 0} (i : ℕ) (xs : List A) → length (counted i xs) ≡ length xs
length_counted i [] = refl
length_counted i (x ∷ xs) = let h = length_counted (i + 1) xs in omega (arith, h)

-- as many names as places
as_many : (here : Here) → length (names_here here) ≡ length (places_here here)
as_many here =
    omega (
      arith,
      length-append (map (λ p. p.name) here.function.now.params) (map (λ b. b.name.now) here.bindings.now),
      length-append (counted here.base here.function.now.params) (map (λ b. b.at) here.bindings.now),
      length_counted here.base here.function.now.params,
      length-map here.function.now.params (λ p. p.name),
      length-map here.bindings.now (λ b. b.name.now),
      length-map here.bindings.now (λ b. b.at),
    )

-- ---- spots

pub spot_under : (here : Here) (e : Expr) (held pre : List Value) (codes : List Program) → Ready here pre codes → spot here e (held ++ pre) ≡ spot here e pre
spot_under here e held pre codes ready =
    ap (λ env. record { code = here.code.now; number = here.number; fun = here.fun; env = env; places = places_here here; expr = e })
    (bound_under (names_here here) (places_here here) held pre ready.places)

pub has_env : (here : Here) (e : Expr) (pre : List Value) (codes : List Program) → Ready here pre codes → HasEnv (spot here e pre) pre
has_env here e pre codes ready = has_values (names_here here) (places_here here) pre (as_many here) ready.places

pub ready_over : (here : Here) (held pre : List Value) (codes : List Program) → Ready here pre codes → Ready here (held ++ pre) codes
ready_over here held pre codes ready =
    record { is_here = ready.is_here; places = higher (places_here here) (length pre) (length (held ++ pre)) (omega (arith, length-append held pre)) ready.places }

pub ready_grown : (here : Here) (stack : List Value) (old new : List Program) → Grows old new → Ready here stack old → Ready here stack new
ready_grown here stack old new g ready =
    record {
      is_here = record {
        program = subst (λ l. slice_get l here.number ≡ Some here.code.now) (sym g.grown) (kept_in old g.more here.number here.code.now ready.is_here.program);
        size = ready.is_here.size;
        function = ready.is_here.function;
      };
      places = ready.places;
    }

-- above so many values
pub spot_drop : (here : Here) (e : Expr) (n : ℕ) (stack : List Value) (codes : List Program) → Ready here (drop n stack) codes → spot here e stack ≡ spot here e (drop n stack)
spot_drop here e n stack codes ready = ap (spot here e) (sym (take-append-drop n stack)) ∙ spot_under here e (take n stack) (drop n stack) codes ready

pub ready_drop : (here : Here) (n : ℕ) (stack : List Value) (codes : List Program) → Ready here (drop n stack) codes → Ready here stack codes
ready_drop here n stack codes ready = subst (λ l. Ready here l codes) (take-append-drop n stack) (ready_over here (take n stack) (drop n stack) codes ready)

-- ---- the body of a `let`

-- the same body, where one more name is bound
pub record IsInner (here inner : Here) (x : Name) (i : ℕ) : Type 0 where
  pub code : inner.code.now ≡ here.code.now
  pub number : inner.number ≡ here.number
  pub size : inner.size ≡ here.size
  pub fun : inner.fun ≡ here.fun
  pub function : inner.function.now ≡ here.function.now
  pub names : names_here inner ≡ names_here here ++ x ∷ []
  pub places : places_here inner ≡ places_here here ++ i ∷ []

module _ (here inner : Here) (x : Name) (v : Value) (i : ℕ) (pre : List Value) (codes : List Program) (is : IsInner here inner x i) (ready : Ready here pre codes)
    (height : i ≡ length pre) where
  let_values : HasValues (bound_at (names_here here) (places_here here) pre ++ binds x v ∷ []) (places_here here ++ i ∷ []) (v ∷ pre)
  let_values = env_in_let (bound_at (names_here here) (places_here here) pre) (places_here here) pre x v i (has_values (names_here here) (places_here here) pre (as_many here) ready.places) height

  let_names : map (λ (b : Binding). b.name) (bound_at (names_here here) (places_here here) pre ++ binds x v ∷ []) ≡ names_here here ++ x ∷ []
  let_names =
      map_one (bound_at (names_here here) (places_here here) pre) x v ∙ ap (λ l. l ++ x ∷ []) (names_are (names_here here) (places_here here) pre (as_many here))

  let_env : bound_at (names_here inner) (places_here inner) (v ∷ pre) ≡ bound_at (names_here here) (places_here here) pre ++ binds x v ∷ []
  let_env =
      ap (λ l. bound_at l (places_here inner) (v ∷ pre)) (is.names ∙ sym let_names)
      ∙ ap (λ l. bound_at (map (λ (b : Binding). b.name) (bound_at (names_here here) (places_here here) pre ++ binds x v ∷ [])) l (v ∷ pre)) is.places
      ∙ bound_is (bound_at (names_here here) (places_here here) pre ++ binds x v ∷ []) (places_here here ++ i ∷ []) (v ∷ pre) let_values

  -- it sees the value on top under that name
  pub let_spot : (b : Expr)
      → spot inner b (v ∷ pre) ≡ record (spot here b pre) { env = bound_at (names_here here) (places_here here) pre ++ binds x v ∷ []; places = places_here here ++ i ∷ [] }
  let_spot b = rw (is.code, is.number, is.fun, let_env, is.places) refl

  pub let_ready : Ready inner (v ∷ pre) codes
  let_ready =
      record {
        is_here = record {
          program = rw (is.code, is.number) ready.is_here.program;
          size = rw (is.size, is.code) ready.is_here.size;
          function = rw (is.code, is.fun, is.function) ready.is_here.function;
        };
        places = rw is.places (are_below _ (places_here here ++ i ∷ []) (v ∷ pre) let_values);
      }

-- ---- the body of a function

-- the body of a function, under its arguments alone
pub record IsBody (here : Here) (program : Program) (a : Activation) (f : Fun) : Type 0 where
  pub code : here.code.now ≡ program
  pub number : here.number ≡ a.number
  pub fun : here.fun ≡ a.fun
  pub function : here.function.now ≡ f
  pub base : here.base ≡ a.base
  pub bindings : here.bindings.now ≡ []

module _ (here : Here) (code : Program) (a : Activation) (args pre : List Value) (next : Spot) (b : Entered (Some code) a args next)
    (is : IsBody here b.code a b.f) (height : a.base ≡ length pre) where
  body_values : HasValues b.env (counted a.base args) (reverse args ++ pre)
  body_values = env_in_body b.f.params args pre a.base b.env b.binds height

  body_names : names_here here ≡ map (λ (b : Binding). b.name) b.env
  body_names =
      rw (is.function, is.bindings) (append-nil (map (λ p. p.name) b.f.params) ∙ sym (names_in_body b.f.params args b.env b.binds))

  body_places : places_here here ≡ counted a.base args
  body_places =
      rw (is.function, is.bindings, is.base) (append-nil (counted a.base b.f.params) ∙ sym (places_in_body b.f.params args b.env a.base b.binds))

  body_env : bound_at (names_here here) (places_here here) (reverse args ++ pre) ≡ b.env
  body_env =
      ap (λ l. bound_at l (places_here here) (reverse args ++ pre)) body_names
      ∙ ap (λ l. bound_at (map (λ (b : Binding). b.name) b.env) l (reverse args ++ pre)) body_places
      ∙ bound_is b.env (counted a.base args) (reverse args ++ pre) body_values

  -- it sees the arguments where they stand
  pub body_spot : spot here b.f.body (reverse args ++ pre) ≡ next
  body_spot = rw (is.code, is.number, is.fun, body_env, body_places) (sym b.is)

  pub body_ready : (codes : List Program) → IsHere codes here → Ready here (reverse args ++ pre) codes
  body_ready codes at = record { is_here = at; places = rw body_places (are_below b.env (counted a.base args) (reverse args ++ pre) body_values) }
