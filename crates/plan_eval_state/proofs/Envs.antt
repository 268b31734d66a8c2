-- Environments as places of the stack.
use Rattle.std.proofs.Common.{◌≡◌, ℕ, ◌+◌, List, [], ◌∷◌, ◌++◌, length, map, reverse, slice_get, Some, refl, sym, ap, ◌∙◌, subst, arith, append-nil, length-append}
use Rattle.std.proofs.lemmas.List.{append_assoc, reverse-append, reverse-reverse, length-reverse}
use Rattle.containers.proofs.Options.{none-some, some-same}
use Rattle.plan_base.specs.declared.name.Name.{Name}
use Rattle.plan_base.specs.declared.tree.Param.{Param}
use Rattle.plan_base.specs.declared.tree.Value.{Value}
use Rattle.plan_meaning.specs.declared.binding.Binding.{Binding}
use Rattle.plan_meaning.specs.Meaning.{Env, binds, bound, bound_behind}
use Rattle.plan_eval_state.specs.Places.{at_place}
use Rattle.plan_eval_state.specs.Spots.{HasValues, counted}
use Rattle.plan_eval_state.proofs.Bottoms.{place_under, place_of_top}

-- what stands on top changes no environment
pub env_under : (env : Env) (places : List ℕ) (held pre : List Value) → HasValues env places pre → HasValues env places (held ++ pre)
env_under [] [] held pre h = tt
env_under (b ∷ bs) (i ∷ is) held pre h = (place_under held pre i b.value h.0, env_under bs is held pre h.1)
env_under [] (i ∷ is) held pre h = absurd h
env_under (b ∷ bs) [] held pre h = absurd h

-- one more name
env_behind : (env : Env) (places : List ℕ) (stack : List Value) (x : Name) (v : Value) (i : ℕ) → HasValues env places stack → at_place stack i ≡ Some v
    → HasValues (env ++ binds x v ∷ []) (places ++ i ∷ []) stack
env_behind [] [] stack x v i h is = (is, tt)
env_behind (b ∷ bs) (j ∷ js) stack x v i h is = (h.0, env_behind bs js stack x v i h.1 is)
env_behind [] (j ∷ js) stack x v i h is = absurd h
env_behind (b ∷ bs) [] stack x v i h is = absurd h

-- the body of a `let` sees the value on top of what stood there
pub env_in_let : (env : Env) (places : List ℕ) (pre : List Value) (x : Name) (v : Value) (i : ℕ) → HasValues env places pre → i ≡ length pre
    → HasValues (env ++ binds x v ∷ []) (places ++ i ∷ []) (v ∷ pre)
env_in_let env places pre x v i h is = env_behind env places (v ∷ pre) x v i (env_under env places (v ∷ []) pre h) (place_of_top v pre i is)

-- ---- arguments

-- the values stand in order from a place on
abbrev pub StandFrom : ℕ → List Value → List Value → Type 0
StandFrom i [] stack = Unit {0}
StandFrom i (v ∷ vs) stack = (at_place stack i ≡ Some v) × StandFrom (i + 1) vs stack

item_behind : (xs vs : List Value) (v : Value) (i : ℕ) → i ≡ length xs → slice_get (xs ++ v ∷ vs) i ≡ Some v
item_behind [] vs v i e = ap (λ n. slice_get (v ∷ vs) n) e
item_behind (x ∷ xs) vs v i e = ap (λ n. slice_get (x ∷ (xs ++ v ∷ vs)) n) e ∙ item_behind xs vs v (length xs) refl

stand_in : (stack xs vs : List Value) (i : ℕ) → reverse stack ≡ xs ++ vs → i ≡ length xs → StandFrom i vs stack
unfolding at_place
stand_in stack xs [] i is e = tt
stand_in stack xs (v ∷ vs) i is e =
    let more : length (xs ++ v ∷ []) ≡ length xs + 1 = length-append xs (v ∷ []) in (
      ap (λ l. slice_get l i) is ∙ item_behind xs vs v i e,
      stand_in stack (xs ++ v ∷ []) vs (i + 1) (is ∙ sym (append_assoc xs (v ∷ []) vs)) (omega (arith, e, more)),
    )

-- arguments on top of a stack stand from its height on
pub args_stand : (args pre : List Value) (base : ℕ) → base ≡ length pre → StandFrom base args (reverse args ++ pre)
args_stand args pre base e =
    stand_in (reverse args ++ pre) (reverse pre) args base
    (reverse-append (reverse args) pre ∙ ap (λ l. reverse pre ++ l) (reverse-reverse args)) (e ∙ sym (length-reverse pre))

env_of_args : (done : Env) (places : List ℕ) (stack : List Value) (ps : List Param) (vs : List Value) (i : ℕ) (env : Env) → HasValues done places stack → StandFrom i vs stack
    → bound_behind done ps vs ≡ Some env → HasValues env (places ++ counted i vs) stack
env_of_args done places stack [] [] i env h at is =
    let same : done ≡ env = some-same is in
    subst (λ l. HasValues env l stack) (sym (append-nil places)) (subst (λ (d : Env). HasValues d places stack) same h)
env_of_args done places stack (p ∷ ps) (v ∷ vs) i env h at is =
    subst (λ l. HasValues env l stack) (append_assoc places (i ∷ []) (counted (i + 1) vs))
    (env_of_args (done ++ binds p.name v ∷ []) (places ++ i ∷ []) stack ps vs (i + 1) env (env_behind done places stack p.name v i h at.0) at.1 is)
env_of_args done places stack [] (v ∷ vs) i env h at is = absurd (none-some is)
env_of_args done places stack (p ∷ ps) [] i env h at is = absurd (none-some is)

-- a body sees its arguments where they stand
pub env_in_body : (ps : List Param) (args pre : List Value) (base : ℕ) (env : Env) → bound ps args ≡ Some env → base ≡ length pre
    → HasValues env (counted base args) (reverse args ++ pre)
unfolding bound
env_in_body ps args pre base env is e = env_of_args [] [] (reverse args ++ pre) ps args base env tt (args_stand args pre base e) is

pub map_one : (env : Env) (x : Name) (v : Value) → map (λ (b : Binding). b.name) (env ++ binds x v ∷ []) ≡ map (λ (b : Binding). b.name) env ++ x ∷ []
map_one [] x v = refl
map_one (b ∷ env) x v = ap (λ l. b.name ∷ l) (map_one env x v)

-- the names that arguments are bound to are those of the parameters
names_behind : (done : Env) (ps : List Param) (vs : List Value) (env : Env) → bound_behind done ps vs ≡ Some env → map (λ b. b.name) env ≡ map (λ b. b.name) done ++ map (λ p. p.name) ps
names_behind done [] [] env is = ap (map (λ b. b.name)) (sym (some-same is)) ∙ sym (append-nil (map (λ b. b.name) done))
names_behind done (p ∷ ps) (v ∷ vs) env is =
    names_behind (done ++ binds p.name v ∷ []) ps vs env is ∙ ap (λ l. l ++ map (λ p. p.name) ps) (map_one done p.name v) ∙ append_assoc (map (λ b. b.name) done) (p.name ∷ []) (map (λ p. p.name) ps)
names_behind done [] (v ∷ vs) env is = absurd (none-some is)
names_behind done (p ∷ ps) [] env is = absurd (none-some is)

pub names_in_body : (ps : List Param) (vs : List Value) (env : Env) → bound ps vs ≡ Some env → map (λ b. b.name) env ≡ map (λ p. p.name) ps
unfolding bound
names_in_body ps vs env is = names_behind [] ps vs env is

counted_behind : (done : Env) (ps : List Param) (vs : List Value) (env : Env) (i : ℕ) → bound_behind done ps vs ≡ Some env → counted i vs ≡ counted i ps
counted_behind done [] [] env i is = refl
counted_behind done (p ∷ ps) (v ∷ vs) env i is = ap (λ l. i ∷ l) (counted_behind (done ++ binds p.name v ∷ []) ps vs env (i + 1) is)
counted_behind done [] (v ∷ vs) env i is = absurd (none-some is)
counted_behind done (p ∷ ps) [] env i is = absurd (none-some is)

pub places_in_body : (ps : List Param) (vs : List Value) (env : Env) (i : ℕ) → bound ps vs ≡ Some env → counted i vs ≡ counted i ps
unfolding bound
places_in_body ps vs env i is = counted_behind [] ps vs env i is
