-- Children that were started.
use Rattle.std.proofs.Common.{◌≡◌, ℕ, ◌+◌, ◌<◌, List, [], ◌∷◌, ◌++◌, sym, subst, arith}
use Rattle.std.specs.List.{All, Contains, filter}
use Rattle.std.proofs.lemmas.List.Elements.{Contains-push, All-nil, All-push, All-contains, All-weaker, All-filter}
use Rattle.node_io.specs.declared.spawner.Child.{Child}
use Rattle.node_io.specs.Spawners.{is_other}

-- what was added last is there
pub last_is_there : {X : Type 0} (old new : List X) (x : X) → new ≡ old ++ x ∷ [] → Contains new x
last_is_there {X} old new x e = subst (λ xs. Contains xs x) (sym e) (Contains-push old x)

-- the numbers stay below the number of children started when one more was opened
pub below_more : (n : ℕ) (running : List Child) (child : Child) → All (λ c. c.0 < n) running → child.0 ≡ n → All (λ c. c.0 < n + 1) (running ++ child ∷ [])
below_more n running child h e = All-push (λ c. c.0 < n + 1) running child (All-weaker (λ c. c.0 < n) (λ c. c.0 < n + 1) (λ c l. omega arith) running h) (omega arith)

-- the next number belongs to no running child
pub fresh_child : (n : ℕ) (running : List Child) (child : Child) → All (λ c. c.0 < n) running → child.0 ≡ n → Contains running child → ⊥
fresh_child n running child h e k = let l : child.0 < n = All-contains (λ c. c.0 < n) running child h k in absurd (omega arith)

pub none_below : (n : ℕ) → All {X = Child} (λ c. c.0 < n) []
none_below n = All-nil {X = Child} (λ c. c.0 < n)

pub others_below : (n : ℕ) (running : List Child) (child : Child) → All (λ c. c.0 < n) running → All (λ c. c.0 < n) (filter (is_other child) running)
others_below n running child h = All-filter (is_other child) (λ c. c.0 < n) running h
