-- The first clause that catches an exception, counted as the clauses are looked through.
use Rattle.std.proofs.Common.{◌≡◌, ◌<◌, ℕ, suc, ◌+◌, arith, length, Bool, true, false, if◌then◌else◌, List, [], ◌∷◌, Option, Some, None, refl, sym, ap, ◌∙◌}
use Rattle.plan_base.specs.declared.tree.Clause.{Clause}
use Rattle.plan_base.specs.declared.tree.Exn.{Exn}
use Rattle.plan_meaning.specs.Meaning.{catches}
use Rattle.plan_eval_state.specs.Forms.{one_more, clause_for}

-- the number of the first clause that catches it, where the first one of these has that number
abbrev pub clause_from : ℕ → List Clause → Exn → Option ℕ
clause_from n [] x = None
clause_from n (k ∷ ks) x = if catches k.name x then Some n else clause_from (n + 1) ks x

later_one : (c : Bool) (n : ℕ) (o p : Option ℕ) → o ≡ one_more p → (if c then Some (n + 1) else o) ≡ one_more (if c then Some n else p)
later_one true n o p h = let e : n + 1 ≡ suc n = omega arith in ap Some e
later_one false n o p h = h

clause_later : (ks : List Clause) (x : Exn) (n : ℕ) → clause_from (n + 1) ks x ≡ one_more (clause_from n ks x)
clause_later [] x n = refl
clause_later (k ∷ ks) x n = later_one (catches k.name x) n (clause_from (n + 1 + 1) ks x) (clause_from (n + 1) ks x) (clause_later ks x (n + 1))

pub clause_begins : (ks : List Clause) (x : Exn) → clause_from 0 ks x ≡ clause_for ks x
clause_begins [] x = refl
clause_begins (k ∷ ks) x = ap (λ o. (if catches k.name x then Some 0 else o)) (clause_later ks x 0 ∙ ap one_more (clause_begins ks x))

-- none is left
pub clause_ends : (ks rest : List Clause) (x : Exn) (n : ℕ) → clause_from 0 ks x ≡ clause_from n rest x → length rest < 1 → None ≡ clause_for ks x
clause_ends ks [] x n e less = sym e ∙ clause_begins ks x
clause_ends ks (k ∷ rest) x n e less = absurd (omega (arith, less))
