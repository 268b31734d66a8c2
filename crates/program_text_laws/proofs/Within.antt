-- A well-formed program keeps the limits of the grammar.
use Rattle.std.proofs.Common.{◌≡◌, ◌≤◌, Bool, true, List, [], ◌∷◌, length}
use Rattle.std.specs.List.{list_all}
use Rattle.std.proofs.lemmas.Bool.{leb-true}
use Rattle.containers.proofs.Bools.{both_true}
use Rattle.plan_base.specs.Sizes.{expr_depth, program_nodes}
use Rattle.plan_base.specs.WellFormed.{well_formed_expr, well_formed_svc, well_formed_fun, well_formed_program, IsWellFormedProgram}
use Rattle.plan_base.specs.declared.tree.Svc.{Svc}
use Rattle.plan_base.specs.declared.tree.Expr.{Expr}
use Rattle.plan_base.specs.declared.tree.Fun.{Fun}
use Rattle.plan_base.specs.declared.tree.Program.{Program}
use Rattle.program_text_laws.specs.Proper.{AllProper}

-- at most 8 parameters
abbrev pub IsShortSvc : Svc → Type 0
IsShortSvc s = length s.params ≤ 8

-- at most 8 parameters, and a body of at most depth 64
abbrev pub IsShortFun : Fun → Type 0
IsShortFun f = (length f.params ≤ 8) × (expr_depth f.body ≤ 64)

-- at most 64 services, exceptions and functions, at least one function, and at most 4,096 expressions
pub record IsWithinLimits (p : Program) : Type 0 where
  pub svcs : length p.svcs ≤ 64
  pub exns : length p.exns ≤ 64
  pub some : 1 ≤ length p.funs
  pub funs : length p.funs ≤ 64
  pub nodes : program_nodes p ≤ 4096
  pub short_svcs : AllProper IsShortSvc p.svcs
  pub short_funs : AllProper IsShortFun p.funs

all_proper : {X : Type 0} (q : X → Bool) (P : X → Type 0) → ((x : X) → q x ≡ true → P x) → (xs : List X) → list_all q xs ≡ true → AllProper P xs
all_proper q P k [] h = tt
all_proper q P k (x ∷ xs) h = let z = both_true (q x) (list_all q xs) h in (k x z.0, all_proper q P k xs z.1)

short_svc : (s : Svc) → well_formed_svc s ≡ true → IsShortSvc s
short_svc s h = leb-true (length s.params) 8 (both_true _ _ h).0

shallow : (e : Expr) → well_formed_expr e ≡ true → expr_depth e ≤ 64
unfolding well_formed_expr
shallow e h = leb-true (expr_depth e) 64 (both_true _ _ h).1

short_fun : (f : Fun) → well_formed_fun f ≡ true → IsShortFun f
short_fun f h = let z = both_true _ _ h in (leb-true (length f.params) 8 z.0, shallow f.body (both_true _ _ (both_true _ _ z.1).1).1)

pub within_limits : (p : Program) → IsWellFormedProgram p → IsWithinLimits p
unfolding well_formed_program
within_limits p h =
    let a = both_true _ _ h in
    let b = both_true _ _ a.0 in
    let c = both_true _ _ a.1 in
    let d = both_true _ _ c.1 in
    let e = both_true _ _ d.0 in
    let f = both_true _ _ e.0 in
    record {
      svcs = leb-true (length p.svcs) 64 b.0;
      exns = leb-true (length p.exns) 64 c.0;
      some = leb-true 1 (length p.funs) f.0;
      funs = leb-true (length p.funs) 64 f.1;
      nodes = leb-true (program_nodes p) 4096 d.1;
      short_svcs = all_proper well_formed_svc IsShortSvc short_svc p.svcs b.1;
      short_funs = all_proper well_formed_fun IsShortFun short_fun p.funs e.1;
    }
