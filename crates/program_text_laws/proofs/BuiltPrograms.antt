-- Programs that are given by their trees are checked, and are read again.
use Rattle.std.proofs.Common.{◌≡◌, ℕ, zero, suc, ◌+◌, ◌≤◌, true, ◌&&◌, List, [], ◌∷◌, length, Some, refl, subst, arith}
use Rattle.std.specs.Prelude.{nat_le, slice_get}
use Rattle.std.specs.List.{list_all, sum_by}
use Rattle.std.proofs.lemmas.Bool.{le-leb}
use Rattle.std.proofs.lemmas.List.Sums.{sum_by-cons}
use Rattle.plan_base.specs.Words.{IsName}
use Rattle.plan_base.specs.declared.tree.Param.{Param}
use Rattle.plan_base.specs.declared.tree.Svc.{Svc}
use Rattle.plan_base.specs.declared.tree.Fun.{Fun}
use Rattle.plan_base.specs.declared.tree.Program.{Program}
use Rattle.plan_base.specs.Sizes.{expr_depth, svc_size, param_size, fun_size, expr_nodes, code_size, program_nodes}
use Rattle.plan_base.specs.WellFormed.{has_from_to, well_formed_type, well_formed_expr, well_formed_svc, well_formed_fun, well_formed_program, has_types, program_has_types}
use Rattle.plan_types_spec.specs.Typing.{HasTy, param_names, called_names}
use Rattle.plan_types_spec.specs.TypingNames.{are_new, are_callable}
use Rattle.checked_chunks.specs.Kept.{IsChecked}
use Rattle.program_text_laws.specs.Proper.{AllProper, IsProperSvc, IsProperParam, IsProperFun, IsProperProgram}
use Rattle.program_text_laws.proofs.Built.{BuiltType, type_formed, type_readable, BuiltTypes, Built}

-- ---- services

-- services of at most m bytes, which are well formed and are read again
pub record BuiltSvcs (ss : List Svc) (m : ℕ) : Type 0 where
  pub size : sum_by svc_size ss ≤ m
  pub formed : list_all well_formed_svc ss ≡ true
  pub proper : AllProper IsProperSvc ss

pub no_svcs : BuiltSvcs [] 0
no_svcs = record { size = omega arith; formed = refl; proper = tt }

pub and_svc : (s : Svc) {ss : List Svc} {m n l d k : ℕ} → IsName s.name → nat_le (length s.params) 8 ≡ true → BuiltTypes s.params m d → BuiltType s.result n k → BuiltSvcs ss l
    → BuiltSvcs (s ∷ ss) (length s.name + 2 + m + n + l)
and_svc s {ss = ss} name few ps r h = record {
  size = omega (arith, sum_by-cons svc_size s ss, ps.fits.size, r.fits.size, h.size);
  formed = λ i. (few i && (ps.formed i && type_formed s.result r i)) && h.formed i;
  proper = (record { name = name; params = ps.readable; result = type_readable s.result r }, h.proper);
}

-- ---- functions

-- parameters of at most m bytes, which are well formed and are read again
pub record BuiltParams (ps : List Param) (m : ℕ) : Type 0 where
  pub size : sum_by param_size ps ≤ m
  pub formed : list_all (λ p. well_formed_type p.ty) ps ≡ true
  pub proper : AllProper IsProperParam ps

pub no_params : BuiltParams [] 0
no_params = record { size = omega arith; formed = refl; proper = tt }

pub and_param : (q : Param) {ps : List Param} {m n d : ℕ} → IsName q.name → BuiltType q.ty m d → BuiltParams ps n → BuiltParams (q ∷ ps) (length q.name + 1 + m + n)
and_param q {ps = ps} name t h = record {
  size = omega (arith, sum_by-cons param_size q ps, t.fits.size, h.size);
  formed = λ i. type_formed q.ty t i && h.formed i;
  proper = (record { name = name; ty = type_readable q.ty t }, h.proper);
}

module _ (code : Program) where
  -- functions of at most m bytes from a number on, which are typed and well formed, lack no types, and are read again
  pub record BuiltFuns (at : ℕ) (fs : List Fun) (m : ℕ) : Type 0 where
    pub size : sum_by fun_size fs ≤ m
    pub nodes : sum_by (λ f. expr_nodes f.body) fs ≤ m
    pub formed : list_all well_formed_fun fs ≡ true
    pub full : list_all (λ f. has_types f.body) fs ≡ true
    pub proper : AllProper IsProperFun fs
    pub own : (k : ℕ) (d : Fun) → slice_get fs k ≡ Some d → are_new [] (param_names d.params) ≡ true
    pub typed : (k : ℕ) (d : Fun) → slice_get fs k ≡ Some d → HasTy code (at + k) d.params d.body d.result

  pub no_funs : (at : ℕ) → BuiltFuns at [] 0
  no_funs at = record { size = omega arith; nodes = omega arith; formed = refl; full = refl; proper = tt; own = λ k d e. absurd cc; typed = λ k d e. absurd cc }

  pub and_fun : {at : ℕ} (f : Fun) {fs : List Fun} {m n l j d k : ℕ} → IsName f.name → nat_le (length f.params) 8 ≡ true → are_new [] (param_names f.params) ≡ true → BuiltParams f.params m
      → BuiltType f.result n k → Built code at f.params f.body f.result l d → d ≤ 64 → BuiltFuns (at + 1) fs j → BuiltFuns at (f ∷ fs) (length f.name + 2 + m + n + l + j)
  unfolding well_formed_expr
  and_fun {at = at} f {fs = fs} name few new ps r b w h = record {
    size = omega (arith, sum_by-cons fun_size f fs, ps.size, r.fits.size, b.fits.size, h.size);
    nodes = omega (arith, sum_by-cons (λ f. expr_nodes f.body) f fs, b.fits.nodes, h.nodes);
    formed = λ i. (few i && (ps.formed i && (type_formed f.result r i && (b.fits.formed i && le-leb (expr_depth f.body) 64 (omega (arith, b.fits.depth, w)) i)))) && h.formed i;
    full = λ i. b.fits.full i && h.full i;
    proper = (record { name = name; params = ps.proper; result = type_readable f.result r; body = b.proper }, h.proper);
    own = own;
    typed = typed;
  }
    where
      own : (k : ℕ) (d : Fun) → slice_get (f ∷ fs) k ≡ Some d → are_new [] (param_names d.params) ≡ true
      own zero d e = let same : f ≡ d = cc in subst (λ (g : Fun). are_new [] (param_names g.params) ≡ true) same new
      own (suc k) d e = h.own k d e

      typed : (k : ℕ) (d : Fun) → slice_get (f ∷ fs) k ≡ Some d → HasTy code (at + k) d.params d.body d.result
      typed zero d e =
          let same : f ≡ d = cc in
          let here : at ≡ at + 0 = omega arith in
          subst (λ (g : Fun). HasTy code (at + 0) g.params g.body g.result) same (subst (λ m. HasTy code m f.params f.body f.result) here b.typed)
      typed (suc k) d e = let there : at + 1 + k ≡ at + suc k = omega arith in subst (λ m. HasTy code m d.params d.body d.result) there (h.typed k d e)

-- ---- programs

-- a program without exceptions
abbrev pub program_by : List Svc → List Fun → Program
program_by ss fs = record { svcs = ss; exns = []; funs = fs }

-- it is checked, is read again, and has at most m bytes
pub record BuiltProgram (p : Program) (m : ℕ) : Type 0 where
  pub checked : IsChecked p
  pub proper : IsProperProgram p
  pub size : code_size p ≤ m

pub built_program : (ss : List Svc) (fs : List Fun) {m n : ℕ} → are_callable [] (called_names (program_by ss fs)) ≡ true → nat_le (length ss) 64 ≡ true → has_from_to 1 64 fs ≡ true
    → BuiltSvcs ss m → BuiltFuns (program_by ss fs) 0 fs n → m + n ≤ 4000 → BuiltProgram (program_by ss fs) (3 + m + n)
unfolding well_formed_program program_nodes program_has_types code_size
built_program ss fs {m = m} {n = n} calls few some s f l = record {
  checked = record {
    typed = record { names = record { calls = calls; exns = refl; params = f.own }; bodies = bodies; small = omega (arith, s.size, f.size, l) };
    formed = λ i. (few i && s.formed i) && ((some i && f.formed i) && le-leb (program_nodes (program_by ss fs)) 4096 (omega (arith, f.nodes, l)) i);
    full = f.full;
  };
  proper = record { svcs = s.proper; exns = tt; funs = f.proper };
  size = omega (arith, s.size, f.size);
}
  where
    bodies : (k : ℕ) (d : Fun) → slice_get fs k ≡ Some d → HasTy (program_by ss fs) k d.params d.body d.result
    bodies k d e = let same : 0 + k ≡ k = omega arith in subst (λ m. HasTy (program_by ss fs) m d.params d.body d.result) same (f.typed k d e)
