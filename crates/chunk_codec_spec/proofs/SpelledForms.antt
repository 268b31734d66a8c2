-- What keeps the limits of a spelling is well formed, and no type is missing in it.
use Rattle.std.proofs.Common.{◌≡◌, ℕ, zero, suc, ◌+◌, ◌-◌, ◌<◌, ◌≤◌, Bool, true, false, List, [], ◌∷◌, length, take, Option, Some, None, refl, ◌∙◌, ap, arith}
use Rattle.std.specs.Prelude.{◌&&◌, ◌||◌, nat_le, max, fold, is_some, IsTrue}
use Rattle.std.specs.List.{list_all}
use Rattle.std.specs.Str.{is_utf8}
use Rattle.std.proofs.lemmas.Bool.{le-leb, ltb-true}
use Rattle.std.proofs.lemmas.Str.{is_utf8-from_IsUtf8}
use Rattle.containers.proofs.Bools.{both}
use Rattle.plan_base.specs.declared.tree.Ty.{Ty, Ty-F, out-Ty}
use Rattle.plan_base.specs.declared.tree.Expr.{Expr, Expr-F, out-Expr}
use Rattle.plan_base.specs.declared.tree.Clause.{Clause}
use Rattle.plan_base.specs.declared.tree.Svc.{Svc}
use Rattle.plan_base.specs.declared.tree.Param.{Param}
use Rattle.plan_base.specs.declared.tree.Fun.{Fun}
use Rattle.plan_base.specs.declared.tree.Program.{Program}
use Rattle.plan_base.specs.declared.tree.Value.{Value, Value-F, out-Value}
use Rattle.plan_base.specs.declared.tree.Chunk.{Chunk}
use Rattle.plan_base.specs.Sizes.{largest_by, type_depth, type_depth_level, expr_depth, expr_depth_level, clause_depth, program_nodes, nesting, nesting_level, chunk_nesting, value_depth, value_depth_level}
use Rattle.plan_base.specs.WellFormed.{formed_type, formed_type_level, well_formed_type, well_formed_text, names_all_but_last, formed_expr, formed_expr_level, well_formed_expr, well_formed_svc}
use Rattle.plan_base.specs.WellFormed.{well_formed_fun, well_formed_program, formed_value, formed_value_level, well_formed_value, formed_chunk, well_formed_chunk, typed_expr_level, has_types}
use Rattle.plan_base.specs.WellFormed.{program_has_types, typed_value_level, value_has_types, chunk_has_types}
use Rattle.plan_base.proofs.SizeLaws.{type_depth_out, expr_depth_out, nesting_out, chunk_nesting_is, value_depth_out}
use Rattle.plan_base.proofs.FormLaws.{formed_type_out, formed_expr_out, formed_value_out, formed_chunk_is, has_types_out, value_has_types_out, chunk_has_types_is}
use Rattle.chunk_codec_spec.specs.Parts.{Part, Core, FormFits, EachFits}
use Rattle.chunk_codec_spec.specs.Types.{type_forms, type_parts, type_from, no_type, type_core, type_part}
use Rattle.chunk_codec_spec.specs.Exprs.{clause_part, clauses_part, ClausesFit, is_none_left, expr_forms, expr_parts, clause_forms, clause_parts_by, expr_from, no_expr, expr_core}
use Rattle.chunk_codec_spec.specs.Programs.{param_part, service_part, function_part, program_part, ProgramFits}
use Rattle.chunk_codec_spec.specs.Values.{value_forms, value_parts, value_from, chunk_from, no_value, no_chunk, may_open, values_within, chunk_with, ChunkFits, value_core, value_part, chunk_part}

-- each of a list that fits has what fits gives
each_has : {A : Type 0} {test : A → Bool} (p : Part A) → ((x : A) → p.Fits x → test x ≡ true) → (xs : List A) → EachFits p.Fits xs → list_all test xs ≡ true
each_has p h [] q = refl
each_has p h (x ∷ xs) q = both (h x q.0) (each_has p h xs q.1)

max_within : (a b n : ℕ) → a ≤ n → b ≤ n → max a b ≤ n
max_within a b n h k = grind arith

-- and so the greatest of their numbers is within n
each_within : {A : Type 0} (p : Part A) (f : A → ℕ) (n : ℕ) → ((x : A) → p.Fits x → f x ≤ n) → (xs : List A) → EachFits p.Fits xs → (m : ℕ) → m ≤ n → fold (λ k x. max k (f x)) m xs ≤ n
each_within p f n h [] q m l = l
each_within p f n h (x ∷ xs) q m l = each_within p f n h xs q.1 (max m (f x)) (max_within m (f x) n l (h x q.0))

from_to : (least most n : ℕ) → least ≤ n → n ≤ most → (nat_le least n && nat_le n most) ≡ true
from_to least most n h k = both (le-leb least n h) (le-leb n most k)

-- ---- types

module _ (room below : ℕ) (grows : 0 < room → 1 + below ≤ room) (core : Core Ty) (h : (t : Ty) → core.Fits t → (formed_type t ≡ true) × (type_depth t ≤ below)) where
  type_level : (x : Ty-F Ty) → FormFits (λ _. 0 < room) (type_forms (type_from below core)) (type_parts (type_from below core) x)
      → (formed_type_level formed_type x ≡ true) × (type_depth_level type_depth x ≤ room)
  type_level (Ty-F.List t) q = let g = h t q.1.0 in let r = grows q.0 in (g.0, let d = g.1 in omega (arith, d, r))
  type_level (Ty-F.Tuple ts) q =
      let r = grows q.0 in
      let d = each_within (type_from below core) type_depth below (λ t f. (h t f).1) ts q.1.0.2 0 (omega arith) in
      (both (from_to 2 8 (length ts) q.1.0.0 q.1.0.1) (each_has (type_from below core) (λ t f. (h t f).0) ts q.1.0.2), omega (arith, d, r))
  type_level _ q = (refl, let r = q.0 in omega (arith, r))

pub type_good : (room : ℕ) (t : Ty) → (type_core room).Fits t → (formed_type t ≡ true) × (type_depth t ≤ room)
unfolding type_core
type_good zero t q =
    let g = type_level 0 0 (λ h. absurd (omega (arith, h))) no_type (λ u r. absurd r) (out-Ty t) q in
    (formed_type_out t ∙ g.0, let e = type_depth_out t in let d = g.1 in omega (arith, e, d))
type_good (suc room) t q =
    let g = type_level (suc room) room (λ h. omega arith) (type_core room) (type_good room) (out-Ty t) q in
    (formed_type_out t ∙ g.0, let e = type_depth_out t in let d = g.1 in omega (arith, e, d))

pub type_well : (room : ℕ) → room ≤ 8 → (t : Ty) → (type_core room).Fits t → well_formed_type t ≡ true
unfolding well_formed_type
type_well room l t q = let g = type_good room t q in both g.0 (le-leb (type_depth t) 8 (let d = g.1 in omega (arith, d, l)))

eight : 8 ≤ 8
eight = omega arith

seven : 7 ≤ 8
seven = omega arith

text_well : (s : List ℕ) → is_utf8 s ≡ true → length s < 65536 → well_formed_text s ≡ true
unfolding well_formed_text
text_well s h l = both h (le-leb (length s) 65535 (omega (arith, l)))

-- ---- expressions

abbrev ExprGood : ℕ → Expr → Type 0
ExprGood n e = (formed_expr e ≡ true) × (expr_depth e ≤ n) × (has_types e ≡ true)

named_by : (inner : Part Expr) (n : Option (List ℕ)) (e : Expr) → FormFits (λ named. IsTrue (named || false)) (clause_forms inner) (clause_parts_by inner n e) → is_some n ≡ true
named_by inner None e q = let r = q.0 in cc
named_by inner (Some n) e q = refl

module _ (below : ℕ) (core : Core Expr) (h : (e : Expr) → core.Fits e → ExprGood below e) where
  abbrev inner : Part Expr
  inner = expr_from below core

  body_good : (last : Bool) (n : Option (List ℕ)) (e : Expr) → FormFits (λ named. IsTrue (named || last)) (clause_forms inner) (clause_parts_by inner n e) → ExprGood below e
  body_good last None e q = h e q.1.0
  body_good last (Some n) e q = h e q.1.1.0

  abbrev ClausesOk : List Clause → Type 0
  ClausesOk = ClausesFit (λ last. (clause_part last below inner).Fits)

  clauses_formed : (cs : List Clause) → ClausesOk cs → (list_all (λ c. formed_expr c.body) cs ≡ true) × (list_all (λ c. has_types c.body) cs ≡ true)
  clauses_formed [] q = (refl, refl)
  clauses_formed (c ∷ cs) q =
      let b = body_good (is_none_left (length cs)) c.name c.body q.0 in
      let r = clauses_formed cs q.1 in
      (both b.0 r.0, both b.2 r.1)

  clauses_within : (cs : List Clause) → ClausesOk cs → (m : ℕ) → m ≤ below → fold (λ k c. max k (clause_depth c)) m cs ≤ below
  clauses_within [] q m l = l
  clauses_within (c ∷ cs) q m l =
      let b = body_good (is_none_left (length cs)) c.name c.body q.0 in
      clauses_within cs q.1 (max m (clause_depth c)) (max_within m (clause_depth c) below l b.1)

  named_but_last : (c : Clause) (cs : List Clause) → ClausesOk (c ∷ cs) → list_all (λ d. is_some d.name) (take (length cs) (c ∷ cs)) ≡ true
  named_but_last c [] q = refl
  named_but_last c (d ∷ ds) q = both (named_by inner c.name c.body q.0) (named_but_last d ds q.1)

  all_but_last : (cs : List Clause) → ClausesOk cs → names_all_but_last (λ d. is_some d.name) cs ≡ true
  all_but_last [] q = refl
  all_but_last (c ∷ cs) q =
      let e : length (c ∷ cs) - 1 ≡ length cs = omega arith in
      ap (λ n. list_all (λ d. is_some d.name) (take n (c ∷ cs))) e ∙ named_but_last c cs q

  all_formed : (es : List Expr) → EachFits core.Fits es → list_all formed_expr es ≡ true
  all_formed = each_has inner (λ e f. (h e f).0)

  all_typed : (es : List Expr) → EachFits core.Fits es → list_all has_types es ≡ true
  all_typed = each_has inner (λ e f. (h e f).2)

  all_within : (es : List Expr) → EachFits core.Fits es → largest_by expr_depth es ≤ below
  all_within es q = each_within inner expr_depth below (λ e f. (h e f).1) es q 0 (omega arith)

  module _ (room : ℕ) (grows : 0 < room → 1 + below ≤ room) where
    deeper : (n : ℕ) → 0 < room → n ≤ below → 1 + n ≤ room
    deeper n r l = let g = grows r in omega (arith, g, l)

    expr_level : (x : Expr-F Expr Clause) → FormFits (λ _. 0 < room) (expr_forms inner (clauses_part below inner)) (expr_parts inner (clauses_part below inner) x)
        → (formed_expr_level formed_expr (λ c. is_some c.name) (λ c. formed_expr c.body) x ≡ true) × (expr_depth_level expr_depth clause_depth x ≤ room) × (typed_expr_level has_types (λ c. has_types c.body) x ≡ true)
    expr_level (Expr-F.Char c) q = (q.1.0.0, (let r = q.0 in omega (arith, r)), refl)
    expr_level (Expr-F.Str s) q = (text_well s (is_utf8-from_IsUtf8 s q.1.0.0) q.1.0.1, (let r = q.0 in omega (arith, r)), refl)
    expr_level (Expr-F.Blob s) q = (le-leb (length s) 65535 (let l = q.1.0 in omega (arith, l)), (let r = q.0 in omega (arith, r)), refl)
    expr_level (Expr-F.Nil (Some t)) q = (type_well 7 seven t q.1.0, (let r = q.0 in omega (arith, r)), refl)
    expr_level (Expr-F.Nil None) q = absurd q
    expr_level (Expr-F.Tuple es) q = (both (from_to 2 8 (length es) q.1.0.0 q.1.0.1) (all_formed es q.1.0.2), deeper _ q.0 (all_within es q.1.0.2), all_typed es q.1.0.2)
    expr_level (Expr-F.Call x es) q = (both (le-leb (length es) 8 q.1.1.0.1) (all_formed es q.1.1.0.2), deeper _ q.0 (all_within es q.1.1.0.2), all_typed es q.1.1.0.2)
    expr_level (Expr-F.If a b c) q =
        let ga = h a q.1.0 in let gb = h b q.1.1.0 in let gc = h c q.1.1.1.0 in
        (both ga.0 (both gb.0 gc.0), deeper _ q.0 (max_within _ _ below ga.1 (max_within _ _ below gb.1 gc.1)), both ga.2 (both gb.2 gc.2))
    expr_level (Expr-F.Let x t a b) q =
        let ga = h a q.1.1.1.0 in let gb = h b q.1.1.1.1.0 in
        (both (type_well 8 eight t q.1.1.0) (both ga.0 gb.0), deeper _ q.0 (max_within _ _ below ga.1 gb.1), both ga.2 gb.2)
    expr_level (Expr-F.Then a b) q = let ga = h a q.1.0 in let gb = h b q.1.1.0 in (both ga.0 gb.0, deeper _ q.0 (max_within _ _ below ga.1 gb.1), both ga.2 gb.2)
    expr_level (Expr-F.And a b) q = let ga = h a q.1.0 in let gb = h b q.1.1.0 in (both ga.0 gb.0, deeper _ q.0 (max_within _ _ below ga.1 gb.1), both ga.2 gb.2)
    expr_level (Expr-F.Or a b) q = let ga = h a q.1.0 in let gb = h b q.1.1.0 in (both ga.0 gb.0, deeper _ q.0 (max_within _ _ below ga.1 gb.1), both ga.2 gb.2)
    expr_level (Expr-F.Not a) q = let ga = h a q.1.0 in (ga.0, deeper _ q.0 ga.1, ga.2)
    expr_level (Expr-F.Binary o a b) q = let ga = h a q.1.1.0 in let gb = h b q.1.1.1.0 in (both ga.0 gb.0, deeper _ q.0 (max_within _ _ below ga.1 gb.1), both ga.2 gb.2)
    expr_level (Expr-F.Part i a) q = let ga = h a q.1.1.0 in (both (from_to 1 8 i q.1.0.0 q.1.0.1) ga.0, deeper _ q.0 ga.1, ga.2)
    expr_level (Expr-F.Raise x (Some t)) q = (type_well 8 eight t q.1.1.0, (let r = q.0 in omega (arith, r)), refl)
    expr_level (Expr-F.Raise x None) q = absurd q
    expr_level (Expr-F.Try a cs) q =
        let ga = h a q.1.0 in let c = q.1.1.0 in let f = clauses_formed cs c.2 in
        (both ga.0 (both (both (from_to 1 8 (length cs) c.0 c.1) (all_but_last cs c.2)) f.0), deeper _ q.0 (max_within _ _ below ga.1 (clauses_within cs c.2 0 (omega arith))), both ga.2 f.1)
    expr_level (Expr-F.Foldl x a b) q = let ga = h a q.1.1.0 in let gb = h b q.1.1.1.0 in (both ga.0 gb.0, deeper _ q.0 (max_within _ _ below ga.1 gb.1), both ga.2 gb.2)
    expr_level (Expr-F.Foldr x a b) q = let ga = h a q.1.1.0 in let gb = h b q.1.1.1.0 in (both ga.0 gb.0, deeper _ q.0 (max_within _ _ below ga.1 gb.1), both ga.2 gb.2)
    expr_level (Expr-F.ChunkOf x es) q = (both (le-leb (length es) 8 q.1.1.0.1) (all_formed es q.1.1.0.2), deeper _ q.0 (all_within es q.1.1.0.2), all_typed es q.1.1.0.2)
    expr_level (Expr-F.Eval a) q = let ga = h a q.1.0 in (ga.0, deeper _ q.0 ga.1, ga.2)
    expr_level (Expr-F.OnRemote a b c x) q =
        let ga = h a q.1.0 in let gb = h b q.1.1.0 in let gc = h c q.1.1.1.0 in
        (both ga.0 (both gb.0 gc.0), deeper _ q.0 (max_within _ _ below ga.1 (max_within _ _ below gb.1 gc.1)), both ga.2 (both gb.2 gc.2))
    expr_level (Expr-F.OnNeighbor a b c d) q =
        let ga = h a q.1.0 in let gb = h b q.1.1.0 in let gc = h c q.1.1.1.0 in let gd = h d q.1.1.1.1.0 in
        (both (both ga.0 gb.0) (both gc.0 gd.0), deeper _ q.0 (max_within _ _ below (max_within _ _ below ga.1 gb.1) (max_within _ _ below gc.1 gd.1)), both (both ga.2 gb.2) (both gc.2 gd.2))
    expr_level _ q = (refl, (let r = q.0 in omega (arith, r)), refl)

pub expr_good : (room : ℕ) (e : Expr) → (expr_core room).Fits e → ExprGood room e
unfolding expr_core
expr_good zero e q =
    let g = expr_level 0 no_expr (λ u r. absurd r) 0 (λ h. absurd (omega (arith, h))) (out-Expr e) q in
    (formed_expr_out e ∙ g.0, (let x = expr_depth_out e in let d = g.1 in omega (arith, x, d)), has_types_out e ∙ g.2)
expr_good (suc room) e q =
    let g = expr_level room (expr_core room) (expr_good room) (suc room) (λ h. omega arith) (out-Expr e) q in
    (formed_expr_out e ∙ g.0, (let x = expr_depth_out e in let d = g.1 in omega (arith, x, d)), has_types_out e ∙ g.2)

-- ---- programs

service_well : (s : Svc) → service_part.Fits s → well_formed_svc s ≡ true
service_well s q = both (le-leb (length s.params) 8 q.1.0.1) (both (each_has (type_part 8) (type_well 8 eight) s.params q.1.0.2) (type_well 8 eight s.result q.1.1.0))

param_well : (p : Param) → param_part.Fits p → well_formed_type p.ty ≡ true
param_well p q = type_well 8 eight p.ty q.1.0

function_well : (f : Fun) → function_part.Fits f → well_formed_fun f ≡ true
unfolding well_formed_expr
function_well f q =
    let g = expr_good 64 f.body q.1.1.1.0 in
    both (le-leb (length f.params) 8 q.1.0.1)
    (both (each_has param_part param_well f.params q.1.0.2) (both (type_well 8 eight f.result q.1.1.0) (both g.0 (le-leb (expr_depth f.body) 64 g.1))))

pub program_well : (p : Program) → ProgramFits p → well_formed_program p ≡ true
unfolding well_formed_program program_nodes
program_well p w =
    let q = w.parts in
    both (both (le-leb (length p.svcs) 64 q.0.1) (each_has service_part service_well p.svcs q.0.2))
    (both (le-leb (length p.exns) 64 q.1.0.1)
    (both (both (from_to 1 64 (length p.funs) q.1.1.0.0 q.1.1.0.1) (each_has function_part function_well p.funs q.1.1.0.2)) (le-leb (program_nodes p) 4096 w.few)))

pub program_typed : (p : Program) → ProgramFits p → program_has_types p ≡ true
unfolding program_has_types
program_typed p w = each_has function_part (λ f q. (expr_good 64 f.body q.1.1.1.0).2) p.funs w.parts.1.1.0.2

-- ---- values and chunks

abbrev ValueGood : ℕ → ℕ → Value → Type 0
ValueGood nest n v = (formed_value v ≡ true) × (value_depth v ≤ n) × (nesting v ≤ nest) × (value_has_types v ≡ true)

abbrev ChunkGood : ℕ → Chunk → Type 0
ChunkGood nest c = (formed_chunk c ≡ true) × (chunk_nesting c ≤ 1 + nest) × (chunk_has_types c ≡ true)

module _ (nest room cnest below : ℕ) (grows : 0 < room → 1 + below ≤ room) (nests : 0 < nest → 1 + cnest ≤ nest) (core : Core Value) (chunks : Core Chunk)
    (h : (v : Value) → core.Fits v → ValueGood nest below v) (k : (c : Chunk) → chunks.Fits c → ChunkGood cnest c) where
  abbrev inside : Part Value
  inside = value_from nest below core

  value_level : (x : Value-F Value Chunk) → FormFits (λ tag. IsTrue (may_open nest room tag)) (value_forms inside (chunk_from cnest chunks)) (value_parts inside (chunk_from cnest chunks) x)
      → (formed_value_level formed_value formed_chunk x ≡ true) × (value_depth_level value_depth x ≤ room) × (nesting_level nesting chunk_nesting x ≤ nest) × (typed_value_level value_has_types chunk_has_types x ≡ true)
  value_level (Value-F.Char c) q = (q.1.0.0, omega arith, omega arith, refl)
  value_level (Value-F.Str s) q = (text_well s (is_utf8-from_IsUtf8 s q.1.0.0) q.1.0.1, omega arith, omega arith, refl)
  value_level (Value-F.Blob s) q = (le-leb (length s) 65535 (let l = q.1.0 in omega (arith, l)), omega arith, omega arith, refl)
  value_level (Value-F.Chunk c) q = let g = k c q.1.0 in let n = nests (ltb-true 0 nest q.0) in (g.0, omega arith, (let d = g.1 in omega (arith, d, n)), g.2)
  value_level (Value-F.List t vs) q =
      let r = grows (ltb-true 0 room q.0) in
      let ty = type_good 7 t q.1.0 in
      let all = q.1.1.0.1 in
      let d = each_within inside value_depth below (λ v f. (h v f).1) vs all 0 (omega arith) in
      let l = q.1.1.0.0 in (
        both (both ty.0 (le-leb (type_depth t) 7 ty.1)) (both (le-leb (length vs) 65535 (omega (arith, l))) (each_has inside (λ v f. (h v f).0) vs all)),
        omega (arith, d, r),
        each_within inside nesting nest (λ v f. (h v f).2) vs all 0 (omega arith),
        each_has inside (λ v f. (h v f).3) vs all,
      )
  value_level (Value-F.Tuple vs) q =
      let r = grows (ltb-true 0 room q.0) in
      let all = q.1.0.2 in
      let d = each_within inside value_depth below (λ v f. (h v f).1) vs all 0 (omega arith) in (
        both (from_to 2 8 (length vs) q.1.0.0 q.1.0.1) (each_has inside (λ v f. (h v f).0) vs all),
        omega (arith, d, r),
        each_within inside nesting nest (λ v f. (h v f).2) vs all 0 (omega arith),
        each_has inside (λ v f. (h v f).3) vs all,
      )
  value_level _ q = (refl, omega arith, omega arith, refl)

  value_whole : (v : Value) → FormFits (λ tag. IsTrue (may_open nest room tag)) (value_forms inside (chunk_from cnest chunks)) (value_parts inside (chunk_from cnest chunks) (out-Value v)) → ValueGood nest room v
  value_whole v q =
      let g = value_level (out-Value v) q in
      (formed_value_out v ∙ g.0, (let x = value_depth_out v in let d = g.1 in omega (arith, x, d)), (let x = nesting_out v in let d = g.2 in omega (arith, x, d)), value_has_types_out v ∙ g.3)

chunk_by : (nest : ℕ) → ((v : Value) → (value_core nest 8).Fits v → ValueGood nest 8 v) → (c : Chunk) → ChunkFits nest (value_part nest 8) c → ChunkGood nest c
chunk_by nest h c w =
    let q = w.parts in
    let all = q.1.1.0.2 in
    let d = each_within (value_part nest 8) nesting nest (λ v f. (h v f).2) c.args all 0 (omega arith) in (
      formed_chunk_is c ∙ both (program_well c.code q.0) (both (le-leb (length c.args) 8 q.1.1.0.1) (each_has (value_part nest 8) (λ v f. let g = h v f in both g.0 (le-leb (value_depth v) 8 g.1)) c.args all)),
      (let x = chunk_nesting_is c in omega (arith, x, d)),
      chunk_has_types_is c ∙ both (program_typed c.code q.0) (each_has (value_part nest 8) (λ v f. (h v f).3) c.args all),
    )

pub value_good : (nest room : ℕ) (v : Value) → (value_core nest room).Fits v → ValueGood nest room v
unfolding value_core values_within
value_good zero zero v q =
    value_whole 0 0 0 0 (λ h. absurd (omega (arith, h))) (λ h. absurd (omega (arith, h))) no_value no_chunk (λ u r. absurd r) (λ c r. absurd r) v q
value_good zero (suc room) v q =
    value_whole 0 (suc room) 0 room (λ _. omega arith) (λ h. absurd (omega (arith, h))) (value_core 0 room) no_chunk (value_good zero room) (λ c r. absurd r) v q
value_good (suc nest) zero v q =
    value_whole (suc nest) 0 nest 0 (λ h. absurd (omega (arith, h))) (λ _. omega arith) no_value (chunk_with nest (value_part nest 8)) (λ u r. absurd r) (chunk_by nest (value_good nest 8)) v q
value_good (suc nest) (suc room) v q =
    value_whole (suc nest) (suc room) nest room (λ _. omega arith) (λ _. omega arith) (value_core (suc nest) room) (chunk_with nest (value_part nest 8)) (value_good (suc nest) room) (chunk_by nest (value_good nest 8)) v q

-- ---- wholes

pub type_is_well : (t : Ty) → (type_part 8).Fits t → well_formed_type t ≡ true
type_is_well t q = type_well 8 eight t q

pub value_is_well : (v : Value) → (value_part 4 8).Fits v → (well_formed_value v ≡ true) × (value_has_types v ≡ true)
unfolding well_formed_value
value_is_well v q = let g = value_good 4 8 v q in (both g.0 (both (le-leb (value_depth v) 8 g.1) (le-leb (nesting v) 4 g.2)), g.3)

pub program_is_well : (p : Program) → program_part.Fits p → (well_formed_program p ≡ true) × (program_has_types p ≡ true)
program_is_well p q = (program_well p q, program_typed p q)

pub chunk_is_well : (c : Chunk) → (chunk_part 3).Fits c → (well_formed_chunk c ≡ true) × (chunk_has_types c ≡ true)
unfolding well_formed_chunk
chunk_is_well c q =
    let g = chunk_by 3 (value_good 3 8) c q in
    (both g.0 (each_has (value_part 3 8) (λ v f. le-leb (nesting v) 3 (value_good 3 8 v f).2) c.args q.parts.1.1.0.2), g.2)
