-- What is typed, well formed and in range is printed so that it is read again.
use Rattle.std.proofs.Common.{◌≡◌, ℕ, zero, suc, ◌+◌, ◌-◌, ◌≤◌, Bool, true, List, [], ◌∷◌, length, take, Option, Some, None, Ok, refl, sym, ◌∙◌, ap, subst, arith}
use Rattle.std.specs.Prelude.{◌&&◌, nat_le, max, fold, is_some, slice_get}
use Rattle.std.specs.List.{list_all}
use Rattle.std.proofs.lemmas.Bool.{leb-true, ltb-true}
use Rattle.std.specs.Str.{IsUtf8}
use Rattle.std.proofs.lemmas.Str.{IsUtf8-from_is_utf8}
use Rattle.containers.proofs.Bools.{and_left as left, and_right as right}
use Rattle.plan_base.specs.Words.{is_name, IsName}
use Rattle.plan_base.specs.declared.tree.Op.{Op}
use Rattle.plan_base.specs.declared.tree.Ty.{Ty, Ty-F, out-Ty}
use Rattle.plan_base.specs.declared.tree.Expr.{Expr, Expr-F, out-Expr}
use Rattle.plan_base.specs.declared.tree.Clause.{Clause}
use Rattle.plan_base.specs.declared.tree.Svc.{Svc}
use Rattle.plan_base.specs.declared.tree.Param.{Param}
use Rattle.plan_base.specs.declared.tree.Fun.{Fun}
use Rattle.plan_base.specs.declared.tree.Program.{Program}
use Rattle.plan_base.specs.Sizes.{type_depth, type_depth_level, expr_depth, program_nodes}
use Rattle.plan_base.specs.WellFormed.{formed_type, formed_type_level, well_formed_type, well_formed_text, has_from_to, names_all_but_last, formed_expr, formed_expr_level, well_formed_expr}
use Rattle.plan_base.specs.WellFormed.{well_formed_svc, well_formed_fun, well_formed_program}
use Rattle.plan_types_spec.specs.Typing.{literal_type, HasTy, HaveTys, ClausesHaveTy}
use Rattle.plan_types_spec.specs.Typing as y
use Rattle.plan_types_spec.specs.TypingFills.{Fills}
use Rattle.plan_types_spec.specs.TypingOrder.{annotated_program}
use Rattle.plan_base.proofs.SizeLaws.{type_depth_out}
use Rattle.plan_base.proofs.FormLaws.{formed_type_out, formed_expr_out}
use Rattle.plan_types_spec.proofs.Programs.{annotated_complete, fills_itself, depths_kept}
use Rattle.checked_chunks.specs.Kept.{IsChecked}
use Rattle.plan_lexer.specs.declared.token.Key.TheVariants as key
use Rattle.plan_printer_spec.specs.Printed.{program_text}
use Rattle.program_text_laws.specs.Proper.{AreBytes, base_key, IsProperType, AreProperTypes, IsReadableType, IsProperCatch, IsProper, AreProper, AreProperClauses, AllProper, IsProperSvc, IsProperParam, IsProperFun, IsProperProgram}
use Rattle.program_text_laws.specs.Proper as p
use Rattle.top_laws.proofs.ProgramTokens.{program_lexes}
use Rattle.program_text_laws.proofs.Within.{within_limits}
use Rattle.program_text_laws.proofs.Declarations.{program_reads}
use Rattle.program_text.specs.Texts.{placed_result, typed_of, program_of, Says}
use Rattle.program_text.proofs.Readings.{read_by}
use Rattle.chunk_codec.specs.Ranges.{catch_ranged, param_ranged, service_ranged}
use Rattle.chunk_codec.proofs.TestLaws.{between, int_fits, max_parts, fold_within, no_depth, clause_named, body_formed, named_rest}
use Rattle.top_laws.specs.Exact.{is_byte, exact, exact_level, clause_exact, function_exact, program_exact}
use Rattle.top_laws.proofs.ExactLaws.{exact_out}

-- ---- lists

pub bytes_are : (b : List ℕ) → list_all is_byte b ≡ true → AreBytes b
bytes_are [] h i = omega arith
bytes_are (n ∷ ns) h zero = ltb-true n 256 (left _ _ h)
bytes_are (n ∷ ns) h (suc i) = bytes_are ns (right _ _ h) i

all_proper : {X : Type 0} {test ranged : X → Bool} (P : X → Type 0) → ((x : X) → test x ≡ true → ranged x ≡ true → P x) → (xs : List X) → list_all test xs ≡ true → list_all ranged xs ≡ true → AllProper P xs
all_proper P h [] f r = tt
all_proper P h (x ∷ xs) f r = (h x (left _ _ f) (left _ _ r), all_proper P h xs (right _ _ f) (right _ _ r))

each_proper : {X : Type 0} {test : X → Bool} (P : X → Type 0) → ((x : X) → test x ≡ true → P x) → (xs : List X) → list_all test xs ≡ true → AllProper P xs
each_proper P h [] f = tt
each_proper P h (x ∷ xs) f = (h x (left _ _ f), each_proper P h xs (right _ _ f))

-- ---- types

module _ (room : ℕ) (h : (t : Ty) → formed_type t ≡ true → type_depth t ≤ room → IsProperType t) where
  each_type : (ts : List Ty) (m : ℕ) → list_all formed_type ts ≡ true → fold (λ k x. max k (type_depth x)) m ts ≤ room → AreProperTypes ts
  each_type [] m f d = p.no_types
  each_type (t ∷ ts) m f d =
      let w = max_parts m (type_depth t) room (fold_within type_depth room ts (max m (type_depth t)) d) in
      p.and_type (h t (left _ _ f) w.1) (each_type ts (max m (type_depth t)) (right _ _ f) d)

  type_level : (t : Ty) (x : Ty-F Ty) → out-Ty t ≡ x → formed_type_level formed_type x ≡ true → type_depth_level type_depth x ≤ suc room → IsProperType t
  type_level t Ty-F.Unit o f d = p.base key.Unit (ap base_key o)
  type_level t Ty-F.Bool o f d = p.base key.Bool (ap base_key o)
  type_level t Ty-F.Int o f d = p.base key.Int (ap base_key o)
  type_level t Ty-F.Char o f d = p.base key.Char (ap base_key o)
  type_level t Ty-F.Str o f d = p.base key.Str (ap base_key o)
  type_level t Ty-F.Blob o f d = p.base key.Blob (ap base_key o)
  type_level t Ty-F.Host o f d = p.base key.Host (ap base_key o)
  type_level t Ty-F.Dev o f d = p.base key.Dev (ap base_key o)
  type_level t Ty-F.Chunk o f d = p.base key.Chunk (ap base_key o)
  type_level t (Ty-F.List u) o f d = p.list u o (h u f (omega (arith, d)))
  type_level t (Ty-F.Tuple ts) o f d = p.tuple ts o (between 2 8 (length ts) (left _ _ f)) (each_type ts 0 (right _ _ f) (omega (arith, d)))

pub type_proper : (room : ℕ) (t : Ty) → formed_type t ≡ true → type_depth t ≤ room → IsProperType t
type_proper zero t f d = absurd (no_depth (out-Ty t) (let e = type_depth_out t in omega (arith, d, e)))
type_proper (suc room) t f d =
    type_level room (type_proper room) t (out-Ty t) refl (sym (formed_type_out t) ∙ f) (let e = type_depth_out t in omega (arith, d, e))

pub type_readable : (t : Ty) → well_formed_type t ≡ true → IsReadableType t
unfolding well_formed_type
type_readable t h = let d = leb-true (type_depth t) 8 (right _ _ h) in (type_proper 8 t (left _ _ h) d, d)

-- ---- expressions

-- what the outermost level of an expression keeps
record Level (x : Expr-F Expr Clause) : Type 0 where
  formed : formed_expr_level formed_expr clause_named body_formed x ≡ true
  exact : exact_level exact clause_exact x ≡ true

level_of : (e : Expr) (x : Expr-F Expr Clause) → out-Expr e ≡ x → formed_expr e ≡ true → exact e ≡ true → Level x
level_of e x o f r = subst Level o (record { formed = sym (formed_expr_out e) ∙ f; exact = sym (exact_out e) ∙ r })

pub text_utf8 : (s : List ℕ) → well_formed_text s ≡ true → IsUtf8 s
unfolding well_formed_text
text_utf8 s h = IsUtf8-from_is_utf8 s (left _ _ h)

literal_proper : (e : Expr) (x : Expr-F Expr Clause) → out-Expr e ≡ x → (t : Ty) → literal_type x ≡ Some t → Level x → IsProper e
literal_proper e Expr-F.Unit o t q l = p.unit o
literal_proper e (Expr-F.Bool b) o t q l = p.bool b o
literal_proper e (Expr-F.Int z) o t q l = p.int z o (int_fits z l.exact)
literal_proper e (Expr-F.Char c) o t q l = p.char c o l.formed
literal_proper e (Expr-F.Str s) o t q l = p.str s o (text_utf8 s l.formed)
literal_proper e (Expr-F.Blob b) o t q l = p.blob b o (bytes_are b l.exact)
literal_proper e (Expr-F.Host h) o t q l = p.host h o (ltb-true h.0 4294967296 l.exact)
literal_proper e (Expr-F.Dev d) o t q l = p.dev d o (ltb-true d.0 4294967296 l.exact)
literal_proper e _ o t q l = cc

catch_proper : (n : Option (List ℕ)) → catch_ranged n ≡ true → IsProperCatch n
catch_proper None h = tt
catch_proper (Some x) h = h

-- a clause before others has a name
named_first : (c d : Clause) (ds : List Clause) → names_all_but_last clause_named (c ∷ d ∷ ds) ≡ true → is_some c.name ≡ true
named_first c d ds h =
    let e : length (c ∷ d ∷ ds) - 1 ≡ suc (length ds) = omega arith in
    left (is_some c.name) (list_all clause_named (take (length ds) (d ∷ ds))) (ap (λ m. list_all clause_named (take m (c ∷ d ∷ ds))) (sym e) ∙ h)

join_clause : (c : Clause) (cs : List Clause) → names_all_but_last clause_named (c ∷ cs) ≡ true → catch_ranged c.name ≡ true → IsProper c.body → AreProperClauses cs → AreProperClauses (c ∷ cs)
join_clause c [] n r b h = p.last_clause (catch_proper c.name r) b
join_clause c (d ∷ ds) n r b h = by_name c.name refl (named_first c d ds n) r
  where
    by_name : (o : Option (List ℕ)) → c.name ≡ o → is_some o ≡ true → catch_ranged o ≡ true → AreProperClauses (c ∷ d ∷ ds)
    by_name None e s k = cc
    by_name (Some x) e s k = p.and_clause x e k b h

-- a call by its arguments, and two operands with what joins them
call_is_proper : (g : List ℕ) (es : List Expr) (e : Expr) → out-Expr e ≡ Expr-F.Call g es → formed_expr e ≡ true → exact e ≡ true → (list_all formed_expr es ≡ true → list_all exact es ≡ true → AreProper es) → IsProper e
call_is_proper g es e o f r k =
    let l = level_of e (Expr-F.Call g es) o f r in
    p.call g es o (left _ _ l.exact) (leb-true (length es) 8 (left _ _ l.formed)) (k (right (nat_le (length es) 8) _ l.formed) (right (is_name g) _ l.exact))

binary_is_exact : (op : Op) (a b e : Expr) → out-Expr e ≡ Expr-F.Binary op a b → formed_expr e ≡ true → exact e ≡ true
    → (formed_expr a ≡ true → exact a ≡ true → IsProper a) → (formed_expr b ≡ true → exact b ≡ true → IsProper b) → IsProper e
binary_is_exact op a b e o f r h k =
    let l = level_of e (Expr-F.Binary op a b) o f r in
    p.binary op a b o (h (left _ _ l.formed) (left _ _ l.exact)) (k (right _ _ l.formed) (right _ _ l.exact))

module _ (code : Program) where
  mutual
    pub proper : {seen : ℕ} {c : List Param} {e : Expr} {t : Ty} → HasTy code seen c e t → formed_expr e ≡ true → exact e ≡ true → IsProper e
    proper {e = e} {t = t} (y.literal o) f r = literal_proper e (out-Expr e) refl t o (level_of e (out-Expr e) refl f r)
    proper {e = e} (y.variable x o b) f r = p.var x o ((level_of e (Expr-F.Var x) o f r).exact)
    proper {e = e} (y.empty u o q s) f r = p.nil (Some u) o (type_readable u (level_of e (Expr-F.Nil (Some u)) o f r).formed)
    proper {e = e} {t = t} (y.raising x o i s) f r = let l = level_of e (Expr-F.Raise x (Some t)) o f r in p.raising x (Some t) o l.exact (type_readable t l.formed)
    proper {e = e} (y.tuple es ts o k q s) f r = let l = level_of e (Expr-F.Tuple es) o f r in p.tuple es o (between 2 8 (length es) (left _ _ l.formed)) (propers k (right _ _ l.formed) l.exact)
    proper {e = e} (y.part i a ts o k q) f r =
        let l = level_of e (Expr-F.Part i a) o f r in let n = between 1 8 i (left _ _ l.formed) in p.part i a o n.0 n.1 (proper k (right _ _ l.formed) l.exact)
    proper {e = e} (y.of_items g a q u o i k w) f r =
        let l = level_of e (Expr-F.Call g (a ∷ [])) o f r in
        p.call g (a ∷ []) o (left _ _ l.exact) (omega arith) (p.and_part (proper k (left _ _ (right (nat_le 1 8) _ l.formed)) (left _ _ (right (is_name g) _ l.exact))) p.no_parts)
    proper {e = e} (y.primitive g es q ts o i k n w) f r = call_is_proper g es e o f r (λ u v. propers n u v)
    proper {e = e} (y.serving g es d o i k n w) f r = call_is_proper g es e o f r (λ u v. propers n u v)
    proper {e = e} (y.call g es at d o i j k m n w) f r = call_is_proper g es e o f r (λ u v. propers n u v)
    proper {e = e} (y.choice a b d o i j k) f r =
        let l = level_of e (Expr-F.If a b d) o f r in
        p.choice a b d o (proper i (left _ _ l.formed) (left _ _ l.exact)) (proper j (left _ _ (right (formed_expr a) _ l.formed)) (left _ _ (right (exact a) _ l.exact)))
        (proper k (right _ _ (right (formed_expr a) _ l.formed)) (right _ _ (right (exact a) _ l.exact)))
    proper {e = e} (y.binder x u a b o i j) f r =
        let l = level_of e (Expr-F.Let x u a b) o f r in
        let fs : (formed_expr a && formed_expr b) ≡ true = right (well_formed_type u) _ l.formed in
        let rs : (exact a && exact b) ≡ true = right (is_name x) _ l.exact in
        p.binder x u a b o (left _ _ l.exact) (type_readable u (left _ _ l.formed)) (proper i (left _ _ fs) (left _ _ rs)) (proper j (right _ _ fs) (right _ _ rs))
    proper {e = e} (y.sequence a b o i j) f r = let l = level_of e (Expr-F.Then a b) o f r in p.sequence a b o (proper i (left _ _ l.formed) (left _ _ l.exact)) (proper j (right _ _ l.formed) (right _ _ l.exact))
    proper {e = e} (y.both a b o i j q) f r = let l = level_of e (Expr-F.And a b) o f r in p.both a b o (proper i (left _ _ l.formed) (left _ _ l.exact)) (proper j (right _ _ l.formed) (right _ _ l.exact))
    proper {e = e} (y.either a b o i j q) f r = let l = level_of e (Expr-F.Or a b) o f r in p.either a b o (proper i (left _ _ l.formed) (left _ _ l.exact)) (proper j (right _ _ l.formed) (right _ _ l.exact))
    proper {e = e} (y.negation a o i q) f r = let l = level_of e (Expr-F.Not a) o f r in p.negation a o (proper i l.formed l.exact)
    proper {e = e} (y.calculation op a b o k i j q) f r = binary_is_exact op a b e o f r (λ u v. proper i u v) (λ u v. proper j u v)
    proper {e = e} (y.join op a b o k i n j) f r = binary_is_exact op a b e o f r (λ u v. proper i u v) (λ u v. proper j u v)
    proper {e = e} (y.comparison op a b u o k i j q) f r = binary_is_exact op a b e o f r (λ u v. proper i u v) (λ u v. proper j u v)
    proper {e = e} (y.order op a b u o k i n j q) f r = binary_is_exact op a b e o f r (λ u v. proper i u v) (λ u v. proper j u v)
    proper {e = e} (y.prefix op a b u o k i j q s) f r = binary_is_exact op a b e o f r (λ u v. proper i u v) (λ u v. proper j u v)
    proper {e = e} (y.handling a ks o i j) f r =
        let l = level_of e (Expr-F.Try a ks) o f r in
        let n = between 1 8 (length ks) (left _ _ (left _ _ (right (formed_expr a) _ l.formed))) in
        p.handling a ks o (proper i (left _ _ l.formed) (left _ _ l.exact)) n.0 n.1 (clauses j (right _ _ (left _ _ (right (formed_expr a) _ l.formed))) (right _ _ (right (formed_expr a) _ l.formed)) (right (exact a) _ l.exact))
    proper {e = e} (y.fold_left g a b at d u o q n k w i j) f r =
        let l = level_of e (Expr-F.Foldl g a b) o f r in
        let rs : (exact a && exact b) ≡ true = right (is_name g) _ l.exact in
        p.fold_left g a b o (left _ _ l.exact) (proper i (left _ _ l.formed) (left _ _ rs)) (proper j (right _ _ l.formed) (right _ _ rs))
    proper {e = e} (y.fold_right g a b at d u o q n k w i j) f r =
        let l = level_of e (Expr-F.Foldr g a b) o f r in
        let rs : (exact a && exact b) ≡ true = right (is_name g) _ l.exact in
        p.fold_right g a b o (left _ _ l.exact) (proper i (left _ _ l.formed) (left _ _ rs)) (proper j (right _ _ l.formed) (right _ _ rs))
    proper {e = e} (y.packing g es at d o q n k w) f r =
        let l = level_of e (Expr-F.ChunkOf g es) o f r in
        p.packing g es o (left _ _ l.exact) (leb-true (length es) 8 (left _ _ l.formed)) (propers k (right (nat_le (length es) 8) _ l.formed) (right (is_name g) _ l.exact))
    proper {e = e} (y.evaluation a o i q) f r = let l = level_of e (Expr-F.Eval a) o f r in p.evaluation a o (proper i l.formed l.exact)
    proper {e = e} (y.remote a b n x o i j k q) f r =
        let l = level_of e (Expr-F.OnRemote a b n x) o f r in
        let rs : (exact a && (exact b && exact n)) ≡ true = right (is_name x) _ l.exact in
        p.remote a b n x o (proper i (left _ _ l.formed) (left _ _ rs)) (proper j (left _ _ (right (formed_expr a) _ l.formed)) (left _ _ (right (exact a) _ rs)))
        (proper k (right _ _ (right (formed_expr a) _ l.formed)) (right _ _ (right (exact a) _ rs))) (left _ _ l.exact)
    proper {e = e} (y.neighbour a b n d o i j k m q) f r =
        let l = level_of e (Expr-F.OnNeighbor a b n d) o f r in
        let fs : (formed_expr n && formed_expr d) ≡ true = right (formed_expr a && formed_expr b) _ l.formed in
        let rs : (exact n && exact d) ≡ true = right (exact a && exact b) _ l.exact in
        p.neighbour a b n d o (proper i (left _ _ (left _ _ l.formed)) (left _ _ (left _ _ l.exact)))
        (proper j (right _ _ (left _ _ l.formed)) (right _ _ (left _ _ l.exact))) (proper k (left _ _ fs) (left _ _ rs)) (proper m (right _ _ fs) (right _ _ rs))

    propers : {seen : ℕ} {c : List Param} {es : List Expr} {ts : List Ty} → HaveTys code seen c es ts → list_all formed_expr es ≡ true → list_all exact es ≡ true → AreProper es
    propers y.no_parts f r = p.no_parts
    propers (y.and_part h k) f r = p.and_part (proper h (left _ _ f) (left _ _ r)) (propers k (right _ _ f) (right _ _ r))

    clauses : {seen : ℕ} {c : List Param} {ks : List Clause} {t : Ty} → ClausesHaveTy code seen c ks t → names_all_but_last clause_named ks ≡ true → list_all body_formed ks ≡ true → list_all clause_exact ks ≡ true → AreProperClauses ks
    clauses y.no_clauses n f r = p.no_clauses
    clauses (y.and_clause {k = k} {ks = ks} q h j) n f r =
        let rs : (catch_ranged k.name && exact k.body) ≡ true = left (clause_exact k) _ r in
        join_clause k ks n (left _ _ rs) (proper h (left _ _ f) (right _ _ rs)) (clauses j (named_rest k ks n) (right _ _ f) (right _ _ r))

-- ---- programs

svc_proper : (s : Svc) → well_formed_svc s ≡ true → service_ranged s ≡ true → IsProperSvc s
svc_proper s f r =
    let types : (list_all well_formed_type s.params && well_formed_type s.result) ≡ true = right (nat_le (length s.params) 8) _ f in
    record { name = r; params = each_proper IsReadableType type_readable s.params (left _ _ types); result = type_readable s.result (right _ _ types) }

param_proper : (x : Param) → well_formed_type x.ty ≡ true → param_ranged x ≡ true → IsProperParam x
param_proper x f r = record { name = r; ty = type_readable x.ty f }

fun_proper : (code : Program) (at : ℕ) (d : Fun) → HasTy code at d.params d.body d.result → well_formed_fun d ≡ true → function_exact d ≡ true → IsProperFun d
unfolding well_formed_expr
fun_proper code at d h f r =
    let types : (list_all (λ x. well_formed_type x.ty) d.params && (well_formed_type d.result && well_formed_expr d.body)) ≡ true = right (nat_le (length d.params) 8) _ f in
    let whole : (well_formed_type d.result && well_formed_expr d.body) ≡ true = right (list_all (λ x. well_formed_type x.ty) d.params) _ types in
    let b : (formed_expr d.body && nat_le (expr_depth d.body) 64) ≡ true = right (well_formed_type d.result) _ whole in
    let names : (list_all param_ranged d.params && exact d.body) ≡ true = right (is_name d.name) _ r in
    record {
      name = left _ _ r;
      params = all_proper {test = λ x. well_formed_type x.ty} {ranged = param_ranged} IsProperParam param_proper d.params (left _ _ types) (left _ _ names);
      result = type_readable d.result (left _ _ whole);
      body = proper code h (left _ _ b) (right _ _ names);
    }

each_fun : (code : Program) (at : ℕ) (ds : List Fun) → ((k : ℕ) (d : Fun) → slice_get ds k ≡ Some d → HasTy code (at + k) d.params d.body d.result)
    → list_all well_formed_fun ds ≡ true → list_all function_exact ds ≡ true → AllProper IsProperFun ds
each_fun code at [] h f r = tt
each_fun code at (d ∷ ds) h f r = (
  fun_proper code (at + 0) d (h 0 d refl) (left _ _ f) (left _ _ r),
  each_fun code (at + 1) ds (λ k x e. let s : at + suc k ≡ at + 1 + k = omega arith in subst (λ n. HasTy code n x.params x.body x.result) s (h (suc k) x e)) (right _ _ f) (right _ _ r),
)

pub program_proper : (p : Program) → IsChecked p → program_exact p ≡ true → IsProperProgram p
unfolding well_formed_program program_exact
program_proper p k r =
    let f = k.formed in
    let svcs : (nat_le (length p.svcs) 64 && list_all well_formed_svc p.svcs) ≡ true = left _ _ f in
    let behind : (nat_le (length p.exns) 64 && ((has_from_to 1 64 p.funs && list_all well_formed_fun p.funs) && nat_le (program_nodes p) 4096)) ≡ true =
    right (nat_le (length p.svcs) 64 && list_all well_formed_svc p.svcs) _ f in
    let last : ((has_from_to 1 64 p.funs && list_all well_formed_fun p.funs) && nat_le (program_nodes p) 4096) ≡ true = right (nat_le (length p.exns) 64) _ behind in
    let funs : (has_from_to 1 64 p.funs && list_all well_formed_fun p.funs) ≡ true = left _ _ last in
    let names : (list_all is_name p.exns && list_all function_exact p.funs) ≡ true = right (list_all service_ranged p.svcs) _ r in
    record {
      svcs = all_proper {test = well_formed_svc} {ranged = service_ranged} IsProperSvc svc_proper p.svcs (right _ _ svcs) (left _ _ r);
      exns = each_proper {test = is_name} IsName (λ x h. h) p.exns (left _ _ names);
      funs = each_fun p 0 p.funs (λ i d e. let same : i ≡ 0 + i = omega arith in subst (λ m. HasTy p m d.params d.body d.result) same (k.typed.bodies i d e)) (right _ _ funs) (right _ _ names);
    }

-- ---- read again

pub program_says : (p : Program) → IsChecked p → program_exact p ≡ true → Says (program_text p) p
program_says p k r =
    let h = program_proper p k r in
    let l = program_lexes p h 0 in
    let d = program_reads p l.0 (length (program_text p)) h (within_limits p k.formed) l.2 in
    record {
      tokens = l.0;
      toks = l.1;
      program = record { draft = d.draft; read = d.is; fills = subst (λ x. Fills x p) (sym d.same) (fills_itself p k.typed); typed = k.typed };
    }

pub program_found : (p : Program) → IsChecked p → program_exact p ≡ true → program_of (program_text p) ≡ Ok p
program_found p k r =
    let h = program_proper p k r in
    let l = program_lexes p h 0 in
    let d = program_reads p l.0 (length (program_text p)) h (within_limits p k.formed) l.2 in
    let found : annotated_program d.draft.program ≡ Ok p = ap annotated_program d.same ∙ annotated_complete p p (depths_kept p k.formed) (fills_itself p k.typed) k.typed in
    read_by (program_text p) l.0 l.1 (Ok p) (ap typed_of d.is ∙ ap (placed_result d.draft.decl_at d.draft.node_at) found)
