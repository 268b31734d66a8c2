-- A program that is read is well formed, and has a place for each declaration and each expression.
use Rattle.std.proofs.Common.{◌≡◌, ℕ, zero, suc, ◌+◌, ◌<◌, ◌≤◌, Bool, true, false, List, [], ◌∷◌, ◌++◌, length, Result, Ok, Err, refl, sym, subst, arith, length-append}
use Rattle.std.specs.Prelude.{nat_le, nat_lt, if◌then◌else◌, IfOk}
use Rattle.std.specs.List.{list_all, sum_by}
use Rattle.std.proofs.lemmas.Bool.{le-leb}
use Rattle.std.proofs.lemmas.List.Sums.{sum_by_push}
use Rattle.std.proofs.lemmas.Bool.Decides.{nat_tests}
use Rattle.containers.proofs.Bools.{both}
use Rattle.plan_base.specs.declared.limit.Limit.{Limit}
use Rattle.plan_base.specs.declared.limit.Limit.TheVariants as limits
use Rattle.plan_base.specs.declared.tree.Svc.{Svc}
use Rattle.plan_base.specs.declared.tree.Param.{Param}
use Rattle.plan_base.specs.declared.tree.Fun.{Fun}
use Rattle.plan_base.specs.declared.tree.Draft.{Draft}
use Rattle.plan_base.specs.Sizes.{expr_depth, expr_nodes, program_nodes}
use Rattle.plan_base.specs.WellFormed.{well_formed_type, well_formed_expr, well_formed_svc, well_formed_fun, well_formed_program, IsWellFormedProgram}
use Rattle.plan_lexer.specs.declared.token.Token.{Token}
use Rattle.plan_lexer.specs.declared.token.Key.TheVariants as keys
use Rattle.plan_lexer.specs.declared.token.Symbol.TheVariants as symbols
use Rattle.plan_lexer.specs.TokenRules.{AreTokens}
use Rattle.plan_parser_exprs.specs.declared.fault.ParseFault.{ParseFault}
use Rattle.plan_parser_exprs.specs.declared.fault.ParseFault.TheVariants.{Expected}
use Rattle.plan_parser_exprs.specs.declared.fault.Wanted.TheVariants as wanted
use Rattle.plan_parser_exprs.specs.declared.level.Level.TheVariants as levels
use Rattle.plan_parser_exprs.specs.declared.node.Node.{Node}
use Rattle.plan_parser_exprs.specs.Ahead.{Front, ◌>>=◌, place, behind, is_symbol, is_key, Answers}
use Rattle.plan_parser_exprs.specs.Begins.{begins_type, begins_name}
use Rattle.plan_parser_exprs.specs.Nodes.{all_at}
use Rattle.plan_parser.proofs.FormedTypes.{Kinds, Holds, Any, step, choose, behind_kinds, symbol_holds, Each, each_last, each_test, Between, more_holds, Good, type_holds}
use Rattle.plan_parser.proofs.FormedNodes.{Sound}
use Rattle.plan_parser.proofs.FormedReads.{name_holds, expr_holds}
use Rattle.plan_parser.specs.declared.signature.Head.{Head}
use Rattle.plan_parser.specs.declared.program.Gathered.{Gathered}
use Rattle.plan_parser.specs.Signatures.{outer_type, inner_type, arguments_from, arguments_behind, service_at, param_at, params_from, params_behind, head_at}
use Rattle.plan_parser.specs.Programs.{nothing, one_more, with_service, with_exception, judged_function, function_of, with_body, with_function, with_declaration, declarations, draft_of, finished_draft, program_of, Placed}

-- tokens behind a place keep the limits of their kinds
pub kinds_of : (from len : ℕ) (ts : List Token) → AreTokens from len ts → Kinds ts
kinds_of from len [] h = tt
kinds_of from len (t ∷ ts) h = (h.0.kind, kinds_of t.stop len ts h.1)

-- ---- heads

outer_holds : (f : Front) → Kinds f.tokens → Holds Good (outer_type f)
unfolding outer_type
outer_holds f k = type_holds 161 f k

inner_holds : (f : Front) → Kinds f.tokens → Holds Good (inner_type f)
unfolding inner_type
inner_holds f k = type_holds 160 f k

arguments_from_holds : (f : Front) → Kinds f.tokens → Holds (Between Good 0 8) (arguments_from f)
unfolding arguments_from
arguments_from_holds f k =
    step Good (Between Good 0 8) _ _ (inner_holds f k) (λ first g p q.
    step (Between Good 1 8) (Between Good 0 8) _ _ (more_holds Good inner_type inner_holds begins_type symbols.Comma limits.Parameters wanted.AType 7 (first ∷ []) g (p, tt) q)
    (λ all h r s. step Any (Between Good 0 8) _ _ (symbol_holds symbols.ParenClose h s)
    (λ _ i _ t. (record { all = r.all; least = omega arith; most = r.most }, t))))

arguments_behind_holds : (f : Front) → Kinds f.tokens → Holds (Between Good 0 8) (arguments_behind f)
unfolding arguments_behind
arguments_behind_holds f k =
    choose (Between Good 0 8) (is_symbol symbols.ParenClose f) _ _ (λ _. (record { all = tt; least = omega arith; most = omega arith }, behind_kinds f k))
    (λ _. choose (Between Good 0 8) (begins_type f) _ _ (λ _. arguments_from_holds f k) (λ _. tt))

abbrev GoodSvc : Svc → Type 0
GoodSvc s = well_formed_svc s ≡ true

service_holds : (f : Front) → Kinds f.tokens → Holds GoodSvc (service_at f)
unfolding service_at
service_holds f k =
    step Any GoodSvc _ _ (name_holds f k) (λ name g _ q.
    step Any GoodSvc _ _ (symbol_holds symbols.Colon g q) (λ _ h _ r.
    step Any GoodSvc _ _ (symbol_holds symbols.ParenOpen h r) (λ _ i _ s.
    step (Between Good 0 8) GoodSvc _ _ (arguments_behind_holds i s) (λ params j p t.
    step Any GoodSvc _ _ (symbol_holds symbols.Arrow j t) (λ _ l _ u.
    step Good GoodSvc _ _ (outer_holds l u) (λ result m v w.
    (both (le-leb (length params) 8 p.most) (both (each_test Good well_formed_type (λ t e. e) params p.all) v), w)))))))

abbrev GoodParam : Param → Type 0
GoodParam p = well_formed_type p.ty ≡ true

param_holds : (f : Front) → Kinds f.tokens → Holds GoodParam (param_at f)
unfolding param_at
param_holds f k =
    step Any GoodParam _ _ (name_holds f k) (λ name g _ q.
    step Any GoodParam _ _ (symbol_holds symbols.Colon g q) (λ _ h _ r.
    step Good GoodParam _ _ (inner_holds h r) (λ t i p s. (p, s))))

params_from_holds : (f : Front) → Kinds f.tokens → Holds (Between GoodParam 0 8) (params_from f)
unfolding params_from
params_from_holds f k =
    step GoodParam (Between GoodParam 0 8) _ _ (param_holds f k) (λ first g p q.
    step (Between GoodParam 1 8) (Between GoodParam 0 8) _ _ (more_holds GoodParam param_at param_holds begins_name symbols.Comma limits.Parameters wanted.AName 7 (first ∷ []) g (p, tt) q)
    (λ all h r s. step Any (Between GoodParam 0 8) _ _ (symbol_holds symbols.ParenClose h s)
    (λ _ i _ t. (record { all = r.all; least = omega arith; most = r.most }, t))))

params_behind_holds : (f : Front) → Kinds f.tokens → Holds (Between GoodParam 0 8) (params_behind f)
unfolding params_behind
params_behind_holds f k =
    choose (Between GoodParam 0 8) (is_symbol symbols.ParenClose f) _ _ (λ _. (record { all = tt; least = omega arith; most = omega arith }, behind_kinds f k))
    (λ _. choose (Between GoodParam 0 8) (begins_name f) _ _ (λ _. params_from_holds f k) (λ _. tt))

record GoodHead (h : Head) : Type 0 where
  few : nat_le (length h.params) 8 ≡ true
  all : list_all (λ p. well_formed_type p.ty) h.params ≡ true
  result : well_formed_type h.result ≡ true

head_holds : (f : Front) → Kinds f.tokens → Holds GoodHead (head_at f)
unfolding head_at
head_holds f k =
    step Any GoodHead _ _ (name_holds f k) (λ name g _ q.
    step Any GoodHead _ _ (symbol_holds symbols.ParenOpen g q) (λ _ h _ r.
    step (Between GoodParam 0 8) GoodHead _ _ (params_behind_holds h r) (λ params i p s.
    step Any GoodHead _ _ (symbol_holds symbols.Colon i s) (λ _ j _ t.
    step Good GoodHead _ _ (outer_holds j t) (λ result l u v.
    step Any GoodHead _ _ (symbol_holds symbols.Equal l v) (λ _ m _ w.
    (record { few = le-leb (length params) 8 p.most; all = each_test GoodParam (λ p. well_formed_type p.ty) (λ p e. e) params p.all; result = u }, w)))))))

-- ---- declarations

abbrev GoodFun : Fun → Type 0
GoodFun f = well_formed_fun f ≡ true

record GoodSoFar (g : Gathered) : Type 0 where
  svcs : Each GoodSvc g.svcs
  svcs_few : length g.svcs ≤ 64
  exns_few : length g.exns ≤ 64
  funs : Each GoodFun g.funs
  funs_few : length g.funs ≤ 64
  nodes : sum_by (λ f. expr_nodes f.body) g.funs ≡ length g.node_at
  nodes_few : length g.node_at ≤ 4096
  svc_places : length g.svc_at ≡ length g.svcs
  exn_places : length g.exn_at ≡ length g.exns
  fun_places : length g.fun_at ≡ length g.funs

nothing_good : GoodSoFar nothing
nothing_good = record {
  svcs = tt;
  svcs_few = omega arith;
  exns_few = omega arith;
  funs = tt;
  funs_few = omega arith;
  nodes = refl;
  nodes_few = omega arith;
  svc_places = refl;
  exn_places = refl;
  fun_places = refl;
}

abbrev Below : ℕ → Unit {0} → Type 0
Below count _ = count < 64

room_holds : (count : ℕ) (limit : Limit) (f : Front) → Kinds f.tokens → Holds (Below count) (one_more count limit f)
unfolding one_more
room_holds count limit f k = choose (Below count) (nat_lt count 64) _ _ (λ e. (grind (arith, nat_tests, e), k)) (λ _. tt)

one_longer : {A : Type 0} (xs : List A) (x : A) → length (xs ++ x ∷ []) ≡ length xs + 1
one_longer xs x = length-append xs (x ∷ [])

service_good : (g : Gathered) (f : Front) → GoodSoFar g → Kinds f.tokens → Holds GoodSoFar (with_service g f)
unfolding with_service
service_good g f h k =
    step (Below (length g.svcs)) GoodSoFar _ _ (room_holds (length g.svcs) limits.Services f k) (λ _ i few _.
    step GoodSvc GoodSoFar _ _ (service_holds (behind f) (behind_kinds f k)) (λ s j p q.
    let m = one_longer g.svcs s in let n = one_longer g.svc_at (place f) in let e = h.svc_places in (
      record {
        svcs = each_last GoodSvc g.svcs s h.svcs p;
        svcs_few = omega (arith, m, few);
        exns_few = h.exns_few;
        funs = h.funs;
        funs_few = h.funs_few;
        nodes = h.nodes;
        nodes_few = h.nodes_few;
        svc_places = omega (arith, m, n, e);
        exn_places = h.exn_places;
        fun_places = h.fun_places;
      },
      q,
    )))

exception_good : (g : Gathered) (f : Front) → GoodSoFar g → Kinds f.tokens → Holds GoodSoFar (with_exception g f)
unfolding with_exception
exception_good g f h k =
    step (Below (length g.exns)) GoodSoFar _ _ (room_holds (length g.exns) limits.Exceptions f k) (λ _ i few _.
    step Any GoodSoFar _ _ (name_holds (behind f) (behind_kinds f k)) (λ name j _ q.
    let m = one_longer g.exns name in let n = one_longer g.exn_at (place f) in let e = h.exn_places in (
      record {
        svcs = h.svcs;
        svcs_few = h.svcs_few;
        exns_few = omega (arith, m, few);
        funs = h.funs;
        funs_few = h.funs_few;
        nodes = h.nodes;
        nodes_few = h.nodes_few;
        svc_places = h.svc_places;
        exn_places = omega (arith, m, n, e);
        fun_places = h.fun_places;
      },
      q,
    )))

abbrev Fits : ℕ → ℕ → Unit {0} → Type 0
Fits depth nodes _ = (depth ≤ 64) × (nodes ≤ 4096)

judged_holds : (at depth nodes : ℕ) (f : Front) → Kinds f.tokens → Holds (Fits depth nodes) (judged_function at depth nodes f)
unfolding judged_function
judged_holds at depth nodes f k =
    choose (Fits depth nodes) (nat_lt 64 depth) _ _ (λ _. tt) (λ d. choose (Fits depth nodes) (nat_lt 4096 nodes) _ _ (λ _. tt)
    (λ e. ((grind (arith, nat_tests, d), grind (arith, nat_tests, e)), k)))

body_good : (n : Node) → Sound n → n.depth ≤ 64 → well_formed_expr n.tree ≡ true
unfolding well_formed_expr
body_good n p h = both p.formed (le-leb (expr_depth n.tree) 64 (let e = p.deep h in omega (arith, e, h)))

body_holds : (at : ℕ) (g : Gathered) (head : Head) (body : Node) (f : Front) → length g.funs < 64 → GoodSoFar g → GoodHead head → Sound body → Kinds f.tokens
    → Holds GoodSoFar (with_body at g head body f)
unfolding with_body
body_holds at g head body f few h p r k =
    step (Fits body.depth (length (g.node_at ++ all_at body))) GoodSoFar _ _ (judged_holds at body.depth (length (g.node_at ++ all_at body)) f k) (λ _ o t u.
    let fun = function_of head body in
    let m = one_longer g.funs fun in let n = one_longer g.fun_at at in let e = h.fun_places in
    let a = sum_by_push (λ d. expr_nodes d.body) g.funs fun in let b = length-append g.node_at (all_at body) in let c = r.nodes in let d = h.nodes in (
      record {
        svcs = h.svcs;
        svcs_few = h.svcs_few;
        exns_few = h.exns_few;
        funs = each_last GoodFun g.funs fun h.funs (both p.few (both p.all (both p.result (body_good body r t.0))));
        funs_few = omega (arith, m, few);
        nodes = omega (arith, a, b, c, d);
        nodes_few = t.1;
        svc_places = h.svc_places;
        exn_places = h.exn_places;
        fun_places = omega (arith, m, n, e);
      },
      u,
    ))

function_good : (g : Gathered) (f : Front) → GoodSoFar g → Kinds f.tokens → Holds GoodSoFar (with_function g f)
unfolding with_function
function_good g f h k =
    step (Below (length g.funs)) GoodSoFar _ _ (room_holds (length g.funs) limits.Functions f k) (λ _ i few _.
    step GoodHead GoodSoFar _ _ (head_holds (behind f) (behind_kinds f k)) (λ head j p q.
    step Sound GoodSoFar _ _ (expr_holds 161 levels.Whole j q) (λ body l r s. body_holds (place f) g head body l few h p r s)))

declaration_good : (g : Gathered) (f : Front) → GoodSoFar g → Kinds f.tokens → Holds GoodSoFar (with_declaration g f)
unfolding with_declaration
declaration_good g f h k =
    choose GoodSoFar (is_key keys.Svc f) _ _ (λ _. service_good g f h k) (λ _. choose GoodSoFar (is_key keys.Exception f) _ _ (λ _. exception_good g f h k)
    (λ _. choose GoodSoFar (is_key keys.Fun f) _ _ (λ _. function_good g f h k) (λ _. tt)))

abbrev GoodOr : Result Gathered ParseFault → Type 0
GoodOr (Ok g) = GoodSoFar g
GoodOr (Err e) = Unit {0}

go_on : (r : Result (Gathered × Front) ParseFault) (h : Gathered × Front → Result Gathered ParseFault) → Holds GoodSoFar r
    → ((g : Gathered) (f : Front) → GoodSoFar g → Kinds f.tokens → GoodOr (h (g, f))) → GoodOr (r >>= h)
go_on (Ok x) h p k = k x.0 x.1 p.0 p.1
go_on (Err e) h p k = tt

either : (b : Bool) (x y : Result Gathered ParseFault) → GoodOr x → GoodOr y → GoodOr (if b then x else y)
either true x y p q = p
either false x y p q = q

declarations_good : (fuel : ℕ) (g : Gathered) (f : Front) → GoodSoFar g → Kinds f.tokens → GoodOr (declarations fuel g f)
unfolding declarations
declarations_good zero g f h k = h
declarations_good (suc fuel) g f h k =
    either (nat_lt 0 (length f.tokens)) _ _ (go_on (with_declaration g f) _ (declaration_good g f h k) (λ d r p q. declarations_good fuel d r p q)) h

-- ---- the whole program

-- a well-formed program with its places
record GoodDraft (d : Draft) : Type 0 where
  formed : well_formed_program d.program ≡ true
  placed : Placed d

decls_placed : (g : Gathered) → GoodSoFar g → length (g.svc_at ++ g.exn_at ++ g.fun_at) ≡ length g.svcs + length g.exns + length g.funs
decls_placed g h =
    let a = length-append (g.svc_at ++ g.exn_at) g.fun_at in let b = length-append g.svc_at g.exn_at in
    let c = h.svc_places in let d = h.exn_places in let e = h.fun_places in omega (arith, a, b, c, d, e)

draft_good : (g : Gathered) → GoodSoFar g → 0 < length g.funs → GoodDraft (draft_of g)
unfolding well_formed_program program_nodes
draft_good g h some = record {
  formed =
      let n = h.nodes in let m = h.nodes_few in
      both (both (le-leb (length g.svcs) 64 h.svcs_few) (each_test GoodSvc well_formed_svc (λ s e. e) g.svcs h.svcs))
      (both (le-leb (length g.exns) 64 h.exns_few)
      (both (both (both (le-leb 1 (length g.funs) (omega (arith, some))) (le-leb (length g.funs) 64 h.funs_few)) (each_test GoodFun well_formed_fun (λ f e. e) g.funs h.funs))
      (le-leb (sum_by (λ f. expr_nodes f.body) g.funs) 4096 (omega (arith, n, m)))));
  placed = record { decls = decls_placed g h; nodes = sym h.nodes };
}

abbrev DraftOr : Result Draft ParseFault → Type 0
DraftOr (Ok d) = GoodDraft d
DraftOr (Err e) = Unit {0}

finished_good : (end : ℕ) (g : Gathered) → GoodSoFar g → DraftOr (finished_draft end g)
unfolding finished_draft
finished_good end g h = by_count (nat_lt 0 (length g.funs)) refl
  where
    by_count : (b : Bool) → nat_lt 0 (length g.funs) ≡ b → DraftOr (if b then Ok (draft_of g) else Err (Expected (wanted.Key keys.Fun) end))
    by_count true e = draft_good g h (grind (arith, nat_tests, e))
    by_count false e = tt

program_good : (tokens : List Token) (end : ℕ) → Kinds tokens → DraftOr (program_of tokens end)
unfolding program_of
program_good tokens end k = by_declarations (declarations (length tokens) nothing (record { tokens = tokens; end = end }))
    (declarations_good (length tokens) nothing (record { tokens = tokens; end = end }) nothing_good k)
  where
    by_declarations : (r : Result Gathered ParseFault) → GoodOr r → DraftOr (r >>= λ g. finished_draft end g)
    by_declarations (Ok g) h = finished_good end g h
    by_declarations (Err e) h = tt

read_draft : (tokens : List Token) (end : ℕ) (d : Draft) → AreTokens 0 end tokens → program_of tokens end ≡ Ok d → GoodDraft d
read_draft tokens end d h e = subst DraftOr e (program_good tokens end (kinds_of 0 end tokens h))

-- a draft that is read is well formed
pub draft_formed : (tokens : List Token) (end : ℕ) (r : Result Draft ParseFault) → AreTokens 0 end tokens → Answers (program_of tokens end) r
    → IfOk r (λ d. IsWellFormedProgram d.program)
draft_formed tokens end (Ok d) h a = (read_draft tokens end d h a).formed
draft_formed tokens end (Err e) h a = tt

-- and has its places
pub draft_placed : (tokens : List Token) (end : ℕ) (r : Result Draft ParseFault) → AreTokens 0 end tokens → Answers (program_of tokens end) r → IfOk r Placed
draft_placed tokens end (Ok d) h a = (read_draft tokens end d h a).placed
draft_placed tokens end (Err e) h a = tt
