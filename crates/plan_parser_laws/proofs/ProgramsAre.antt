-- A program of the grammar is read.
use Rattle.std.proofs.Common.{◌≡◌, ◌≤◌, ℕ, zero, suc, true, false, List, [], ◌∷◌, ◌++◌, length, Ok, nat_lt, refl, ◌∙◌, ap, arith, lt-ltb, le-ltb}
use Rattle.plan_base.specs.declared.name.Name.{Name}
use Rattle.plan_base.specs.declared.tree.Svc.{Svc}
use Rattle.plan_base.specs.declared.tree.Draft.{Draft}
use Rattle.plan_lexer.specs.declared.token.Token.{Token}
use Rattle.plan_lexer.specs.declared.token.Key.TheVariants as keys
use Rattle.plan_parser_exprs.specs.declared.level.Level.TheVariants as levels
use Rattle.plan_parser_exprs.specs.declared.node.Node.{Node}
use Rattle.plan_parser_exprs.specs.Ahead.{Front, place, behind, is_key, name_at}
use Rattle.plan_parser_exprs.specs.Nodes.{all_at}
use Rattle.plan_parser_exprs.specs.Exprs.{expr_to}
use Rattle.plan_parser_laws.specs.Grammar.{Word, Called, behind2}
use Rattle.plan_parser_laws.proofs.Follows.{Shorter}
use Rattle.plan_parser_laws.proofs.ExprsAre.{expr_is}
use Rattle.plan_parser.specs.declared.signature.Head.{Head}
use Rattle.plan_parser.specs.declared.program.Gathered.{Gathered}
use Rattle.plan_parser.specs.Signatures.{service_at, head_at}
use Rattle.plan_parser.specs.Programs.{nothing, one_more, with_service, with_exception, judged_function, function_of, with_body, with_function, with_declaration, declarations, draft_of, finished_draft, program_of}
use Rattle.plan_parser_laws.specs.ProgramGrammar as gram
use Rattle.plan_parser_laws.specs.ProgramGrammar.{ServiceAt, DeclarationsAt, ProgramAt}
use Rattle.plan_parser_laws.proofs.Starts.{Ends, service_ends, exception_ends, function_ends, end_ends}
use Rattle.plan_parser_laws.proofs.ProgramShorters.{service_shorter, exception_shorter, function_shorter}
use Rattle.plan_parser_laws.proofs.HeadsAre.{service_is, head_is}

svc_here : (f : Front) → Word keys.Svc f → is_key keys.Svc f ≡ true
unfolding is_key
svc_here f w = rw w refl

service_by : (all : Gathered) (f g : Front) (s : Svc) → is_key keys.Svc f ≡ true → nat_lt (length all.svcs) 64 ≡ true → service_at (behind f) ≡ Ok (s, g)
    → with_declaration all f ≡ Ok (record all { svcs = all.svcs ++ s ∷ []; svc_at = all.svc_at ++ place f ∷ [] }, g)
unfolding with_declaration with_service one_more
service_by all f g s a b c = rw (a, b, c) refl

exception_by : (all : Gathered) (f : Front) (name : Name) → Word keys.Exception f → nat_lt (length all.exns) 64 ≡ true → Called name (behind f)
    → with_declaration all f ≡ Ok (record all { exns = all.exns ++ name ∷ []; exn_at = all.exn_at ++ place f ∷ [] }, behind2 f)
unfolding with_declaration with_exception one_more is_key name_at
exception_by all f name a b c = rw (a, b, c) refl

body_by : (at : ℕ) (all : Gathered) (x : Head) (n : Node) (f : Front) → nat_lt 64 n.depth ≡ false → nat_lt 4096 (length (all.node_at ++ all_at n)) ≡ false
    → with_body at all x n f ≡ Ok (record all { funs = all.funs ++ function_of x n ∷ []; fun_at = all.fun_at ++ at ∷ []; node_at = all.node_at ++ all_at n }, f)
unfolding with_body judged_function
body_by at all x n f a b = rw (a, b) refl

function_by : (all more : Gathered) (f g h : Front) (x : Head) (n : Node) → Word keys.Fun f → nat_lt (length all.funs) 64 ≡ true → head_at (behind f) ≡ Ok (x, g)
    → expr_to 161 levels.Whole g ≡ Ok (n, h) → with_body (place f) all x n h ≡ Ok (more, h) → with_declaration all f ≡ Ok (more, h)
unfolding with_declaration with_function one_more is_key
function_by all more f g h x n a b c d e = rw (a, b, c, d, e) refl

-- declarations up to there are read
record SoFar (start : Front) (all : Gathered) (g : Front) : Type 0 where
  fuel : ℕ
  enough : length g.tokens ≤ fuel
  goes : declarations (length start.tokens) nothing start ≡ declarations fuel all g

one_step : (fuel : ℕ) (all more : Gathered) (f g : Front) → nat_lt 0 (length f.tokens) ≡ true → with_declaration all f ≡ Ok (more, g)
    → declarations (suc fuel) all f ≡ declarations fuel more g
unfolding declarations
one_step fuel all more f g some here = rw (some, here) refl

adds : (start : Front) (all more : Gathered) (f g : Front) → SoFar start all f → Shorter f g → with_declaration all f ≡ Ok (more, g) → SoFar start more g
adds start all more f g s fewer here = go s.fuel refl
  where
    go : (k : ℕ) → s.fuel ≡ k → SoFar start more g
    go zero e = let enough = s.enough in let less = fewer.less in absurd (omega (arith, e, enough, less))
    go (suc k) e =
        let enough = s.enough in let less = fewer.less in
        record {
          fuel = k;
          enough = omega (arith, e, enough, less);
          goes = s.goes ∙ ap (λ n. declarations n all f) e ∙ one_step k all more f g (lt-ltb _ _ (omega (arith, less))) here;
        }

service_word : {f g : Front} {s : Svc} → ServiceAt f s g → Word keys.Svc f
service_word (gram.service w called colon args arrow one) = w

so_far : {start g : Front} {all : Gathered} → DeclarationsAt start all g → Ends g → SoFar start all g
so_far {start} gram.no_declaration ends = record { fuel = length start.tokens; enough = omega arith; goes = refl }
so_far {start} {g = h} (gram.one_service {g = g} {all = all} {s = s} d one room) ends =
    adds start all _ g h (so_far d (service_ends (service_word one))) (service_shorter one)
    (service_by all g h s (svc_here g (service_word one)) (lt-ltb _ _ room) (service_is one ends.no_type))
so_far {start} (gram.one_exception {g = g} {all = all} d (gram.exception {name = name} w called) room) ends =
    adds start all _ g (behind2 g) (so_far d (exception_ends w)) (exception_shorter (gram.exception w called)) (exception_by all g name w (lt-ltb _ _ room) called)
so_far {start} {g = h} (gram.one_function {g = g} {all = all} d (gram.function {g = i} {x = x} {n = n} w e body deep) room few) ends =
    adds start all _ g h (so_far d (function_ends w)) (function_shorter (gram.function w e body deep))
    (function_by all _ g i h x n w (lt-ltb _ _ room) (head_is e) (expr_is body ends.no_expr) (body_by (place g) all x n h (le-ltb _ _ deep) (le-ltb _ _ few)))

stops : (fuel : ℕ) (all : Gathered) (f : Front) → f.tokens ≡ [] → declarations fuel all f ≡ Ok all
unfolding declarations
stops zero all f e = refl
stops (suc fuel) all f e = rw e refl

finish : (tokens : List Token) (end : ℕ) (all : Gathered) → declarations (length tokens) nothing (record { tokens = tokens; end = end }) ≡ Ok all → nat_lt 0 (length all.funs) ≡ true
    → program_of tokens end ≡ Ok (draft_of all)
unfolding program_of finished_draft
finish tokens end all whole some = rw (whole, some) refl

-- a program of the grammar is read
pub program_is : {tokens : List Token} {end : ℕ} {d : Draft} → ProgramAt tokens end d → program_of tokens end ≡ Ok d
program_is {tokens} {end} (gram.program {g = g} {all = all} d done some) =
    let s = so_far d (end_ends done) in finish tokens end all (s.goes ∙ stops s.fuel all g done) (lt-ltb _ _ (omega (arith, some)))
