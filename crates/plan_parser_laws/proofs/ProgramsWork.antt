-- The reading of a program works off its agenda.
use Rattle.std.proofs.Common.{◌≡◌, ◌+◌, ◌≤◌, ℕ, zero, suc, Bool, true, false, List, [], ◌∷◌, ◌++◌, length, nat_lt, Result, Ok, Err, if◌then◌else◌, refl, sym as back, ap, subst, arith, ltb-true, ◌↔◌}
use Rattle.containers.proofs.Agendas.{no_fault}
use Rattle.plan_base.specs.declared.limit.Limit.{Limit}
use Rattle.plan_base.specs.declared.limit.Limit.TheVariants as limits
use Rattle.plan_base.specs.declared.tree.Draft.{Draft}
use Rattle.plan_lexer.specs.declared.token.Token.{Token}
use Rattle.plan_lexer.specs.declared.token.Key.TheVariants as keys
use Rattle.plan_parser_exprs.specs.declared.fault.ParseFault.{ParseFault}
use Rattle.plan_parser_exprs.specs.declared.fault.ParseFault.TheVariants.{Expected, TooDeep, TooMany}
use Rattle.plan_parser_exprs.specs.declared.fault.Wanted.TheVariants as wanted
use Rattle.plan_parser_exprs.specs.declared.level.Level.TheVariants as levels
use Rattle.plan_parser_exprs.specs.declared.node.Node.{Node}
use Rattle.plan_parser_exprs.specs.Ahead.{Front, ◌>>=◌, place, behind, is_key}
use Rattle.plan_parser_exprs.specs.Nodes.{all_at}
use Rattle.plan_parser_exprs.specs.Exprs.{expr_to}
use Rattle.plan_parser_laws.specs.Agenda.{GrammarItem, Counted, a_name, whole, declarations as item_declarations, declaration, body, judgement, size_of, body_size, judge, another, a_service, a_function, step}
use Rattle.plan_parser_laws.proofs.Ends.{nowhere, to_end, None_left, as_refused, refused_as}
use Rattle.plan_parser_laws.proofs.ReadSteps.{Reads}
use Rattle.plan_parser_laws.proofs.Works.{Works, Follows, goes_on, stops, begin, after, after_read, given_works, both, both_then, name_works, refuses_first}
use Rattle.plan_parser_laws.proofs.ExprsWork.{exprs_work}
use Rattle.plan_parser.specs.declared.signature.Head.{Head}
use Rattle.plan_parser.specs.declared.program.Gathered.{Gathered}
use Rattle.plan_parser.specs.Signatures.{service_at, head_at}
use Rattle.plan_parser.specs.Programs.{nothing, one_more, with_service, with_exception, judged_function, function_of, with_body, with_function, with_declaration, declarations, draft_of, finished_draft, program_of}
use Rattle.plan_parser_laws.specs.ProgramGrammar as gram
use Rattle.plan_parser_laws.specs.ProgramGrammar.{DeclarationsAt}
use Rattle.plan_parser_laws.specs.ProgramAgenda.{FirstProgramRefusal}
use Rattle.plan_parser_laws.proofs.ProgramsRead.{Onward, declaration_adds}
use Rattle.plan_parser_laws.proofs.HeadsWork.{service_works, head_works}

-- how much is declared
abbrev declared_count : ℕ → Gathered → Counted
declared_count end all = record { svcs = length all.svcs; exns = length all.exns; funs = length all.funs; exprs = length all.node_at; end = end }

abbrev On : ℕ → List GrammarItem → Gathered → List GrammarItem
On end rest all = item_declarations (declared_count end all) ∷ rest

lengths_are_added : {A : Type 0} (xs ys : List A) → length (xs ++ ys) ≡ length xs + length ys
lengths_are_added [] ys = omega arith
lengths_are_added (x ∷ xs) ys = let e = lengths_are_added xs ys in omega (arith, e)

one_added : {A : Type 0} (xs : List A) (x : A) → length (xs ++ x ∷ []) ≡ length xs + 1
one_added xs x = lengths_are_added xs (x ∷ [])

another_follows : {B : Type 0} (count : ℕ) (limit : Limit) (items : List GrammarItem) (f : Front) (next : B → List GrammarItem) (h : Unit {0} × Front → Result (B × Front) ParseFault)
    → Works items (behind f) next (h (tt, f)) → Follows (another count limit items f) next (one_more count limit f >>= h)
unfolding one_more
another_follows count limit items f next h k = both_then (nat_lt count 64) _ _ next (Ok (tt, f)) (Err (TooMany limit (place f))) h (goes_on k) (stops _ next)

judgement_follows : {B : Type 0} (at depth nodes : ℕ) (items : List GrammarItem) (f : Front) (next : B → List GrammarItem) (h : Unit {0} × Front → Result (B × Front) ParseFault)
    → Works items f next (h (tt, f))
    → Follows (if nat_lt 64 depth then Err (TooDeep at) else if nat_lt 4096 nodes then Err (TooMany limits.Nodes at) else Ok (items, f)) next (judged_function at depth nodes f >>= h)
unfolding judged_function
judgement_follows at depth nodes items f next h k =
    both_then (nat_lt 64 depth) _ _ next (Err (TooDeep at)) (if nat_lt 4096 nodes then Err (TooMany limits.Nodes at) else Ok (tt, f)) h (stops _ next)
    (both_then (nat_lt 4096 nodes) _ _ next (Err (TooMany limits.Nodes at)) (Ok (tt, f)) h (stops _ next) (goes_on k))

-- what is read is what is read
itself : {A : Type 0} (r : Result (A × Front) ParseFault) → Reads (λ x g. r ≡ Ok (x, g)) r
unfolding Reads
itself (Ok x) = refl
itself (Err e) = tt

pub size_is : (f g : Front) (n : Node) → expr_to 161 levels.Whole f ≡ Ok (n, g) → body_size f ≡ (n.depth, length (all_at n))
unfolding body_size
size_is f g n e = ap size_of e

module _ (end : ℕ) (rest : List GrammarItem) (all : Gathered) (f : Front) where
  service_follows : Follows (another (length all.svcs) limits.Services (a_service (declared_count end all) rest) f) (On end rest) (with_service all f)
  unfolding with_service
  service_follows =
      another_follows (length all.svcs) limits.Services (a_service (declared_count end all) rest) f (On end rest) _
      (after (a_service (declared_count end all) rest) (behind f) (λ _. item_declarations (record { svcs = length all.svcs + 1; exns = length all.exns; funs = length all.funs; exprs = length all.node_at; end = end }) ∷ rest)
      (On end rest) (service_at (behind f)) _
      (service_works (record { svcs = length all.svcs + 1; exns = length all.exns; funs = length all.funs; exprs = length all.node_at; end = end }) rest (behind f))
      (λ s g. let more : Gathered = record all { svcs = all.svcs ++ s ∷ []; svc_at = all.svc_at ++ place f ∷ [] } in
      subst (λ n. Works (item_declarations (record { svcs = n; exns = length all.exns; funs = length all.funs; exprs = length all.node_at; end = end }) ∷ rest) g (On end rest) (Ok (more, g)))
      (one_added all.svcs s) (given_works (On end rest) more g)))

  exception_follows : Follows (another (length all.exns) limits.Exceptions (a_name ∷ item_declarations (record { svcs = length all.svcs; exns = length all.exns + 1; funs = length all.funs; exprs = length all.node_at; end = end }) ∷ rest) f)
      (On end rest) (with_exception all f)
  unfolding with_exception
  exception_follows =
      another_follows (length all.exns) limits.Exceptions _ f (On end rest) _
      (name_works (item_declarations (record { svcs = length all.svcs; exns = length all.exns + 1; funs = length all.funs; exprs = length all.node_at; end = end }) ∷ rest) (behind f) (On end rest) _
      (λ name. let more : Gathered = record all { exns = all.exns ++ name ∷ []; exn_at = all.exn_at ++ place f ∷ [] } in
      subst (λ n. Works (item_declarations (record { svcs = length all.svcs; exns = n; funs = length all.funs; exprs = length all.node_at; end = end }) ∷ rest) (behind (behind f)) (On end rest) (Ok (more, behind (behind f))))
      (one_added all.exns name) (given_works (On end rest) more (behind (behind f)))))

  body_follows : (at : ℕ) (x : Head) (n : Node) (h : Front) → Follows (judge at (n.depth, length (all_at n)) (declared_count end all) rest h) (On end rest) (with_body at all x n h)
  unfolding with_body
  body_follows at x n h =
      subst (λ nodes. Follows (if nat_lt 64 n.depth then Err (TooDeep at) else if nat_lt 4096 nodes then Err (TooMany limits.Nodes at)
      else Ok (item_declarations (record { svcs = length all.svcs; exns = length all.exns; funs = length all.funs + 1; exprs = nodes; end = end }) ∷ rest, h)) (On end rest) (with_body at all x n h))
      (lengths_are_added all.node_at (all_at n))
      (judgement_follows at n.depth (length (all.node_at ++ all_at n)) _ h (On end rest) _
      (let more : Gathered = record all { funs = all.funs ++ function_of x n ∷ []; fun_at = all.fun_at ++ at ∷ []; node_at = all.node_at ++ all_at n } in
      subst (λ k. Works (item_declarations (record { svcs = length all.svcs; exns = length all.exns; funs = k; exprs = length (all.node_at ++ all_at n); end = end }) ∷ rest) h (On end rest) (Ok (more, h)))
      (one_added all.funs (function_of x n)) (given_works (On end rest) more h)))

  body_works : (at : ℕ) (x : Head) (g h : Front) (n : Node) → expr_to 161 levels.Whole g ≡ Ok (n, h)
      → Works (judgement at g (declared_count end all) ∷ rest) h (On end rest) (with_body at all x n h)
  unfolding step
  body_works at x g h n e =
      begin (judgement at g (declared_count end all)) rest h (On end rest) _
      (subst (λ z. Follows (judge at z (declared_count end all) rest h) (On end rest) (with_body at all x n h)) (back (size_is g h n e)) (body_follows at x n h))

  after_head : (at : ℕ) (x : Head) (g : Front)
      → Works (body at (declared_count end all) ∷ rest) g (On end rest) (expr_to 161 levels.Whole g >>= λ b. with_body at all x b.0 b.1)
  unfolding step
  after_head at x g =
      begin (body at (declared_count end all)) rest g (On end rest) _
      (goes_on (after_read (λ n h. expr_to 161 levels.Whole g ≡ Ok (n, h)) (whole 160 ∷ judgement at g (declared_count end all) ∷ rest) g (λ _. judgement at g (declared_count end all) ∷ rest) (On end rest)
      (expr_to 161 levels.Whole g) _ (exprs_work 160 levels.Whole (judgement at g (declared_count end all) ∷ rest) g) (itself (expr_to 161 levels.Whole g)) (λ n h e. body_works at x g h n e)))

  function_follows : Follows (another (length all.funs) limits.Functions (a_function (place f) (declared_count end all) rest) f) (On end rest) (with_function all f)
  unfolding with_function
  function_follows =
      another_follows (length all.funs) limits.Functions (a_function (place f) (declared_count end all) rest) f (On end rest) _
      (after (a_function (place f) (declared_count end all) rest) (behind f) (λ _. body (place f) (declared_count end all) ∷ rest) (On end rest) (head_at (behind f)) _
      (head_works (body (place f) (declared_count end all) ∷ rest) (behind f)) (λ x g. after_head (place f) x g))

  declaration_works : Works (declaration (declared_count end all) ∷ rest) f (On end rest) (with_declaration all f)
  unfolding with_declaration step
  declaration_works =
      begin (declaration (declared_count end all)) rest f (On end rest) _
      (both (is_key keys.Svc f) _ _ (On end rest) _ _ service_follows
      (both (is_key keys.Exception f) _ _ (On end rest) _ _ exception_follows
      (both (is_key keys.Fun f) _ _ (On end rest) _ _ function_follows (stops _ (On end rest)))))

at_end : {A : Type 0} (x : A) (f : Front) → Works [] f None_left (Ok (x, nowhere))
at_end x f = record { works = λ e. (λ h. absurd (no_fault step h), λ h. absurd (no_fault step h)) }

binds_are_grouped : (r : Result (Gathered × Front) ParseFault) (h : Gathered × Front → Result Gathered ParseFault) (k : Gathered → Result Draft ParseFault)
    → (r >>= λ x. to_end (h x >>= k)) ≡ to_end ((r >>= h) >>= k)
binds_are_grouped (Ok x) h k = refl
binds_are_grouped (Err e) h k = refl

finish_follows : (end : ℕ) (all : Gathered) (f : Front)
    → Follows (if nat_lt 0 (length all.funs) then Ok ([], f) else Err (Expected (wanted.Key keys.Fun) end)) None_left (to_end (finished_draft end all))
unfolding finished_draft
finish_follows end all f = go (nat_lt 0 (length all.funs))
  where
    go : (b : Bool) → Follows (if b then Ok ([], f) else Err (Expected (wanted.Key keys.Fun) end)) None_left (to_end (if b then Ok (draft_of all) else Err (Expected (wanted.Key keys.Fun) end)))
    go true = goes_on (at_end (draft_of all) f)
    go false = stops _ None_left

module _ (start : Front) (end : ℕ) where
  abbrev Rest : ℕ → Gathered → Front → Type 0
  Rest fuel all f = Works (item_declarations (declared_count end all) ∷ []) f None_left (to_end (declarations fuel all f >>= finished_draft end))

  declarations_work : (fuel : ℕ) (all : Gathered) (f : Front) → DeclarationsAt start all f → length f.tokens ≤ fuel → Rest fuel all f
  unfolding declarations step
  declarations_work zero all f d enough =
      begin (item_declarations (declared_count end all)) [] f None_left _ (go (nat_lt 0 (length f.tokens)) refl)
    where
      go : (b : Bool) → nat_lt 0 (length f.tokens) ≡ b
          → Follows (if b then Ok (declaration (declared_count end all) ∷ [], f) else if nat_lt 0 (length all.funs) then Ok ([], f) else Err (Expected (wanted.Key keys.Fun) end)) None_left
          (to_end (finished_draft end all))
      go true e = let some = ltb-true _ _ e in absurd (omega (arith, some, enough))
      go false e = finish_follows end all f
  declarations_work (suc fuel) all f d enough =
      begin (item_declarations (declared_count end all)) [] f None_left _ (go (λ x g o less. declarations_work fuel x g o less) (nat_lt 0 (length f.tokens)))
    where
      go : ((x : Gathered) (g : Front) → DeclarationsAt start x g → length g.tokens ≤ fuel → Rest fuel x g) → (b : Bool)
          → Follows (if b then Ok (declaration (declared_count end all) ∷ [], f) else if nat_lt 0 (length all.funs) then Ok ([], f) else Err (Expected (wanted.Key keys.Fun) end)) None_left
          (to_end ((if b then (with_declaration all f >>= λ x. declarations fuel x.0 x.1) else Ok all) >>= finished_draft end))
      go on true =
          goes_on (subst (λ r. Works (declaration (declared_count end all) ∷ []) f None_left r) (binds_are_grouped (with_declaration all f) (λ x. declarations fuel x.0 x.1) (finished_draft end))
          (after_read (Onward start f) (declaration (declared_count end all) ∷ []) f (On end []) None_left (with_declaration all f) _
          (declaration_works end [] all f) (declaration_adds start all f d)
          (λ x g o. on x g o.declared (let less = o.fewer.less in omega (arith, less, enough)))))
      go on false = finish_follows end all f

program_works : (tokens : List Token) (end : ℕ)
    → Works (item_declarations (declared_count end nothing) ∷ []) (record { tokens = tokens; end = end }) None_left (to_end (program_of tokens end))
unfolding program_of
program_works tokens end = declarations_work (record { tokens = tokens; end = end }) end (length tokens) nothing (record { tokens = tokens; end = end }) gram.no_declaration (omega arith)

-- a program is refused exactly with the first refusal
pub program_refused : (tokens : List Token) (end : ℕ) (e : ParseFault) → (program_of tokens end ≡ Err e) ↔ FirstProgramRefusal e tokens end
program_refused tokens end e =
    let both_ways = refuses_first (item_declarations (declared_count end nothing) ∷ []) (record { tokens = tokens; end = end }) (to_end (program_of tokens end)) (program_works tokens end) e in
    (λ h. both_ways.0 (as_refused (program_of tokens end) e h), λ h. refused_as (program_of tokens end) e (both_ways.1 h))
