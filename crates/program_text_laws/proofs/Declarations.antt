-- The tokens of a program are read as its declarations, however its bodies are written.
use Rattle.std.proofs.Common.{◌≡◌, ℕ, zero, suc, ◌+◌, ◌<◌, ◌≤◌, true, false, List, [], ◌∷◌, ◌++◌, length, Result, Ok, refl, sym, ap, ◌∙◌, arith, append_assoc, append-nil, length-append, nat_lt}
use Rattle.std.specs.List.{flat_map, sum_by}
use Rattle.std.proofs.lemmas.Bool.Decides.{nat_tests}
use Rattle.std.proofs.lemmas.List.Sums.{sum_by-cons}
use Rattle.plan_base.specs.declared.limit.Limit.{Limit}
use Rattle.plan_base.specs.declared.name.Name.{Name}
use Rattle.plan_base.specs.declared.tree.Expr.{Expr}
use Rattle.plan_base.specs.declared.tree.Svc.{Svc}
use Rattle.plan_base.specs.declared.tree.Fun.{Fun}
use Rattle.plan_base.specs.declared.tree.Program.{Program}
use Rattle.plan_base.specs.declared.tree.Draft.{Draft}
use Rattle.plan_base.specs.Sizes.{expr_depth, expr_nodes, program_nodes}
use Rattle.plan_lexer.specs.declared.token.Key.TheVariants as keys
use Rattle.plan_lexer.specs.declared.token.Symbol.TheVariants as symbols
use Rattle.plan_lexer.specs.declared.token.Token.{Token}
use Rattle.plan_lexer.specs.declared.token.TokenKind.{TokenKind}
use Rattle.plan_lexer.specs.declared.token.TokenKind.TheVariants as kind
use Rattle.plan_parser_exprs.specs.declared.fault.ParseFault.{ParseFault}
use Rattle.plan_parser_exprs.specs.declared.level.Level.TheVariants as levels
use Rattle.plan_parser_exprs.specs.Ahead.{Front, place, behind}
use Rattle.plan_parser_exprs.specs.Nodes.{all_at}
use Rattle.plan_parser_exprs.specs.Exprs.{expr_to}
use Rattle.plan_parser.specs.declared.program.Gathered.{Gathered}
use Rattle.plan_parser.specs.Programs.{nothing, one_more, with_service, with_exception, judged_function, with_body, with_function, with_declaration, declarations, draft_of, finished_draft, program_of}
use Rattle.plan_printer_spec.specs.Pieces.{listed_pieces}
use Rattle.program_text_laws.specs.Lexes.{kinds_of}
use Rattle.program_text_laws.specs.PrintedTokens.{Kinds, mark, type_kinds, param_kinds, expr_kinds, svc_kinds, exn_kinds, fun_kinds_by, program_kinds_by, program_kinds}
use Rattle.program_text_laws.specs.Proper.{IsProper, AllProper, IsProperSvc, IsProperFun, IsProperProgram}
use Rattle.program_text_laws.specs.Reads.{kinds_at, Took, first_kind, FollowsType, IsNode, Ends}
use Rattle.program_text_laws.proofs.Steps.{took, then_took, behind_is, key_is, take_name}
use Rattle.program_text_laws.proofs.Forms.{level_took}
use Rattle.program_text_laws.proofs.ExprsRead.{expr_read}
use Rattle.program_text_laws.proofs.Within.{IsShortSvc, IsShortFun, IsWithinLimits}
use Rattle.program_text_laws.proofs.HeadsRead.{service_took, head_took}

-- ---- one declaration

below_limit : (n m : ℕ) → n < m → nat_lt n m ≡ true
below_limit n m h = grind (arith, nat_tests)

within_limit : (n m : ℕ) → n ≤ m → nat_lt m n ≡ false
within_limit n m h = grind (arith, nat_tests)

take_more : (count : ℕ) (limit : Limit) (f : Front) (ks : Kinds) → count < 64 → kinds_at f ≡ ks → Took (one_more count limit f) ks (λ _. Unit {0})
unfolding one_more
take_more count limit f ks n h = rw (below_limit count 64 n) (took tt f h tt)

take_judged : (at depth nodes : ℕ) (f : Front) (ks : Kinds) → depth ≤ 64 → nodes ≤ 4096 → kinds_at f ≡ ks → Took (judged_function at depth nodes f) ks (λ _. Unit {0})
unfolding judged_function
take_judged at depth nodes f ks d n h = rw (within_limit depth 64 d) (rw (within_limit nodes 4096 n) (took tt f h tt))

-- what was gathered with these besides, and so many more expressions
record Grew (g : Gathered) (ss : List Svc) (xs : List Name) (fs : List Fun) (many : ℕ) (h : Gathered) : Type 0 where
  svcs : h.svcs ≡ g.svcs ++ ss
  exns : h.exns ≡ g.exns ++ xs
  funs : h.funs ≡ g.funs ++ fs
  nodes : length h.node_at ≡ length g.node_at + many

-- what may follow a declaration
record FollowsDecl (ks : Kinds) : Type 0 where
  type : FollowsType ks
  expr : Ends (first_kind ks)

svc_regroup : (c t rest : Kinds) (p q : TokenKind) → (((c ++ (p ∷ [])) ++ (q ∷ [])) ++ t) ++ rest ≡ c ++ (p ∷ q ∷ (t ++ rest))
svc_regroup c t rest p q = append_assoc ((c ++ (p ∷ [])) ++ (q ∷ [])) t rest ∙ (append_assoc (c ++ (p ∷ [])) (q ∷ []) (t ++ rest) ∙ append_assoc c (p ∷ []) (q ∷ (t ++ rest)))

fun_regroup : (c t e rest : Kinds) (p q m : TokenKind) → (((((c ++ (p ∷ [])) ++ (q ∷ [])) ++ t) ++ (m ∷ [])) ++ e) ++ rest ≡ c ++ (p ∷ q ∷ (t ++ (m ∷ (e ++ rest))))
fun_regroup c t e rest p q m = append_assoc ((((c ++ (p ∷ [])) ++ (q ∷ [])) ++ t) ++ (m ∷ [])) e rest ∙ (append_assoc (((c ++ (p ∷ [])) ++ (q ∷ [])) ++ t) (m ∷ []) (e ++ rest) ∙ svc_regroup c t (m ∷ (e ++ rest)) p q)

service_grew : (s : Svc) → IsProperSvc s → length s.params ≤ 8 → (g : Gathered) → length g.svcs < 64 → (f : Front) (rest : Kinds) → kinds_at f ≡ svc_kinds s ++ rest → FollowsType rest
    → Took (with_declaration g f) rest (Grew g (s ∷ []) [] [] 0)
unfolding with_declaration with_service
service_grew s p l g n f rest h w =
    let ks : kinds_at f ≡ kind.Key keys.Svc ∷ kind.Word s.name ∷ kind.Symbol symbols.Colon ∷ kind.Symbol symbols.ParenOpen ∷
    (listed_pieces (mark symbols.Comma) [] type_kinds s.params ++ (kind.Symbol symbols.ParenClose ∷ kind.Symbol symbols.Arrow ∷ (type_kinds s.result ++ rest)))
    = h
    ∙ ap (λ l. kind.Key keys.Svc ∷ kind.Word s.name ∷ kind.Symbol symbols.Colon ∷ kind.Symbol symbols.ParenOpen ∷ l)
    (svc_regroup (listed_pieces (mark symbols.Comma) [] type_kinds s.params) (type_kinds s.result) rest (kind.Symbol symbols.ParenClose) (kind.Symbol symbols.Arrow)) in
    rw (key_is keys.Svc f _ ks)
    (then_took _ (take_more (length g.svcs) Limit.Services f _ n ks) (λ u0 g0 k0 q0.
    then_took _ (service_took s p l (behind f) rest (behind_is f (kind.Key keys.Svc) _ ks) w) (λ v g1 k1 q1.
    took _ g1 k1 (record { svcs = ap (λ z. g.svcs ++ z ∷ []) q1; exns = sym (append-nil g.exns); funs = sym (append-nil g.funs); nodes = omega arith }))))

exception_grew : (name : Name) (g : Gathered) → length g.exns < 64 → (f : Front) (rest : Kinds) → kinds_at f ≡ exn_kinds name ++ rest → Took (with_declaration g f) rest (Grew g [] (name ∷ []) [] 0)
unfolding with_declaration with_exception
exception_grew name g n f rest h =
    rw (key_is keys.Svc f (kind.Key keys.Exception ∷ kind.Word name ∷ rest) h) (rw (key_is keys.Exception f (kind.Key keys.Exception ∷ kind.Word name ∷ rest) h)
    (then_took _ (take_more (length g.exns) Limit.Exceptions f _ n h) (λ u0 g0 k0 q0.
    then_took _ (take_name name (behind f) rest (behind_is f (kind.Key keys.Exception) _ h)) (λ v g1 k1 q1.
    took _ g1 k1 (record { svcs = sym (append-nil g.svcs); exns = ap (λ z. g.exns ++ z ∷ []) q1; funs = sym (append-nil g.funs); nodes = omega arith })))))

-- ---- all declarations

-- the declarations that are left, gathered
record Gathers (r : Result Gathered ParseFault) (g : Gathered) (ss : List Svc) (xs : List Name) (fs : List Fun) : Type 0 where
  value : Gathered
  is : r ≡ Ok value
  svcs : value.svcs ≡ g.svcs ++ ss
  exns : value.exns ≡ g.exns ++ xs
  funs : value.funs ≡ g.funs ++ fs

some_tokens : (ts : List Token) (k : TokenKind) (ks : Kinds) → kinds_of ts ≡ k ∷ ks → nat_lt 0 (length ts) ≡ true
some_tokens [] k ks h = absurd (cc)
some_tokens (t ∷ ts) k ks h = below_limit 0 (length (t ∷ ts)) (omega arith)

no_tokens : (ts : List Token) → kinds_of ts ≡ [] → nat_lt 0 (length ts) ≡ false
no_tokens [] h = refl
no_tokens (t ∷ ts) h = absurd (cc)

at_end : (fuel : ℕ) (g : Gathered) (f : Front) → kinds_at f ≡ [] → declarations fuel g f ≡ Ok g
unfolding declarations
at_end zero g f h = refl
at_end (suc fuel) g f h = rw (no_tokens f.tokens h) refl

goes_on : (fuel : ℕ) (g : Gathered) (f : Front) (k : TokenKind) (ks rest : Kinds) (ss : List Svc) (xs : List Name) (fs : List Fun) (many : ℕ) → kinds_at f ≡ k ∷ ks → (t : Took (with_declaration g f) rest (Grew g ss xs fs many))
    → declarations (suc fuel) g f ≡ declarations fuel t.value t.rest
unfolding declarations
goes_on fuel g f k ks rest ss xs fs many h t = rw (some_tokens f.tokens k ks h) (rw t.is refl)

more_nil : {A : Type 0} (a b c : List A) → a ≡ b ++ [] → a ++ c ≡ b ++ c
more_nil a b c e = ap (λ s. s ++ c) (e ∙ append-nil b)

more_one : {A : Type 0} (a b c : List A) (x : A) → a ≡ b ++ x ∷ [] → a ++ c ≡ b ++ (x ∷ c)
more_one a b c x e = ap (λ s. s ++ c) e ∙ append_assoc b (x ∷ []) c

-- ---- counts

kinds_count : (ts : List Token) → length (kinds_of ts) ≡ length ts
kinds_count [] = refl
kinds_count (t ∷ ts) = ap suc (kinds_count ts)

enough : {X : Type 0} (kinds : X → Kinds) → ((x : X) → 1 ≤ length (kinds x)) → (xs : List X) → length xs ≤ length (flat_map kinds xs)
enough kinds one [] = omega arith
enough kinds one (x ∷ xs) = let i = enough kinds one xs in let o = one x in simp length-append (omega (arith, i, o))

-- the tokens of a printed program are that program
pub record ReadsProgram (p : Program) (r : Result Draft ParseFault) : Type 0 where
  pub draft : Draft
  pub is : r ≡ Ok draft
  pub same : draft.program ≡ p

-- ---- programs whose bodies are written so

-- a body is read from these tokens where nothing joins it
abbrev pub ReadsBodies : (Expr → Kinds) → Type 0
ReadsBodies body = (e : Expr) → IsProper e → expr_depth e ≤ 64 → (f : Front) (rest : Kinds) → kinds_at f ≡ body e ++ rest → Ends (first_kind rest) → Took (expr_to 161 levels.Whole f) rest (IsNode e)

module _ (body : Expr → Kinds) (reads : ReadsBodies body) where
  function_grew : (d : Fun) → IsProperFun d → IsShortFun d → (g : Gathered) → length g.funs < 64 → length g.node_at + expr_nodes d.body ≤ 4096 → (f : Front) (rest : Kinds) → kinds_at f ≡ fun_kinds_by body d ++ rest → Ends (first_kind rest)
      → Took (with_declaration g f) rest (Grew g [] [] (d ∷ []) (expr_nodes d.body))
  unfolding with_declaration with_function with_body
  function_grew d p s g n many f rest h w =
      let inside : Kinds = body d.body ++ rest in
      let ks : kinds_at f ≡ kind.Key keys.Fun ∷ kind.Word d.name ∷ kind.Symbol symbols.ParenOpen ∷
      (listed_pieces (mark symbols.Comma) [] param_kinds d.params ++ (kind.Symbol symbols.ParenClose ∷ kind.Symbol symbols.Colon ∷ (type_kinds d.result ++ (kind.Symbol symbols.Equal ∷ inside))))
      = h
      ∙ ap (λ l. kind.Key keys.Fun ∷ kind.Word d.name ∷ kind.Symbol symbols.ParenOpen ∷ l)
      (fun_regroup (listed_pieces (mark symbols.Comma) [] param_kinds d.params) (type_kinds d.result) (body d.body) rest (kind.Symbol symbols.ParenClose) (kind.Symbol symbols.Colon)
      (kind.Symbol symbols.Equal)) in
      let small = s.1 in
      rw (key_is keys.Svc f _ ks) (rw (key_is keys.Exception f _ ks) (rw (key_is keys.Fun f _ ks)
      (then_took _ (take_more (length g.funs) Limit.Functions f _ n ks) (λ u0 g0 k0 q0.
      then_took _ (head_took d p s.0 (behind f) inside (behind_is f (kind.Key keys.Fun) _ ks)) (λ head g1 k1 q1.
      then_took _ (reads d.body p.body small g1 rest k1 w) (λ node g2 k2 q2.
      let size : length (g.node_at ++ all_at node) ≡ length g.node_at + expr_nodes d.body = simp length-append (omega (arith, q2.nodes)) in
      then_took _ (take_judged (place f) node.depth (length (g.node_at ++ all_at node)) g2 rest (omega (arith, q2.depth, small)) (omega (arith, size, many)) k2) (λ u3 g3 k3 q3.
      took _ g3 k3 (record {
        svcs = sym (append-nil g.svcs);
        exns = sym (append-nil g.exns);
        funs = (λ i. g.funs ++ record { name = q1.name i; params = q1.params i; result = q1.result i; body = q2.tree i } ∷ []);
        nodes = size;
      }))))))))

  fun_ends : (fs : List Fun) → Ends (first_kind (flat_map (fun_kinds_by body) fs))
  fun_ends [] = record { product = refl; sum = refl; cons = refl; comparison = refl; both = refl; either = refl; next = refl; call = refl }
  fun_ends (f ∷ fs) = record { product = refl; sum = refl; cons = refl; comparison = refl; both = refl; either = refl; next = refl; call = refl }

  funs_gather : (fs : List Fun) → AllProper IsProperFun fs → AllProper IsShortFun fs → (fuel : ℕ) → length fs ≤ fuel → (g : Gathered) → length g.funs + length fs ≤ 64 → length g.node_at + sum_by (λ d. expr_nodes d.body) fs ≤ 4096
      → (f : Front) → kinds_at f ≡ flat_map (fun_kinds_by body) fs → Gathers (declarations fuel g f) g [] [] fs
  funs_gather [] p s fuel l g n many f h = record { value = g; is = at_end fuel g f h; svcs = sym (append-nil g.svcs); exns = sym (append-nil g.exns); funs = sym (append-nil g.funs) }
  funs_gather (d ∷ ds) p s zero l g n many f h = absurd (omega (arith, l))
  funs_gather (d ∷ ds) p s (suc fuel) l g n many f h =
      let z = sum_by-cons (λ d. expr_nodes d.body) d ds in
      let t = function_grew d p.0 s.0 g (omega (arith, n)) (omega (arith, many, z)) f (flat_map (fun_kinds_by body) ds) h (fun_ends ds) in
      let c : length t.value.funs ≡ length g.funs + 1 = ap length t.good.funs ∙ length-append g.funs (d ∷ []) in
      let r = funs_gather ds p.1 s.1 fuel (omega (arith, l)) t.value (omega (arith, n, c)) (omega (arith, many, z, t.good.nodes)) t.rest t.left in
      record {
        value = r.value;
        is = goes_on fuel g f _ _ (flat_map (fun_kinds_by body) ds) [] [] (d ∷ []) (expr_nodes d.body) h t ∙ r.is;
        svcs = r.svcs ∙ more_nil t.value.svcs g.svcs [] t.good.svcs;
        exns = r.exns ∙ more_nil t.value.exns g.exns [] t.good.exns;
        funs = r.funs ∙ more_one t.value.funs g.funs ds d t.good.funs;
      }

  exns_gather : (xs : List Name) (fs : List Fun) → AllProper IsProperFun fs → AllProper IsShortFun fs → (fuel : ℕ) → length xs + length fs ≤ fuel → (g : Gathered) → length g.exns + length xs ≤ 64 → length g.funs + length fs ≤ 64
      → length g.node_at + sum_by (λ d. expr_nodes d.body) fs ≤ 4096 → (f : Front) → kinds_at f ≡ flat_map exn_kinds xs ++ flat_map (fun_kinds_by body) fs → Gathers (declarations fuel g f) g [] xs fs
  exns_gather [] fs p s fuel l g m n many f h = funs_gather fs p s fuel (omega (arith, l)) g n many f h
  exns_gather (v ∷ xs) fs p s zero l g m n many f h = absurd (omega (arith, l))
  exns_gather (v ∷ xs) fs p s (suc fuel) l g m n many f h =
      let rest : Kinds = flat_map exn_kinds xs ++ flat_map (fun_kinds_by body) fs in
      let t = exception_grew v g (omega (arith, m)) f rest h in
      let c : length t.value.exns ≡ length g.exns + 1 = ap length t.good.exns ∙ length-append g.exns (v ∷ []) in
      let b : length t.value.funs ≡ length g.funs = ap length (t.good.funs ∙ append-nil g.funs) in
      let r = exns_gather xs fs p s fuel (omega (arith, l)) t.value (omega (arith, m, c)) (omega (arith, n, b)) (omega (arith, many, t.good.nodes)) t.rest t.left in
      record {
        value = r.value;
        is = goes_on fuel g f _ _ rest [] (v ∷ []) [] 0 h t ∙ r.is;
        svcs = r.svcs ∙ more_nil t.value.svcs g.svcs [] t.good.svcs;
        exns = r.exns ∙ more_one t.value.exns g.exns xs v t.good.exns;
        funs = r.funs ∙ more_nil t.value.funs g.funs fs t.good.funs;
      }

  decl_follows : (xs : List Name) (fs : List Fun) → FollowsType (flat_map exn_kinds xs ++ flat_map (fun_kinds_by body) fs)
  decl_follows [] [] = refl
  decl_follows [] (f ∷ fs) = refl
  decl_follows (v ∷ xs) fs = refl

  svc_follows : (ss : List Svc) (xs : List Name) (fs : List Fun) → FollowsType (flat_map svc_kinds ss ++ (flat_map exn_kinds xs ++ flat_map (fun_kinds_by body) fs))
  svc_follows [] xs fs = decl_follows xs fs
  svc_follows (s ∷ ss) xs fs = refl

  svcs_gather : (ss : List Svc) → AllProper IsProperSvc ss → AllProper IsShortSvc ss → (xs : List Name) (fs : List Fun) → AllProper IsProperFun fs → AllProper IsShortFun fs → (fuel : ℕ) → length ss + length xs + length fs ≤ fuel
      → (g : Gathered) → length g.svcs + length ss ≤ 64 → length g.exns + length xs ≤ 64 → length g.funs + length fs ≤ 64 → length g.node_at + sum_by (λ d. expr_nodes d.body) fs ≤ 4096
      → (f : Front) → kinds_at f ≡ flat_map svc_kinds ss ++ (flat_map exn_kinds xs ++ flat_map (fun_kinds_by body) fs) → Gathers (declarations fuel g f) g ss xs fs
  svcs_gather [] q o xs fs p s fuel l g k m n many f h = exns_gather xs fs p s fuel (omega (arith, l)) g m n many f h
  svcs_gather (v ∷ ss) q o xs fs p s zero l g k m n many f h = absurd (omega (arith, l))
  svcs_gather (v ∷ ss) q o xs fs p s (suc fuel) l g k m n many f h =
      let rest : Kinds = flat_map svc_kinds ss ++ (flat_map exn_kinds xs ++ flat_map (fun_kinds_by body) fs) in
      let hs : kinds_at f ≡ svc_kinds v ++ rest = h ∙ append_assoc (svc_kinds v) (flat_map svc_kinds ss) (flat_map exn_kinds xs ++ flat_map (fun_kinds_by body) fs) in
      let t = service_grew v q.0 o.0 g (omega (arith, k)) f rest hs (svc_follows ss xs fs) in
      let a : length t.value.svcs ≡ length g.svcs + 1 = ap length t.good.svcs ∙ length-append g.svcs (v ∷ []) in
      let b : length t.value.funs ≡ length g.funs = ap length (t.good.funs ∙ append-nil g.funs) in
      let c : length t.value.exns ≡ length g.exns = ap length (t.good.exns ∙ append-nil g.exns) in
      let r = svcs_gather ss q.1 o.1 xs fs p s fuel (omega (arith, l)) t.value (omega (arith, k, a)) (omega (arith, m, c)) (omega (arith, n, b)) (omega (arith, many, t.good.nodes)) t.rest t.left in
      record {
        value = r.value;
        is = goes_on fuel g f _ _ rest (v ∷ []) [] [] 0 hs t ∙ r.is;
        svcs = r.svcs ∙ more_one t.value.svcs g.svcs ss v t.good.svcs;
        exns = r.exns ∙ more_nil t.value.exns g.exns xs t.good.exns;
        funs = r.funs ∙ more_nil t.value.funs g.funs fs t.good.funs;
      }

  pub program_reads_by : (p : Program) (ts : List Token) (end : ℕ) → IsProperProgram p → IsWithinLimits p → kinds_of ts ≡ program_kinds_by body p → ReadsProgram p (program_of ts end)
  unfolding program_of finished_draft program_nodes
  program_reads_by p ts end h w k =
      let f : Front = record { tokens = ts; end = end } in
      let ks : kinds_at f ≡ flat_map svc_kinds p.svcs ++ (flat_map exn_kinds p.exns ++ flat_map (fun_kinds_by body) p.funs) = k ∙ append_assoc (flat_map svc_kinds p.svcs) (flat_map exn_kinds p.exns) (flat_map (fun_kinds_by body) p.funs) in
      let a = enough svc_kinds (λ s. omega arith) p.svcs in
      let b = enough exn_kinds (λ s. omega arith) p.exns in
      let c = enough (fun_kinds_by body) (λ s. omega arith) p.funs in
      let n : length ts ≡ length (flat_map svc_kinds p.svcs) + (length (flat_map exn_kinds p.exns) + length (flat_map (fun_kinds_by body) p.funs)) = sym (kinds_count ts)
      ∙ (ap length ks ∙ (length-append (flat_map svc_kinds p.svcs) _ ∙ ap (λ m. length (flat_map svc_kinds p.svcs) + m) (length-append (flat_map exn_kinds p.exns) (flat_map (fun_kinds_by body) p.funs)))) in
      let r = svcs_gather p.svcs h.svcs w.short_svcs p.exns p.funs h.funs w.short_funs (length ts) (omega (arith, a, b, c, n)) nothing (omega (arith, w.svcs)) (omega (arith, w.exns)) (omega (arith, w.funs)) (omega (arith, w.nodes)) f ks in
      let s : nat_lt 0 (length r.value.funs) ≡ true = ap (λ fs. nat_lt 0 (length fs)) r.funs ∙ below_limit 0 (length p.funs) w.some in
      record {
        draft = draft_of r.value;
        is = rw r.is (rw s refl);
        same = (λ i. record { svcs = r.svcs i; exns = r.exns i; funs = r.funs i });
      }

-- ---- printed programs

printed_bodies : ReadsBodies expr_kinds
printed_bodies e p w f rest h ends = level_took e (expr_read p w) 161 (omega (arith, w)) levels.Whole f rest h ends

pub program_reads : (p : Program) (ts : List Token) (end : ℕ) → IsProperProgram p → IsWithinLimits p → kinds_of ts ≡ program_kinds p → ReadsProgram p (program_of ts end)
unfolding program_kinds
program_reads p ts end h w k = program_reads_by expr_kinds printed_bodies p ts end h w k
