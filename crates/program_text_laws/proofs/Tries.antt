-- The clauses of a `try`.
use Rattle.std.proofs.Common.{◌≡◌, ℕ, zero, suc, ◌+◌, ◌*◌, ◌<◌, ◌≤◌, max, Bool, true, false, ◌&&◌, List, [], ◌∷◌, ◌++◌, length, Option, Some, None, refl, sym, ap, ◌∙◌, subst, arith, append_assoc, length-append}
use Rattle.std.specs.Prelude.{is_some}
use Rattle.std.specs.List.{fold, flat_map, sum_by}
use Rattle.std.proofs.lemmas.List.Sums.{sum_by-cons}
use Rattle.plan_base.specs.declared.name.Name.{Name}
use Rattle.plan_base.specs.declared.tree.Expr.{Expr}
use Rattle.plan_base.specs.declared.tree.Expr.TheVariants as x
use Rattle.plan_base.specs.declared.tree.Clause.{Clause}
use Rattle.plan_base.specs.Sizes.{largest_by, expr_depth, clause_depth, expr_nodes, clause_nodes}
use Rattle.plan_lexer.specs.declared.token.Key.TheVariants as keys
use Rattle.plan_lexer.specs.declared.token.Symbol.TheVariants as symbols
use Rattle.plan_lexer.specs.declared.token.TokenKind.TheVariants as kind
use Rattle.plan_parser_exprs.specs.declared.level.Level.TheVariants as levels
use Rattle.plan_parser_exprs.specs.declared.node.Caught.{Caught}
use Rattle.plan_parser_exprs.specs.Ahead.{Front, behind, place, is_symbol}
use Rattle.plan_parser_exprs.specs.Nodes.{all_at, below_of, both, below_all, clauses_of, bodies, try_of}
use Rattle.plan_parser_exprs.specs.Exprs.{catch_at, clause_follows, clause, clauses_from, try_form, key_form, expr_to}
use Rattle.plan_printer_spec.specs.Pieces.{listed_pieces}
use Rattle.program_text_laws.specs.PrintedTokens.{Kinds, mark, catch_kinds, expr_kinds, clause_kinds}
use Rattle.program_text_laws.specs.Reads.{kinds_at, Took, first_kind, IsNode, Ends}
use Rattle.program_text_laws.proofs.Steps.{took, then_took, weaker, behind_is, symbol_is, take_symbol, take_key, take_name, take_open}
use Rattle.program_text_laws.proofs.Forms.{is_over, Measured, IsRead, nest, behind_one, level_took}
use Rattle.program_text_laws.proofs.Words.{ends_end, ends_handle, by_operand}

ends_bar : Ends (Some (kind.Symbol symbols.Bar))
ends_bar = record { product = refl; sum = refl; cons = refl; comparison = refl; both = refl; either = refl; next = refl; call = refl }

record IsCaught (c : Clause) (k : Caught) : Type 0 where
  name : k.name ≡ c.name
  body : IsNode c.body k.body

abbrev AllCaught : List Clause → List Caught → Type 0
AllCaught [] [] = Unit {0}
AllCaught (c ∷ cs) (k ∷ ks) = IsCaught c k × AllCaught cs ks
AllCaught _ _ = ⊥

-- each clause is read, none is deeper than that, and all but the last have names
abbrev pub ClausesRead : ℕ → List Clause → Type 0
ClausesRead most [] = Unit {0}
ClausesRead most (c ∷ []) = IsRead c.body × (expr_depth c.body ≤ most)
ClausesRead most (c ∷ d ∷ cs) = IsRead c.body × (expr_depth c.body ≤ most) × (is_some c.name ≡ true) × ClausesRead most (d ∷ cs)

catch_took : (n : Option Name) (f : Front) (rest : Kinds) → kinds_at f ≡ catch_kinds n ++ rest → Took (catch_at f) rest (λ m. m ≡ n)
unfolding catch_at
catch_took None f rest h = rw (symbol_is symbols.Underscore f (kind.Symbol symbols.Underscore ∷ rest) h) (took None (behind f) (behind_is f (kind.Symbol symbols.Underscore) rest h) refl)
catch_took (Some v) f rest h = rw (symbol_is symbols.Underscore f (kind.Word v ∷ rest) h) (then_took _ (take_name v f rest h) (λ w g h1 q. took (Some w) g h1 (ap Some q)))

clause_took : (room : ℕ) (c : Clause) → IsRead c.body → 2 * expr_depth c.body + 8 ≤ room → (f : Front) (rest : Kinds) → kinds_at f ≡ clause_kinds c ++ rest → Ends (first_kind rest) → Took (clause (expr_to room) room f) rest (IsCaught c)
unfolding clause
clause_took room c r n f rest h w =
    let hs : kinds_at f ≡ catch_kinds c.name ++ (kind.Symbol symbols.FatArrow ∷ (expr_kinds c.body ++ rest)) = h
    ∙ (append_assoc (catch_kinds c.name ++ mark symbols.FatArrow) (expr_kinds c.body) rest ∙ append_assoc (catch_kinds c.name) (mark symbols.FatArrow) (expr_kinds c.body ++ rest)) in
    then_took _ (catch_took c.name f (kind.Symbol symbols.FatArrow ∷ (expr_kinds c.body ++ rest)) hs) (λ m g1 h1 q1.
    then_took _ (take_symbol symbols.FatArrow g1 _ h1) (λ u g2 h2 q2.
    then_took _ (level_took c.body r room n levels.Whole g2 rest h2 w) (λ nb g3 h3 q3.
    took (record { name = m; body = nb }) g3 h3 (record { name = q1; body = q3 }))))

abbrev CaughtMore : List Clause → List Caught → List Caught → Type 0
CaughtMore cs done all = (news : List Caught) × (all ≡ done ++ news) × AllCaught cs news

and_no : (b : Bool) → (b && false) ≡ false
and_no true = refl
and_no false = refl

no_more : (n : Option Name) (f : Front) → is_symbol symbols.Bar f ≡ false → clause_follows n f ≡ false
unfolding clause_follows
no_more n f e = ap (λ b. is_some n && b) e ∙ and_no (is_some n)

one_more : (n : Option Name) (f : Front) → is_some n ≡ true → is_symbol symbols.Bar f ≡ true → clause_follows n f ≡ true
unfolding clause_follows
one_more n f s e = rw (s, e) refl

clauses_took : (room most : ℕ) → 2 * most + 8 ≤ room → (c : Clause) (cs : List Clause) → ClausesRead most (c ∷ cs) → (left : ℕ) → length cs < left → (done : List Caught) (f : Front) (rest : Kinds)
    → kinds_at f ≡ clause_kinds c ++ (listed_pieces (mark symbols.Bar) (mark symbols.Bar) clause_kinds cs ++ (kind.Key keys.End ∷ rest))
    → Took (clauses_from (expr_to room) room left done f) (kind.Key keys.End ∷ rest) (CaughtMore (c ∷ cs) done)
unfolding clauses_from
clauses_took room most m c cs r zero l done f rest h = absurd (omega (arith, l))
clauses_took room most m c [] r (suc left) l done f rest h =
    then_took _ (clause_took room c r.0 (omega (arith, m, r.1)) f (kind.Key keys.End ∷ rest) h ends_end) (λ k g h1 q1.
    rw (no_more k.name g (symbol_is symbols.Bar g (kind.Key keys.End ∷ rest) h1)) (took (done ++ k ∷ []) g h1 (k ∷ [], refl, (q1, tt))))
clauses_took room most m c (d ∷ ds) r (suc left) l done f rest h =
    let tail : Kinds = clause_kinds d ++ (listed_pieces (mark symbols.Bar) (mark symbols.Bar) clause_kinds ds ++ (kind.Key keys.End ∷ rest)) in
    let hs : kinds_at f ≡ clause_kinds c ++ (kind.Symbol symbols.Bar ∷ tail) = h
    ∙ ap (λ s. clause_kinds c ++ (kind.Symbol symbols.Bar ∷ s)) (append_assoc (clause_kinds d) (listed_pieces (mark symbols.Bar) (mark symbols.Bar) clause_kinds ds) (kind.Key keys.End ∷ rest)) in
    then_took _ (clause_took room c r.0 (omega (arith, m, r.1)) f (kind.Symbol symbols.Bar ∷ tail) hs ends_bar) (λ k g h1 q1.
    rw (one_more k.name g (ap is_some q1.name ∙ r.2) (symbol_is symbols.Bar g (kind.Symbol symbols.Bar ∷ tail) h1))
    (weaker (clauses_took room most m d ds r.3 left (omega (arith, l)) (done ++ k ∷ []) (behind g) rest (behind_is g (kind.Symbol symbols.Bar) tail h1))
    (λ all w. (k ∷ w.0, w.1 ∙ append_assoc done (k ∷ []) w.0, (q1, w.2)))))

same_clauses : (cs : List Clause) (ks : List Caught) → AllCaught cs ks → clauses_of ks ≡ cs
same_clauses [] [] g = refl
same_clauses (c ∷ cs) (k ∷ ks) g = (λ i. record { name = g.0.name i; body = g.0.body.tree i } ∷ same_clauses cs ks g.1 i)
same_clauses [] (k ∷ ks) g = absurd g
same_clauses (c ∷ cs) [] g = absurd g

caught_depths : (cs : List Clause) (ks : List Caught) (acc : ℕ) → AllCaught cs ks → fold (λ m n. max m n.depth) acc (bodies ks) ≡ fold (λ m c. max m (clause_depth c)) acc cs
caught_depths [] [] acc g = refl
caught_depths (c ∷ cs) (k ∷ ks) acc g = ap (λ d. fold (λ m n. max m n.depth) (max acc d) (bodies ks)) g.0.body.depth ∙ caught_depths cs ks (max acc (clause_depth c)) g.1
caught_depths [] (k ∷ ks) acc g = absurd g
caught_depths (c ∷ cs) [] acc g = absurd g

caught_places : (cs : List Clause) (ks : List Caught) → AllCaught cs ks → length (flat_map all_at (bodies ks)) ≡ sum_by clause_nodes cs
caught_places [] [] g = refl
caught_places (c ∷ cs) (k ∷ ks) g = let z = caught_places cs ks g.1 in let s = sum_by-cons clause_nodes c cs in let b = g.0.body.nodes in simp length-append (omega (arith, z, s, b))
caught_places [] (k ∷ ks) g = absurd g
caught_places (c ∷ cs) [] g = absurd g

try_took : (room : ℕ) (e a : Expr) (c : Clause) (cs : List Clause) → x.Try a (c ∷ cs) ≡ e
    → Measured e (1 + max (expr_depth a) (largest_by clause_depth (c ∷ cs))) (1 + expr_nodes a + sum_by clause_nodes (c ∷ cs)) → expr_depth e ≤ 64 → IsRead a
    → ClausesRead (largest_by clause_depth (c ∷ cs)) (c ∷ cs) → length cs ≤ 7 → 2 * expr_depth e + 7 ≤ room → (f : Front) (rest : Kinds)
    → kinds_at f ≡ kind.Key keys.Try ∷ (expr_kinds a ++ (kind.Key keys.Handle ∷ (clause_kinds c ++ (listed_pieces (mark symbols.Bar) (mark symbols.Bar) clause_kinds cs ++ (kind.Key keys.End ∷ rest)))))
    → Took (key_form (expr_to room) room keys.Try f) rest (IsNode e)
unfolding key_form try_form
try_took room e a c cs t d most ra r l n f rest h =
    let ks : Kinds = clause_kinds c ++ (listed_pieces (mark symbols.Bar) (mark symbols.Bar) clause_kinds cs ++ (kind.Key keys.End ∷ rest)) in
    then_took _ (take_open room f _ (omega (arith, n)) h) (λ u0 g0 h0 q0.
    then_took _ (level_took a ra room (omega (arith, n, d.depth)) levels.Whole (behind f) (kind.Key keys.Handle ∷ ks) (behind_is f (kind.Key keys.Try) _ h) ends_handle) (λ na g1 h1 q1.
    then_took _ (take_key keys.Handle g1 ks h1) (λ u2 g2 h2 q2.
    then_took _ (clauses_took room (largest_by clause_depth (c ∷ cs)) (omega (arith, n, d.depth)) c cs r 8 (omega (arith, l)) [] g2 rest h2) (λ all g3 h3 q3.
    then_took _ (take_key keys.End g3 rest h3) (λ u4 g4 h4 q4.
    let z = caught_depths (c ∷ cs) q3.0 0 q3.2 in
    let y = caught_places (c ∷ cs) q3.0 q3.2 in
    let same : all ≡ q3.0 = q3.1 in
    took _ g4 h4 (subst (λ bs. IsNode e (try_of (place f) na bs)) (sym same) (is_over e (x.Try na.tree (clauses_of q3.0)) (place f) (both (below_of na) (below_all (bodies q3.0)))
    (ap (λ v. x.Try v (clauses_of q3.0)) q1.tree ∙ (ap (x.Try a) (same_clauses (c ∷ cs) q3.0 q3.2) ∙ t)) (omega (arith, q1.depth, z, d.depth)) most (simp length-append (omega (arith, q1.nodes, y, d.nodes))))))))))

pub try_read : (e a : Expr) (c : Clause) (cs : List Clause) → x.Try a (c ∷ cs) ≡ e → Measured e (1 + max (expr_depth a) (largest_by clause_depth (c ∷ cs))) (1 + expr_nodes a + sum_by clause_nodes (c ∷ cs)) → expr_depth e ≤ 64 → IsRead a
    → ClausesRead (largest_by clause_depth (c ∷ cs)) (c ∷ cs) → length cs ≤ 7
    → expr_kinds e ≡ kind.Key keys.Try ∷ (expr_kinds a ++ (kind.Key keys.Handle ∷ (clause_kinds c ++ (listed_pieces (mark symbols.Bar) (mark symbols.Bar) clause_kinds cs ++ (kind.Key keys.End ∷ [])))))
    → IsRead e
try_read e a c cs t d most ra r l ks = by_operand e _ _ refl most ks (λ room n f rest h. try_took room e a c cs t d most ra r l n f rest
    (h ∙ behind_one _ (nest (expr_kinds a) _ rest (behind_one _ (nest (clause_kinds c) _ rest (nest (listed_pieces (mark symbols.Bar) (mark symbols.Bar) clause_kinds cs) _ rest refl))))))
