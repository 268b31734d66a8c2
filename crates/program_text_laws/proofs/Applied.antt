-- Literals, names, and what has parts behind commas.
use Rattle.std.proofs.Common.{◌≡◌, ℕ, ◌+◌, ◌*◌, ◌<◌, ◌≤◌, max, Bool, true, false, List, [], ◌∷◌, ◌++◌, length, Some, Ok, refl, sym, ap, ◌∙◌, subst, arith, append_assoc, length-append}
use Rattle.std.specs.List.{fold, flat_map, sum_by}
use Rattle.std.proofs.lemmas.List.Sums.{sum_by-cons}
use Rattle.plan_base.specs.declared.limit.Limit.{Limit}
use Rattle.plan_base.specs.declared.limit.Limit.TheVariants as limits
use Rattle.plan_base.specs.declared.name.Name.{Name}
use Rattle.plan_base.specs.declared.tree.Expr.{Expr}
use Rattle.plan_base.specs.declared.tree.Expr.TheVariants as x
use Rattle.plan_base.specs.Sizes.{largest_by, expr_depth, expr_nodes}
use Rattle.plan_lexer.specs.declared.token.Symbol.TheVariants as symbols
use Rattle.plan_lexer.specs.declared.token.TokenKind.{TokenKind}
use Rattle.plan_lexer.specs.declared.token.TokenKind.TheVariants as kind
use Rattle.plan_parser_exprs.specs.declared.fault.Wanted.TheVariants as wanted
use Rattle.plan_parser_exprs.specs.declared.level.Level.{Level}
use Rattle.plan_parser_exprs.specs.declared.level.Level.TheVariants as levels
use Rattle.plan_parser_exprs.specs.declared.node.Node.{Node}
use Rattle.plan_parser_exprs.specs.Ahead.{Front, Reader, behind, place, is_symbol_kind}
use Rattle.plan_parser_exprs.specs.Begins.{kind_begins, begins_expr}
use Rattle.plan_parser_exprs.specs.Types.{more}
use Rattle.plan_parser_exprs.specs.Nodes.{all_at, leaf, below_all, trees, over_list}
use Rattle.plan_parser_exprs.specs.Exprs.{need_open, items_from, arguments_behind, arguments, call, name_operand, chunk, tuple, grouped_expression, parens_behind, parens, symbol_form, operand_kind, operand, expr_to}
use Rattle.plan_printer_spec.specs.Pieces.{listed_pieces}
use Rattle.program_text_laws.specs.PrintedTokens.{Kinds, mark, expr_kinds}
use Rattle.program_text_laws.specs.Reads.{kinds_at, Took, first_kind, IsNode, Ends}
use Rattle.program_text_laws.proofs.Steps.{took, then_took, took_by, weaker, behind_is, symbol_is, take_symbol, take_name, take_open, AllRead, AllGood, more_took}
use Rattle.program_text_laws.proofs.Ladder.{Starts}
use Rattle.program_text_laws.proofs.Forms.{is_over, Measured, IsRead, nest, behind_one, level_took, ends_paren, operand_is, starts_by, paren_starts, no_close}
use Rattle.program_text_laws.proofs.Bracketing.{begins_starts}

pub ends_comma : Ends (Some (kind.Symbol symbols.Comma))
ends_comma = record { product = refl; sum = refl; cons = refl; comparison = refl; both = refl; either = refl; next = refl; call = refl }

-- ---- literals and names

pub leaf_good : (e : Expr) (tree : Expr) (at : ℕ) → tree ≡ e → Measured e 1 1 → IsNode e (leaf tree at)
leaf_good e tree at t d = record { tree = t; depth = sym d.depth; nodes = sym d.nodes }

-- a token that is an expression by itself
pub literal_read : (e : Expr) (k : TokenKind) (tree : Expr) → tree ≡ e → Measured e 1 1 → kind_begins (Some k) ≡ true
    → ((inner : Level → Reader Node) (room : ℕ) (f : Front) → operand_kind inner room f (Some k) ≡ Ok (leaf tree (place f), behind f)) → expr_kinds e ≡ k ∷ [] → IsRead e
literal_read e k tree t d b is ks = record {
  starts = record { first = k; others = []; are = ks; begin = b };
  shallow = omega (arith, d.depth);
  operand = λ room n f rest h w. let hs : kinds_at f ≡ k ∷ rest = h ∙ ap (λ l. l ++ rest) ks in
      took_by (operand_is (expr_to room) room f (k ∷ rest) hs ∙ is (expr_to room) room f) (took (leaf tree (place f)) (behind f) (behind_is f k rest hs) (leaf_good e tree (place f) t d));
}

named_var : (inner : Level → Reader Node) (room : ℕ) (n : Name) (f : Front) (rest : Kinds) (e : Expr) → x.Var n ≡ e → Measured e 1 1 → kinds_at f ≡ kind.Word n ∷ rest
    → is_symbol_kind symbols.ParenOpen (first_kind rest) ≡ false → Took (name_operand inner room f) rest (IsNode e)
unfolding name_operand
named_var inner room n f rest e t d h w =
    then_took _ (take_name n f rest h) (λ m g k q. rw (symbol_is symbols.ParenOpen g rest k ∙ w) (took (leaf (x.Var m) (place f)) g k (leaf_good e (x.Var m) (place f) (ap x.Var q ∙ t) d)))

-- a variable
pub var_read : (e : Expr) (n : Name) → x.Var n ≡ e → Measured e 1 1 → expr_kinds e ≡ kind.Word n ∷ [] → IsRead e
var_read e n t d ks = record {
  starts = record { first = kind.Word n; others = []; are = ks; begin = refl };
  shallow = omega (arith, d.depth);
  operand = λ room k f rest h w. var_took room f rest (h ∙ ap (λ l. l ++ rest) ks) w;
}
  where
    var_took : (room : ℕ) (f : Front) (rest : Kinds) → kinds_at f ≡ kind.Word n ∷ rest → is_symbol_kind symbols.ParenOpen (first_kind rest) ≡ false → Took (operand (expr_to room) room f) rest (IsNode e)
    var_took room f rest h w = took_by (operand_is (expr_to room) room f (kind.Word n ∷ rest) h) (named_var (expr_to room) room n f rest e t d h w)

-- ---- several expressions

abbrev pub AllNodes : List Expr → List Node → Type 0
AllNodes [] [] = Unit {0}
AllNodes (e ∷ es) (n ∷ ns) = IsNode e n × AllNodes es ns
AllNodes _ _ = ⊥

trees_are : (es : List Expr) (ns : List Node) → AllNodes es ns → trees ns ≡ es
trees_are [] [] g = refl
trees_are (e ∷ es) (n ∷ ns) g = (λ i. g.0.tree i ∷ trees_are es ns g.1 i)
trees_are [] (n ∷ ns) g = absurd g
trees_are (e ∷ es) [] g = absurd g

depths_are : (es : List Expr) (ns : List Node) (acc : ℕ) → AllNodes es ns → fold (λ m n. max m n.depth) acc ns ≡ fold (λ m e. max m (expr_depth e)) acc es
depths_are [] [] acc g = refl
depths_are (e ∷ es) (n ∷ ns) acc g = ap (λ d. fold (λ m n. max m n.depth) (max acc d) ns) g.0.depth ∙ depths_are es ns (max acc (expr_depth e)) g.1
depths_are [] (n ∷ ns) acc g = absurd g
depths_are (e ∷ es) [] acc g = absurd g

places_are : (es : List Expr) (ns : List Node) → AllNodes es ns → length (flat_map all_at ns) ≡ sum_by expr_nodes es
places_are [] [] g = refl
places_are (e ∷ es) (n ∷ ns) g = let z = places_are es ns g.1 in let s = sum_by-cons expr_nodes e es in let b = g.0.nodes in simp length-append (omega (arith, z, s, b))
places_are [] (n ∷ ns) g = absurd g
places_are (e ∷ es) [] g = absurd g

-- what may follow an expression
abbrev pub FollowsExpr : Kinds → Type 0
FollowsExpr ks = Ends (first_kind ks)

-- each of these expressions is read, and none is deeper than that
abbrev pub AreRead : ℕ → List Expr → Type 0
AreRead most [] = Unit {0}
AreRead most (e ∷ es) = IsRead e × (expr_depth e ≤ most) × AreRead most es

all_read : (room most : ℕ) → 2 * most + 8 ≤ room → (limit : Limit) (es : List Expr) → AreRead most es
    → AllRead (expr_to room levels.Whole) begins_expr symbols.Comma limit wanted.AnExpr expr_kinds IsNode FollowsExpr es
all_read room most n limit [] h = tt
all_read room most n limit (e ∷ es) h = (λ f rest k w. level_took e h.0 room (omega (arith, n, h.1)) levels.Whole f rest k w, all_read room most n limit es h.2)

tail_ends : (es : List Expr) (rest : Kinds) → FollowsExpr (listed_pieces (mark symbols.Comma) (mark symbols.Comma) expr_kinds es ++ (kind.Symbol symbols.ParenClose ∷ rest))
tail_ends [] rest = ends_paren
tail_ends (e ∷ es) rest = ends_comma

to_nodes : (one : Reader Node) (begins : Front → Bool) (limit : Limit) (es : List Expr) (ns : List Node) → AllGood one begins symbols.Comma limit wanted.AnExpr expr_kinds IsNode FollowsExpr es ns → AllNodes es ns
to_nodes one begins limit [] [] g = tt
to_nodes one begins limit (e ∷ es) (n ∷ ns) g = (g.0, to_nodes one begins limit es ns g.1)
to_nodes one begins limit [] (n ∷ ns) g = absurd g
to_nodes one begins limit (e ∷ es) [] g = absurd g

-- further expressions behind commas, up to the closing bracket
further_took : (room most : ℕ) → 2 * most + 8 ≤ room → (limit : Limit) (left : ℕ) (es : List Expr) → AreRead most es → length es ≤ left → (e : Expr) (n : Node) → IsNode e n → (f : Front) (rest : Kinds)
    → kinds_at f ≡ listed_pieces (mark symbols.Comma) (mark symbols.Comma) expr_kinds es ++ (kind.Symbol symbols.ParenClose ∷ rest)
    → Took (more (expr_to room levels.Whole) begins_expr symbols.Comma limit wanted.AnExpr left (n ∷ []) f) (kind.Symbol symbols.ParenClose ∷ rest) (AllNodes (e ∷ es))
further_took room most m limit left es r l e n g f rest h =
    weaker (more_took (expr_to room levels.Whole) begins_expr symbols.Comma limit wanted.AnExpr expr_kinds IsNode FollowsExpr (kind.Symbol symbols.ParenClose ∷ rest) refl (λ s. ends_comma) ends_paren
    es (all_read room most m limit es r) left l (n ∷ []) f h)
    (λ all q. subst (AllNodes (e ∷ es)) (sym q.1) (g, to_nodes (expr_to room levels.Whole) begins_expr limit es q.0 q.2))

-- arguments behind their bracket
args_took : (room most : ℕ) → 2 * most + 8 ≤ room → (es : List Expr) → AreRead most es → length es ≤ 8 → (f : Front) (rest : Kinds)
    → kinds_at f ≡ listed_pieces (mark symbols.Comma) [] expr_kinds es ++ (kind.Symbol symbols.ParenClose ∷ rest) → Took (arguments_behind (expr_to room) room f) rest (AllNodes es)
unfolding arguments_behind items_from
args_took room most m [] r l f rest h = rw (symbol_is symbols.ParenClose f (kind.Symbol symbols.ParenClose ∷ rest) h) (took [] (behind f) (behind_is f (kind.Symbol symbols.ParenClose) rest h) tt)
args_took room most m (e ∷ es) r l f rest h =
    let tail : Kinds = listed_pieces (mark symbols.Comma) (mark symbols.Comma) expr_kinds es ++ (kind.Symbol symbols.ParenClose ∷ rest) in
    let hs : kinds_at f ≡ expr_kinds e ++ tail = h ∙ append_assoc (expr_kinds e) (listed_pieces (mark symbols.Comma) (mark symbols.Comma) expr_kinds es) (kind.Symbol symbols.ParenClose ∷ rest) in
    let s : Starts (expr_kinds e) = r.0.starts in
    let c = symbol_is symbols.ParenClose f (s.first ∷ (s.others ++ tail)) (hs ∙ ap (λ l. l ++ tail) s.are) ∙ no_close s.first s.begin in
    rw c (rw (begins_starts f (expr_kinds e) tail hs s)
    (then_took _ (level_took e r.0 room (omega (arith, m, r.1)) levels.Whole f tail hs (tail_ends es rest)) (λ n g h1 q1.
    then_took _ (further_took room most m limits.Arguments 7 es r.2 (omega (arith, l)) e n q1 g rest h1) (λ ns g2 h2 q2.
    then_took _ (take_symbol symbols.ParenClose g2 rest h2) (λ u g3 h3 q3. took ns g3 h3 q2)))))

pub take_need_open : (room : ℕ) (f : Front) (ks : Kinds) → 0 < room → kinds_at f ≡ kind.Symbol symbols.ParenOpen ∷ ks → Took (need_open room f) ks (λ _. Unit {0})
unfolding need_open
take_need_open room f ks n h = rw (symbol_is symbols.ParenOpen f (kind.Symbol symbols.ParenOpen ∷ ks) h)
    (then_took _ (take_open room f (kind.Symbol symbols.ParenOpen ∷ ks) n h) (λ u g h1 q1. took tt (behind f) (behind_is f (kind.Symbol symbols.ParenOpen) ks h) tt))

bracketed_args : (room most : ℕ) → 2 * most + 8 ≤ room → (es : List Expr) → AreRead most es → length es ≤ 8 → (f : Front) (rest : Kinds)
    → kinds_at f ≡ kind.Symbol symbols.ParenOpen ∷ (listed_pieces (mark symbols.Comma) [] expr_kinds es ++ (kind.Symbol symbols.ParenClose ∷ rest)) → Took (arguments (expr_to room) room f) rest (AllNodes es)
unfolding arguments
bracketed_args room most m es r l f rest h =
    then_took _ (take_need_open room f (listed_pieces (mark symbols.Comma) [] expr_kinds es ++ (kind.Symbol symbols.ParenClose ∷ rest)) (omega (arith, m)) h) (λ u g h1 q1. args_took room most m es r l g rest h1)

-- a node over a list of others
over_good : (e tree : Expr) (at : ℕ) (es : List Expr) (ns : List Node) → tree ≡ e → Measured e (1 + largest_by expr_depth es) (1 + sum_by expr_nodes es) → expr_depth e ≤ 64 → AllNodes es ns → IsNode e (over_list tree at ns)
over_good e tree at es ns t d most g = let z = depths_are es ns 0 g in let y = places_are es ns g in is_over e tree at (below_all ns) t (omega (arith, z, d.depth)) most (omega (arith, y, d.nodes))

named_call : (room most : ℕ) → 2 * most + 9 ≤ room → (name : Name) (es : List Expr) → AreRead most es → length es ≤ 8 → (f : Front) (rest : Kinds) (e : Expr) → x.Call name es ≡ e
    → Measured e (1 + largest_by expr_depth es) (1 + sum_by expr_nodes es) → expr_depth e ≤ 64
    → kinds_at f ≡ kind.Word name ∷ kind.Symbol symbols.ParenOpen ∷ (listed_pieces (mark symbols.Comma) [] expr_kinds es ++ (kind.Symbol symbols.ParenClose ∷ rest)) → Took (name_operand (expr_to room) room f) rest (IsNode e)
unfolding name_operand call
named_call room most m name es r l f rest e t d shallow h =
    let args : Kinds = kind.Symbol symbols.ParenOpen ∷ (listed_pieces (mark symbols.Comma) [] expr_kinds es ++ (kind.Symbol symbols.ParenClose ∷ rest)) in
    then_took _ (take_name name f args h) (λ v g h1 q1. rw (symbol_is symbols.ParenOpen g args h1)
    (then_took _ (bracketed_args room most (omega (arith, m)) es r l g rest h1) (λ ns g2 h2 q2.
    took _ g2 h2 (over_good e (x.Call v (trees ns)) (place f) es ns (ap (λ z. x.Call z (trees ns)) q1 ∙ (ap (x.Call name) (trees_are es ns q2) ∙ t)) d shallow q2))))

chunk_took : (room most : ℕ) → 2 * most + 9 ≤ room → (name : Name) (es : List Expr) → AreRead most es → length es ≤ 8 → (f : Front) (rest : Kinds) (e : Expr) → x.ChunkOf name es ≡ e
    → Measured e (1 + largest_by expr_depth es) (1 + sum_by expr_nodes es) → expr_depth e ≤ 64
    → kinds_at f ≡ kind.Symbol symbols.Bar ∷ kind.Word name ∷ kind.Symbol symbols.Bar ∷ kind.Symbol symbols.ParenOpen ∷ (listed_pieces (mark symbols.Comma) [] expr_kinds es ++ (kind.Symbol symbols.ParenClose ∷ rest))
    → Took (symbol_form (expr_to room) room symbols.Bar f) rest (IsNode e)
unfolding symbol_form chunk
chunk_took room most m name es r l f rest e t d shallow h =
    let args : Kinds = kind.Symbol symbols.ParenOpen ∷ (listed_pieces (mark symbols.Comma) [] expr_kinds es ++ (kind.Symbol symbols.ParenClose ∷ rest)) in
    then_took _ (take_name name (behind f) (kind.Symbol symbols.Bar ∷ args) (behind_is f (kind.Symbol symbols.Bar) _ h)) (λ v g h1 q1.
    then_took _ (take_symbol symbols.Bar g args h1) (λ u g2 h2 q2.
    then_took _ (bracketed_args room most (omega (arith, m)) es r l g2 rest h2) (λ ns g3 h3 q3.
    took _ g3 h3 (over_good e (x.ChunkOf v (trees ns)) (place f) es ns (ap (λ z. x.ChunkOf z (trees ns)) q1 ∙ (ap (x.ChunkOf name) (trees_are es ns q3) ∙ t)) d shallow q3))))

tuple_took : (room most : ℕ) → 2 * most + 9 ≤ room → (a b : Expr) (es : List Expr) → AreRead most (a ∷ b ∷ es) → length es ≤ 6 → (f : Front) (rest : Kinds) (e : Expr) → x.Tuple (a ∷ b ∷ es) ≡ e
    → Measured e (1 + largest_by expr_depth (a ∷ b ∷ es)) (1 + sum_by expr_nodes (a ∷ b ∷ es)) → expr_depth e ≤ 64
    → kinds_at f ≡ kind.Symbol symbols.ParenOpen ∷ (expr_kinds a ++ (listed_pieces (mark symbols.Comma) (mark symbols.Comma) expr_kinds (b ∷ es) ++ (kind.Symbol symbols.ParenClose ∷ rest)))
    → Took (symbol_form (expr_to room) room symbols.ParenOpen f) rest (IsNode e)
unfolding symbol_form parens parens_behind grouped_expression tuple
tuple_took room most m a b es r l f rest e t d shallow h =
    let tail : Kinds = listed_pieces (mark symbols.Comma) (mark symbols.Comma) expr_kinds (b ∷ es) ++ (kind.Symbol symbols.ParenClose ∷ rest) in
    let hs : kinds_at (behind f) ≡ expr_kinds a ++ tail = behind_is f (kind.Symbol symbols.ParenOpen) (expr_kinds a ++ tail) h in
    let s : Starts (expr_kinds a) = r.0.starts in
    let c = symbol_is symbols.ParenClose (behind f) (s.first ∷ (s.others ++ tail)) (hs ∙ ap (λ l. l ++ tail) s.are) ∙ no_close s.first s.begin in
    then_took _ (take_open room f (kind.Symbol symbols.ParenOpen ∷ (expr_kinds a ++ tail)) (omega (arith, m)) h) (λ u0 g0 h0 q0.
    rw c (rw (begins_starts (behind f) (expr_kinds a) tail hs s)
    (then_took _ (level_took a r.0 room (omega (arith, m, r.1)) levels.Whole (behind f) tail hs ends_comma) (λ n g h1 q1.
    rw (symbol_is symbols.Comma g tail h1)
    (then_took _ (further_took room most (omega (arith, m)) limits.Parts 7 (b ∷ es) r.2 (omega (arith, l)) a n q1 g rest h1) (λ ns g2 h2 q2.
    then_took _ (take_symbol symbols.ParenClose g2 rest h2) (λ u3 g3 h3 q3.
    took _ g3 h3 (over_good e (x.Tuple (trees ns)) (place f) (a ∷ b ∷ es) ns (ap x.Tuple (trees_are (a ∷ b ∷ es) ns q2) ∙ t) d shallow q2))))))))

-- a call
pub call_read : (e : Expr) (name : Name) (es : List Expr) → x.Call name es ≡ e → Measured e (1 + largest_by expr_depth es) (1 + sum_by expr_nodes es) → expr_depth e ≤ 64 → AreRead (largest_by expr_depth es) es → length es ≤ 8
    → expr_kinds e ≡ kind.Word name ∷ kind.Symbol symbols.ParenOpen ∷ (listed_pieces (mark symbols.Comma) [] expr_kinds es ++ (kind.Symbol symbols.ParenClose ∷ [])) → IsRead e
call_read e name es t d most r l ks = record {
  starts = record { first = kind.Word name; others = _; are = ks; begin = refl };
  shallow = most;
  operand = λ room n f rest h w. call_took room n f rest (h ∙ (ap (λ l. l ++ rest) ks ∙ behind_one _ (behind_one _ (nest (listed_pieces (mark symbols.Comma) [] expr_kinds es) _ rest refl))));
}
  where
    call_took : (room : ℕ) → 2 * expr_depth e + 7 ≤ room → (f : Front) (rest : Kinds)
        → kinds_at f ≡ kind.Word name ∷ kind.Symbol symbols.ParenOpen ∷ (listed_pieces (mark symbols.Comma) [] expr_kinds es ++ (kind.Symbol symbols.ParenClose ∷ rest)) → Took (operand (expr_to room) room f) rest (IsNode e)
    call_took room n f rest h = took_by (operand_is (expr_to room) room f _ h) (named_call room (largest_by expr_depth es) (omega (arith, n, d.depth)) name es r l f rest e t d most h)

-- a chunk of the program
pub chunk_read : (e : Expr) (name : Name) (es : List Expr) → x.ChunkOf name es ≡ e → Measured e (1 + largest_by expr_depth es) (1 + sum_by expr_nodes es) → expr_depth e ≤ 64 → AreRead (largest_by expr_depth es) es → length es ≤ 8
    → expr_kinds e ≡ kind.Symbol symbols.Bar ∷ kind.Word name ∷ kind.Symbol symbols.Bar ∷ kind.Symbol symbols.ParenOpen ∷ (listed_pieces (mark symbols.Comma) [] expr_kinds es ++ (kind.Symbol symbols.ParenClose ∷ [])) → IsRead e
chunk_read e name es t d most r l ks = record {
  starts = record { first = kind.Symbol symbols.Bar; others = _; are = ks; begin = refl };
  shallow = most;
  operand = λ room n f rest h w. chunk_operand room n f rest (h ∙ (ap (λ l. l ++ rest) ks ∙ behind_one _ (behind_one _ (behind_one _ (behind_one _ (nest (listed_pieces (mark symbols.Comma) [] expr_kinds es) _ rest refl))))));
}
  where
    chunk_operand : (room : ℕ) → 2 * expr_depth e + 7 ≤ room → (f : Front) (rest : Kinds)
        → kinds_at f ≡ kind.Symbol symbols.Bar ∷ kind.Word name ∷ kind.Symbol symbols.Bar ∷ kind.Symbol symbols.ParenOpen ∷ (listed_pieces (mark symbols.Comma) [] expr_kinds es ++ (kind.Symbol symbols.ParenClose ∷ rest))
        → Took (operand (expr_to room) room f) rest (IsNode e)
    chunk_operand room n f rest h = took_by (operand_is (expr_to room) room f _ h) (chunk_took room (largest_by expr_depth es) (omega (arith, n, d.depth)) name es r l f rest e t d most h)

-- a tuple
pub tuple_read : (e a b : Expr) (es : List Expr) → x.Tuple (a ∷ b ∷ es) ≡ e → Measured e (1 + largest_by expr_depth (a ∷ b ∷ es)) (1 + sum_by expr_nodes (a ∷ b ∷ es)) → expr_depth e ≤ 64
    → AreRead (largest_by expr_depth (a ∷ b ∷ es)) (a ∷ b ∷ es) → length es ≤ 6
    → expr_kinds e ≡ kind.Symbol symbols.ParenOpen ∷ (expr_kinds a ++ (listed_pieces (mark symbols.Comma) (mark symbols.Comma) expr_kinds (b ∷ es) ++ (kind.Symbol symbols.ParenClose ∷ []))) → IsRead e
tuple_read e a b es t d most r l ks = record {
  starts = starts_by (expr_kinds e) _ ks (paren_starts _);
  shallow = most;
  operand = λ room n f rest h w. tuple_operand room n f rest (h ∙ (ap (λ l. l ++ rest) ks ∙ behind_one _ (nest (expr_kinds a) _ rest (nest (listed_pieces (mark symbols.Comma) (mark symbols.Comma) expr_kinds (b ∷ es)) _ rest refl))));
}
  where
    tuple_operand : (room : ℕ) → 2 * expr_depth e + 7 ≤ room → (f : Front) (rest : Kinds)
        → kinds_at f ≡ kind.Symbol symbols.ParenOpen ∷ (expr_kinds a ++ (listed_pieces (mark symbols.Comma) (mark symbols.Comma) expr_kinds (b ∷ es) ++ (kind.Symbol symbols.ParenClose ∷ rest)))
        → Took (operand (expr_to room) room f) rest (IsNode e)
    tuple_operand room n f rest h = took_by (operand_is (expr_to room) room f _ h) (tuple_took room (largest_by expr_depth (a ∷ b ∷ es)) (omega (arith, n, d.depth)) a b es r l f rest e t d most h)
