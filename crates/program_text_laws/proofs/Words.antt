-- The forms that a reserved word or a square bracket begins.
use Rattle.std.proofs.Common.{◌≡◌, ℕ, zero, suc, ◌+◌, ◌*◌, ◌≤◌, max, true, false, List, [], ◌∷◌, ◌++◌, length, Some, None, Ok, refl, sym, ap, ◌∙◌, subst, arith, length-append}
use Rattle.plan_base.specs.declared.name.Name.{Name}
use Rattle.plan_base.specs.declared.tree.Ty.{Ty}
use Rattle.plan_base.specs.declared.tree.Expr.{Expr}
use Rattle.plan_base.specs.declared.tree.Expr.TheVariants as x
use Rattle.plan_base.specs.Sizes.{type_depth, expr_depth, expr_nodes}
use Rattle.plan_lexer.specs.declared.token.Key.{Key}
use Rattle.plan_lexer.specs.declared.token.Key.TheVariants as keys
use Rattle.plan_lexer.specs.declared.token.Symbol.TheVariants as symbols
use Rattle.plan_lexer.specs.declared.token.TokenKind.{TokenKind}
use Rattle.plan_lexer.specs.declared.token.TokenKind.TheVariants as kind
use Rattle.plan_parser_exprs.specs.declared.level.Level.TheVariants as levels
use Rattle.plan_parser_exprs.specs.declared.node.Bound.{Bound}
use Rattle.plan_parser_exprs.specs.declared.node.FoldParts.{FoldParts}
use Rattle.plan_parser_exprs.specs.declared.node.SendParts.{SendParts}
use Rattle.plan_parser_exprs.specs.Ahead.{Front, behind, place, is_key}
use Rattle.plan_parser_exprs.specs.Begins.{kind_begins}
use Rattle.plan_parser_exprs.specs.Nodes.{below_of, both, let_of}
use Rattle.plan_parser_exprs.specs.Exprs.{typed_nil, brackets_behind, brackets, binding, bindings_from, let_form, raise_typed, raise_plain, raise_form, before_comma, before_close, fold_parts}
use Rattle.plan_parser_exprs.specs.Exprs.{foldl_form, foldr_form, eval_form, send_parts, remote_form, neighbor_form, key_form, symbol_form, operand_kind, expr_to}
use Rattle.program_text_laws.specs.PrintedTokens.{Kinds, type_kinds, expr_kinds}
use Rattle.program_text_laws.specs.Proper.{IsProperType}
use Rattle.program_text_laws.specs.Reads.{kinds_at, Took, IsNode, Ends}
use Rattle.program_text_laws.proofs.Steps.{took, then_took, took_by, behind_is, symbol_is, key_is, take_symbol, take_key, take_name, take_open}
use Rattle.program_text_laws.proofs.TypesRead.{type_takes}
use Rattle.program_text_laws.proofs.Forms.{is_over, Measured, IsRead, nest, behind_one, level_took, ends_paren, operand_is}
use Rattle.program_text_laws.proofs.Applied.{ends_comma, take_need_open, leaf_good}

pub ends_in : Ends (Some (kind.Key keys.In))
ends_in = record { product = refl; sum = refl; cons = refl; comparison = refl; both = refl; either = refl; next = refl; call = refl }

pub ends_end : Ends (Some (kind.Key keys.End))
ends_end = record { product = refl; sum = refl; cons = refl; comparison = refl; both = refl; either = refl; next = refl; call = refl }

pub ends_handle : Ends (Some (kind.Key keys.Handle))
ends_handle = record { product = refl; sum = refl; cons = refl; comparison = refl; both = refl; either = refl; next = refl; call = refl }

-- an expression that a token begins and whose operand is read so
pub by_operand : (e : Expr) (k : TokenKind) (ks : Kinds) → kind_begins (Some k) ≡ true → expr_depth e ≤ 64 → expr_kinds e ≡ k ∷ ks
    → ((room : ℕ) → 2 * expr_depth e + 7 ≤ room → (f : Front) (rest : Kinds) → kinds_at f ≡ k ∷ (ks ++ rest) → Took (operand_kind (expr_to room) room f (Some k)) rest (IsNode e)) → IsRead e
by_operand e k ks b most are r = record {
  starts = record { first = k; others = ks; are = are; begin = b };
  shallow = most;
  operand = λ room n f rest h w. let hs : kinds_at f ≡ k ∷ (ks ++ rest) = h ∙ ap (λ l. l ++ rest) are in took_by (operand_is (expr_to room) room f (k ∷ (ks ++ rest)) hs) (r room n f rest hs);
}

-- ---- what stands before a comma or a closing bracket

comma_took : (room : ℕ) (e : Expr) → IsRead e → 2 * expr_depth e + 8 ≤ room → (f : Front) (rest : Kinds) → kinds_at f ≡ expr_kinds e ++ (kind.Symbol symbols.Comma ∷ rest) → Took (before_comma (expr_to room) room f) rest (IsNode e)
unfolding before_comma
comma_took room e r n f rest h =
    then_took _ (level_took e r room n levels.Whole f (kind.Symbol symbols.Comma ∷ rest) h ends_comma) (λ a g h1 q1. then_took _ (take_symbol symbols.Comma g rest h1) (λ u g2 h2 q2. took a g2 h2 q1))

close_took : (room : ℕ) (e : Expr) → IsRead e → 2 * expr_depth e + 8 ≤ room → (f : Front) (rest : Kinds) → kinds_at f ≡ expr_kinds e ++ (kind.Symbol symbols.ParenClose ∷ rest) → Took (before_close (expr_to room) room f) rest (IsNode e)
unfolding before_close
close_took room e r n f rest h =
    then_took _ (level_took e r room n levels.Whole f (kind.Symbol symbols.ParenClose ∷ rest) h ends_paren) (λ a g h1 q1. then_took _ (take_symbol symbols.ParenClose g rest h1) (λ u g2 h2 q2. took a g2 h2 q1))

-- ---- eval

eval_took : (room : ℕ) (e c : Expr) → x.Eval c ≡ e → Measured e (1 + expr_depth c) (1 + expr_nodes c) → expr_depth e ≤ 64 → IsRead c → 2 * expr_depth e + 7 ≤ room → (f : Front) (rest : Kinds)
    → kinds_at f ≡ kind.Key keys.Eval ∷ kind.Symbol symbols.ParenOpen ∷ (expr_kinds c ++ (kind.Symbol symbols.ParenClose ∷ rest)) → Took (key_form (expr_to room) room keys.Eval f) rest (IsNode e)
unfolding key_form eval_form
eval_took room e c t d most r n f rest h =
    then_took _ (take_need_open room (behind f) _ (omega (arith, n)) (behind_is f (kind.Key keys.Eval) _ h)) (λ u g h1 q1.
    then_took _ (close_took room c r (omega (arith, n, d.depth)) g rest h1) (λ a g2 h2 q2.
    took _ g2 h2 (is_over e (x.Eval a.tree) (place f) (below_of a) (ap x.Eval q2.tree ∙ t) (omega (arith, q2.depth, d.depth)) most (omega (arith, q2.nodes, d.nodes)))))

pub eval_read : (e c : Expr) → x.Eval c ≡ e → Measured e (1 + expr_depth c) (1 + expr_nodes c) → expr_depth e ≤ 64 → IsRead c
    → expr_kinds e ≡ kind.Key keys.Eval ∷ kind.Symbol symbols.ParenOpen ∷ (expr_kinds c ++ (kind.Symbol symbols.ParenClose ∷ [])) → IsRead e
eval_read e c t d most r ks = by_operand e _ _ refl most ks (λ room n f rest h. eval_took room e c t d most r n f rest (h ∙ behind_one _ (behind_one _ (nest (expr_kinds c) _ rest refl))))

-- ---- folds

record IsFold (f : Name) (a l : Expr) (p : FoldParts) : Type 0 where
  name : p.name ≡ f
  start : IsNode a p.start
  list : IsNode l p.list

fold_took : (room : ℕ) (k : Key) (name : Name) (a l : Expr) → IsRead a → IsRead l → 2 * expr_depth a + 8 ≤ room → 2 * expr_depth l + 8 ≤ room → (f : Front) (rest : Kinds)
    → kinds_at f ≡ kind.Key k ∷ kind.Symbol symbols.ParenOpen ∷ kind.Word name ∷ kind.Symbol symbols.Comma ∷ (expr_kinds a ++ (kind.Symbol symbols.Comma ∷ (expr_kinds l ++ (kind.Symbol symbols.ParenClose ∷ rest))))
    → Took (fold_parts (expr_to room) room f) rest (IsFold name a l)
unfolding fold_parts
fold_took room k name a l ra rl n m f rest h =
    then_took _ (take_need_open room (behind f) _ (omega (arith, n)) (behind_is f (kind.Key k) _ h)) (λ u1 g1 h1 q1.
    then_took _ (take_name name g1 _ h1) (λ v g2 h2 q2.
    then_took _ (take_symbol symbols.Comma g2 _ h2) (λ u3 g3 h3 q3.
    then_took _ (comma_took room a ra n g3 _ h3) (λ na g4 h4 q4.
    then_took _ (close_took room l rl m g4 rest h4) (λ nl g5 h5 q5.
    took _ g5 h5 (record { name = q2; start = q4; list = q5 }))))))

foldl_took : (room : ℕ) (e : Expr) (name : Name) (a l : Expr) (f : Front) (rest : Kinds) → x.Foldl name a l ≡ e → Measured e (1 + max (expr_depth a) (expr_depth l)) (1 + expr_nodes a + expr_nodes l) → expr_depth e ≤ 64
    → Took (fold_parts (expr_to room) room f) rest (IsFold name a l) → Took (key_form (expr_to room) room keys.Foldl f) rest (IsNode e)
unfolding key_form foldl_form
foldl_took room e name a l f rest t d most p =
    then_took _ p (λ v g h q. took _ g h (is_over e (x.Foldl v.name v.start.tree v.list.tree) (place f) (both (below_of v.start) (below_of v.list))
    (ap (λ z. x.Foldl z v.start.tree v.list.tree) q.name ∙ (ap (λ z. x.Foldl name z v.list.tree) q.start.tree ∙ (ap (λ z. x.Foldl name a z) q.list.tree ∙ t)))
    (omega (arith, q.start.depth, q.list.depth, d.depth)) most (simp length-append (omega (arith, q.start.nodes, q.list.nodes, d.nodes)))))

pub foldl_read : (e : Expr) (name : Name) (a l : Expr) → x.Foldl name a l ≡ e → Measured e (1 + max (expr_depth a) (expr_depth l)) (1 + expr_nodes a + expr_nodes l) → expr_depth e ≤ 64 → IsRead a → IsRead l
    → expr_kinds e ≡ kind.Key keys.Foldl ∷ kind.Symbol symbols.ParenOpen ∷ kind.Word name ∷ kind.Symbol symbols.Comma ∷ (expr_kinds a ++ (kind.Symbol symbols.Comma ∷ (expr_kinds l ++ (kind.Symbol symbols.ParenClose ∷ []))))
    → IsRead e
foldl_read e name a l t d most ra rl ks = by_operand e _ _ refl most ks (λ room n f rest h. foldl_took room e name a l f rest t d most
    (fold_took room keys.Foldl name a l ra rl (omega (arith, n, d.depth)) (omega (arith, n, d.depth)) f rest
    (h ∙ behind_one _ (behind_one _ (behind_one _ (behind_one _ (nest (expr_kinds a) _ rest (behind_one _ (nest (expr_kinds l) _ rest refl)))))))))

foldr_took : (room : ℕ) (e : Expr) (name : Name) (a l : Expr) (f : Front) (rest : Kinds) → x.Foldr name a l ≡ e → Measured e (1 + max (expr_depth a) (expr_depth l)) (1 + expr_nodes a + expr_nodes l) → expr_depth e ≤ 64
    → Took (fold_parts (expr_to room) room f) rest (IsFold name a l) → Took (key_form (expr_to room) room keys.Foldr f) rest (IsNode e)
unfolding key_form foldr_form
foldr_took room e name a l f rest t d most p =
    then_took _ p (λ v g h q. took _ g h (is_over e (x.Foldr v.name v.start.tree v.list.tree) (place f) (both (below_of v.start) (below_of v.list))
    (ap (λ z. x.Foldr z v.start.tree v.list.tree) q.name ∙ (ap (λ z. x.Foldr name z v.list.tree) q.start.tree ∙ (ap (λ z. x.Foldr name a z) q.list.tree ∙ t)))
    (omega (arith, q.start.depth, q.list.depth, d.depth)) most (simp length-append (omega (arith, q.start.nodes, q.list.nodes, d.nodes)))))

pub foldr_read : (e : Expr) (name : Name) (a l : Expr) → x.Foldr name a l ≡ e → Measured e (1 + max (expr_depth a) (expr_depth l)) (1 + expr_nodes a + expr_nodes l) → expr_depth e ≤ 64 → IsRead a → IsRead l
    → expr_kinds e ≡ kind.Key keys.Foldr ∷ kind.Symbol symbols.ParenOpen ∷ kind.Word name ∷ kind.Symbol symbols.Comma ∷ (expr_kinds a ++ (kind.Symbol symbols.Comma ∷ (expr_kinds l ++ (kind.Symbol symbols.ParenClose ∷ []))))
    → IsRead e
foldr_read e name a l t d most ra rl ks = by_operand e _ _ refl most ks (λ room n f rest h. foldr_took room e name a l f rest t d most
    (fold_took room keys.Foldr name a l ra rl (omega (arith, n, d.depth)) (omega (arith, n, d.depth)) f rest
    (h ∙ behind_one _ (behind_one _ (behind_one _ (behind_one _ (nest (expr_kinds a) _ rest (behind_one _ (nest (expr_kinds l) _ rest refl)))))))))

-- ---- sending

record IsSend (c h n : Expr) (p : SendParts) : Type 0 where
  chunk : IsNode c p.chunk
  host : IsNode h p.host
  bound : IsNode n p.bound

send_took : (room : ℕ) (k : Key) (c h n : Expr) → IsRead c → IsRead h → IsRead n → 2 * expr_depth c + 8 ≤ room → 2 * expr_depth h + 8 ≤ room → 2 * expr_depth n + 8 ≤ room → (f : Front) (rest : Kinds)
    → kinds_at f ≡ kind.Key k ∷ kind.Symbol symbols.ParenOpen ∷ (expr_kinds c ++ (kind.Symbol symbols.Comma ∷ (expr_kinds h ++ (kind.Symbol symbols.Comma ∷ (expr_kinds n ++ (kind.Symbol symbols.Comma ∷ rest))))))
    → Took (send_parts (expr_to room) room f) rest (IsSend c h n)
unfolding send_parts
send_took room k c h n rc rh rn lc lh ln f rest at =
    then_took _ (take_need_open room (behind f) _ (omega (arith, lc)) (behind_is f (kind.Key k) _ at)) (λ u1 g1 h1 q1.
    then_took _ (comma_took room c rc lc g1 _ h1) (λ nc g2 h2 q2.
    then_took _ (comma_took room h rh lh g2 _ h2) (λ nh g3 h3 q3.
    then_took _ (comma_took room n rn ln g3 rest h3) (λ nn g4 h4 q4.
    took _ g4 h4 (record { chunk = q2; host = q3; bound = q4 })))))

remote_took : (room : ℕ) (e c h n : Expr) (r : Name) (f : Front) (rest : Kinds) → x.OnRemote c h n r ≡ e
    → Measured e (1 + max (expr_depth c) (max (expr_depth h) (expr_depth n))) (1 + expr_nodes c + expr_nodes h + expr_nodes n) → expr_depth e ≤ 64
    → Took (send_parts (expr_to room) room f) (kind.Word r ∷ kind.Symbol symbols.ParenClose ∷ rest) (IsSend c h n) → Took (key_form (expr_to room) room keys.OnRemote f) rest (IsNode e)
unfolding key_form remote_form
remote_took room e c h n r f rest t d most p =
    then_took _ p (λ v g k q. then_took _ (take_name r g (kind.Symbol symbols.ParenClose ∷ rest) k) (λ w g2 k2 q2. then_took _ (take_symbol symbols.ParenClose g2 rest k2) (λ u g3 k3 q3.
    took _ g3 k3 (is_over e (x.OnRemote v.chunk.tree v.host.tree v.bound.tree w) (place f) (both (below_of v.chunk) (both (below_of v.host) (below_of v.bound)))
    (ap (λ z. x.OnRemote z v.host.tree v.bound.tree w) q.chunk.tree ∙ (ap (λ z. x.OnRemote c z v.bound.tree w) q.host.tree ∙ (ap (λ z. x.OnRemote c h z w) q.bound.tree ∙ (ap (λ z. x.OnRemote c h n z) q2 ∙ t))))
    (omega (arith, q.chunk.depth, q.host.depth, q.bound.depth, d.depth)) most (simp length-append (omega (arith, q.chunk.nodes, q.host.nodes, q.bound.nodes, d.nodes)))))))

pub remote_read : (e c h n : Expr) (r : Name) → x.OnRemote c h n r ≡ e → Measured e (1 + max (expr_depth c) (max (expr_depth h) (expr_depth n))) (1 + expr_nodes c + expr_nodes h + expr_nodes n)
    → expr_depth e ≤ 64 → IsRead c → IsRead h → IsRead n
    → expr_kinds e
    ≡ kind.Key keys.OnRemote ∷ kind.Symbol symbols.ParenOpen ∷
    (expr_kinds c ++
    (kind.Symbol symbols.Comma ∷ (expr_kinds h ++ (kind.Symbol symbols.Comma ∷ (expr_kinds n ++ (kind.Symbol symbols.Comma ∷ kind.Word r ∷ kind.Symbol symbols.ParenClose ∷ []))))))
    → IsRead e
remote_read e c h n r t d most rc rh rn ks = by_operand e _ _ refl most ks (λ room m f rest at. remote_took room e c h n r f rest t d most
    (send_took room keys.OnRemote c h n rc rh rn (omega (arith, m, d.depth)) (omega (arith, m, d.depth)) (omega (arith, m, d.depth)) f (kind.Word r ∷ kind.Symbol symbols.ParenClose ∷ rest)
    (at ∙ behind_one _ (behind_one _ (nest (expr_kinds c) _ rest (behind_one _ (nest (expr_kinds h) _ rest (behind_one _ (nest (expr_kinds n) _ rest refl)))))))))

neighbor_took : (room : ℕ) (e c h n v : Expr) (f : Front) (rest : Kinds) → x.OnNeighbor c h n v ≡ e
    → Measured e (1 + max (max (expr_depth c) (expr_depth h)) (max (expr_depth n) (expr_depth v))) (1 + expr_nodes c + expr_nodes h + expr_nodes n + expr_nodes v) → expr_depth e ≤ 64
    → IsRead v → 2 * expr_depth v + 8 ≤ room → Took (send_parts (expr_to room) room f) (expr_kinds v ++ (kind.Symbol symbols.ParenClose ∷ rest)) (IsSend c h n) → Took (key_form (expr_to room) room keys.OnNeighbor f) rest (IsNode e)
unfolding key_form neighbor_form
neighbor_took room e c h n v f rest t d most rv lv p =
    then_took _ p (λ s g k q. then_took _ (close_took room v rv lv g rest k) (λ nv g2 k2 q2.
    took _ g2 k2 (is_over e (x.OnNeighbor s.chunk.tree s.host.tree s.bound.tree nv.tree) (place f) (both (below_of s.chunk) (both (below_of s.host) (both (below_of s.bound) (below_of nv))))
    (ap (λ z. x.OnNeighbor z s.host.tree s.bound.tree nv.tree) q.chunk.tree ∙
    (ap (λ z. x.OnNeighbor c z s.bound.tree nv.tree) q.host.tree ∙ (ap (λ z. x.OnNeighbor c h z nv.tree) q.bound.tree ∙ (ap (λ z. x.OnNeighbor c h n z) q2.tree ∙ t))))
    (omega (arith, q.chunk.depth, q.host.depth, q.bound.depth, q2.depth, d.depth)) most (simp length-append (omega (arith, q.chunk.nodes, q.host.nodes, q.bound.nodes, q2.nodes, d.nodes))))))

pub neighbor_read : (e c h n v : Expr) → x.OnNeighbor c h n v ≡ e
    → Measured e (1 + max (max (expr_depth c) (expr_depth h)) (max (expr_depth n) (expr_depth v))) (1 + expr_nodes c + expr_nodes h + expr_nodes n + expr_nodes v) → expr_depth e ≤ 64 → IsRead c
    → IsRead h → IsRead n → IsRead v
    → expr_kinds e
    ≡ kind.Key keys.OnNeighbor ∷ kind.Symbol symbols.ParenOpen ∷
    (expr_kinds c ++
    (kind.Symbol symbols.Comma ∷ (expr_kinds h ++ (kind.Symbol symbols.Comma ∷ (expr_kinds n ++ (kind.Symbol symbols.Comma ∷ (expr_kinds v ++ (kind.Symbol symbols.ParenClose ∷ []))))))))
    → IsRead e
neighbor_read e c h n v t d most rc rh rn rv ks = by_operand e _ _ refl most ks (λ room m f rest at. neighbor_took room e c h n v f rest t d most rv (omega (arith, m, d.depth))
    (send_took room keys.OnNeighbor c h n rc rh rn (omega (arith, m, d.depth)) (omega (arith, m, d.depth)) (omega (arith, m, d.depth)) f (expr_kinds v ++ (kind.Symbol symbols.ParenClose ∷ rest))
    (at ∙ behind_one _ (behind_one _ (nest (expr_kinds c) _ rest (behind_one _ (nest (expr_kinds h) _ rest (behind_one _ (nest (expr_kinds n) _ rest (behind_one _ (nest (expr_kinds v) _ rest refl)))))))))))

-- ---- the empty list and raise

nil_took : (room : ℕ) (e : Expr) (t : Ty) → x.Nil (Some t) ≡ e → Measured e 1 1 → IsProperType t → type_depth t ≤ 8 → 9 ≤ room → (f : Front) (rest : Kinds)
    → kinds_at f ≡ kind.Symbol symbols.BracketOpen ∷ kind.Symbol symbols.Colon ∷ (type_kinds t ++ (kind.Symbol symbols.BracketClose ∷ rest)) → Took (symbol_form (expr_to room) room symbols.BracketOpen f) rest (IsNode e)
unfolding symbol_form brackets brackets_behind typed_nil
nil_took room e t is d p small n f rest h =
    let ks : Kinds = kind.Symbol symbols.Colon ∷ (type_kinds t ++ (kind.Symbol symbols.BracketClose ∷ rest)) in
    let hs : kinds_at (behind f) ≡ ks = behind_is f (kind.Symbol symbols.BracketOpen) ks h in
    then_took _ (take_open room f (kind.Symbol symbols.BracketOpen ∷ ks) (omega (arith, n)) h) (λ u0 g0 h0 q0.
    rw (symbol_is symbols.BracketClose (behind f) ks hs) (rw (symbol_is symbols.Colon (behind f) ks hs)
    (then_took _ (type_takes p room (omega (arith, n, small)) small (behind (behind f)) (kind.Symbol symbols.BracketClose ∷ rest) (behind_is (behind f) (kind.Symbol symbols.Colon) _ hs) refl) (λ u g1 h1 q1.
    then_took _ (take_symbol symbols.BracketClose g1 rest h1) (λ u2 g2 h2 q2. took _ g2 h2 (leaf_good e (x.Nil (Some u)) (place f) (ap (λ z. x.Nil (Some z)) q1 ∙ is) d))))))

pub nil_read : (e : Expr) (t : Ty) → x.Nil (Some t) ≡ e → Measured e 1 1 → IsProperType t → type_depth t ≤ 8
    → expr_kinds e ≡ kind.Symbol symbols.BracketOpen ∷ kind.Symbol symbols.Colon ∷ (type_kinds t ++ (kind.Symbol symbols.BracketClose ∷ [])) → IsRead e
nil_read e t is d p small ks = by_operand e _ _ refl (omega (arith, d.depth)) ks (λ room n f rest h. nil_took room e t is d p small (omega (arith, n, d.depth)) f rest (h ∙ behind_one _ (behind_one _ (nest (type_kinds t) _ rest refl))))

empty_took : (room : ℕ) (e : Expr) → x.Nil None ≡ e → Measured e 1 1 → 9 ≤ room → (f : Front) (rest : Kinds)
    → kinds_at f ≡ kind.Symbol symbols.BracketOpen ∷ kind.Symbol symbols.BracketClose ∷ rest → Took (symbol_form (expr_to room) room symbols.BracketOpen f) rest (IsNode e)
unfolding symbol_form brackets brackets_behind
empty_took room e is d n f rest h =
    let hs : kinds_at (behind f) ≡ kind.Symbol symbols.BracketClose ∷ rest = behind_is f (kind.Symbol symbols.BracketOpen) _ h in
    then_took _ (take_open room f (kind.Symbol symbols.BracketOpen ∷ kind.Symbol symbols.BracketClose ∷ rest) (omega (arith, n)) h) (λ u0 g0 h0 q0.
    rw (symbol_is symbols.BracketClose (behind f) (kind.Symbol symbols.BracketClose ∷ rest) hs)
    (took _ (behind (behind f)) (behind_is (behind f) (kind.Symbol symbols.BracketClose) rest hs) (leaf_good e (x.Nil None) (place f) is d)))

pub empty_read : (e : Expr) → x.Nil None ≡ e → Measured e 1 1 → expr_kinds e ≡ kind.Symbol symbols.BracketOpen ∷ kind.Symbol symbols.BracketClose ∷ [] → IsRead e
empty_read e is d ks = by_operand e _ _ refl (omega (arith, d.depth)) ks (λ room n f rest h. empty_took room e is d (omega (arith, n, d.depth)) f rest h)

raise_typed_took : (room : ℕ) (e : Expr) (v : Name) (t : Ty) → x.Raise v (Some t) ≡ e → Measured e 1 1 → IsProperType t → type_depth t ≤ 8 → 9 ≤ room → (f : Front) (rest : Kinds)
    → kinds_at f ≡ kind.Key keys.Raise ∷ kind.Symbol symbols.BracketOpen ∷ kind.Symbol symbols.Colon ∷ (type_kinds t ++ (kind.Symbol symbols.BracketClose ∷ kind.Word v ∷ rest))
    → Took (key_form (expr_to room) room keys.Raise f) rest (IsNode e)
unfolding key_form raise_form raise_typed
raise_typed_took room e v t is d p small n f rest h =
    let ks : Kinds = kind.Symbol symbols.Colon ∷ (type_kinds t ++ (kind.Symbol symbols.BracketClose ∷ kind.Word v ∷ rest)) in
    let hs : kinds_at (behind f) ≡ kind.Symbol symbols.BracketOpen ∷ ks = behind_is f (kind.Key keys.Raise) _ h in
    rw (symbol_is symbols.BracketOpen (behind f) (kind.Symbol symbols.BracketOpen ∷ ks) hs)
    (then_took _ (take_open room (behind f) (kind.Symbol symbols.BracketOpen ∷ ks) (omega (arith, n)) hs) (λ u0 g0 h0 q0.
    then_took _ (take_symbol symbols.Colon (behind (behind f)) _ (behind_is (behind f) (kind.Symbol symbols.BracketOpen) ks hs)) (λ u1 g1 h1 q1.
    then_took _ (type_takes p room (omega (arith, n, small)) small g1 (kind.Symbol symbols.BracketClose ∷ kind.Word v ∷ rest) h1 refl) (λ u g2 h2 q2.
    then_took _ (take_symbol symbols.BracketClose g2 _ h2) (λ u3 g3 h3 q3.
    then_took _ (take_name v g3 rest h3) (λ w g4 h4 q4.
    took _ g4 h4 (leaf_good e (x.Raise w (Some u)) (place f) (ap (λ z. x.Raise z (Some u)) q4 ∙ (ap (λ z. x.Raise v (Some z)) q2 ∙ is)) d)))))))

pub raise_typed_read : (e : Expr) (v : Name) (t : Ty) → x.Raise v (Some t) ≡ e → Measured e 1 1 → IsProperType t → type_depth t ≤ 8
    → expr_kinds e ≡ kind.Key keys.Raise ∷ kind.Symbol symbols.BracketOpen ∷ kind.Symbol symbols.Colon ∷ (type_kinds t ++ (kind.Symbol symbols.BracketClose ∷ kind.Word v ∷ [])) → IsRead e
raise_typed_read e v t is d p small ks = by_operand e _ _ refl (omega (arith, d.depth)) ks
    (λ room n f rest h. raise_typed_took room e v t is d p small (omega (arith, n, d.depth)) f rest (h ∙ behind_one _ (behind_one _ (behind_one _ (nest (type_kinds t) _ rest refl)))))

raise_took : (room : ℕ) (e : Expr) (v : Name) → x.Raise v None ≡ e → Measured e 1 1 → (f : Front) (rest : Kinds) → kinds_at f ≡ kind.Key keys.Raise ∷ kind.Word v ∷ rest → Took (key_form (expr_to room) room keys.Raise f) rest (IsNode e)
unfolding key_form raise_form raise_plain
raise_took room e v is d f rest h =
    let hs : kinds_at (behind f) ≡ kind.Word v ∷ rest = behind_is f (kind.Key keys.Raise) _ h in
    rw (symbol_is symbols.BracketOpen (behind f) (kind.Word v ∷ rest) hs)
    (then_took _ (take_name v (behind f) rest hs) (λ w g h1 q. took _ g h1 (leaf_good e (x.Raise w None) (place f) (ap (λ z. x.Raise z None) q ∙ is) d)))

pub raise_read : (e : Expr) (v : Name) → x.Raise v None ≡ e → Measured e 1 1 → expr_kinds e ≡ kind.Key keys.Raise ∷ kind.Word v ∷ [] → IsRead e
raise_read e v is d ks = by_operand e _ _ refl (omega (arith, d.depth)) ks (λ room n f rest h. raise_took room e v is d f rest h)

-- ---- let

record IsBound (v : Name) (t : Ty) (a : Expr) (b : Bound) : Type 0 where
  name : b.name ≡ v
  ty : b.ty ≡ t
  value : IsNode a b.value

binding_took : (room : ℕ) (v : Name) (t : Ty) (a : Expr) → IsProperType t → type_depth t ≤ 8 → 9 ≤ room → IsRead a → 2 * expr_depth a + 8 ≤ room → (at : ℕ) (f : Front) (rest : Kinds)
    → kinds_at f ≡ kind.Key keys.Val ∷ kind.Word v ∷ kind.Symbol symbols.Colon ∷ (type_kinds t ++ (kind.Symbol symbols.Equal ∷ (expr_kinds a ++ (kind.Key keys.In ∷ rest))))
    → Took (binding (expr_to room) room at f) (kind.Key keys.In ∷ rest) (IsBound v t a)
unfolding binding
binding_took room v t a p small n ra la at f rest h =
    then_took _ (take_key keys.Val f _ h) (λ u0 g0 h0 q0.
    then_took _ (take_name v g0 _ h0) (λ w g1 h1 q1.
    then_took _ (take_symbol symbols.Colon g1 _ h1) (λ u2 g2 h2 q2.
    then_took _ (type_takes p room (omega (arith, n, small)) small g2 (kind.Symbol symbols.Equal ∷ (expr_kinds a ++ (kind.Key keys.In ∷ rest))) h2 refl) (λ u g3 h3 q3.
    then_took _ (take_symbol symbols.Equal g3 _ h3) (λ u4 g4 h4 q4.
    then_took _ (level_took a ra room la levels.Whole g4 (kind.Key keys.In ∷ rest) h4 ends_in) (λ na g5 h5 q5.
    took _ g5 h5 (record { name = q1; ty = q3; value = q5 })))))))

no_binding : (room fuel : ℕ) (done : List Bound) (f : Front) → is_key keys.Val f ≡ false → bindings_from (expr_to room) room fuel done f ≡ Ok (done, f)
unfolding bindings_from
no_binding room zero done f e = refl
no_binding room (suc fuel) done f e = rw e refl

let_took : (room : ℕ) (e : Expr) (v : Name) (t : Ty) (a b : Expr) → x.Let v t a b ≡ e → Measured e (1 + max (expr_depth a) (expr_depth b)) (1 + expr_nodes a + expr_nodes b) → expr_depth e ≤ 64
    → IsProperType t → type_depth t ≤ 8 → IsRead a → IsRead b → 2 * expr_depth e + 7 ≤ room
    → (f : Front) (rest : Kinds)
    → kinds_at f ≡ kind.Key keys.Let ∷ kind.Key keys.Val ∷ kind.Word v ∷ kind.Symbol symbols.Colon ∷ (type_kinds t ++ (kind.Symbol symbols.Equal ∷ (expr_kinds a ++ (kind.Key keys.In ∷ (expr_kinds b ++ (kind.Key keys.End ∷ rest))))))
    → Took (key_form (expr_to room) room keys.Let f) rest (IsNode e)
unfolding key_form let_form
let_took room e v t a b is d most p small ra rb n f rest h =
    let ks : Kinds = kind.Key keys.In ∷ (expr_kinds b ++ (kind.Key keys.End ∷ rest)) in
    then_took _ (take_open room f _ (omega (arith, n)) h) (λ u0 g0 h0 q0.
    then_took _ (binding_took room v t a p small (omega (arith, n, d.depth)) ra (omega (arith, n, d.depth)) (place f) (behind f) (expr_kinds b ++ (kind.Key keys.End ∷ rest)) (behind_is f (kind.Key keys.Let) _ h)) (λ w g1 h1 q1.
    then_took _ (took_by (no_binding room (length g1.tokens) (w ∷ []) g1 (key_is keys.Val g1 ks h1)) (took {Q = λ all. all ≡ w ∷ []} (w ∷ []) g1 h1 refl)) (λ all g2 h2 q2.
    then_took _ (take_key keys.In g2 _ h2) (λ u3 g3 h3 q3.
    then_took _ (level_took b rb room (omega (arith, n, d.depth)) levels.Whole g3 (kind.Key keys.End ∷ rest) h3 ends_end) (λ nb g4 h4 q4.
    then_took _ (take_key keys.End g4 rest h4) (λ u5 g5 h5 q5.
    took _ g5 h5 (subst (λ bs. IsNode e (let_of bs nb)) (sym q2) (is_over e (x.Let w.name w.ty w.value.tree nb.tree) w.at (both (below_of w.value) (below_of nb))
    (ap (λ z. x.Let z w.ty w.value.tree nb.tree) q1.name ∙ (ap (λ z. x.Let v z w.value.tree nb.tree) q1.ty ∙ (ap (λ z. x.Let v t z nb.tree) q1.value.tree ∙ (ap (λ z. x.Let v t a z) q4.tree ∙ is))))
    (omega (arith, q1.value.depth, q4.depth, d.depth)) most (simp length-append (omega (arith, q1.value.nodes, q4.nodes, d.nodes)))))))))))

pub let_read : (e : Expr) (v : Name) (t : Ty) (a b : Expr) → x.Let v t a b ≡ e → Measured e (1 + max (expr_depth a) (expr_depth b)) (1 + expr_nodes a + expr_nodes b) → expr_depth e ≤ 64
    → IsProperType t → type_depth t ≤ 8 → IsRead a → IsRead b
    → expr_kinds e ≡ kind.Key keys.Let ∷ kind.Key keys.Val ∷ kind.Word v ∷ kind.Symbol symbols.Colon ∷ (type_kinds t ++ (kind.Symbol symbols.Equal ∷ (expr_kinds a ++ (kind.Key keys.In ∷ (expr_kinds b ++ (kind.Key keys.End ∷ []))))))
    → IsRead e
let_read e v t a b is d most p small ra rb ks = by_operand e _ _ refl most ks (λ room n f rest h. let_took room e v t a b is d most p small ra rb n f rest
    (h ∙ behind_one _ (behind_one _ (behind_one _ (behind_one _ (nest (type_kinds t) _ rest (behind_one _ (nest (expr_kinds a) _ rest (behind_one _ (nest (expr_kinds b) _ rest refl))))))))))
