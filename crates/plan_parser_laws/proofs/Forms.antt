-- Each form of the grammar is read where its parts are.
use Rattle.std.proofs.Common.{◌≡◌, ℕ, suc, true, false, List, [], ◌∷◌, length, Option, Some, None, Ok, refl, ◌∙◌, ap}
use Rattle.plan_base.specs.declared.limit.Limit.{Limit}
use Rattle.plan_base.specs.declared.limit.Limit.TheVariants as limits
use Rattle.plan_base.specs.declared.name.Name.{Name}
use Rattle.plan_base.specs.declared.tree.Ty.{Ty}
use Rattle.plan_base.specs.declared.tree.Expr.{Expr}
use Rattle.plan_base.specs.declared.tree.Expr.TheVariants as x
use Rattle.plan_lexer.specs.declared.token.TokenKind.{TokenKind}
use Rattle.plan_lexer.specs.declared.token.TokenKind.TheVariants as kinds
use Rattle.plan_lexer.specs.declared.token.Key.TheVariants as keys
use Rattle.plan_lexer.specs.declared.token.Symbol.{Symbol}
use Rattle.plan_lexer.specs.declared.token.Symbol.TheVariants as symbols
use Rattle.plan_parser_exprs.specs.declared.fault.Wanted.TheVariants as wanted
use Rattle.plan_parser_exprs.specs.declared.joint.Joint.{Joint}
use Rattle.plan_parser_exprs.specs.declared.joint.Chain.TheVariants as chains
use Rattle.plan_parser_exprs.specs.declared.level.Level.{Level}
use Rattle.plan_parser_exprs.specs.declared.level.Level.TheVariants as levels
use Rattle.plan_parser_exprs.specs.declared.node.Node.{Node}
use Rattle.plan_parser_exprs.specs.declared.node.Bound.{Bound}
use Rattle.plan_parser_exprs.specs.declared.node.Caught.{Caught}
use Rattle.plan_parser_exprs.specs.Ahead.{Front, Reader, place, behind, next_kind, is_symbol, is_key, need_symbol, need_key, name_at}
use Rattle.plan_parser_exprs.specs.Begins.{begins_operand, begins_expr}
use Rattle.plan_parser_exprs.specs.Types.{opens, more, type_to}
use Rattle.plan_parser_exprs.specs.Joints.{joint_of}
use Rattle.plan_parser_exprs.specs.Nodes.{trees, leaf, over_one, over_two, over_three, over_four, over_list, joined_nodes, consed_nodes, bracketed_nodes, let_of, try_of}
use Rattle.plan_parser_exprs.specs.Exprs.{literal, literal_from, opens_at, need_open, catch_at, items_from, arguments_behind, arguments, call, name_operand, chunk, tuple, single, grouped_expression}
use Rattle.plan_parser_exprs.specs.Exprs.{parens_behind, parens, typed_nil, listing, brackets_behind, brackets, binding, bindings_from, let_form, clause, clauses_from, try_form, raise_typed}
use Rattle.plan_parser_exprs.specs.Exprs.{raise_plain, raise_form, before_comma, before_close, fold_parts, foldl_form, foldr_form, eval_form, send_parts, remote_form, neighbor_form, key_form}
use Rattle.plan_parser_exprs.specs.Exprs.{symbol_form, picked_part, operand_kind, operand, before_list, listed_operands, addition, comparison, negation, negated_operand, disjunction, condition, low}
use Rattle.plan_parser_exprs.specs.Exprs.{before_next, whole}
use Rattle.plan_parser_laws.specs.Grammar.{Sym, Word, Called, behind2, behind3}
use Rattle.plan_parser_laws.proofs.TokenFacts.{room_open}
use Rattle.plan_parser_laws.proofs.Follows.{starts_no_symbol, symbol_here}

module _ (inner : Level → Reader Node) (r : ℕ) where
  abbrev Inside : Level → Front → Node → Front → Type 0
  Inside l f n g = inner l f ≡ Ok (n, g)

  abbrev Read : Reader Node → Front → Node → Front → Type 0
  Read one f n g = one f ≡ Ok (n, g)

  abbrev Operand : Front → Node → Front → Type 0
  Operand f n g = operand inner (suc r) f ≡ Ok (n, g)

  pub no_args_is : (f : Front) → Sym symbols.ParenOpen f → Sym symbols.ParenClose (behind f) → arguments inner (suc r) f ≡ Ok ([], behind2 f)
  unfolding arguments arguments_behind need_open opens is_symbol
  no_args_is f a b = rw (a, room_open r, b) refl

  pub args_is : (f g : Front) (ns : List Node) → Sym symbols.ParenOpen f → begins_expr (behind f) ≡ true
      → items_from inner (suc r) symbols.ParenClose limits.Arguments 7 (behind f) ≡ Ok (ns, g) → arguments inner (suc r) f ≡ Ok (ns, g)
  unfolding arguments arguments_behind need_open opens
  args_is f g ns a begins some = rw (symbol_here f a, room_open r, starts_no_symbol symbols.ParenClose (behind f) begins refl, begins, some) refl

  pub items_are : (f g h : Front) (n : Node) (ns : List Node) (close : Symbol) (limit : Limit) (most : ℕ) → Inside levels.Whole f n g
      → more (inner levels.Whole) begins_expr symbols.Comma limit wanted.AnExpr most (n ∷ []) g ≡ Ok (n ∷ ns, h) → is_symbol close h ≡ true
      → items_from inner (suc r) close limit most f ≡ Ok (n ∷ ns, behind h)
  unfolding items_from need_symbol
  items_are f g h n ns close limit most one many shut = rw (one, many, shut) refl

module _ (inner : Level → Reader Node) (room : ℕ) where
  pub variable_is : (f : Front) (name : Name) → Called name f → is_symbol symbols.ParenOpen (behind f) ≡ false
      → operand inner room f ≡ Ok (leaf (x.Var name) (place f), behind f)
  unfolding operand name_operand name_at
  variable_is f name a b = rw (a, a, b) refl

  pub call_is : (f g : Front) (name : Name) (ns : List Node) → Called name f → is_symbol symbols.ParenOpen (behind f) ≡ true → arguments inner room (behind f) ≡ Ok (ns, g)
      → operand inner room f ≡ Ok (over_list (x.Call name (trees ns)) (place f) ns, g)
  unfolding operand name_operand name_at call
  call_is f g name ns a b c = rw (a, a, b, c) refl

  pub chunk_is : (f g : Front) (name : Name) (ns : List Node) → Sym symbols.Bar f → Called name (behind f) → Sym symbols.Bar (behind2 f) → arguments inner room (behind3 f) ≡ Ok (ns, g)
      → operand inner room f ≡ Ok (over_list (x.ChunkOf name (trees ns)) (place f) ns, g)
  unfolding operand symbol_form chunk name_at need_symbol is_symbol
  chunk_is f g name ns a b c d = rw (a, b, c, d) refl

  pub raise_is : (f : Front) (name : Name) → Word keys.Raise f → Called name (behind f) → operand inner room f ≡ Ok (leaf (x.Raise name None) (place f), behind2 f)
  unfolding operand key_form raise_form raise_plain name_at is_symbol
  raise_is f name a b = rw (a, b) refl

  literal_kind : (f : Front) (o : Option TokenKind) (e : Expr) → literal o ≡ Some e → operand_kind inner room f o ≡ Ok (leaf e (place f), behind f)
  unfolding key_form
  literal_kind f (Some (kinds.Int n)) e h = ap (λ o. literal_from f o) h
  literal_kind f (Some (kinds.Host n)) e h = ap (λ o. literal_from f o) h
  literal_kind f (Some (kinds.Dev n)) e h = ap (λ o. literal_from f o) h
  literal_kind f (Some (kinds.Char n)) e h = ap (λ o. literal_from f o) h
  literal_kind f (Some (kinds.Str n)) e h = ap (λ o. literal_from f o) h
  literal_kind f (Some (kinds.Blob n)) e h = ap (λ o. literal_from f o) h
  literal_kind f (Some (kinds.Key keys.True)) e h = ap (λ o. literal_from f o) h
  literal_kind f (Some (kinds.Key keys.False)) e h = ap (λ o. literal_from f o) h
  literal_kind f _ e h = cc

  pub literal_is : (f : Front) (e : Expr) → literal (next_kind f) ≡ Some e → operand inner room f ≡ Ok (leaf e (place f), behind f)
  unfolding operand
  literal_is f e h = literal_kind f (next_kind f) e h

  pub low_is : (f g : Front) (n : Node) → is_key keys.If f ≡ false → disjunction inner room f ≡ Ok (n, g) → low inner room f ≡ Ok (n, g)
  unfolding low
  low_is f g n a b = rw (a, b) refl

  pub negated_is : (f g : Front) (n : Node) → is_key keys.Not f ≡ false → comparison inner room f ≡ Ok (n, g) → negated_operand inner room f ≡ Ok (n, g)
  unfolding negated_operand
  negated_is f g n a b = rw (a, b) refl

  pub one_side_is : (f g : Front) (n : Node) → listed_operands inner room f ≡ Ok (n, g) → joint_of chains.Comparison (next_kind g) ≡ None → comparison inner room f ≡ Ok (n, g)
  unfolding comparison
  one_side_is f g n a b = rw (a, b) refl

  pub two_sides_are : (f g h : Front) (a b : Node) (j : Joint) → listed_operands inner room f ≡ Ok (a, g) → joint_of chains.Comparison (next_kind g) ≡ Some j → listed_operands inner room (behind g) ≡ Ok (b, h)
      → comparison inner room f ≡ Ok (joined_nodes j a b, h)
  unfolding comparison
  two_sides_are f g h a b j c d e = rw (c, d, e) refl

  pub no_list_is : (f g : Front) (n : Node) → addition inner room f ≡ Ok (n, g) → is_symbol symbols.DoubleColon g ≡ false → listed_operands inner room f ≡ Ok (n, g)
  unfolding listed_operands
  no_list_is f g n a b = rw (a, b) refl

  pub one_low_is : (f g : Front) (n : Node) → low inner room f ≡ Ok (n, g) → is_symbol symbols.Semicolon g ≡ false → whole inner room f ≡ Ok (n, g)
  unfolding whole
  one_low_is f g n a b = rw (a, b) refl

module _ (inner : Level → Reader Node) (r : ℕ) where
  pub list_is : (f g h : Front) (a b : Node) → addition inner (suc r) f ≡ Ok (a, g) → is_symbol symbols.DoubleColon g ≡ true → begins_operand (behind g) ≡ true → inner levels.Listed (behind g) ≡ Ok (b, h)
      → listed_operands inner (suc r) f ≡ Ok (consed_nodes a b, h)
  unfolding listed_operands before_list opens_at opens
  list_is f g h a b c d e i = rw (c, d, e, room_open r, i) refl

  pub then_is : (f g h : Front) (a b : Node) → low inner (suc r) f ≡ Ok (a, g) → is_symbol symbols.Semicolon g ≡ true → begins_expr (behind g) ≡ true → inner levels.Whole (behind g) ≡ Ok (b, h)
      → whole inner (suc r) f ≡ Ok (over_two (x.Then a.tree b.tree) a.at a b, h)
  unfolding whole before_next opens_at opens
  then_is f g h a b c d e i = rw (c, d, e, room_open r, i) refl

  pub if_is : (f g h i : Front) (c a b : Node) → Word keys.If f → inner levels.Whole (behind f) ≡ Ok (c, g) → Word keys.Then g → inner levels.Low (behind g) ≡ Ok (a, h) → Word keys.Else h
      → inner levels.Low (behind h) ≡ Ok (b, i) → low inner (suc r) f ≡ Ok (over_three (x.If c.tree a.tree b.tree) (place f) c a b, i)
  unfolding low condition opens need_key is_key
  if_is f g h i c a b p q s t u v = rw (p, room_open r, q, s, t, u, v) refl

  pub not_is : (f g : Front) (a : Node) → Word keys.Not f → inner levels.Negated (behind f) ≡ Ok (a, g) → negated_operand inner (suc r) f ≡ Ok (over_one (x.Not a.tree) (place f) a, g)
  unfolding negated_operand negation opens is_key
  not_is f g a p q = rw (p, room_open r, q) refl

  pub part_is : (f g : Front) (i : ℕ) (a : Node) → next_kind f ≡ Some (kinds.Part i) → inner levels.Operand (behind f) ≡ Ok (a, g)
      → operand inner (suc r) f ≡ Ok (over_one (x.Part i a.tree) (place f) a, g)
  unfolding operand picked_part opens
  part_is f g i a p q = rw (p, room_open r, q) refl

  pub no_value_is : (f : Front) → Sym symbols.ParenOpen f → Sym symbols.ParenClose (behind f) → operand inner (suc r) f ≡ Ok (leaf x.Unit (place f), behind2 f)
  unfolding operand symbol_form parens parens_behind opens is_symbol
  no_value_is f p q = rw (p, room_open r, q) refl

  -- a bracket in which an expression begins
  behind_paren : (f : Front) → Sym symbols.ParenOpen f → begins_expr (behind f) ≡ true → operand inner (suc r) f ≡ grouped_expression inner (suc r) (place f) (behind f)
  unfolding operand symbol_form parens parens_behind opens
  behind_paren f p begins = rw (p, room_open r, starts_no_symbol symbols.ParenClose (behind f) begins refl, begins) refl

  group_is : (f g : Front) (n : Node) (at : ℕ) → inner levels.Whole f ≡ Ok (n, g) → Sym symbols.ParenClose g → grouped_expression inner (suc r) at f ≡ Ok (n, behind g)
  unfolding grouped_expression single need_symbol is_symbol
  group_is f g n at one shut = rw (one, shut) refl

  pub in_brackets_is : (f g : Front) (n : Node) → Sym symbols.ParenOpen f → begins_expr (behind f) ≡ true → inner levels.Whole (behind f) ≡ Ok (n, g) → Sym symbols.ParenClose g
      → operand inner (suc r) f ≡ Ok (n, behind g)
  in_brackets_is f g n p begins one shut = behind_paren f p begins ∙ group_is (behind f) g n (place f) one shut

  several_are : (f g h : Front) (n : Node) (ns : List Node) (at : ℕ) → inner levels.Whole f ≡ Ok (n, g) → Sym symbols.Comma g
      → more (inner levels.Whole) begins_expr symbols.Comma limits.Parts wanted.AnExpr 7 (n ∷ []) g ≡ Ok (n ∷ ns, h) → Sym symbols.ParenClose h
      → grouped_expression inner (suc r) at f ≡ Ok (over_list (x.Tuple (trees (n ∷ ns))) at (n ∷ ns), behind h)
  unfolding grouped_expression tuple need_symbol is_symbol
  several_are f g h n ns at one comma many shut = rw (one, comma, many, shut) refl

  pub tuple_is : (f g h : Front) (n : Node) (ns : List Node) → Sym symbols.ParenOpen f → begins_expr (behind f) ≡ true → inner levels.Whole (behind f) ≡ Ok (n, g) → Sym symbols.Comma g
      → more (inner levels.Whole) begins_expr symbols.Comma limits.Parts wanted.AnExpr 7 (n ∷ []) g ≡ Ok (n ∷ ns, h) → Sym symbols.ParenClose h
      → operand inner (suc r) f ≡ Ok (over_list (x.Tuple (trees (n ∷ ns))) (place f) (n ∷ ns), behind h)
  tuple_is f g h n ns p begins one comma many shut = behind_paren f p begins ∙ several_are (behind f) g h n ns (place f) one comma many shut

  pub no_items_is : (f : Front) → Sym symbols.BracketOpen f → Sym symbols.BracketClose (behind f) → operand inner (suc r) f ≡ Ok (leaf (x.Nil None) (place f), behind2 f)
  unfolding operand symbol_form brackets brackets_behind opens is_symbol
  no_items_is f p q = rw (p, room_open r, q) refl

  pub no_items_of_is : (f g : Front) (t : Ty) → Sym symbols.BracketOpen f → Sym symbols.Colon (behind f) → type_to (suc r) (behind2 f) ≡ Ok (t, g) → Sym symbols.BracketClose g
      → operand inner (suc r) f ≡ Ok (leaf (x.Nil (Some t)) (place f), behind g)
  unfolding operand symbol_form brackets brackets_behind typed_nil opens need_symbol is_symbol
  no_items_of_is f g t p q of shut = rw (p, room_open r, q, of, shut) refl

  behind_bracket : (f : Front) → Sym symbols.BracketOpen f → begins_expr (behind f) ≡ true → operand inner (suc r) f ≡ listing inner (suc r) (behind f)
  unfolding operand symbol_form brackets brackets_behind opens
  behind_bracket f p begins = rw (p, room_open r, starts_no_symbol symbols.BracketClose (behind f) begins refl, starts_no_symbol symbols.Colon (behind f) begins refl, begins) refl

  listing_is : (f g h : Front) (n : Node) (ns : List Node) → inner levels.Whole f ≡ Ok (n, g)
      → more (inner levels.Whole) begins_expr symbols.Comma limits.Items wanted.AnExpr 62 (n ∷ []) g ≡ Ok (n ∷ ns, h) → Sym symbols.BracketClose h
      → listing inner (suc r) f ≡ Ok (bracketed_nodes (n ∷ ns) (leaf (x.Nil None) (place h)), behind h)
  unfolding listing need_symbol is_symbol
  listing_is f g h n ns one many shut = rw (one, many, shut) refl

  pub items_is : (f g h : Front) (n : Node) (ns : List Node) → Sym symbols.BracketOpen f → begins_expr (behind f) ≡ true → inner levels.Whole (behind f) ≡ Ok (n, g)
      → more (inner levels.Whole) begins_expr symbols.Comma limits.Items wanted.AnExpr 62 (n ∷ []) g ≡ Ok (n ∷ ns, h) → Sym symbols.BracketClose h
      → operand inner (suc r) f ≡ Ok (bracketed_nodes (n ∷ ns) (leaf (x.Nil None) (place h)), behind h)
  items_is f g h n ns p begins one many shut = behind_bracket f p begins ∙ listing_is (behind f) g h n ns one many shut

  pub val_is : (at : ℕ) (f g h : Front) (name : Name) (t : Ty) (n : Node) → Word keys.Val f → Called name (behind f) → Sym symbols.Colon (behind2 f) → type_to (suc r) (behind3 f) ≡ Ok (t, g)
      → Sym symbols.Equal g → inner levels.Whole (behind g) ≡ Ok (n, h) → binding inner (suc r) at f ≡ Ok (record { at = at; name = name; ty = t; value = n }, h)
  unfolding binding need_key is_key name_at need_symbol is_symbol
  val_is at f g h name t n p q s of equal one = rw (p, q, s, of, equal, one) refl

  pub let_is : (f g h i : Front) (b : Bound) (bs : List Bound) (n : Node) → Word keys.Let f → binding inner (suc r) (place f) (behind f) ≡ Ok (b, g)
      → bindings_from inner (suc r) (length g.tokens) (b ∷ []) g ≡ Ok (b ∷ bs, h) → Word keys.In h → inner levels.Whole (behind h) ≡ Ok (n, i) → Word keys.End i
      → operand inner (suc r) f ≡ Ok (let_of (b ∷ bs) n, behind i)
  unfolding operand key_form let_form opens need_key is_key
  let_is f g h i b bs n p one many inside body end = rw (p, room_open r, one, many, inside, body, end) refl

  pub named_clause_is : (f g : Front) (name : Name) (n : Node) → Called name f → Sym symbols.FatArrow (behind f) → inner levels.Whole (behind2 f) ≡ Ok (n, g)
      → clause inner (suc r) f ≡ Ok (record { name = Some name; body = n }, g)
  unfolding clause catch_at name_at need_symbol is_symbol
  named_clause_is f g name n p q one = rw (p, q, one) refl

  pub last_clause_is : (f g : Front) (n : Node) → Sym symbols.Underscore f → Sym symbols.FatArrow (behind f) → inner levels.Whole (behind2 f) ≡ Ok (n, g)
      → clause inner (suc r) f ≡ Ok (record { name = None; body = n }, g)
  unfolding clause catch_at need_symbol is_symbol
  last_clause_is f g n p q one = rw (p, q, one) refl

  pub try_is : (f g h : Front) (n : Node) (cs : List Caught) → Word keys.Try f → inner levels.Whole (behind f) ≡ Ok (n, g) → Word keys.Handle g
      → clauses_from inner (suc r) 8 [] (behind g) ≡ Ok (cs, h) → Word keys.End h → operand inner (suc r) f ≡ Ok (try_of (place f) n cs, behind h)
  unfolding operand key_form try_form opens need_key is_key
  try_is f g h n cs p one handle many end = rw (p, room_open r, one, handle, many, end) refl

  pub raise_of_is : (f g : Front) (t : Ty) (name : Name) → Word keys.Raise f → Sym symbols.BracketOpen (behind f) → Sym symbols.Colon (behind2 f) → type_to (suc r) (behind3 f) ≡ Ok (t, g)
      → Sym symbols.BracketClose g → Called name (behind g) → operand inner (suc r) f ≡ Ok (leaf (x.Raise name (Some t)) (place f), behind2 g)
  unfolding operand key_form raise_form raise_typed opens name_at need_symbol is_symbol
  raise_of_is f g t name p q s of shut called = rw (p, q, room_open r, s, of, shut, called) refl

  pub foldl_is : (f g h : Front) (name : Name) (a b : Node) → Word keys.Foldl f → Sym symbols.ParenOpen (behind f) → Called name (behind2 f) → Sym symbols.Comma (behind3 f)
      → inner levels.Whole (behind (behind3 f)) ≡ Ok (a, g) → Sym symbols.Comma g → inner levels.Whole (behind g) ≡ Ok (b, h) → Sym symbols.ParenClose h
      → operand inner (suc r) f ≡ Ok (over_two (x.Foldl name a.tree b.tree) (place f) a b, behind h)
  unfolding operand key_form foldl_form fold_parts before_comma before_close need_open opens name_at need_symbol is_symbol
  foldl_is f g h name a b p q s t u v w z = rw (p, q, room_open r, s, t, u, v, w, z) refl

  pub foldr_is : (f g h : Front) (name : Name) (a b : Node) → Word keys.Foldr f → Sym symbols.ParenOpen (behind f) → Called name (behind2 f) → Sym symbols.Comma (behind3 f)
      → inner levels.Whole (behind (behind3 f)) ≡ Ok (a, g) → Sym symbols.Comma g → inner levels.Whole (behind g) ≡ Ok (b, h) → Sym symbols.ParenClose h
      → operand inner (suc r) f ≡ Ok (over_two (x.Foldr name a.tree b.tree) (place f) a b, behind h)
  unfolding operand key_form foldr_form fold_parts before_comma before_close need_open opens name_at need_symbol is_symbol
  foldr_is f g h name a b p q s t u v w z = rw (p, q, room_open r, s, t, u, v, w, z) refl

  pub eval_is : (f g : Front) (a : Node) → Word keys.Eval f → Sym symbols.ParenOpen (behind f) → inner levels.Whole (behind2 f) ≡ Ok (a, g) → Sym symbols.ParenClose g
      → operand inner (suc r) f ≡ Ok (over_one (x.Eval a.tree) (place f) a, behind g)
  unfolding operand key_form eval_form before_close need_open opens need_symbol is_symbol
  eval_is f g a p q s t = rw (p, q, room_open r, s, t) refl

  pub on_remote_is : (f g h i : Front) (a b c : Node) (name : Name) → Word keys.OnRemote f → Sym symbols.ParenOpen (behind f) → inner levels.Whole (behind2 f) ≡ Ok (a, g) → Sym symbols.Comma g
      → inner levels.Whole (behind g) ≡ Ok (b, h) → Sym symbols.Comma h → inner levels.Whole (behind h) ≡ Ok (c, i) → Sym symbols.Comma i → Called name (behind i)
      → Sym symbols.ParenClose (behind2 i) → operand inner (suc r) f ≡ Ok (over_three (x.OnRemote a.tree b.tree c.tree name) (place f) a b c, behind3 i)
  unfolding operand key_form remote_form send_parts before_comma need_open opens name_at need_symbol is_symbol
  on_remote_is f g h i a b c name p q s t u v w y z k = rw (p, q, room_open r, s, t, u, v, w, y, z, k) refl

  pub on_neighbor_is : (f g h i j : Front) (a b c d : Node) → Word keys.OnNeighbor f → Sym symbols.ParenOpen (behind f) → inner levels.Whole (behind2 f) ≡ Ok (a, g) → Sym symbols.Comma g
      → inner levels.Whole (behind g) ≡ Ok (b, h) → Sym symbols.Comma h → inner levels.Whole (behind h) ≡ Ok (c, i) → Sym symbols.Comma i → inner levels.Whole (behind i) ≡ Ok (d, j)
      → Sym symbols.ParenClose j → operand inner (suc r) f ≡ Ok (over_four (x.OnNeighbor a.tree b.tree c.tree d.tree) (place f) a b c d, behind j)
  unfolding operand key_form neighbor_form send_parts before_comma before_close need_open opens need_symbol is_symbol
  on_neighbor_is f g h i j a b c d p q s t u v w y z k = rw (p, q, room_open r, s, t, u, v, w, y, z, k) refl
