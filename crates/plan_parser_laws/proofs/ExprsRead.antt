-- An expression that is read is an expression of the grammar.
use Rattle.std.proofs.Common.{◌≡◌, ◌≤◌, ℕ, zero, suc, true, List, [], ◌∷◌, ◌++◌, length, Option, Some, None, is_some, Result, if◌then◌else◌, refl, sym, ◌∙◌, ap, append_assoc, append-nil, subst, arith}
use Rattle.plan_base.specs.declared.limit.Limit.{Limit}
use Rattle.plan_base.specs.declared.limit.Limit.TheVariants as limits
use Rattle.plan_base.specs.declared.name.Name.{Name}
use Rattle.plan_base.specs.declared.tree.Expr.{Expr}
use Rattle.plan_base.specs.declared.tree.Expr.TheVariants as x
use Rattle.plan_lexer.specs.declared.token.TokenKind.{TokenKind}
use Rattle.plan_lexer.specs.declared.token.TokenKind.TheVariants as kinds
use Rattle.plan_lexer.specs.declared.token.Key.{Key}
use Rattle.plan_lexer.specs.declared.token.Key.TheVariants as keys
use Rattle.plan_lexer.specs.declared.token.Symbol.{Symbol}
use Rattle.plan_lexer.specs.declared.token.Symbol.TheVariants as symbols
use Rattle.plan_parser_exprs.specs.declared.fault.ParseFault.{ParseFault}
use Rattle.plan_parser_exprs.specs.declared.fault.Wanted.TheVariants as wanted
use Rattle.plan_parser_exprs.specs.declared.joint.Joint.{Joint}
use Rattle.plan_parser_exprs.specs.declared.joint.Chain.TheVariants as chains
use Rattle.plan_parser_exprs.specs.declared.level.Level.{Level}
use Rattle.plan_parser_exprs.specs.declared.level.Level.TheVariants as levels
use Rattle.plan_parser_exprs.specs.declared.node.Node.{Node}
use Rattle.plan_parser_exprs.specs.declared.node.Bound.{Bound}
use Rattle.plan_parser_exprs.specs.declared.node.FoldParts.{FoldParts}
use Rattle.plan_parser_exprs.specs.declared.node.SendParts.{SendParts}
use Rattle.plan_parser_exprs.specs.declared.node.Caught.{Caught}
use Rattle.plan_parser_exprs.specs.Ahead.{Front, Reader, place, behind, next_kind, is_symbol}
use Rattle.plan_parser_exprs.specs.Begins.{begins_operand, begins_expr}
use Rattle.plan_parser_exprs.specs.Types.{more, type_to}
use Rattle.plan_parser_exprs.specs.Joints.{joint_of}
use Rattle.plan_parser_exprs.specs.Nodes.{trees, leaf, over_two, over_three, over_four, over_list, bracketed_nodes, let_of, try_of}
use Rattle.plan_parser_exprs.specs.Exprs.{literal_key, literal, literal_from, clause_follows, items_from, arguments_behind, arguments, call, name_operand, chunk, tuple, single, grouped_expression}
use Rattle.plan_parser_exprs.specs.Exprs.{parens_behind, parens, typed_nil, listing, brackets_behind, brackets, binding, bindings_from, let_form, clause, clauses_from, try_form, raise_typed}
use Rattle.plan_parser_exprs.specs.Exprs.{raise_plain, raise_form, before_comma, before_close, fold_parts, foldl_form, foldr_form, eval_form, send_parts, remote_form, neighbor_form, key_form}
use Rattle.plan_parser_exprs.specs.Exprs.{symbol_form, picked_part, operand_kind, operand, product, addition, before_list, listed_operands, compared_operands, comparison, negation, negated_operand}
use Rattle.plan_parser_exprs.specs.Exprs.{conjunction, disjunction, condition, low, before_next, whole, at_level, expr_to}
use Rattle.plan_parser_laws.specs.Grammar as gram
use Rattle.plan_parser_laws.specs.Grammar.{Sym, Word, Called, behind2, behind3, TypeAt, ExprAt, LowAt, OrAt, AndAt, NotAt, CmpAt, ConsAt, AddAt, MulAt, PartAt, AtomAt, ArgsAt, SomeAt, MoreAt, ValAt, ValsAt, ClauseAt, ClausesAt}
use Rattle.plan_parser_laws.proofs.TokenFacts.{comma_is_no_bracket}
use Rattle.plan_parser_laws.proofs.ReadSteps.{Reads, found_reads, refusal_reads, after, weaker, either, if_symbol, if_key, symbol_then, key_then, name_then, opening_reads, opened_at, bracket_then, before_then, catch_then}
use Rattle.plan_parser_laws.proofs.ReadLists.{Added, more_reads, chained_reads}
use Rattle.plan_parser_laws.proofs.TypesRead.{types_read}

-- what is read at a level
abbrev pub AtLevel : ℕ → Level → Front → Node → Front → Type 0
AtLevel r levels.Whole f n g = ExprAt r f n g
AtLevel r levels.Low f n g = LowAt r f n g
AtLevel r levels.Negated f n g = NotAt r f n g
AtLevel r levels.Listed f n g = ConsAt r f n g
AtLevel r levels.Operand f n g = PartAt r f n g

-- the parts of a fold, behind its word
data FoldAt : ℕ → Front → FoldParts → Front → Type 0 where
  fold_at : {r : ℕ} {f g h : Front} {name : Name} {a b : Node}
      → Sym symbols.ParenOpen (behind f) → Called name (behind2 f) → Sym symbols.Comma (behind3 f) → ExprAt r (behind (behind3 f)) a g → Sym symbols.Comma g
      → ExprAt r (behind g) b h → Sym symbols.ParenClose h → FoldAt (suc r) f (record { name = name; start = a; list = b }) (behind h)

foldl_of : {s : ℕ} {f g : Front} {p : FoldParts} → Word keys.Foldl f → FoldAt s f p g → AtomAt s f (over_two (x.Foldl p.name p.start.tree p.list.tree) (place f) p.start p.list) g
foldl_of w (fold_at a b c d e h i) = gram.foldl w a b c d e h i

foldr_of : {s : ℕ} {f g : Front} {p : FoldParts} → Word keys.Foldr f → FoldAt s f p g → AtomAt s f (over_two (x.Foldr p.name p.start.tree p.list.tree) (place f) p.start p.list) g
foldr_of w (fold_at a b c d e h i) = gram.foldr w a b c d e h i

-- the chunk, the host and the bound of a sending, behind its word
pub data SendAt : ℕ → Front → SendParts → Front → Type 0 where
  send_at : {r : ℕ} {f g h i : Front} {a b c : Node}
      → Sym symbols.ParenOpen (behind f) → ExprAt r (behind2 f) a g → Sym symbols.Comma g → ExprAt r (behind g) b h → Sym symbols.Comma h
      → ExprAt r (behind h) c i → Sym symbols.Comma i → SendAt (suc r) f (record { chunk = a; host = b; bound = c }) (behind i)

remote_of : {s : ℕ} {f g : Front} {p : SendParts} {name : Name} → Word keys.OnRemote f → SendAt s f p g → Called name g → Sym symbols.ParenClose (behind g)
    → AtomAt s f (over_three (x.OnRemote p.chunk.tree p.host.tree p.bound.tree name) (place f) p.chunk p.host p.bound) (behind2 g)
remote_of w (send_at a b c d e h i) n k = gram.on_remote w a b c d e h i n k

pub send_room : {s : ℕ} {f g : Front} {p : SendParts} → SendAt s f p g → (r : ℕ) × (s ≡ suc r)
send_room (send_at {r} a b c d e h i) = (r, refl)

neighbor_of : {s : ℕ} {f g h : Front} {p : SendParts} {d : Node} (r : ℕ) → Word keys.OnNeighbor f → SendAt s f p g → s ≡ suc r → ExprAt r g d h → Sym symbols.ParenClose h
    → AtomAt s f (over_four (x.OnNeighbor p.chunk.tree p.host.tree p.bound.tree d.tree) (place f) p.chunk p.host p.bound d) (behind h)
neighbor_of {h = j} {d = n} r w (send_at {r = q} {i = i} a b c d e k l) same one shut = gram.on_neighbor w a b c d e k l (subst (λ m. ExprAt m (behind i) n j) (let back : r ≡ q = omega (arith, same) in back) one) shut

no_more_is : {r : ℕ} {f g : Front} → MoreAt r f [] g → g ≡ f
no_more_is gram.no_more = refl

module _ (room : ℕ) (inner : Level → Reader Node) (inside : (r : ℕ) → room ≡ suc r → (l : Level) (f : Front) → Reads (AtLevel r l f) (inner l f)) where
  type_inside : (r : ℕ) → room ≡ suc r → (f : Front) → Reads (TypeAt r f) (type_to room f)
  type_inside r e f = subst (λ k. Reads (TypeAt r f) (type_to k f)) (sym e) (types_read r f)

  more_inside : (r : ℕ) → room ≡ suc r → (limit : Limit) (most : ℕ) (done : List Node) (f : Front)
      → Reads (Added (MoreAt r) most done f) (more (inner levels.Whole) begins_expr symbols.Comma limit wanted.AnExpr most done f)
  more_inside r e limit most done f =
      more_reads (inner levels.Whole) begins_expr symbols.Comma limit wanted.AnExpr (ExprAt r) (MoreAt r) (λ g. gram.no_more) (λ g h i n ns here one many. gram.one_more here one many)
      (inside r e levels.Whole) most done f

  items_read : (r : ℕ) → room ≡ suc r → (Q : List Node → Front → Type 0) (close : Symbol) (limit : Limit) (most : ℕ) (f : Front)
      → ((all : List Node) (h : Front) → SomeAt r f all h → length all ≤ suc most → Sym close h → Q all (behind h)) → Reads Q (items_from inner room close limit most f)
  unfolding items_from
  items_read r e Q close limit most f k =
      after (ExprAt r f) Q (inner levels.Whole f) _ (inside r e levels.Whole f)
      (λ n g one. after (Added (MoreAt r) most (n ∷ []) g) Q (more (inner levels.Whole) begins_expr symbols.Comma limit wanted.AnExpr most (n ∷ []) g) _ (more_inside r e limit most (n ∷ []) g)
      (λ all h a. symbol_then Q close h _
      (λ shut. found_reads Q all (behind h)
      (subst (λ ns. Q ns (behind h)) (sym a.is) (k (n ∷ a.rest) h (gram.some one a.many) (let few = a.few in omega (arith, few)) shut)))))

  args_read : (f : Front) → Reads (ArgsAt room f) (arguments inner room f)
  unfolding arguments arguments_behind
  args_read f = bracket_then (λ s. ArgsAt s f) room f _
      (λ r e here. if_symbol (ArgsAt (suc r) f) symbols.ParenClose (behind f) _ _
      (λ shut. found_reads (ArgsAt (suc r) f) [] (behind2 f) (gram.no_args here shut))
      (either (ArgsAt (suc r) f) (begins_expr (behind f)) _ _
      (λ _. items_read r e (ArgsAt (suc r) f) symbols.ParenClose limits.Arguments 7 (behind f) (λ all h some few shut. gram.args here some few shut))
      (λ _. refusal_reads (ArgsAt (suc r) f) _)))

  call_reads : (f : Front) (name : Name) → Called name f → Reads (AtomAt room f) (call inner room name (place f) (behind f))
  unfolding call
  call_reads f name here =
      after (ArgsAt room (behind f)) (AtomAt room f) (arguments inner room (behind f)) _ (args_read (behind f)) (λ ns g a. found_reads (AtomAt room f) _ g (gram.call here a))

  named_reads : (f : Front) → Reads (AtomAt room f) (name_operand inner room f)
  unfolding name_operand
  named_reads f = name_then (AtomAt room f) f _
      (λ name here. if_symbol (AtomAt room f) symbols.ParenOpen (behind f) _ _ (λ _. call_reads f name here) (found_reads (AtomAt room f) _ (behind f) (gram.variable here)))

  chunk_reads : (f : Front) → Sym symbols.Bar f → Reads (AtomAt room f) (chunk inner room f)
  unfolding chunk
  chunk_reads f here = name_then (AtomAt room f) (behind f) _
      (λ name called. symbol_then (AtomAt room f) symbols.Bar (behind2 f) _
      (λ bar. after (ArgsAt room (behind3 f)) (AtomAt room f) (arguments inner room (behind3 f)) _ (args_read (behind3 f))
      (λ ns g a. found_reads (AtomAt room f) _ g (gram.chunk here called bar a))))

  tuple_reads : (r : ℕ) → room ≡ suc r → (f g : Front) (n : Node) → Sym symbols.ParenOpen f → ExprAt r (behind f) n g → Sym symbols.Comma g
      → Reads (AtomAt (suc r) f) (tuple inner room (place f) n g)
  unfolding tuple
  tuple_reads r e f g n here one comma =
      after (Added (MoreAt r) 7 (n ∷ []) g) (AtomAt (suc r) f) (more (inner levels.Whole) begins_expr symbols.Comma limits.Parts wanted.AnExpr 7 (n ∷ []) g) _ (more_inside r e limits.Parts 7 (n ∷ []) g)
      (λ all h a. symbol_then (AtomAt (suc r) f) symbols.ParenClose h _
      (λ shut. found_reads (AtomAt (suc r) f) (over_list (x.Tuple (trees all)) (place f) all) (behind h) (closed_reads_tuple a.rest all h a.is a.many a.few shut)))
    where
      closed_reads_tuple : (rest all : List Node) (h : Front) → all ≡ n ∷ rest → MoreAt r g rest h → length rest ≤ 7 → Sym symbols.ParenClose h
          → AtomAt (suc r) f (over_list (x.Tuple (trees all)) (place f) all) (behind h)
      closed_reads_tuple [] all h is many few shut = absurd (comma_is_no_bracket comma (subst (λ k. Sym symbols.ParenClose k) (no_more_is many) shut))
      closed_reads_tuple (m ∷ ns) all h is many few shut =
          subst (λ us. AtomAt (suc r) f (over_list (x.Tuple (trees us)) (place f) us) (behind h)) (sym is) (gram.tuple here one many few shut)

  grouped_reads : (r : ℕ) → room ≡ suc r → (f : Front) → Sym symbols.ParenOpen f → Reads (AtomAt (suc r) f) (grouped_expression inner room (place f) (behind f))
  unfolding grouped_expression single
  grouped_reads r e f here =
      after (ExprAt r (behind f)) (AtomAt (suc r) f) (inner levels.Whole (behind f)) _ (inside r e levels.Whole (behind f))
      (λ n g one. if_symbol (AtomAt (suc r) f) symbols.Comma g _ _ (tuple_reads r e f g n here one)
      (symbol_then (AtomAt (suc r) f) symbols.ParenClose g _ (λ shut. found_reads (AtomAt (suc r) f) n (behind g) (gram.in_brackets here one shut))))

  parens_read : (f : Front) → Sym symbols.ParenOpen f → Reads (AtomAt room f) (parens inner room f)
  unfolding parens parens_behind
  parens_read f here = opening_reads (λ s. AtomAt s f) room f _
      (λ r e. if_symbol (AtomAt (suc r) f) symbols.ParenClose (behind f) _ _
      (λ shut. found_reads (AtomAt (suc r) f) _ (behind2 f) (gram.no_value here shut))
      (either (AtomAt (suc r) f) (begins_expr (behind f)) _ _ (λ _. grouped_reads r e f here) (λ _. refusal_reads (AtomAt (suc r) f) _)))

  typed_nil_reads : (r : ℕ) → room ≡ suc r → (f : Front) → Sym symbols.BracketOpen f → Sym symbols.Colon (behind f)
      → Reads (AtomAt (suc r) f) (typed_nil inner room (place f) (behind f))
  unfolding typed_nil
  typed_nil_reads r e f here colon =
      after (TypeAt r (behind2 f)) (AtomAt (suc r) f) (type_to room (behind2 f)) _ (type_inside r e (behind2 f))
      (λ t g of. symbol_then (AtomAt (suc r) f) symbols.BracketClose g _ (λ shut. found_reads (AtomAt (suc r) f) _ (behind g) (gram.no_items_of here colon of shut)))

  listing_reads : (r : ℕ) → room ≡ suc r → (f : Front) → Sym symbols.BracketOpen f → Reads (AtomAt (suc r) f) (listing inner room (behind f))
  unfolding listing
  listing_reads r e f here =
      after (ExprAt r (behind f)) (AtomAt (suc r) f) (inner levels.Whole (behind f)) _ (inside r e levels.Whole (behind f))
      (λ n g one. after (Added (MoreAt r) 62 (n ∷ []) g) (AtomAt (suc r) f) (more (inner levels.Whole) begins_expr symbols.Comma limits.Items wanted.AnExpr 62 (n ∷ []) g) _ (more_inside r e limits.Items 62 (n ∷ []) g)
      (λ all h a. symbol_then (AtomAt (suc r) f) symbols.BracketClose h _
      (λ shut. found_reads (AtomAt (suc r) f) (bracketed_nodes all (leaf (x.Nil None) (place h))) (behind h)
      (subst (λ ns. AtomAt (suc r) f (bracketed_nodes ns (leaf (x.Nil None) (place h))) (behind h)) (sym a.is)
      (gram.items here (gram.some one a.many) (let few = a.few in omega (arith, few)) shut)))))

  brackets_read : (f : Front) → Sym symbols.BracketOpen f → Reads (AtomAt room f) (brackets inner room f)
  unfolding brackets brackets_behind
  brackets_read f here = opening_reads (λ s. AtomAt s f) room f _
      (λ r e. if_symbol (AtomAt (suc r) f) symbols.BracketClose (behind f) _ _
      (λ shut. found_reads (AtomAt (suc r) f) _ (behind2 f) (gram.no_items here shut))
      (if_symbol (AtomAt (suc r) f) symbols.Colon (behind f) _ _ (typed_nil_reads r e f here)
      (either (AtomAt (suc r) f) (begins_expr (behind f)) _ _ (λ _. listing_reads r e f here) (λ _. refusal_reads (AtomAt (suc r) f) _))))

  pub binding_reads : (r : ℕ) → room ≡ suc r → (at : ℕ) (f : Front) → Reads (ValAt r at f) (binding inner room at f)
  unfolding binding
  binding_reads r e at f =
      key_then (ValAt r at f) keys.Val f _
      (λ val. name_then (ValAt r at f) (behind f) _
      (λ name called. symbol_then (ValAt r at f) symbols.Colon (behind2 f) _
      (λ colon. after (TypeAt r (behind3 f)) (ValAt r at f) (type_to room (behind3 f)) _ (type_inside r e (behind3 f))
      (λ t g of. symbol_then (ValAt r at f) symbols.Equal g _
      (λ equal. after (ExprAt r (behind g)) (ValAt r at f) (inner levels.Whole (behind g)) _ (inside r e levels.Whole (behind g))
      (λ n h one. found_reads (ValAt r at f) _ h (gram.val val called colon of equal one)))))))

  -- what stands behind some `val` that were read
  abbrev Bounds : ℕ → List Bound → Front → List Bound → Front → Type 0
  Bounds r done f all g = (rest : List Bound) × (all ≡ done ++ rest) × ValsAt r f rest g

  bindings_read : (r : ℕ) → room ≡ suc r → (fuel : ℕ) (done : List Bound) (f : Front) → Reads (Bounds r done f) (bindings_from inner room fuel done f)
  unfolding bindings_from
  bindings_read r e zero done f = found_reads (Bounds r done f) done f ([], sym (append-nil done), gram.no_val)
  bindings_read r e (suc fuel) done f =
      if_key (Bounds r done f) keys.Val f _ _
      (λ _. after (ValAt r (place f) f) (Bounds r done f) (binding inner room (place f) f) _ (binding_reads r e (place f) f)
      (λ b g one. weaker (Bounds r (done ++ b ∷ []) g) (Bounds r done f) _ (bindings_read r e fuel (done ++ b ∷ []) g)
      (λ all h a. (b ∷ a.0, a.1 ∙ append_assoc done (b ∷ []) a.0, gram.one_val one a.2))))
      (found_reads (Bounds r done f) done f ([], sym (append-nil done), gram.no_val))

  let_reads : (f : Front) → Word keys.Let f → Reads (AtomAt room f) (let_form inner room f)
  unfolding let_form
  let_reads f here = opening_reads (λ s. AtomAt s f) room f _
      (λ r e. after (ValAt r (place f) (behind f)) (AtomAt (suc r) f) (binding inner room (place f) (behind f)) _ (binding_reads r e (place f) (behind f))
      (λ b g one. after (Bounds r (b ∷ []) g) (AtomAt (suc r) f) (bindings_from inner room (length g.tokens) (b ∷ []) g) _ (bindings_read r e (length g.tokens) (b ∷ []) g)
      (λ all h a. key_then (AtomAt (suc r) f) keys.In h _
      (λ inside_word. after (ExprAt r (behind h)) (AtomAt (suc r) f) (inner levels.Whole (behind h)) _ (inside r e levels.Whole (behind h))
      (λ n i body. key_then (AtomAt (suc r) f) keys.End i _
      (λ end. found_reads (AtomAt (suc r) f) (let_of all n) (behind i)
      (subst (λ bs. AtomAt (suc r) f (let_of bs n) (behind i)) (sym a.1) (gram.let_in here one a.2 inside_word body end))))))))

  clause_reads : (r : ℕ) → room ≡ suc r → (f : Front) → Reads (ClauseAt r f) (clause inner room f)
  unfolding clause
  clause_reads r e f = catch_then (ClauseAt r f) f _
      (λ any. symbol_then (ClauseAt r f) symbols.FatArrow (behind f) _
      (λ arrow. after (ExprAt r (behind2 f)) (ClauseAt r f) (inner levels.Whole (behind2 f)) _ (inside r e levels.Whole (behind2 f))
      (λ n g one. found_reads (ClauseAt r f) _ g (gram.last_clause any arrow one))))
      (λ name called. symbol_then (ClauseAt r f) symbols.FatArrow (behind f) _
      (λ arrow. after (ExprAt r (behind2 f)) (ClauseAt r f) (inner levels.Whole (behind2 f)) _ (inside r e levels.Whole (behind2 f))
      (λ n g one. found_reads (ClauseAt r f) _ g (gram.named_clause called arrow one))))

  follows_is : (Q : List Caught → Front → Type 0) (name : Option Name) (g : Front) (won lost : Result (List Caught × Front) ParseFault)
      → (is_some name ≡ true → Sym symbols.Bar g → Reads Q won) → Reads Q lost → Reads Q (if clause_follows name g then won else lost)
  unfolding clause_follows is_symbol
  follows_is Q None g won lost y n = n
  follows_is Q (Some m) g won lost y n = if_symbol Q symbols.Bar g won lost (y refl) n

  clauses_read : (r : ℕ) → room ≡ suc r → (left : ℕ) (done : List Caught) (f : Front) → Reads (Added (ClausesAt r) left done f) (clauses_from inner room left done f)
  unfolding clauses_from
  clauses_read r e zero done f = refusal_reads (Added (ClausesAt r) 0 done f) _
  clauses_read r e (suc left) done f =
      after (ClauseAt r f) (Added (ClausesAt r) (suc left) done f) (clause inner room f) _ (clause_reads r e f)
      (λ c g one. follows_is (Added (ClausesAt r) (suc left) done f) c.name g _ _
      (λ named bar. weaker (Added (ClausesAt r) left (done ++ c ∷ []) (behind g)) (Added (ClausesAt r) (suc left) done f) _ (clauses_read r e left (done ++ c ∷ []) (behind g))
      (λ all h a. record {
        rest = c ∷ a.rest;
        is = a.is ∙ append_assoc done (c ∷ []) a.rest;
        many = gram.more_clauses one named bar a.many;
        few = (let k = a.few in omega (arith, k));
      }))
      (found_reads (Added (ClausesAt r) (suc left) done f) (done ++ c ∷ []) g (record { rest = c ∷ []; is = refl; many = gram.one_clause one; few = omega arith })))

  try_reads : (f : Front) → Word keys.Try f → Reads (AtomAt room f) (try_form inner room f)
  unfolding try_form
  try_reads f here = opening_reads (λ s. AtomAt s f) room f _
      (λ r e. after (ExprAt r (behind f)) (AtomAt (suc r) f) (inner levels.Whole (behind f)) _ (inside r e levels.Whole (behind f))
      (λ n g body. key_then (AtomAt (suc r) f) keys.Handle g _
      (λ handle. after (Added (ClausesAt r) 8 [] (behind g)) (AtomAt (suc r) f) (clauses_from inner room 8 [] (behind g)) _ (clauses_read r e 8 [] (behind g))
      (λ all h a. key_then (AtomAt (suc r) f) keys.End h _
      (λ end. found_reads (AtomAt (suc r) f) (try_of (place f) n all) (behind h)
      (subst (λ cs. AtomAt (suc r) f (try_of (place f) n cs) (behind h)) (sym a.is) (gram.try_handle here body handle a.many a.few end)))))))

  raise_typed_reads : (f : Front) → Word keys.Raise f → Sym symbols.BracketOpen (behind f) → Reads (AtomAt room f) (raise_typed inner room (place f) (behind f))
  unfolding raise_typed
  raise_typed_reads f here bracket = opening_reads (λ s. AtomAt s f) room (behind f) _
      (λ r e. symbol_then (AtomAt (suc r) f) symbols.Colon (behind2 f) _
      (λ colon. after (TypeAt r (behind3 f)) (AtomAt (suc r) f) (type_to room (behind3 f)) _ (type_inside r e (behind3 f))
      (λ t g of. symbol_then (AtomAt (suc r) f) symbols.BracketClose g _
      (λ shut. name_then (AtomAt (suc r) f) (behind g) _
      (λ name called. found_reads (AtomAt (suc r) f) _ (behind2 g) (gram.raise_of here bracket colon of shut called))))))

  raise_reads : (f : Front) → Word keys.Raise f → Reads (AtomAt room f) (raise_form inner room f)
  unfolding raise_form raise_plain
  raise_reads f here = if_symbol (AtomAt room f) symbols.BracketOpen (behind f) _ _ (raise_typed_reads f here)
      (name_then (AtomAt room f) (behind f) _ (λ name called. found_reads (AtomAt room f) _ (behind2 f) (gram.raise here called)))

  fold_reads : (f : Front) → Reads (FoldAt room f) (fold_parts inner room f)
  unfolding fold_parts before_comma before_close
  fold_reads f = bracket_then (λ s. FoldAt s f) room (behind f) _
      (λ r e here. name_then (FoldAt (suc r) f) (behind2 f) _
      (λ name called. symbol_then (FoldAt (suc r) f) symbols.Comma (behind3 f) _
      (λ comma. before_then (ExprAt r (behind (behind3 f))) (FoldAt (suc r) f) symbols.Comma (inner levels.Whole (behind (behind3 f))) _ (inside r e levels.Whole (behind (behind3 f)))
      (λ a g start next. before_then (ExprAt r (behind g)) (FoldAt (suc r) f) symbols.ParenClose (inner levels.Whole (behind g)) _ (inside r e levels.Whole (behind g))
      (λ b h list shut. found_reads (FoldAt (suc r) f) _ (behind h) (fold_at here called comma start next list shut))))))

  foldl_reads : (f : Front) → Word keys.Foldl f → Reads (AtomAt room f) (foldl_form inner room f)
  unfolding foldl_form
  foldl_reads f here = after (FoldAt room f) (AtomAt room f) (fold_parts inner room f) _ (fold_reads f) (λ p g parts. found_reads (AtomAt room f) _ g (foldl_of here parts))

  foldr_reads : (f : Front) → Word keys.Foldr f → Reads (AtomAt room f) (foldr_form inner room f)
  unfolding foldr_form
  foldr_reads f here = after (FoldAt room f) (AtomAt room f) (fold_parts inner room f) _ (fold_reads f) (λ p g parts. found_reads (AtomAt room f) _ g (foldr_of here parts))

  eval_reads : (f : Front) → Word keys.Eval f → Reads (AtomAt room f) (eval_form inner room f)
  unfolding eval_form before_close
  eval_reads f here = bracket_then (λ s. AtomAt s f) room (behind f) _
      (λ r e bracket. before_then (ExprAt r (behind2 f)) (AtomAt (suc r) f) symbols.ParenClose (inner levels.Whole (behind2 f)) _ (inside r e levels.Whole (behind2 f))
      (λ a g one shut. found_reads (AtomAt (suc r) f) _ (behind g) (gram.eval here bracket one shut)))

  pub send_reads : (f : Front) → Reads (SendAt room f) (send_parts inner room f)
  unfolding send_parts before_comma
  send_reads f = bracket_then (λ s. SendAt s f) room (behind f) _
      (λ r e here. before_then (ExprAt r (behind2 f)) (SendAt (suc r) f) symbols.Comma (inner levels.Whole (behind2 f)) _ (inside r e levels.Whole (behind2 f))
      (λ a g one first. before_then (ExprAt r (behind g)) (SendAt (suc r) f) symbols.Comma (inner levels.Whole (behind g)) _ (inside r e levels.Whole (behind g))
      (λ b h two second. before_then (ExprAt r (behind h)) (SendAt (suc r) f) symbols.Comma (inner levels.Whole (behind h)) _ (inside r e levels.Whole (behind h))
      (λ c i three third. found_reads (SendAt (suc r) f) _ (behind i) (send_at here one first two second three third)))))

  remote_reads : (f : Front) → Word keys.OnRemote f → Reads (AtomAt room f) (remote_form inner room f)
  unfolding remote_form
  remote_reads f here = after (SendAt room f) (AtomAt room f) (send_parts inner room f) _ (send_reads f)
      (λ p g parts. name_then (AtomAt room f) g _
      (λ name called. symbol_then (AtomAt room f) symbols.ParenClose (behind g) _ (λ shut. found_reads (AtomAt room f) _ (behind2 g) (remote_of here parts called shut))))

  neighbor_reads : (f : Front) → Word keys.OnNeighbor f → Reads (AtomAt room f) (neighbor_form inner room f)
  unfolding neighbor_form before_close
  neighbor_reads f here = after (SendAt room f) (AtomAt room f) (send_parts inner room f) _ (send_reads f)
      (λ p g parts. let within = send_room parts in
      before_then (ExprAt within.0 g) (AtomAt room f) symbols.ParenClose (inner levels.Whole g) _ (inside within.0 within.1 levels.Whole g)
      (λ d h one shut. found_reads (AtomAt room f) _ (behind h) (neighbor_of within.0 here parts within.1 one shut)))

  literal_reads : (f : Front) (o : Option Expr) → literal (next_kind f) ≡ o → Reads (AtomAt room f) (literal_from f o)
  literal_reads f (Some e) h = found_reads (AtomAt room f) _ (behind f) (gram.one_token h)
  literal_reads f None h = refusal_reads (AtomAt room f) _

  key_reads : (f : Front) (k : Key) → next_kind f ≡ Some (kinds.Key k) → Reads (AtomAt room f) (key_form inner room k f)
  unfolding key_form
  key_reads f keys.Let e = let_reads f e
  key_reads f keys.Try e = try_reads f e
  key_reads f keys.Raise e = raise_reads f e
  key_reads f keys.Foldl e = foldl_reads f e
  key_reads f keys.Foldr e = foldr_reads f e
  key_reads f keys.Eval e = eval_reads f e
  key_reads f keys.OnRemote e = remote_reads f e
  key_reads f keys.OnNeighbor e = neighbor_reads f e
  key_reads f k e = literal_reads f (literal_key k) (ap literal e)

  symbol_reads : (f : Front) (s : Symbol) → next_kind f ≡ Some (kinds.Symbol s) → Reads (AtomAt room f) (symbol_form inner room s f)
  unfolding symbol_form
  symbol_reads f symbols.ParenOpen e = parens_read f e
  symbol_reads f symbols.BracketOpen e = brackets_read f e
  symbol_reads f symbols.Bar e = chunk_reads f e
  symbol_reads f s e = refusal_reads (AtomAt room f) _

  part_reads : (f : Front) (i : ℕ) → next_kind f ≡ Some (kinds.Part i) → Reads (PartAt room f) (picked_part inner room i f)
  unfolding picked_part
  part_reads f i here = opening_reads (λ s. PartAt s f) room f _
      (λ r e. after (PartAt r (behind f)) (PartAt (suc r) f) (inner levels.Operand (behind f)) _ (inside r e levels.Operand (behind f))
      (λ a g one. found_reads (PartAt (suc r) f) _ g (gram.part_of here one)))

  an_atom : (f : Front) (r : Result (Node × Front) ParseFault) → Reads (AtomAt room f) r → Reads (PartAt room f) r
  an_atom f r k = weaker (AtomAt room f) (PartAt room f) r k (λ n g a. gram.atom a)

  by_kind : (f : Front) (o : Option TokenKind) → next_kind f ≡ o → Reads (PartAt room f) (operand_kind inner room f o)
  by_kind f (Some (kinds.Word n)) e = an_atom f _ (named_reads f)
  by_kind f (Some (kinds.Key k)) e = an_atom f _ (key_reads f k e)
  by_kind f (Some (kinds.Symbol s)) e = an_atom f _ (symbol_reads f s e)
  by_kind f (Some (kinds.Part i)) e = part_reads f i e
  by_kind f k e = an_atom f _ (literal_reads f (literal k) (ap literal e))

  pub operand_reads : (f : Front) → Reads (PartAt room f) (operand inner room f)
  unfolding operand
  operand_reads f = by_kind f (next_kind f) refl

  pub product_reads : (f : Front) → Reads (MulAt room f) (product inner room f)
  unfolding product
  product_reads f = chained_reads inner room (operand inner room) chains.Product (PartAt room) (MulAt room) (λ i g h a b j m e p. gram.more_factors m e p) (λ i g n p. gram.one_factor p) operand_reads f

  addition_reads : (f : Front) → Reads (AddAt room f) (addition inner room f)
  unfolding addition
  addition_reads f = chained_reads inner room (product inner room) chains.Sum (MulAt room) (AddAt room) (λ i g h a b j m e p. gram.more_terms m e p) (λ i g n p. gram.one_term p) product_reads f

  list_reads : (f g : Front) (n : Node) → AddAt room f n g → Sym symbols.DoubleColon g → Reads (ConsAt room f) (before_list inner room n (behind g))
  unfolding before_list
  list_reads f g n item colons = opened_at (λ s. ConsAt s f) begins_operand room (behind g) _
      (λ r e. after (ConsAt r (behind g)) (ConsAt (suc r) f) (inner levels.Listed (behind g)) _ (inside r e levels.Listed (behind g))
      (λ b h one. found_reads (ConsAt (suc r) f) _ h (gram.before_list (subst (λ s. AddAt s f n g) e item) colons one)))

  listed_reads : (f : Front) → Reads (ConsAt room f) (listed_operands inner room f)
  unfolding listed_operands
  listed_reads f = after (AddAt room f) (ConsAt room f) (addition inner room f) _ (addition_reads f)
      (λ n g item. if_symbol (ConsAt room f) symbols.DoubleColon g _ _ (list_reads f g n item) (found_reads (ConsAt room f) n g (gram.no_list item)))

  compared_reads : (f g : Front) (n : Node) → ConsAt room f n g → (o : Option Joint) → joint_of chains.Comparison (next_kind g) ≡ o
      → Reads (CmpAt room f) (compared_operands inner room n g o)
  compared_reads f g n left (Some j) e =
      after (ConsAt room (behind g)) (CmpAt room f) (listed_operands inner room (behind g)) _ (listed_reads (behind g)) (λ b h right. found_reads (CmpAt room f) _ h (gram.two_sides left e right))
  compared_reads f g n left None e = found_reads (CmpAt room f) n g (gram.one_side left)

  comparison_reads : (f : Front) → Reads (CmpAt room f) (comparison inner room f)
  unfolding comparison
  comparison_reads f = after (ConsAt room f) (CmpAt room f) (listed_operands inner room f) _ (listed_reads f) (λ n g left. compared_reads f g n left (joint_of chains.Comparison (next_kind g)) refl)

  negation_reads : (f : Front) → Word keys.Not f → Reads (NotAt room f) (negation inner room f)
  unfolding negation
  negation_reads f here = opening_reads (λ s. NotAt s f) room f _
      (λ r e. after (NotAt r (behind f)) (NotAt (suc r) f) (inner levels.Negated (behind f)) _ (inside r e levels.Negated (behind f))
      (λ a g one. found_reads (NotAt (suc r) f) _ g (gram.negation here one)))

  pub negated_reads : (f : Front) → Reads (NotAt room f) (negated_operand inner room f)
  unfolding negated_operand
  negated_reads f = if_key (NotAt room f) keys.Not f _ _ (negation_reads f) (weaker (CmpAt room f) (NotAt room f) _ (comparison_reads f) (λ n g c. gram.comparison c))

  pub conjunction_reads : (f : Front) → Reads (AndAt room f) (conjunction inner room f)
  unfolding conjunction
  conjunction_reads f = chained_reads inner room (negated_operand inner room) chains.And (NotAt room) (AndAt room) (λ i g h a b j m e p. gram.more_and m e p) (λ i g n p. gram.one_not p) negated_reads f

  disjunction_reads : (f : Front) → Reads (OrAt room f) (disjunction inner room f)
  unfolding disjunction
  disjunction_reads f = chained_reads inner room (conjunction inner room) chains.Or (AndAt room) (OrAt room) (λ i g h a b j m e p. gram.more_or m e p) (λ i g n p. gram.one_and p) conjunction_reads f

  condition_reads : (f : Front) → Word keys.If f → Reads (LowAt room f) (condition inner room f)
  unfolding condition
  condition_reads f here = opening_reads (λ s. LowAt s f) room f _
      (λ r e. after (ExprAt r (behind f)) (LowAt (suc r) f) (inner levels.Whole (behind f)) _ (inside r e levels.Whole (behind f))
      (λ c g test. key_then (LowAt (suc r) f) keys.Then g _
      (λ then_word. after (LowAt r (behind g)) (LowAt (suc r) f) (inner levels.Low (behind g)) _ (inside r e levels.Low (behind g))
      (λ a h first. key_then (LowAt (suc r) f) keys.Else h _
      (λ else_word. after (LowAt r (behind h)) (LowAt (suc r) f) (inner levels.Low (behind h)) _ (inside r e levels.Low (behind h))
      (λ b i second. found_reads (LowAt (suc r) f) _ i (gram.if_then_else here test then_word first else_word second)))))))

  low_reads : (f : Front) → Reads (LowAt room f) (low inner room f)
  unfolding low
  low_reads f = if_key (LowAt room f) keys.If f _ _ (condition_reads f) (weaker (OrAt room f) (LowAt room f) _ (disjunction_reads f) (λ n g o. gram.disjunction o))

  next_reads : (f g : Front) (n : Node) → LowAt room f n g → Sym symbols.Semicolon g → Reads (ExprAt room f) (before_next inner room n (behind g))
  unfolding before_next
  next_reads f g n first semicolon = opened_at (λ s. ExprAt s f) begins_expr room (behind g) _
      (λ r e. after (ExprAt r (behind g)) (ExprAt (suc r) f) (inner levels.Whole (behind g)) _ (inside r e levels.Whole (behind g))
      (λ b h one. found_reads (ExprAt (suc r) f) _ h (gram.then_next (subst (λ s. LowAt s f n g) e first) semicolon one)))

  whole_reads : (f : Front) → Reads (ExprAt room f) (whole inner room f)
  unfolding whole
  whole_reads f = after (LowAt room f) (ExprAt room f) (low inner room f) _ (low_reads f)
      (λ n g first. if_symbol (ExprAt room f) symbols.Semicolon g _ _ (next_reads f g n first) (found_reads (ExprAt room f) n g (gram.low first)))

  pub level_reads : (l : Level) (f : Front) → Reads (AtLevel room l f) (at_level inner room l f)
  unfolding at_level
  level_reads levels.Whole f = whole_reads f
  level_reads levels.Low f = low_reads f
  level_reads levels.Negated f = negated_reads f
  level_reads levels.Listed f = listed_reads f
  level_reads levels.Operand f = operand_reads f

-- an expression that is read is one
pub exprs_read : (r : ℕ) (l : Level) (f : Front) → Reads (AtLevel r l f) (expr_to (suc r) l f)
unfolding expr_to
exprs_read zero l f = level_reads 0 (expr_to 0) (λ r e m g. absurd (let no : 0 ≡ suc r = e in omega (arith, no))) l f
exprs_read (suc r) l f = level_reads (suc r) (expr_to (suc r)) (λ s e m g. subst (λ k. Reads (AtLevel k m g) (expr_to (suc r) m g)) (let same : suc r ≡ suc s = e in omega (arith, same)) (exprs_read r m g)) l f
