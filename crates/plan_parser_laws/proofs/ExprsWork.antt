-- The reading of an expression works off its agenda.
use Rattle.std.proofs.Common.{◌≡◌, ◌-◌, ◌≤◌, ℕ, zero, suc, Bool, true, false, List, [], ◌∷◌, ◌++◌, length, Option, Some, None, is_some, Result, Ok, Err, if◌then◌else◌, refl, sym as back, ap, subst, arith}
use Rattle.plan_base.specs.declared.limit.Limit.{Limit}
use Rattle.plan_base.specs.declared.limit.Limit.TheVariants as limits
use Rattle.plan_base.specs.declared.name.Name.{Name}
use Rattle.plan_base.specs.Sizes.{type_depth}
use Rattle.plan_lexer.specs.declared.token.TokenKind.{TokenKind}
use Rattle.plan_lexer.specs.declared.token.TokenKind.TheVariants as kinds
use Rattle.plan_lexer.specs.declared.token.Key.{Key}
use Rattle.plan_lexer.specs.declared.token.Key.TheVariants as keys
use Rattle.plan_lexer.specs.declared.token.Symbol.{Symbol}
use Rattle.plan_lexer.specs.declared.token.Symbol.TheVariants as symbols
use Rattle.plan_parser_exprs.specs.declared.fault.ParseFault.{ParseFault}
use Rattle.plan_parser_exprs.specs.declared.fault.Wanted.TheVariants as wanted
use Rattle.plan_parser_exprs.specs.declared.joint.Joint.{Joint}
use Rattle.plan_parser_exprs.specs.declared.joint.Chain.{Chain}
use Rattle.plan_parser_exprs.specs.declared.joint.Chain.TheVariants as chains
use Rattle.plan_parser_exprs.specs.declared.level.Level.{Level}
use Rattle.plan_parser_exprs.specs.declared.level.Level.TheVariants as levels
use Rattle.plan_parser_exprs.specs.declared.node.Node.{Node}
use Rattle.plan_parser_exprs.specs.declared.node.Bound.{Bound}
use Rattle.plan_parser_exprs.specs.declared.node.Caught.{Caught}
use Rattle.plan_parser_exprs.specs.Ahead.{Front, Reader, place, behind, next_kind, name_at, is_symbol, is_key, is_key_kind}
use Rattle.plan_parser_exprs.specs.Begins.{begins_operand, begins_expr}
use Rattle.plan_parser_exprs.specs.Types.{past, more, type_to}
use Rattle.plan_parser_exprs.specs.Joints.{joint_of}
use Rattle.plan_parser_exprs.specs.Nodes.{joined_nodes}
use Rattle.plan_parser_exprs.specs.Exprs.{begins_clause, catch_at, clause_follows, chain_step, chain_from, items_from, arguments_behind, arguments, call, name_operand, chunk, tuple, single}
use Rattle.plan_parser_exprs.specs.Exprs.{grouped_expression, parens_behind, parens, typed_nil, listing, brackets_behind, brackets, binding, bindings_from, let_form, clause, clauses_from, try_form}
use Rattle.plan_parser_exprs.specs.Exprs.{raise_typed, raise_plain, raise_form, before_comma, before_close, fold_parts, foldl_form, foldr_form, eval_form, send_parts, remote_form, neighbor_form}
use Rattle.plan_parser_exprs.specs.Exprs.{key_form, symbol_form, picked_part, operand_kind, operand, chained_operands, product, addition, before_list, compared_operands, comparison, negation}
use Rattle.plan_parser_exprs.specs.Exprs.{conjunction, disjunction, condition, before_next, at_level, expr_to}
use Rattle.plan_parser_exprs.specs.Exprs as read
use Rattle.plan_parser_laws.specs.Grammar.{ValAt, NotAt, AndAt, MulAt, PartAt}
use Rattle.plan_parser_laws.specs.Agenda as item
use Rattle.plan_parser_laws.specs.Agenda.{GrammarItem, Form, sym, word, a_name, a_type, open_bracket, more_items, more_vals, clauses, maybe_clause, GrammarStep, enter, inside, hand, side, a_val, key_step, symbol_step, operand_step, step}
use Rattle.plan_parser_laws.proofs.TokenFacts.{key_stands}
use Rattle.plan_parser_laws.proofs.Follows.{Shorter, skip, joint_stands}
use Rattle.plan_parser_laws.proofs.ReadSteps.{Reads}
use Rattle.plan_parser_laws.proofs.ExprsRead.{AtLevel, SendAt, send_room, binding_reads, operand_reads, product_reads, negated_reads, conjunction_reads, send_reads, exprs_read}
use Rattle.plan_parser_laws.proofs.Shorters.{val_shorter, not_shorter, and_shorter, mul_shorter, part_shorter}
use Rattle.plan_parser_laws.proofs.Works.{Works, Follows, goes_on, stops, begin, after, after_read, given_works, either_works, both, both_then, symbol_works, key_works, name_works, some_name_works, enters, right_works, open_works}
use Rattle.plan_parser_laws.proofs.TypesWork.{types_work}

-- what is read at a level
abbrev pub at_item : Level → ℕ → GrammarItem
at_item levels.Whole r = item.whole r
at_item levels.Low r = item.low r
at_item levels.Negated r = item.negated r
at_item levels.Listed r = item.listed r
at_item levels.Operand r = item.operand r

-- where no token is left no `val` stands, and no joint
no_val : (f : Front) → length f.tokens ≤ 0 → is_key keys.Val f ≡ false
unfolding is_key
no_val f enough = go (is_key_kind keys.Val (next_kind f)) refl
  where
    go : (b : Bool) → is_key_kind keys.Val (next_kind f) ≡ b → is_key_kind keys.Val (next_kind f) ≡ false
    go false e = e
    go true e = let l = (skip (key_stands keys.Val (next_kind f) e)).less in absurd (omega (arith, l, enough))

no_joint_left : (c : Chain) (f : Front) → length f.tokens ≤ 0 → joint_of c (next_kind f) ≡ None
no_joint_left c f enough = go (joint_of c (next_kind f)) refl
  where
    go : (o : Option Joint) → joint_of c (next_kind f) ≡ o → joint_of c (next_kind f) ≡ None
    go None e = e
    go (Some j) e = let l = (joint_stands c f j e).less in absurd (omega (arith, l, enough))

-- a ninth clause is refused
abbrev refused_clause : Front → Result (List Caught × Front) ParseFault
refused_clause f = Err (past begins_clause limits.Clauses wanted.AName f)

no_clause : (r : ℕ) (rest : List GrammarItem) (f : Front) → Works (clauses r 0 ∷ rest) f (λ _. rest) (refused_clause f)
unfolding step
no_clause r rest f = begin (clauses r 0) rest f (λ _. rest) _ (stops _ (λ _. rest))

module _ (room : ℕ) (inner : Level → Reader Node)
    (sound : (r : ℕ) → room ≡ suc r → (l : Level) (f : Front) → Reads (AtLevel r l f) (inner l f))
    (within : (r : ℕ) → room ≡ suc r → (l : Level) (rest : List GrammarItem) (f : Front) → Works (at_item l r ∷ rest) f (λ _. rest) (inner l f)) where
  -- an agenda that ends with what was to come
  abbrev Done : {A : Type 0} → List GrammarItem → Front → List GrammarItem → Result (A × Front) ParseFault → Type 0
  Done now f rest r = Works now f (λ _. rest) r

  abbrev Left : {A : Type 0} → GrammarStep → List GrammarItem → Result (A × Front) ParseFault → Type 0
  Left s rest r = Follows s (λ _. rest) r

  type_within : (r : ℕ) → room ≡ suc r → (rest : List GrammarItem) (f : Front) → Works (a_type r ∷ rest) f (λ t. hand (type_depth t) rest) (type_to room f)
  type_within r e rest f = subst (λ k. Works (a_type r ∷ rest) f (λ t. hand (type_depth t) rest) (type_to k f)) (back e) (types_work r rest f)

  more_work : (r : ℕ) → room ≡ suc r → (limit : Limit) (rest : List GrammarItem) (left : ℕ) (done : List Node) (f : Front)
      → Done (more_items limit r left ∷ rest) f rest (more (inner levels.Whole) begins_expr symbols.Comma limit wanted.AnExpr left done f)
  unfolding more step
  more_work r e limit rest zero done f =
      begin (more_items limit r 0) rest f (λ _. rest) _ (both (is_symbol symbols.Comma f) _ _ (λ _. rest) _ _ (stops _ (λ _. rest)) (goes_on (given_works (λ _. rest) done f)))
  more_work r e limit rest (suc left) done f =
      begin (more_items limit r (suc left)) rest f (λ _. rest) _ (both (is_symbol symbols.Comma f) _ _ (λ _. rest) _ _
      (goes_on (after (item.whole r ∷ more_items limit r left ∷ rest) (behind f) (λ _. more_items limit r left ∷ rest) (λ _. rest) (inner levels.Whole (behind f)) _
      (within r e levels.Whole (more_items limit r left ∷ rest) (behind f)) (λ n g. more_work r e limit rest left (done ++ n ∷ []) g)))
      (goes_on (given_works (λ _. rest) done f)))

  items_work : (r : ℕ) → room ≡ suc r → (close : Symbol) (limit : Limit) (most : ℕ) (rest : List GrammarItem) (f : Front)
      → Done (item.whole r ∷ more_items limit r most ∷ sym close ∷ rest) f rest (items_from inner room close limit most f)
  unfolding items_from
  items_work r e close limit most rest f =
      after (item.whole r ∷ more_items limit r most ∷ sym close ∷ rest) f (λ _. more_items limit r most ∷ sym close ∷ rest) (λ _. rest) (inner levels.Whole f) _
      (within r e levels.Whole (more_items limit r most ∷ sym close ∷ rest) f)
      (λ n g. after (more_items limit r most ∷ sym close ∷ rest) g (λ _. sym close ∷ rest) (λ _. rest) (more (inner levels.Whole) begins_expr symbols.Comma limit wanted.AnExpr most (n ∷ []) g) _
      (more_work r e limit (sym close ∷ rest) most (n ∷ []) g)
      (λ all h. symbol_works close rest h (λ _. rest) _ (given_works (λ _. rest) all (behind h))))

  behind_args : (r : ℕ) → room ≡ suc r → (rest : List GrammarItem) (f : Front) → Done (item.args r ∷ rest) f rest (arguments_behind inner room f)
  unfolding arguments_behind step
  behind_args r e rest f =
      begin (item.args r) rest f (λ _. rest) _ (both (is_symbol symbols.ParenClose f) _ _ (λ _. rest) _ _ (goes_on (given_works (λ _. rest) [] (behind f)))
      (both (begins_expr f) _ _ (λ _. rest) _ _ (goes_on (items_work r e symbols.ParenClose limits.Arguments 7 rest f)) (stops _ (λ _. rest))))

  args_work : (rest : List GrammarItem) (f : Front) → Done (open_bracket room item.a_call ∷ rest) f rest (arguments inner room f)
  unfolding arguments
  args_work rest f = open_works room item.a_call rest f (λ _. rest) _ (λ r e. behind_args r e rest (behind f))

  call_works : (name : Name) (at : ℕ) (rest : List GrammarItem) (f : Front) → Done (open_bracket room item.a_call ∷ rest) f rest (call inner room name at f)
  unfolding call
  call_works name at rest f =
      after (open_bracket room item.a_call ∷ rest) f (λ _. rest) (λ _. rest) (arguments inner room f) _ (args_work rest f) (λ ns g. given_works (λ _. rest) _ g)

  maybe_call_works : (name : Name) (at : ℕ) (x : Node) (rest : List GrammarItem) (f : Front)
      → Done (item.maybe_call room ∷ rest) f rest (if is_symbol symbols.ParenOpen f then call inner room name at f else Ok (x, f))
  unfolding step
  maybe_call_works name at x rest f =
      begin (item.maybe_call room) rest f (λ _. rest) _ (both (is_symbol symbols.ParenOpen f) _ _ (λ _. rest) _ _ (goes_on (call_works name at rest f)) (goes_on (given_works (λ _. rest) x f)))

  named_works : (f : Front) (name : Name) → next_kind f ≡ Some (kinds.Word name) → (rest : List GrammarItem) → Done (item.maybe_call room ∷ rest) (behind f) rest (name_operand inner room f)
  unfolding name_operand name_at
  named_works f name e rest = rw e (maybe_call_works name (place f) _ rest (behind f))

  chunk_works : (rest : List GrammarItem) (f : Front) → Done (a_name ∷ sym symbols.Bar ∷ open_bracket room item.a_call ∷ rest) (behind f) rest (chunk inner room f)
  unfolding chunk
  chunk_works rest f =
      name_works (sym symbols.Bar ∷ open_bracket room item.a_call ∷ rest) (behind f) (λ _. rest) _
      (λ name. symbol_works symbols.Bar (open_bracket room item.a_call ∷ rest) (behind (behind f)) (λ _. rest) _
      (after (open_bracket room item.a_call ∷ rest) (behind (behind (behind f))) (λ _. rest) (λ _. rest) (arguments inner room (behind (behind (behind f)))) _
      (args_work rest (behind (behind (behind f)))) (λ ns g. given_works (λ _. rest) _ g)))

  tuple_works : (r : ℕ) → room ≡ suc r → (at : ℕ) (n : Node) (rest : List GrammarItem) (f : Front)
      → Done (more_items limits.Parts r 7 ∷ sym symbols.ParenClose ∷ rest) f rest (tuple inner room at n f)
  unfolding tuple
  tuple_works r e at n rest f =
      after (more_items limits.Parts r 7 ∷ sym symbols.ParenClose ∷ rest) f (λ _. sym symbols.ParenClose ∷ rest) (λ _. rest)
      (more (inner levels.Whole) begins_expr symbols.Comma limits.Parts wanted.AnExpr 7 (n ∷ []) f) _ (more_work r e limits.Parts (sym symbols.ParenClose ∷ rest) 7 (n ∷ []) f)
      (λ all h. symbol_works symbols.ParenClose rest h (λ _. rest) _ (given_works (λ _. rest) _ (behind h)))

  single_works : (n : Node) (rest : List GrammarItem) (f : Front) → Done (sym symbols.ParenClose ∷ rest) f rest (single inner room n f)
  unfolding single
  single_works n rest f = symbol_works symbols.ParenClose rest f (λ _. rest) _ (given_works (λ _. rest) n (behind f))

  alone_works : (r : ℕ) (n : Node) (rest : List GrammarItem) (f : Front) → is_symbol symbols.Comma f ≡ false
      → Done (more_items limits.Parts r 7 ∷ sym symbols.ParenClose ∷ rest) f rest (single inner room n f)
  unfolding step
  alone_works r n rest f none = begin (more_items limits.Parts r 7) (sym symbols.ParenClose ∷ rest) f (λ _. rest) _ (rw none (goes_on (single_works n rest f)))

  grouped_works : (r : ℕ) → room ≡ suc r → (at : ℕ) (rest : List GrammarItem) (f : Front)
      → Done (item.whole r ∷ more_items limits.Parts r 7 ∷ sym symbols.ParenClose ∷ rest) f rest (grouped_expression inner room at f)
  unfolding grouped_expression
  grouped_works r e at rest f =
      after (item.whole r ∷ more_items limits.Parts r 7 ∷ sym symbols.ParenClose ∷ rest) f (λ _. more_items limits.Parts r 7 ∷ sym symbols.ParenClose ∷ rest) (λ _. rest) (inner levels.Whole f) _
      (within r e levels.Whole (more_items limits.Parts r 7 ∷ sym symbols.ParenClose ∷ rest) f)
      (λ n g. either_works (more_items limits.Parts r 7 ∷ sym symbols.ParenClose ∷ rest) g (λ _. rest) (is_symbol symbols.Comma g) _ _
      (λ _. tuple_works r e at n rest g) (λ none. alone_works r n rest g none))

  behind_paren_works : (r : ℕ) → room ≡ suc r → (at : ℕ) (rest : List GrammarItem) (f : Front) → Done (item.behind_paren r ∷ rest) f rest (parens_behind inner room at f)
  unfolding parens_behind step
  behind_paren_works r e at rest f =
      begin (item.behind_paren r) rest f (λ _. rest) _ (both (is_symbol symbols.ParenClose f) _ _ (λ _. rest) _ _ (goes_on (given_works (λ _. rest) _ (behind f)))
      (both (begins_expr f) _ _ (λ _. rest) _ _ (goes_on (grouped_works r e at rest f)) (stops _ (λ _. rest))))

  parens_work : (rest : List GrammarItem) (f : Front) → Left (enter room f (λ q. item.behind_paren q ∷ rest) (behind f)) rest (parens inner room f)
  unfolding parens
  parens_work rest f = enters room f (λ q. item.behind_paren q ∷ rest) (behind f) (λ _. rest) _ (λ r e. behind_paren_works r e (place f) rest (behind f))

  typed_nil_works : (r : ℕ) → room ≡ suc r → (at : ℕ) (rest : List GrammarItem) (f : Front) → Done (a_type r ∷ sym symbols.BracketClose ∷ rest) (behind f) rest (typed_nil inner room at f)
  unfolding typed_nil
  typed_nil_works r e at rest f =
      after (a_type r ∷ sym symbols.BracketClose ∷ rest) (behind f) (λ _. sym symbols.BracketClose ∷ rest) (λ _. rest) (type_to room (behind f)) _
      (type_within r e (sym symbols.BracketClose ∷ rest) (behind f)) (λ t g. symbol_works symbols.BracketClose rest g (λ _. rest) _ (given_works (λ _. rest) _ (behind g)))

  listing_works : (r : ℕ) → room ≡ suc r → (rest : List GrammarItem) (f : Front)
      → Done (item.whole r ∷ more_items limits.Items r 62 ∷ sym symbols.BracketClose ∷ rest) f rest (listing inner room f)
  unfolding listing
  listing_works r e rest f =
      after (item.whole r ∷ more_items limits.Items r 62 ∷ sym symbols.BracketClose ∷ rest) f (λ _. more_items limits.Items r 62 ∷ sym symbols.BracketClose ∷ rest) (λ _. rest) (inner levels.Whole f) _
      (within r e levels.Whole (more_items limits.Items r 62 ∷ sym symbols.BracketClose ∷ rest) f)
      (λ n g. after (more_items limits.Items r 62 ∷ sym symbols.BracketClose ∷ rest) g (λ _. sym symbols.BracketClose ∷ rest) (λ _. rest)
      (more (inner levels.Whole) begins_expr symbols.Comma limits.Items wanted.AnExpr 62 (n ∷ []) g) _ (more_work r e limits.Items (sym symbols.BracketClose ∷ rest) 62 (n ∷ []) g)
      (λ all h. symbol_works symbols.BracketClose rest h (λ _. rest) _ (given_works (λ _. rest) _ (behind h))))

  behind_bracket_works : (r : ℕ) → room ≡ suc r → (at : ℕ) (rest : List GrammarItem) (f : Front) → Done (item.behind_bracket r ∷ rest) f rest (brackets_behind inner room at f)
  unfolding brackets_behind step
  behind_bracket_works r e at rest f =
      begin (item.behind_bracket r) rest f (λ _. rest) _ (both (is_symbol symbols.BracketClose f) _ _ (λ _. rest) _ _ (goes_on (given_works (λ _. rest) _ (behind f)))
      (both (is_symbol symbols.Colon f) _ _ (λ _. rest) _ _ (goes_on (typed_nil_works r e at rest f))
      (both (begins_expr f) _ _ (λ _. rest) _ _ (goes_on (listing_works r e rest f)) (stops _ (λ _. rest)))))

  brackets_work : (rest : List GrammarItem) (f : Front) → Left (enter room f (λ q. item.behind_bracket q ∷ rest) (behind f)) rest (brackets inner room f)
  unfolding brackets
  brackets_work rest f = enters room f (λ q. item.behind_bracket q ∷ rest) (behind f) (λ _. rest) _ (λ r e. behind_bracket_works r e (place f) rest (behind f))

  val_works : (r : ℕ) → room ≡ suc r → (at : ℕ) (rest : List GrammarItem) (f : Front) → Done (a_val r rest) f rest (binding inner room at f)
  unfolding binding
  val_works r e at rest f =
      key_works keys.Val (a_name ∷ sym symbols.Colon ∷ a_type r ∷ sym symbols.Equal ∷ item.whole r ∷ rest) f (λ _. rest) _
      (name_works (sym symbols.Colon ∷ a_type r ∷ sym symbols.Equal ∷ item.whole r ∷ rest) (behind f) (λ _. rest) _
      (λ name. symbol_works symbols.Colon (a_type r ∷ sym symbols.Equal ∷ item.whole r ∷ rest) (behind (behind f)) (λ _. rest) _
      (after (a_type r ∷ sym symbols.Equal ∷ item.whole r ∷ rest) (behind (behind (behind f))) (λ _. sym symbols.Equal ∷ item.whole r ∷ rest) (λ _. rest) (type_to room (behind (behind (behind f)))) _
      (type_within r e (sym symbols.Equal ∷ item.whole r ∷ rest) (behind (behind (behind f))))
      (λ t g. symbol_works symbols.Equal (item.whole r ∷ rest) g (λ _. rest) _
      (after (item.whole r ∷ rest) (behind g) (λ _. rest) (λ _. rest) (inner levels.Whole (behind g)) _ (within r e levels.Whole rest (behind g)) (λ n h. given_works (λ _. rest) _ h))))))

  vals_work : (r : ℕ) → room ≡ suc r → (rest : List GrammarItem) (fuel : ℕ) (done : List Bound) (f : Front) → length f.tokens ≤ fuel
      → Done (more_vals r ∷ rest) f rest (bindings_from inner room fuel done f)
  unfolding bindings_from step
  vals_work r e rest zero done f enough = begin (more_vals r) rest f (λ _. rest) _ (rw (no_val f enough) (goes_on (given_works (λ _. rest) done f)))
  vals_work r e rest (suc fuel) done f enough =
      begin (more_vals r) rest f (λ _. rest) _ (both (is_key keys.Val f) _ _ (λ _. rest) _ _
      (goes_on (after_read (ValAt r (place f) f) (a_val r (more_vals r ∷ rest)) f (λ _. more_vals r ∷ rest) (λ _. rest) (binding inner room (place f) f) _
      (val_works r e (place f) (more_vals r ∷ rest) f) (binding_reads room inner sound r e (place f) f)
      (λ b g d. vals_work r e rest fuel (done ++ b ∷ []) g (let l = (val_shorter d).less in omega (arith, l, enough)))))
      (goes_on (given_works (λ _. rest) done f)))

  let_works : (rest : List GrammarItem) (f : Front)
      → Left (enter room f (λ q. a_val q (more_vals q ∷ word keys.In ∷ item.whole q ∷ word keys.End ∷ rest)) (behind f)) rest (let_form inner room f)
  unfolding let_form
  let_works rest f =
      enters room f (λ q. a_val q (more_vals q ∷ word keys.In ∷ item.whole q ∷ word keys.End ∷ rest)) (behind f) (λ _. rest) _
      (λ r e. let tail : List GrammarItem = word keys.In ∷ item.whole r ∷ word keys.End ∷ rest in
      after (a_val r (more_vals r ∷ tail)) (behind f) (λ _. more_vals r ∷ tail) (λ _. rest) (binding inner room (place f) (behind f)) _ (val_works r e (place f) (more_vals r ∷ tail) (behind f))
      (λ b g. after (more_vals r ∷ tail) g (λ _. tail) (λ _. rest) (bindings_from inner room (length g.tokens) (b ∷ []) g) _ (vals_work r e tail (length g.tokens) (b ∷ []) g (omega arith))
      (λ all h. key_works keys.In (item.whole r ∷ word keys.End ∷ rest) h (λ _. rest) _
      (after (item.whole r ∷ word keys.End ∷ rest) (behind h) (λ _. word keys.End ∷ rest) (λ _. rest) (inner levels.Whole (behind h)) _ (within r e levels.Whole (word keys.End ∷ rest) (behind h))
      (λ n i. key_works keys.End rest i (λ _. rest) _ (given_works (λ _. rest) _ (behind i)))))))

  -- what may stand behind a clause
  abbrev Behind : ℕ → ℕ → List GrammarItem → Option Name → List GrammarItem
  Behind r left rest name = if is_some name then maybe_clause r left ∷ rest else rest

  clause_works : (r : ℕ) → room ≡ suc r → (left : ℕ) (rest : List GrammarItem) (f : Front) → Works (clauses r (suc left) ∷ rest) f (λ c. Behind r left rest c.name) (clause inner room f)
  unfolding clause catch_at step
  clause_works r e left rest f =
      let next : Caught → List GrammarItem = λ c. Behind r left rest c.name in
      begin (clauses r (suc left)) rest f next _ (both_then (is_symbol symbols.Underscore f) _ _ next _ _ _
      (goes_on (symbol_works symbols.FatArrow (item.whole r ∷ rest) (behind f) next _
      (after (item.whole r ∷ rest) (behind (behind f)) (λ _. rest) next (inner levels.Whole (behind (behind f))) _ (within r e levels.Whole rest (behind (behind f)))
      (λ n g. given_works next (record { name = None; body = n }) g))))
      (goes_on (some_name_works (sym symbols.FatArrow ∷ item.whole r ∷ maybe_clause r left ∷ rest) f next _
      (λ name. symbol_works symbols.FatArrow (item.whole r ∷ maybe_clause r left ∷ rest) (behind f) next _
      (after (item.whole r ∷ maybe_clause r left ∷ rest) (behind (behind f)) (λ _. maybe_clause r left ∷ rest) next (inner levels.Whole (behind (behind f))) _
      (within r e levels.Whole (maybe_clause r left ∷ rest) (behind (behind f)))
      (λ n g. given_works next (record { name = Some name; body = n }) g))))))

  follows_works : (r left : ℕ) (rest : List GrammarItem) (name : Option Name) (f : Front) (won : Result (List Caught × Front) ParseFault) (all : List Caught)
      → Done (clauses r left ∷ rest) (behind f) rest won → Done (Behind r left rest name) f rest (if clause_follows name f then won else Ok (all, f))
  unfolding clause_follows step
  follows_works r left rest None f won all k = given_works (λ _. rest) all f
  follows_works r left rest (Some m) f won all k =
      begin (maybe_clause r left) rest f (λ _. rest) _ (both (is_symbol symbols.Bar f) _ _ (λ _. rest) _ _ (goes_on k) (goes_on (given_works (λ _. rest) all f)))

  clauses_work : (r : ℕ) → room ≡ suc r → (rest : List GrammarItem) (left : ℕ) (done : List Caught) (f : Front) → Done (clauses r left ∷ rest) f rest (clauses_from inner room left done f)
  unfolding clauses_from
  clauses_work r e rest zero done f = no_clause r rest f
  clauses_work r e rest (suc left) done f =
      after (clauses r (suc left) ∷ rest) f (λ c. Behind r left rest c.name) (λ _. rest) (clause inner room f) _ (clause_works r e left rest f)
      (λ c g. follows_works r left rest c.name g _ (done ++ c ∷ []) (clauses_work r e rest left (done ++ c ∷ []) (behind g)))

  try_works : (rest : List GrammarItem) (f : Front) → Left (enter room f (λ q. item.whole q ∷ word keys.Handle ∷ clauses q 8 ∷ word keys.End ∷ rest) (behind f)) rest (try_form inner room f)
  unfolding try_form
  try_works rest f =
      enters room f (λ q. item.whole q ∷ word keys.Handle ∷ clauses q 8 ∷ word keys.End ∷ rest) (behind f) (λ _. rest) _
      (λ r e. let tail : List GrammarItem = word keys.Handle ∷ clauses r 8 ∷ word keys.End ∷ rest in
      after (item.whole r ∷ tail) (behind f) (λ _. tail) (λ _. rest) (inner levels.Whole (behind f)) _ (within r e levels.Whole tail (behind f))
      (λ n g. key_works keys.Handle (clauses r 8 ∷ word keys.End ∷ rest) g (λ _. rest) _
      (after (clauses r 8 ∷ word keys.End ∷ rest) (behind g) (λ _. word keys.End ∷ rest) (λ _. rest) (clauses_from inner room 8 [] (behind g)) _
      (clauses_work r e (word keys.End ∷ rest) 8 [] (behind g))
      (λ all h. key_works keys.End rest h (λ _. rest) _ (given_works (λ _. rest) _ (behind h))))))

  raise_plain_works : (at : ℕ) (rest : List GrammarItem) (f : Front) → Done (a_name ∷ rest) f rest (raise_plain inner room at f)
  unfolding raise_plain
  raise_plain_works at rest f = name_works rest f (λ _. rest) _ (λ name. given_works (λ _. rest) _ (behind f))

  raise_typed_works : (at : ℕ) (rest : List GrammarItem) (f : Front)
      → Left (enter room f (λ q. sym symbols.Colon ∷ a_type q ∷ sym symbols.BracketClose ∷ a_name ∷ rest) (behind f)) rest (raise_typed inner room at f)
  unfolding raise_typed
  raise_typed_works at rest f =
      enters room f (λ q. sym symbols.Colon ∷ a_type q ∷ sym symbols.BracketClose ∷ a_name ∷ rest) (behind f) (λ _. rest) _
      (λ r e. symbol_works symbols.Colon (a_type r ∷ sym symbols.BracketClose ∷ a_name ∷ rest) (behind f) (λ _. rest) _
      (after (a_type r ∷ sym symbols.BracketClose ∷ a_name ∷ rest) (behind (behind f)) (λ _. sym symbols.BracketClose ∷ a_name ∷ rest) (λ _. rest) (type_to room (behind (behind f))) _
      (type_within r e (sym symbols.BracketClose ∷ a_name ∷ rest) (behind (behind f)))
      (λ t g. symbol_works symbols.BracketClose (a_name ∷ rest) g (λ _. rest) _
      (name_works rest (behind g) (λ _. rest) _ (λ name. given_works (λ _. rest) _ (behind (behind g)))))))

  raise_works : (rest : List GrammarItem) (f : Front) → Done (item.behind_raise room ∷ rest) (behind f) rest (raise_form inner room f)
  unfolding raise_form step
  raise_works rest f =
      begin (item.behind_raise room) rest (behind f) (λ _. rest) _ (both (is_symbol symbols.BracketOpen (behind f)) _ _ (λ _. rest) _ _
      (raise_typed_works (place f) rest (behind f)) (goes_on (raise_plain_works (place f) rest (behind f))))

  comma_works : (r : ℕ) → room ≡ suc r → (rest : List GrammarItem) (f : Front) → Done (item.whole r ∷ sym symbols.Comma ∷ rest) f rest (before_comma inner room f)
  unfolding before_comma
  comma_works r e rest f =
      after (item.whole r ∷ sym symbols.Comma ∷ rest) f (λ _. sym symbols.Comma ∷ rest) (λ _. rest) (inner levels.Whole f) _ (within r e levels.Whole (sym symbols.Comma ∷ rest) f)
      (λ n g. symbol_works symbols.Comma rest g (λ _. rest) _ (given_works (λ _. rest) n (behind g)))

  close_works : (r : ℕ) → room ≡ suc r → (rest : List GrammarItem) (f : Front) → Done (item.whole r ∷ sym symbols.ParenClose ∷ rest) f rest (before_close inner room f)
  unfolding before_close
  close_works r e rest f =
      after (item.whole r ∷ sym symbols.ParenClose ∷ rest) f (λ _. sym symbols.ParenClose ∷ rest) (λ _. rest) (inner levels.Whole f) _ (within r e levels.Whole (sym symbols.ParenClose ∷ rest) f)
      (λ n g. symbol_works symbols.ParenClose rest g (λ _. rest) _ (given_works (λ _. rest) n (behind g)))

  fold_works : (rest : List GrammarItem) (f : Front) → Done (open_bracket room item.a_fold ∷ rest) (behind f) rest (fold_parts inner room f)
  unfolding fold_parts
  fold_works rest f =
      open_works room item.a_fold rest (behind f) (λ _. rest) _
      (λ r e. let last : List GrammarItem = item.whole r ∷ sym symbols.ParenClose ∷ rest in
      name_works (sym symbols.Comma ∷ item.whole r ∷ sym symbols.Comma ∷ last) (behind (behind f)) (λ _. rest) _
      (λ name. symbol_works symbols.Comma (item.whole r ∷ sym symbols.Comma ∷ last) (behind (behind (behind f))) (λ _. rest) _
      (after (item.whole r ∷ sym symbols.Comma ∷ last) (behind (behind (behind (behind f)))) (λ _. last) (λ _. rest) (before_comma inner room (behind (behind (behind (behind f))))) _
      (comma_works r e last (behind (behind (behind (behind f)))))
      (λ a g. after last g (λ _. rest) (λ _. rest) (before_close inner room g) _ (close_works r e rest g) (λ b h. given_works (λ _. rest) _ h)))))

  foldl_works : (rest : List GrammarItem) (f : Front) → Done (open_bracket room item.a_fold ∷ rest) (behind f) rest (foldl_form inner room f)
  unfolding foldl_form
  foldl_works rest f = after (open_bracket room item.a_fold ∷ rest) (behind f) (λ _. rest) (λ _. rest) (fold_parts inner room f) _ (fold_works rest f) (λ p g. given_works (λ _. rest) _ g)

  foldr_works : (rest : List GrammarItem) (f : Front) → Done (open_bracket room item.a_fold ∷ rest) (behind f) rest (foldr_form inner room f)
  unfolding foldr_form
  foldr_works rest f = after (open_bracket room item.a_fold ∷ rest) (behind f) (λ _. rest) (λ _. rest) (fold_parts inner room f) _ (fold_works rest f) (λ p g. given_works (λ _. rest) _ g)

  eval_works : (rest : List GrammarItem) (f : Front) → Done (open_bracket room item.an_eval ∷ rest) (behind f) rest (eval_form inner room f)
  unfolding eval_form
  eval_works rest f =
      open_works room item.an_eval rest (behind f) (λ _. rest) _
      (λ r e. after (item.whole r ∷ sym symbols.ParenClose ∷ rest) (behind (behind f)) (λ _. rest) (λ _. rest) (before_close inner room (behind (behind f))) _
      (close_works r e rest (behind (behind f))) (λ a g. given_works (λ _. rest) _ g))

  -- the chunk, the host and the bound, before the last part
  abbrev Three : ℕ → List GrammarItem → List GrammarItem
  Three r last = item.whole r ∷ sym symbols.Comma ∷ item.whole r ∷ sym symbols.Comma ∷ item.whole r ∷ sym symbols.Comma ∷ last

  send_works : (form : Form) (rest last : List GrammarItem) → ((r : ℕ) → room ≡ suc r → inside form r rest ≡ Three r last) → (f : Front)
      → Done (open_bracket room form ∷ rest) (behind f) last (send_parts inner room f)
  unfolding send_parts
  send_works form rest last same f =
      open_works room form rest (behind f) (λ _. last) _
      (λ r e. rw (same r e)
      (after (Three r last) (behind (behind f)) (λ _. item.whole r ∷ sym symbols.Comma ∷ item.whole r ∷ sym symbols.Comma ∷ last) (λ _. last) (before_comma inner room (behind (behind f))) _
      (comma_works r e (item.whole r ∷ sym symbols.Comma ∷ item.whole r ∷ sym symbols.Comma ∷ last) (behind (behind f)))
      (λ a g. after (item.whole r ∷ sym symbols.Comma ∷ item.whole r ∷ sym symbols.Comma ∷ last) g (λ _. item.whole r ∷ sym symbols.Comma ∷ last) (λ _. last) (before_comma inner room g) _
      (comma_works r e (item.whole r ∷ sym symbols.Comma ∷ last) g)
      (λ b h. after (item.whole r ∷ sym symbols.Comma ∷ last) h (λ _. last) (λ _. last) (before_comma inner room h) _ (comma_works r e last h) (λ c i. given_works (λ _. last) _ i)))))

  remote_works : (rest : List GrammarItem) (f : Front) → Done (open_bracket room item.on_remote ∷ rest) (behind f) rest (remote_form inner room f)
  unfolding remote_form
  remote_works rest f =
      after (open_bracket room item.on_remote ∷ rest) (behind f) (λ _. a_name ∷ sym symbols.ParenClose ∷ rest) (λ _. rest) (send_parts inner room f) _
      (send_works item.on_remote rest (a_name ∷ sym symbols.ParenClose ∷ rest) (λ r e. refl) f)
      (λ p g. name_works (sym symbols.ParenClose ∷ rest) g (λ _. rest) _ (λ name. symbol_works symbols.ParenClose rest (behind g) (λ _. rest) _ (given_works (λ _. rest) _ (behind (behind g)))))

  neighbor_works : (rest : List GrammarItem) (f : Front) → Done (open_bracket room item.on_neighbor ∷ rest) (behind f) rest (neighbor_form inner room f)
  unfolding neighbor_form
  neighbor_works rest f =
      let last : List GrammarItem = item.whole (room - 1) ∷ sym symbols.ParenClose ∷ rest in
      after_read (SendAt room f) (open_bracket room item.on_neighbor ∷ rest) (behind f) (λ _. last) (λ _. rest) (send_parts inner room f) _
      (send_works item.on_neighbor rest last (λ r e. let same : r ≡ room - 1 = omega (arith, e) in ap (λ k. Three r (item.whole k ∷ sym symbols.ParenClose ∷ rest)) same) f)
      (send_reads room inner sound f)
      (λ p g d. let found = send_room d in
      after last g (λ _. rest) (λ _. rest) (before_close inner room g) _
      (subst (λ k. Done (item.whole k ∷ sym symbols.ParenClose ∷ rest) g rest (before_close inner room g))
      (let same : found.0 ≡ room - 1 = (let h = found.1 in omega (arith, h)) in same) (close_works found.0 found.1 rest g))
      (λ d h. given_works (λ _. rest) _ h))

  key_follows : (rest : List GrammarItem) (f : Front) (k : Key) → Left (key_step room rest f k) rest (key_form inner room k f)
  unfolding key_form
  key_follows rest f keys.Let = let_works rest f
  key_follows rest f keys.Try = try_works rest f
  key_follows rest f keys.Raise = goes_on (raise_works rest f)
  key_follows rest f keys.Foldl = goes_on (foldl_works rest f)
  key_follows rest f keys.Foldr = goes_on (foldr_works rest f)
  key_follows rest f keys.Eval = goes_on (eval_works rest f)
  key_follows rest f keys.OnRemote = goes_on (remote_works rest f)
  key_follows rest f keys.OnNeighbor = goes_on (neighbor_works rest f)
  key_follows rest f keys.True = goes_on (given_works (λ _. rest) _ (behind f))
  key_follows rest f keys.False = goes_on (given_works (λ _. rest) _ (behind f))
  key_follows rest f _ = stops _ (λ _. rest)

  symbol_follows : (rest : List GrammarItem) (f : Front) (w : Symbol) → Left (symbol_step room rest f w) rest (symbol_form inner room w f)
  unfolding symbol_form
  symbol_follows rest f symbols.ParenOpen = parens_work rest f
  symbol_follows rest f symbols.BracketOpen = brackets_work rest f
  symbol_follows rest f symbols.Bar = goes_on (chunk_works rest f)
  symbol_follows rest f _ = stops _ (λ _. rest)

  picked_works : (rest : List GrammarItem) (f : Front) (i : ℕ) → Left (enter room f (λ q. item.operand q ∷ rest) (behind f)) rest (picked_part inner room i f)
  unfolding picked_part
  picked_works rest f i =
      enters room f (λ q. item.operand q ∷ rest) (behind f) (λ _. rest) _
      (λ r e. after (item.operand r ∷ rest) (behind f) (λ _. rest) (λ _. rest) (inner levels.Operand (behind f)) _ (within r e levels.Operand rest (behind f)) (λ a g. given_works (λ _. rest) _ g))

  kind_follows : (rest : List GrammarItem) (f : Front) (o : Option TokenKind) → next_kind f ≡ o → Left (operand_step room rest f o) rest (operand_kind inner room f o)
  kind_follows rest f None e = stops _ (λ _. rest)
  kind_follows rest f (Some (kinds.Word n)) e = goes_on (named_works f n e rest)
  kind_follows rest f (Some (kinds.Key k)) e = key_follows rest f k
  kind_follows rest f (Some (kinds.Symbol w)) e = symbol_follows rest f w
  kind_follows rest f (Some (kinds.Part i)) e = picked_works rest f i
  kind_follows rest f (Some (kinds.Int n)) e = goes_on (given_works (λ _. rest) _ (behind f))
  kind_follows rest f (Some (kinds.Host n)) e = goes_on (given_works (λ _. rest) _ (behind f))
  kind_follows rest f (Some (kinds.Dev n)) e = goes_on (given_works (λ _. rest) _ (behind f))
  kind_follows rest f (Some (kinds.Char n)) e = goes_on (given_works (λ _. rest) _ (behind f))
  kind_follows rest f (Some (kinds.Str n)) e = goes_on (given_works (λ _. rest) _ (behind f))
  kind_follows rest f (Some (kinds.Blob n)) e = goes_on (given_works (λ _. rest) _ (behind f))

  operand_works : (rest : List GrammarItem) (f : Front) → Done (item.operand room ∷ rest) f rest (operand inner room f)
  unfolding operand step
  operand_works rest f = begin (item.operand room) rest f (λ _. rest) _ (kind_follows rest f (next_kind f) refl)

  -- further operands of a chain, of which there are no more than tokens
  module _ (c : Chain) (one : Reader Node) (One : Front → Node → Front → Type 0) (shorter : (f g : Front) (n : Node) → One f n g → Shorter f g)
      (reads : (f : Front) → Reads (One f) (one f)) (works : (rest : List GrammarItem) (f : Front) → Works (side c room ∷ rest) f (λ _. rest) (one f)) where
    from_works : (rest : List GrammarItem) (fuel : ℕ) (left : Node) (f : Front) → length f.tokens ≤ fuel → Works (item.more_of c room ∷ rest) f (λ _. rest) (chain_from one c fuel left f)
    unfolding chain_from step
    from_works rest zero left f enough = begin (item.more_of c room) rest f (λ _. rest) _ (rw (no_joint_left c f enough) (goes_on (given_works (λ _. rest) left f)))
    from_works rest (suc fuel) left f enough =
        begin (item.more_of c room) rest f (λ _. rest) _ (go (λ k g h. from_works rest fuel k g h) (joint_of c (next_kind f)) refl)
      where
        go : ((k : Node) (g : Front) → length g.tokens ≤ fuel → Works (item.more_of c room ∷ rest) g (λ _. rest) (chain_from one c fuel k g)) → (o : Option Joint) → joint_of c (next_kind f) ≡ o
            → Follows (if is_some o then Ok (side c room ∷ item.more_of c room ∷ rest, behind f) else Ok (rest, f)) (λ _. rest) (chain_step one (chain_from one c fuel) left f o)
        go on (Some j) e =
            goes_on (after_read (One (behind f)) (side c room ∷ item.more_of c room ∷ rest) (behind f) (λ _. item.more_of c room ∷ rest) (λ _. rest) (one (behind f)) _
            (works (item.more_of c room ∷ rest) (behind f)) (reads (behind f))
            (λ b g d. on (joined_nodes j left b) g (let l = (joint_stands c f j e).less in let k = (shorter (behind f) g b d).less in omega (arith, l, k, enough))))
        go on None e = goes_on (given_works (λ _. rest) left f)

    chained_works : (rest : List GrammarItem) (f : Front) → Works (item.chain c room ∷ rest) f (λ _. rest) (chained_operands inner room one c f)
    unfolding chained_operands step
    chained_works rest f =
        begin (item.chain c room) rest f (λ _. rest) _
        (goes_on (after (side c room ∷ item.more_of c room ∷ rest) f (λ _. item.more_of c room ∷ rest) (λ _. rest) (one f) _ (works (item.more_of c room ∷ rest) f)
        (λ n g. from_works rest (length g.tokens) n g (omega arith))))

  product_works : (rest : List GrammarItem) (f : Front) → Done (item.chain chains.Product room ∷ rest) f rest (product inner room f)
  unfolding product
  product_works rest f = chained_works chains.Product (operand inner room) (PartAt room) (λ i g n d. part_shorter d) (operand_reads room inner sound) operand_works rest f

  addition_works : (rest : List GrammarItem) (f : Front) → Done (item.chain chains.Sum room ∷ rest) f rest (addition inner room f)
  unfolding addition
  addition_works rest f = chained_works chains.Sum (product inner room) (MulAt room) (λ i g n d. mul_shorter d) (product_reads room inner sound) product_works rest f

  list_works : (n : Node) (rest : List GrammarItem) (f : Front) → Done (item.maybe_listed room ∷ rest) f rest (if is_symbol symbols.DoubleColon f then before_list inner room n (behind f) else Ok (n, f))
  unfolding before_list step
  list_works n rest f =
      begin (item.maybe_listed room) rest f (λ _. rest) _ (both (is_symbol symbols.DoubleColon f) _ _ (λ _. rest) _ _
      (right_works begins_operand room (λ q. item.listed q ∷ rest) (behind f) (λ _. rest) _
      (λ r e. after (item.listed r ∷ rest) (behind f) (λ _. rest) (λ _. rest) (inner levels.Listed (behind f)) _ (within r e levels.Listed rest (behind f)) (λ b h. given_works (λ _. rest) _ h)))
      (goes_on (given_works (λ _. rest) n f)))

  listed_works : (rest : List GrammarItem) (f : Front) → Done (item.listed room ∷ rest) f rest (read.listed_operands inner room f)
  unfolding read.listed_operands step
  listed_works rest f =
      begin (item.listed room) rest f (λ _. rest) _
      (goes_on (after (item.chain chains.Sum room ∷ item.maybe_listed room ∷ rest) f (λ _. item.maybe_listed room ∷ rest) (λ _. rest) (addition inner room f) _
      (addition_works (item.maybe_listed room ∷ rest) f) (λ n g. list_works n rest g)))

  compared_works : (n : Node) (rest : List GrammarItem) (f : Front) (o : Option Joint)
      → Left (if is_some o then Ok (item.listed room ∷ rest, behind f) else Ok (rest, f)) rest (compared_operands inner room n f o)
  compared_works n rest f (Some j) =
      goes_on (after (item.listed room ∷ rest) (behind f) (λ _. rest) (λ _. rest) (read.listed_operands inner room (behind f)) _ (listed_works rest (behind f)) (λ b h. given_works (λ _. rest) _ h))
  compared_works n rest f None = goes_on (given_works (λ _. rest) n f)

  comparison_works : (rest : List GrammarItem) (f : Front) → Done (item.compared room ∷ rest) f rest (comparison inner room f)
  unfolding comparison step
  comparison_works rest f =
      begin (item.compared room) rest f (λ _. rest) _
      (goes_on (after (item.listed room ∷ item.maybe_compared room ∷ rest) f (λ _. item.maybe_compared room ∷ rest) (λ _. rest) (read.listed_operands inner room f) _
      (listed_works (item.maybe_compared room ∷ rest) f)
      (λ n g. begin (item.maybe_compared room) rest g (λ _. rest) _ (compared_works n rest g (joint_of chains.Comparison (next_kind g))))))

  negation_works : (rest : List GrammarItem) (f : Front) → Left (enter room f (λ q. item.negated q ∷ rest) (behind f)) rest (negation inner room f)
  unfolding negation
  negation_works rest f =
      enters room f (λ q. item.negated q ∷ rest) (behind f) (λ _. rest) _
      (λ r e. after (item.negated r ∷ rest) (behind f) (λ _. rest) (λ _. rest) (inner levels.Negated (behind f)) _ (within r e levels.Negated rest (behind f)) (λ a g. given_works (λ _. rest) _ g))

  negated_works : (rest : List GrammarItem) (f : Front) → Done (item.negated room ∷ rest) f rest (read.negated_operand inner room f)
  unfolding read.negated_operand step
  negated_works rest f =
      begin (item.negated room) rest f (λ _. rest) _ (both (is_key keys.Not f) _ _ (λ _. rest) _ _ (negation_works rest f) (goes_on (comparison_works rest f)))

  conjunction_works : (rest : List GrammarItem) (f : Front) → Done (item.chain chains.And room ∷ rest) f rest (conjunction inner room f)
  unfolding conjunction
  conjunction_works rest f = chained_works chains.And (read.negated_operand inner room) (NotAt room) (λ i g n d. not_shorter d) (negated_reads room inner sound) negated_works rest f

  disjunction_works : (rest : List GrammarItem) (f : Front) → Done (item.chain chains.Or room ∷ rest) f rest (disjunction inner room f)
  unfolding disjunction
  disjunction_works rest f = chained_works chains.Or (conjunction inner room) (AndAt room) (λ i g n d. and_shorter d) (conjunction_reads room inner sound) conjunction_works rest f

  condition_works : (rest : List GrammarItem) (f : Front)
      → Left (enter room f (λ q. item.whole q ∷ word keys.Then ∷ item.low q ∷ word keys.Else ∷ item.low q ∷ rest) (behind f)) rest (condition inner room f)
  unfolding condition
  condition_works rest f =
      enters room f (λ q. item.whole q ∷ word keys.Then ∷ item.low q ∷ word keys.Else ∷ item.low q ∷ rest) (behind f) (λ _. rest) _
      (λ r e. let third : List GrammarItem = item.low r ∷ rest in let second : List GrammarItem = item.low r ∷ word keys.Else ∷ third in
      after (item.whole r ∷ word keys.Then ∷ second) (behind f) (λ _. word keys.Then ∷ second) (λ _. rest) (inner levels.Whole (behind f)) _ (within r e levels.Whole (word keys.Then ∷ second) (behind f))
      (λ c g. key_works keys.Then second g (λ _. rest) _
      (after second (behind g) (λ _. word keys.Else ∷ third) (λ _. rest) (inner levels.Low (behind g)) _ (within r e levels.Low (word keys.Else ∷ third) (behind g))
      (λ a h. key_works keys.Else third h (λ _. rest) _
      (after third (behind h) (λ _. rest) (λ _. rest) (inner levels.Low (behind h)) _ (within r e levels.Low rest (behind h)) (λ b i. given_works (λ _. rest) _ i))))))

  low_works : (rest : List GrammarItem) (f : Front) → Done (item.low room ∷ rest) f rest (read.low inner room f)
  unfolding read.low step
  low_works rest f =
      begin (item.low room) rest f (λ _. rest) _ (both (is_key keys.If f) _ _ (λ _. rest) _ _ (condition_works rest f) (goes_on (disjunction_works rest f)))

  next_works : (n : Node) (rest : List GrammarItem) (f : Front) → Done (item.maybe_next room ∷ rest) f rest (if is_symbol symbols.Semicolon f then before_next inner room n (behind f) else Ok (n, f))
  unfolding before_next step
  next_works n rest f =
      begin (item.maybe_next room) rest f (λ _. rest) _ (both (is_symbol symbols.Semicolon f) _ _ (λ _. rest) _ _
      (right_works begins_expr room (λ q. item.whole q ∷ rest) (behind f) (λ _. rest) _
      (λ r e. after (item.whole r ∷ rest) (behind f) (λ _. rest) (λ _. rest) (inner levels.Whole (behind f)) _ (within r e levels.Whole rest (behind f)) (λ b h. given_works (λ _. rest) _ h)))
      (goes_on (given_works (λ _. rest) n f)))

  whole_works : (rest : List GrammarItem) (f : Front) → Done (item.whole room ∷ rest) f rest (read.whole inner room f)
  unfolding read.whole step
  whole_works rest f =
      begin (item.whole room) rest f (λ _. rest) _
      (goes_on (after (item.low room ∷ item.maybe_next room ∷ rest) f (λ _. item.maybe_next room ∷ rest) (λ _. rest) (read.low inner room f) _ (low_works (item.maybe_next room ∷ rest) f)
      (λ n g. next_works n rest g)))

  pub level_works : (l : Level) (rest : List GrammarItem) (f : Front) → Done (at_item l room ∷ rest) f rest (at_level inner room l f)
  unfolding at_level
  level_works levels.Whole rest f = whole_works rest f
  level_works levels.Low rest f = low_works rest f
  level_works levels.Negated rest f = negated_works rest f
  level_works levels.Listed rest f = listed_works rest f
  level_works levels.Operand rest f = operand_works rest f

-- what is read in a smaller room
sound_within : (r s : ℕ) → suc r ≡ suc s → (l : Level) (f : Front) → Reads (AtLevel s l f) (expr_to (suc r) l f)
sound_within r s e l f = subst (λ k. Reads (AtLevel k l f) (expr_to (suc r) l f)) (let same : r ≡ s = omega (arith, e) in same) (exprs_read r l f)

-- the reading of an expression works off its agenda
pub exprs_work : (r : ℕ) (l : Level) (more : List GrammarItem) (f : Front) → Works (at_item l r ∷ more) f (λ _. more) (expr_to (suc r) l f)
unfolding expr_to
exprs_work zero l more f =
    level_works 0 (expr_to 0) (λ r e m g. absurd (let none : 0 ≡ suc r = e in omega (arith, none))) (λ r e m rest g. absurd (let none : 0 ≡ suc r = e in omega (arith, none))) l more f
exprs_work (suc r) l more f =
    level_works (suc r) (expr_to (suc r)) (λ s e m g. sound_within r s e m g)
    (λ s e m rest g. subst (λ k. Works (at_item m k ∷ rest) g (λ _. rest) (expr_to (suc r) m g)) (let same : r ≡ s = omega (arith, e) in same) (exprs_work r m rest g)) l more f
