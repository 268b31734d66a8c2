-- Each expression that is read is well formed, as deep as is said, with a place for each part.
use Rattle.std.proofs.Common.{◌≡◌, ℕ, zero, suc, ◌+◌, ◌-◌, ◌≤◌, Bool, true, false, List, [], ◌∷◌, ◌++◌, length, take, Option, Some, None, refl, arith, length-append}
use Rattle.std.specs.Prelude.{◌&&◌, is_some}
use Rattle.std.specs.List.{list_all}
use Rattle.std.proofs.Math.Seq.{take-append_seam}
use Rattle.std.proofs.lemmas.Bool.{le-leb}
use Rattle.std.proofs.lemmas.Str.{is_utf8-from_IsUtf8}
use Rattle.containers.proofs.Bools.{both}
use Rattle.plan_base.specs.declared.limit.Limit.{Limit}
use Rattle.plan_base.specs.declared.limit.Limit.TheVariants as limits
use Rattle.plan_base.specs.declared.name.Name.{Name}
use Rattle.plan_base.specs.declared.tree.Expr.{Expr, Expr-F}
use Rattle.plan_base.specs.declared.tree.Expr.TheVariants as x
use Rattle.plan_base.specs.declared.tree.Clause.{Clause}
use Rattle.plan_base.specs.WellFormed.{well_formed_text}
use Rattle.plan_lexer.specs.TokenRules.{IsKind}
use Rattle.plan_lexer.specs.declared.token.Token.{Token}
use Rattle.plan_lexer.specs.declared.token.TokenKind.{TokenKind}
use Rattle.plan_lexer.specs.declared.token.TokenKind.TheVariants as kinds
use Rattle.plan_lexer.specs.declared.token.Key.{Key}
use Rattle.plan_lexer.specs.declared.token.Key.TheVariants as keys
use Rattle.plan_lexer.specs.declared.token.Symbol.{Symbol}
use Rattle.plan_lexer.specs.declared.token.Symbol.TheVariants as symbols
use Rattle.plan_parser_exprs.specs.declared.fault.Wanted.TheVariants as wanted
use Rattle.plan_parser_exprs.specs.declared.joint.Joint.{Joint}
use Rattle.plan_parser_exprs.specs.declared.joint.Chain.{Chain}
use Rattle.plan_parser_exprs.specs.declared.joint.Chain.TheVariants as chains
use Rattle.plan_parser_exprs.specs.declared.joint.Joint.TheVariants as joints
use Rattle.plan_base.specs.declared.tree.Op.TheVariants as ops
use Rattle.plan_parser_exprs.specs.declared.level.Level.{Level}
use Rattle.plan_parser_exprs.specs.declared.level.Level.TheVariants as levels
use Rattle.plan_parser_exprs.specs.declared.node.Node.{Node}
use Rattle.plan_parser_exprs.specs.declared.node.Bound.{Bound}
use Rattle.plan_parser_exprs.specs.declared.node.Caught.{Caught}
use Rattle.plan_parser_exprs.specs.declared.node.FoldParts.{FoldParts}
use Rattle.plan_parser_exprs.specs.declared.node.SendParts.{SendParts}
use Rattle.plan_parser_exprs.specs.Ahead.{Front, Reader, place, behind, kind_in, next_kind, is_symbol, is_key, need_key, name_kind, name_at}
use Rattle.plan_parser_exprs.specs.Begins.{begins_operand, begins_expr}
use Rattle.plan_parser_exprs.specs.Joints.{joint_of}
use Rattle.plan_parser_exprs.specs.Nodes.{leaf, joined_nodes, clauses_of}
use Rattle.plan_parser_exprs.specs.Exprs.{literal_key, literal, literal_from, opens_at, need_open, chain_step, chain_from, catch_at, clause_follows, items_from, arguments_behind, arguments, call}
use Rattle.plan_parser_exprs.specs.Exprs.{name_operand, chunk, tuple, single, grouped_expression, parens_behind, parens, typed_nil, listing, brackets_behind, brackets, binding, bindings_from}
use Rattle.plan_parser_exprs.specs.Exprs.{let_form, clause, clauses_from, try_form, raise_typed, raise_plain, raise_form, before_comma, before_close, fold_parts, foldl_form, foldr_form, eval_form}
use Rattle.plan_parser_exprs.specs.Exprs.{send_parts, remote_form, neighbor_form, key_form, symbol_form, picked_part, operand_kind, operand, chained_operands, product, addition, before_list}
use Rattle.plan_parser_exprs.specs.Exprs.{listed_operands, compared_operands, comparison, negation, negated_operand, conjunction, disjunction, condition, low, before_next, whole, at_level, expr_to}
use Rattle.plan_parser_exprs.proofs.Builds.{clauses_last}
use Rattle.plan_parser.proofs.FormedTypes.{Kinds, Holds, Any, step, choose, weaken, behind_kinds, symbol_holds, opens_holds, Each, each_last, Between, more_holds, more_some, Good, type_holds}
use Rattle.plan_parser.proofs.FormedNodes.{Sound, leaf_sound, joined_sound, then_sound, foldl_sound, foldr_sound, not_sound, eval_sound, part_sound, if_sound, remote_sound, neighbor_sound, call_sound}
use Rattle.plan_parser.proofs.FormedNodes.{chunk_sound, tuple_sound, bracketed_sound, SoundBound, let_sound, SoundCaught, SoundClauses, try_sound}

-- what the next token stands for keeps the limits of its kind
abbrev pub KindOf : Option TokenKind → Type 0
KindOf (Some k) = IsKind k
KindOf None = Unit {0}

pub kind_of_next : (f : Front) → Kinds f.tokens → KindOf (next_kind f)
unfolding next_kind
kind_of_next f k = of_list f.tokens k
  where
    of_list : (ts : List Token) → Kinds ts → KindOf (kind_in ts)
    of_list [] q = tt
    of_list (t ∷ ts) q = q.0

key_holds : (w : Key) (f : Front) → Kinds f.tokens → Holds Any (need_key w f)
unfolding need_key
key_holds w f k = choose Any (is_key w f) _ _ (λ _. (tt, behind_kinds f k)) (λ _. tt)

name_kind_holds : (f : Front) (o : Option TokenKind) → Kinds f.tokens → Holds Any (name_kind f o)
name_kind_holds f (Some (kinds.Word n)) k = (tt, behind_kinds f k)
name_kind_holds f _ k = tt

pub name_holds : (f : Front) → Kinds f.tokens → Holds Any (name_at f)
unfolding name_at
name_holds f k = name_kind_holds f (next_kind f) k

opens_at_holds : (begins : Front → Bool) (room : ℕ) (f : Front) → Kinds f.tokens → Holds Any (opens_at begins room f)
unfolding opens_at
opens_at_holds begins room f k = choose Any (begins f) _ _ (λ _. opens_holds room f k) (λ _. tt)

need_open_holds : (room : ℕ) (f : Front) → Kinds f.tokens → Holds Any (need_open room f)
unfolding need_open
need_open_holds room f k = choose Any (is_symbol symbols.ParenOpen f) _ _ (λ _. step Any Any _ _ (opens_holds room f k) (λ _ g _ q. (tt, behind_kinds f k))) (λ _. tt)

-- ---- literals

abbrev SoundOption : Option Expr → Type 0
SoundOption (Some e) = (at : ℕ) → Sound (leaf e at)
SoundOption None = Unit {0}

pub text_well : (s : List ℕ) → IsKind (kinds.Str s) → well_formed_text s ≡ true
unfolding well_formed_text
text_well s k = both (is_utf8-from_IsUtf8 s k.0) (le-leb (length s) 65535 k.1)

literal_key_sound : (k : Key) → SoundOption (literal_key k)
literal_key_sound keys.True = λ at. leaf_sound (Expr-F.Bool true) (x.rolls-Bool true) at refl refl refl
literal_key_sound keys.False = λ at. leaf_sound (Expr-F.Bool false) (x.rolls-Bool false) at refl refl refl
literal_key_sound _ = tt

literal_sound : (o : Option TokenKind) → KindOf o → SoundOption (literal o)
literal_sound (Some (kinds.Int n)) k = λ at. leaf_sound (Expr-F.Int n) (x.rolls-Int n) at refl refl refl
literal_sound (Some (kinds.Host n)) k = λ at. leaf_sound (Expr-F.Host (record { 0 = n })) (x.rolls-Host (record { 0 = n })) at refl refl refl
literal_sound (Some (kinds.Dev n)) k = λ at. leaf_sound (Expr-F.Dev (record { 0 = n })) (x.rolls-Dev (record { 0 = n })) at refl refl refl
literal_sound (Some (kinds.Char c)) k = λ at. leaf_sound (Expr-F.Char c) (x.rolls-Char c) at k refl refl
literal_sound (Some (kinds.Str s)) k = λ at. leaf_sound (Expr-F.Str s) (x.rolls-Str s) at (text_well s k) refl refl
literal_sound (Some (kinds.Blob b)) k = λ at. leaf_sound (Expr-F.Blob b) (x.rolls-Blob b) at (le-leb (length b) 65535 k.1) refl refl
literal_sound (Some (kinds.Key w)) k = literal_key_sound w
literal_sound _ k = tt

literal_holds : (f : Front) (e : Option Expr) → SoundOption e → Kinds f.tokens → Holds Sound (literal_from f e)
literal_holds f (Some e) q k = (q (place f), behind_kinds f k)
literal_holds f None q k = tt

-- ---- operands joined from left to right

module _ (one : Reader Node) (reads : (f : Front) → Kinds f.tokens → Holds Sound (one f)) (chain : Chain) where
  step_holds : (next : Node → Reader Node) → ((l : Node) (f : Front) → Sound l → Kinds f.tokens → Holds Sound (next l f))
      → (left : Node) (f : Front) (joint : Option Joint) → Sound left → Kinds f.tokens → Holds Sound (chain_step one next left f joint)
  step_holds next h left f (Some joint) p k =
      step Sound Sound (one (behind f)) _ (reads (behind f) (behind_kinds f k)) (λ right g q r. h (joined_nodes joint left right) g (joined_sound joint left right p q) r)
  step_holds next h left f None p k = (p, k)

  chain_holds : (fuel : ℕ) (left : Node) (f : Front) → Sound left → Kinds f.tokens → Holds Sound (chain_from one chain fuel left f)
  unfolding chain_from
  chain_holds zero left f p k = (p, k)
  chain_holds (suc fuel) left f p k = step_holds (chain_from one chain fuel) (chain_holds fuel) left f (joint_of chain (next_kind f)) p k

-- ---- clauses

catch_holds : (f : Front) → Kinds f.tokens → Holds Any (catch_at f)
unfolding catch_at
catch_holds f k = choose Any (is_symbol symbols.Underscore f) _ _ (λ _. (tt, behind_kinds f k)) (λ _. step Any Any _ _ (name_holds f k) (λ _ g _ q. (tt, q)))

abbrev Named : Caught → Type 0
Named c = is_some c.name ≡ true

follows_named : (name : Option Name) (f : Front) → clause_follows name f ≡ true → is_some name ≡ true
unfolding clause_follows
follows_named name f h = left_true (is_some name) (is_symbol symbols.Bar f) h
  where
    left_true : (b c : Bool) → (b && c) ≡ true → b ≡ true
    left_true true c q = refl
    left_true false c q = q

front_named : (done : List Caught) (c : Caught) → Each Named done → list_all (λ d. is_some d.name) (take (length (clauses_of (done ++ c ∷ [])) - 1) (clauses_of (done ++ c ∷ []))) ≡ true
front_named done c q =
    let last : Clause = record { name = c.name; body = c.body.tree } in
    let e = length-append (clauses_of done) (last ∷ []) in
    let n : length (clauses_of done ++ last ∷ []) - 1 ≡ length (clauses_of done) = omega (arith, e) in
    rw (clauses_last done c) (rw n (rw (take-append_seam (clauses_of done) (last ∷ [])) (all_named done q)))
  where
    all_named : (cs : List Caught) → Each Named cs → list_all (λ d. is_some d.name) (clauses_of cs) ≡ true
    all_named [] r = refl
    all_named (d ∷ cs) r = both r.0 (all_named cs r.1)

-- ---- inside one more open construct

module _ (inner : Level → Reader Node) (room : ℕ) (reads : (l : Level) (f : Front) → Kinds f.tokens → Holds Sound (inner l f)) where
  items_holds : (close : Symbol) (limit : Limit) (most : ℕ) (f : Front) → Kinds f.tokens → Holds (Between Sound 1 (1 + most)) (items_from inner room close limit most f)
  unfolding items_from
  items_holds close limit most f k =
      step Sound (Between Sound 1 (1 + most)) _ _ (reads levels.Whole f k) (λ first g p q.
      step (Between Sound 1 (1 + most)) (Between Sound 1 (1 + most)) _ _ (more_holds Sound (inner levels.Whole) (reads levels.Whole) begins_expr symbols.Comma limit wanted.AnExpr most (first ∷ []) g (p, tt) q)
      (λ all h r s. step Any (Between Sound 1 (1 + most)) _ _ (symbol_holds close h s) (λ _ i _ t. (r, t))))

  arguments_behind_holds : (f : Front) → Kinds f.tokens → Holds (Between Sound 0 8) (arguments_behind inner room f)
  unfolding arguments_behind
  arguments_behind_holds f k =
      choose (Between Sound 0 8) (is_symbol symbols.ParenClose f) _ _ (λ _. (record { all = tt; least = omega arith; most = omega arith }, behind_kinds f k))
      (λ _. choose (Between Sound 0 8) (begins_expr f) _ _
      (λ _. weaken (Between Sound 1 8) (Between Sound 0 8) _ (λ ns q. record { all = q.all; least = omega arith; most = q.most }) (items_holds symbols.ParenClose limits.Arguments 7 f k))
      (λ _. tt))

  arguments_holds : (f : Front) → Kinds f.tokens → Holds (Between Sound 0 8) (arguments inner room f)
  unfolding arguments
  arguments_holds f k = step Any (Between Sound 0 8) _ _ (need_open_holds room f k) (λ _ g _ q. arguments_behind_holds g q)

  call_holds : (name : Name) (at : ℕ) (f : Front) → Kinds f.tokens → Holds Sound (call inner room name at f)
  unfolding call
  call_holds name at f k = step (Between Sound 0 8) Sound _ _ (arguments_holds f k) (λ args g q r. (call_sound name at args q.all q.most, r))

  named_holds : (f : Front) → Kinds f.tokens → Holds Sound (name_operand inner room f)
  unfolding name_operand
  named_holds f k =
      step Any Sound _ _ (name_holds f k) (λ name g _ q.
      choose Sound (is_symbol symbols.ParenOpen g) _ _ (λ _. call_holds name (place f) g q) (λ _. (leaf_sound (Expr-F.Var name) (x.rolls-Var name) (place f) refl refl refl, q)))

  chunk_holds : (f : Front) → Kinds f.tokens → Holds Sound (chunk inner room f)
  unfolding chunk
  chunk_holds f k =
      step Any Sound _ _ (name_holds (behind f) (behind_kinds f k)) (λ name g _ q.
      step Any Sound _ _ (symbol_holds symbols.Bar g q) (λ _ h _ r.
      step (Between Sound 0 8) Sound _ _ (arguments_holds h r) (λ args i s t. (chunk_sound name (place f) args s.all s.most, t))))

  tuple_holds : (at : ℕ) (first : Node) (f : Front) → is_symbol symbols.Comma f ≡ true → Sound first → Kinds f.tokens → Holds Sound (tuple inner room at first f)
  unfolding tuple
  tuple_holds at first f here p k =
      step (Between Sound 2 8) Sound _ _ (more_some Sound (inner levels.Whole) (reads levels.Whole) begins_expr symbols.Comma limits.Parts wanted.AnExpr 6 (first ∷ []) f here (p, tt) k)
      (λ all g q r. step Any Sound _ _ (symbol_holds symbols.ParenClose g r) (λ _ h _ s. (tuple_sound at all q.all q.least q.most, s)))

  single_holds : (first : Node) (f : Front) → Sound first → Kinds f.tokens → Holds Sound (single inner room first f)
  unfolding single
  single_holds first f p k = step Any Sound _ _ (symbol_holds symbols.ParenClose f k) (λ _ g _ q. (p, q))

  grouped_holds : (at : ℕ) (f : Front) → Kinds f.tokens → Holds Sound (grouped_expression inner room at f)
  unfolding grouped_expression
  grouped_holds at f k =
      step Sound Sound _ _ (reads levels.Whole f k) (λ first g p q.
      choose Sound (is_symbol symbols.Comma g) _ _ (λ here. tuple_holds at first g here p q) (λ _. single_holds first g p q))

  parens_behind_holds : (at : ℕ) (f : Front) → Kinds f.tokens → Holds Sound (parens_behind inner room at f)
  unfolding parens_behind
  parens_behind_holds at f k =
      choose Sound (is_symbol symbols.ParenClose f) _ _ (λ _. (leaf_sound Expr-F.Unit x.rolls-Unit at refl refl refl, behind_kinds f k))
      (λ _. choose Sound (begins_expr f) _ _ (λ _. grouped_holds at f k) (λ _. tt))

  parens_holds : (f : Front) → Kinds f.tokens → Holds Sound (parens inner room f)
  unfolding parens
  parens_holds f k = step Any Sound _ _ (opens_holds room f k) (λ _ g _ q. parens_behind_holds (place f) (behind f) (behind_kinds f k))

  typed_nil_holds : (at : ℕ) (f : Front) → Kinds f.tokens → Holds Sound (typed_nil inner room at f)
  unfolding typed_nil
  typed_nil_holds at f k =
      step Good Sound _ _ (type_holds room (behind f) (behind_kinds f k)) (λ t g p q.
      step Any Sound _ _ (symbol_holds symbols.BracketClose g q) (λ _ h _ r. (leaf_sound (Expr-F.Nil (Some t)) (x.rolls-Nil (Some t)) at p refl refl, r)))

  listing_holds : (f : Front) → Kinds f.tokens → Holds Sound (listing inner room f)
  unfolding listing
  listing_holds f k =
      step Sound Sound _ _ (reads levels.Whole f k) (λ first g p q.
      step (Between Sound 1 63) Sound _ _ (more_holds Sound (inner levels.Whole) (reads levels.Whole) begins_expr symbols.Comma limits.Items wanted.AnExpr 62 (first ∷ []) g (p, tt) q)
      (λ all h r s. step Any Sound _ _ (symbol_holds symbols.BracketClose h s)
      (λ _ i _ t. (bracketed_sound all _ r.all (leaf_sound (Expr-F.Nil None) (x.rolls-Nil None) (place h) refl refl refl), t))))

  brackets_behind_holds : (at : ℕ) (f : Front) → Kinds f.tokens → Holds Sound (brackets_behind inner room at f)
  unfolding brackets_behind
  brackets_behind_holds at f k =
      choose Sound (is_symbol symbols.BracketClose f) _ _ (λ _. (leaf_sound (Expr-F.Nil None) (x.rolls-Nil None) at refl refl refl, behind_kinds f k))
      (λ _. choose Sound (is_symbol symbols.Colon f) _ _ (λ _. typed_nil_holds at f k) (λ _. choose Sound (begins_expr f) _ _ (λ _. listing_holds f k) (λ _. tt)))

  brackets_holds : (f : Front) → Kinds f.tokens → Holds Sound (brackets inner room f)
  unfolding brackets
  brackets_holds f k = step Any Sound _ _ (opens_holds room f k) (λ _ g _ q. brackets_behind_holds (place f) (behind f) (behind_kinds f k))

  binding_holds : (at : ℕ) (f : Front) → Kinds f.tokens → Holds SoundBound (binding inner room at f)
  unfolding binding
  binding_holds at f k =
      step Any SoundBound _ _ (key_holds keys.Val f k) (λ _ g _ q.
      step Any SoundBound _ _ (name_holds g q) (λ name h _ r.
      step Any SoundBound _ _ (symbol_holds symbols.Colon h r) (λ _ i _ s.
      step Good SoundBound _ _ (type_holds room i s) (λ t j p u.
      step Any SoundBound _ _ (symbol_holds symbols.Equal j u) (λ _ l _ v.
      step Sound SoundBound _ _ (reads levels.Whole l v) (λ value m w y. ((p, w), y)))))))

  bindings_holds : (fuel : ℕ) (done : List Bound) (f : Front) → Each SoundBound done → Kinds f.tokens → Holds (Each SoundBound) (bindings_from inner room fuel done f)
  unfolding bindings_from
  bindings_holds zero done f q k = (q, k)
  bindings_holds (suc fuel) done f q k =
      choose (Each SoundBound) (is_key keys.Val f) _ _
      (λ _. step SoundBound (Each SoundBound) _ _ (binding_holds (place f) f k) (λ b g p r. bindings_holds fuel (done ++ b ∷ []) g (each_last SoundBound done b q p) r))
      (λ _. (q, k))

  let_holds : (f : Front) → Kinds f.tokens → Holds Sound (let_form inner room f)
  unfolding let_form
  let_holds f k =
      step Any Sound _ _ (opens_holds room f k) (λ _ g _ q.
      step SoundBound Sound _ _ (binding_holds (place f) (behind f) (behind_kinds f k)) (λ first h p r.
      step (Each SoundBound) Sound _ _ (bindings_holds (length h.tokens) (first ∷ []) h (p, tt) r) (λ all i s t.
      step Any Sound _ _ (key_holds keys.In i t) (λ _ j _ u.
      step Sound Sound _ _ (reads levels.Whole j u) (λ body l v w.
      step Any Sound _ _ (key_holds keys.End l w) (λ _ m _ y. (let_sound all body s v, y)))))))

  clause_holds : (f : Front) → Kinds f.tokens → Holds SoundCaught (clause inner room f)
  unfolding clause
  clause_holds f k =
      step Any SoundCaught _ _ (catch_holds f k) (λ name g _ q.
      step Any SoundCaught _ _ (symbol_holds symbols.FatArrow g q) (λ _ h _ r.
      step Sound SoundCaught _ _ (reads levels.Whole h r) (λ body i s t. (s, t))))

  clauses_holds : (most : ℕ) (done : List Caught) (f : Front) → length done + most ≤ 8 → Each SoundCaught done → Each Named done → Kinds f.tokens
      → Holds SoundClauses (clauses_from inner room most done f)
  unfolding clauses_from
  clauses_holds zero done f l q n k = tt
  clauses_holds (suc most) done f l q n k =
      step SoundCaught SoundClauses _ _ (clause_holds f k) (λ c g p r.
      let e = length-append done (c ∷ []) in
      choose SoundClauses (clause_follows c.name g) _ _
      (λ more. clauses_holds most (done ++ c ∷ []) (behind g) (omega (arith, e, l)) (each_last SoundCaught done c q p)
      (each_last Named done c n (follows_named c.name g more)) (behind_kinds g r))
      (λ _. (record { all = each_last SoundCaught done c q p; some = omega (arith, e); few = omega (arith, e, l); named = front_named done c n }, r)))

  try_holds : (f : Front) → Kinds f.tokens → Holds Sound (try_form inner room f)
  unfolding try_form
  try_holds f k =
      step Any Sound _ _ (opens_holds room f k) (λ _ g _ q.
      step Sound Sound _ _ (reads levels.Whole (behind f) (behind_kinds f k)) (λ body h p r.
      step Any Sound _ _ (key_holds keys.Handle h r) (λ _ i _ s.
      step SoundClauses Sound _ _ (clauses_holds 8 [] i (omega arith) tt tt s) (λ cs j t u.
      step Any Sound _ _ (key_holds keys.End j u) (λ _ l _ v. (try_sound (place f) body cs p t, v))))))

  raise_typed_holds : (at : ℕ) (f : Front) → Kinds f.tokens → Holds Sound (raise_typed inner room at f)
  unfolding raise_typed
  raise_typed_holds at f k =
      step Any Sound _ _ (opens_holds room f k) (λ _ g _ q.
      step Any Sound _ _ (symbol_holds symbols.Colon (behind f) (behind_kinds f k)) (λ _ h _ r.
      step Good Sound _ _ (type_holds room h r) (λ t i p s.
      step Any Sound _ _ (symbol_holds symbols.BracketClose i s) (λ _ j _ u.
      step Any Sound _ _ (name_holds j u) (λ name l _ v. (leaf_sound (Expr-F.Raise name (Some t)) (x.rolls-Raise name (Some t)) at p refl refl, v))))))

  raise_plain_holds : (at : ℕ) (f : Front) → Kinds f.tokens → Holds Sound (raise_plain inner room at f)
  unfolding raise_plain
  raise_plain_holds at f k = step Any Sound _ _ (name_holds f k) (λ name g _ q. (leaf_sound (Expr-F.Raise name None) (x.rolls-Raise name None) at refl refl refl, q))

  raise_holds : (f : Front) → Kinds f.tokens → Holds Sound (raise_form inner room f)
  unfolding raise_form
  raise_holds f k =
      choose Sound (is_symbol symbols.BracketOpen (behind f)) _ _ (λ _. raise_typed_holds (place f) (behind f) (behind_kinds f k)) (λ _. raise_plain_holds (place f) (behind f) (behind_kinds f k))

  comma_holds : (f : Front) → Kinds f.tokens → Holds Sound (before_comma inner room f)
  unfolding before_comma
  comma_holds f k = step Sound Sound _ _ (reads levels.Whole f k) (λ e g p q. step Any Sound _ _ (symbol_holds symbols.Comma g q) (λ _ h _ r. (p, r)))

  close_holds : (f : Front) → Kinds f.tokens → Holds Sound (before_close inner room f)
  unfolding before_close
  close_holds f k = step Sound Sound _ _ (reads levels.Whole f k) (λ e g p q. step Any Sound _ _ (symbol_holds symbols.ParenClose g q) (λ _ h _ r. (p, r)))

  abbrev SoundFold : FoldParts → Type 0
  SoundFold p = Sound p.start × Sound p.list

  fold_holds : (f : Front) → Kinds f.tokens → Holds SoundFold (fold_parts inner room f)
  unfolding fold_parts
  fold_holds f k =
      step Any SoundFold _ _ (need_open_holds room (behind f) (behind_kinds f k)) (λ _ g _ q.
      step Any SoundFold _ _ (name_holds g q) (λ name h _ r.
      step Any SoundFold _ _ (symbol_holds symbols.Comma h r) (λ _ i _ s.
      step Sound SoundFold _ _ (comma_holds i s) (λ start j t u.
      step Sound SoundFold _ _ (close_holds j u) (λ list l v w. ((t, v), w))))))

  foldl_holds : (f : Front) → Kinds f.tokens → Holds Sound (foldl_form inner room f)
  unfolding foldl_form
  foldl_holds f k = step SoundFold Sound _ _ (fold_holds f k) (λ p g q r. (foldl_sound p.name (place f) p.start p.list q.0 q.1, r))

  foldr_holds : (f : Front) → Kinds f.tokens → Holds Sound (foldr_form inner room f)
  unfolding foldr_form
  foldr_holds f k = step SoundFold Sound _ _ (fold_holds f k) (λ p g q r. (foldr_sound p.name (place f) p.start p.list q.0 q.1, r))

  eval_holds : (f : Front) → Kinds f.tokens → Holds Sound (eval_form inner room f)
  unfolding eval_form
  eval_holds f k =
      step Any Sound _ _ (need_open_holds room (behind f) (behind_kinds f k)) (λ _ g _ q.
      step Sound Sound _ _ (close_holds g q) (λ c h p r. (eval_sound (place f) c p, r)))

  abbrev SoundSend : SendParts → Type 0
  SoundSend p = Sound p.chunk × Sound p.host × Sound p.bound

  send_holds : (f : Front) → Kinds f.tokens → Holds SoundSend (send_parts inner room f)
  unfolding send_parts
  send_holds f k =
      step Any SoundSend _ _ (need_open_holds room (behind f) (behind_kinds f k)) (λ _ g _ q.
      step Sound SoundSend _ _ (comma_holds g q) (λ c h p r.
      step Sound SoundSend _ _ (comma_holds h r) (λ host i s t.
      step Sound SoundSend _ _ (comma_holds i t) (λ n j u v. ((p, s, u), v)))))

  remote_holds : (f : Front) → Kinds f.tokens → Holds Sound (remote_form inner room f)
  unfolding remote_form
  remote_holds f k =
      step SoundSend Sound _ _ (send_holds f k) (λ p g q r.
      step Any Sound _ _ (name_holds g r) (λ route h _ s.
      step Any Sound _ _ (symbol_holds symbols.ParenClose h s) (λ _ i _ t.
      (remote_sound route (place f) p.chunk p.host p.bound q.0 q.1 q.2, t))))

  neighbor_holds : (f : Front) → Kinds f.tokens → Holds Sound (neighbor_form inner room f)
  unfolding neighbor_form
  neighbor_holds f k =
      step SoundSend Sound _ _ (send_holds f k) (λ p g q r.
      step Sound Sound _ _ (close_holds g r) (λ d h s t. (neighbor_sound (place f) p.chunk p.host p.bound d q.0 q.1 q.2 s, t)))

  key_form_holds : (w : Key) (f : Front) → Kinds f.tokens → Holds Sound (key_form inner room w f)
  unfolding key_form
  key_form_holds keys.Let f k = let_holds f k
  key_form_holds keys.Try f k = try_holds f k
  key_form_holds keys.Raise f k = raise_holds f k
  key_form_holds keys.Foldl f k = foldl_holds f k
  key_form_holds keys.Foldr f k = foldr_holds f k
  key_form_holds keys.Eval f k = eval_holds f k
  key_form_holds keys.OnRemote f k = remote_holds f k
  key_form_holds keys.OnNeighbor f k = neighbor_holds f k
  key_form_holds w f k = literal_holds f (literal_key w) (literal_key_sound w) k

  symbol_form_holds : (s : Symbol) (f : Front) → Kinds f.tokens → Holds Sound (symbol_form inner room s f)
  unfolding symbol_form
  symbol_form_holds symbols.ParenOpen f k = parens_holds f k
  symbol_form_holds symbols.BracketOpen f k = brackets_holds f k
  symbol_form_holds symbols.Bar f k = chunk_holds f k
  symbol_form_holds _ f k = tt

  picked_holds : (i : ℕ) (f : Front) → IsKind (kinds.Part i) → Kinds f.tokens → Holds Sound (picked_part inner room i f)
  unfolding picked_part
  picked_holds i f h k =
      step Any Sound _ _ (opens_holds room f k) (λ _ g _ q.
      step Sound Sound _ _ (reads levels.Operand (behind f) (behind_kinds f k)) (λ a j p r. (part_sound i (place f) a h.0 h.1 p, r)))

  operand_kind_holds : (f : Front) (o : Option TokenKind) → KindOf o → Kinds f.tokens → Holds Sound (operand_kind inner room f o)
  operand_kind_holds f (Some (kinds.Word n)) h k = named_holds f k
  operand_kind_holds f (Some (kinds.Key w)) h k = key_form_holds w f k
  operand_kind_holds f (Some (kinds.Symbol s)) h k = symbol_form_holds s f k
  operand_kind_holds f (Some (kinds.Part i)) h k = picked_holds i f h k
  operand_kind_holds f o h k = literal_holds f (literal o) (literal_sound o h) k

  operand_holds : (f : Front) → Kinds f.tokens → Holds Sound (operand inner room f)
  unfolding operand
  operand_holds f k = operand_kind_holds f (next_kind f) (kind_of_next f k) k

  chained_holds : (one : Reader Node) → ((f : Front) → Kinds f.tokens → Holds Sound (one f)) → (chain : Chain) (f : Front) → Kinds f.tokens → Holds Sound (chained_operands inner room one chain f)
  unfolding chained_operands
  chained_holds one h chain f k = step Sound Sound _ _ (h f k) (λ first g p q. chain_holds one h chain (length g.tokens) first g p q)

  product_holds : (f : Front) → Kinds f.tokens → Holds Sound (product inner room f)
  unfolding product
  product_holds f k = chained_holds (operand inner room) operand_holds chains.Product f k

  addition_holds : (f : Front) → Kinds f.tokens → Holds Sound (addition inner room f)
  unfolding addition
  addition_holds f k = chained_holds (product inner room) product_holds chains.Sum f k

  before_list_holds : (item : Node) (f : Front) → Sound item → Kinds f.tokens → Holds Sound (before_list inner room item f)
  unfolding before_list
  before_list_holds item f p k =
      step Any Sound _ _ (opens_at_holds begins_operand room f k) (λ _ g _ q.
      step Sound Sound _ _ (reads levels.Listed f k) (λ rest h r s. (joined_sound (joints.Operator ops.Cons) item rest p r, s)))

  listed_holds : (f : Front) → Kinds f.tokens → Holds Sound (listed_operands inner room f)
  unfolding listed_operands
  listed_holds f k =
      step Sound Sound _ _ (addition_holds f k) (λ item g p q.
      choose Sound (is_symbol symbols.DoubleColon g) _ _ (λ _. before_list_holds item (behind g) p (behind_kinds g q)) (λ _. (p, q)))

  compared_holds : (left : Node) (f : Front) (joint : Option Joint) → Sound left → Kinds f.tokens → Holds Sound (compared_operands inner room left f joint)
  compared_holds left f (Some joint) p k =
      step Sound Sound _ _ (listed_holds (behind f) (behind_kinds f k)) (λ right g q r. (joined_sound joint left right p q, r))
  compared_holds left f None p k = (p, k)

  comparison_holds : (f : Front) → Kinds f.tokens → Holds Sound (comparison inner room f)
  unfolding comparison
  comparison_holds f k = step Sound Sound _ _ (listed_holds f k) (λ left g p q. compared_holds left g (joint_of chains.Comparison (next_kind g)) p q)

  negation_holds : (f : Front) → Kinds f.tokens → Holds Sound (negation inner room f)
  unfolding negation
  negation_holds f k =
      step Any Sound _ _ (opens_holds room f k) (λ _ g _ q.
      step Sound Sound _ _ (reads levels.Negated (behind f) (behind_kinds f k)) (λ a h p r. (not_sound (place f) a p, r)))

  negated_holds : (f : Front) → Kinds f.tokens → Holds Sound (negated_operand inner room f)
  unfolding negated_operand
  negated_holds f k = choose Sound (is_key keys.Not f) _ _ (λ _. negation_holds f k) (λ _. comparison_holds f k)

  conjunction_holds : (f : Front) → Kinds f.tokens → Holds Sound (conjunction inner room f)
  unfolding conjunction
  conjunction_holds f k = chained_holds (negated_operand inner room) negated_holds chains.And f k

  disjunction_holds : (f : Front) → Kinds f.tokens → Holds Sound (disjunction inner room f)
  unfolding disjunction
  disjunction_holds f k = chained_holds (conjunction inner room) conjunction_holds chains.Or f k

  condition_holds : (f : Front) → Kinds f.tokens → Holds Sound (condition inner room f)
  unfolding condition
  condition_holds f k =
      step Any Sound _ _ (opens_holds room f k) (λ _ g _ q.
      step Sound Sound _ _ (reads levels.Whole (behind f) (behind_kinds f k)) (λ test h p r.
      step Any Sound _ _ (key_holds keys.Then h r) (λ _ i _ s.
      step Sound Sound _ _ (reads levels.Low i s) (λ a j t u.
      step Any Sound _ _ (key_holds keys.Else j u) (λ _ l _ v.
      step Sound Sound _ _ (reads levels.Low l v) (λ b m w y. (if_sound (place f) test a b p t w, y)))))))

  low_holds : (f : Front) → Kinds f.tokens → Holds Sound (low inner room f)
  unfolding low
  low_holds f k = choose Sound (is_key keys.If f) _ _ (λ _. condition_holds f k) (λ _. disjunction_holds f k)

  before_next_holds : (first : Node) (f : Front) → Sound first → Kinds f.tokens → Holds Sound (before_next inner room first f)
  unfolding before_next
  before_next_holds first f p k =
      step Any Sound _ _ (opens_at_holds begins_expr room f k) (λ _ g _ q.
      step Sound Sound _ _ (reads levels.Whole f k) (λ second h r s. (then_sound first second p r, s)))

  whole_holds : (f : Front) → Kinds f.tokens → Holds Sound (whole inner room f)
  unfolding whole
  whole_holds f k =
      step Sound Sound _ _ (low_holds f k) (λ first g p q.
      choose Sound (is_symbol symbols.Semicolon g) _ _ (λ _. before_next_holds first (behind g) p (behind_kinds g q)) (λ _. (p, q)))

  level_holds : (l : Level) (f : Front) → Kinds f.tokens → Holds Sound (at_level inner room l f)
  unfolding at_level
  level_holds levels.Whole f k = whole_holds f k
  level_holds levels.Low f k = low_holds f k
  level_holds levels.Negated f k = negated_holds f k
  level_holds levels.Listed f k = listed_holds f k
  level_holds levels.Operand f k = operand_holds f k

-- an expression that is read is sound
pub expr_holds : (room : ℕ) (l : Level) (f : Front) → Kinds f.tokens → Holds Sound (expr_to room l f)
unfolding expr_to
expr_holds zero l f k = tt
expr_holds (suc room) l f k = level_holds (expr_to room) room (expr_holds room) l f k
