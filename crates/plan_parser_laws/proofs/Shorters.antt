-- What an expression of the grammar begins with, and that it takes at least one token.
use Rattle.std.proofs.Common.{◌≡◌, ℕ, true, List, Option, Some, None, refl}
use Rattle.plan_base.specs.declared.tree.Expr.{Expr}
use Rattle.plan_lexer.specs.declared.token.TokenKind.{TokenKind}
use Rattle.plan_lexer.specs.declared.token.TokenKind.TheVariants as kinds
use Rattle.plan_lexer.specs.declared.token.Key.{Key}
use Rattle.plan_lexer.specs.declared.token.Key.TheVariants as keys
use Rattle.plan_lexer.specs.declared.token.Symbol.{Symbol}
use Rattle.plan_lexer.specs.declared.token.Symbol.TheVariants as symbols
use Rattle.plan_parser_exprs.specs.declared.joint.Chain.TheVariants as chains
use Rattle.plan_parser_exprs.specs.declared.node.Node.{Node}
use Rattle.plan_parser_exprs.specs.declared.node.Bound.{Bound}
use Rattle.plan_parser_exprs.specs.declared.node.Caught.{Caught}
use Rattle.plan_parser_exprs.specs.Ahead.{Front, behind, next_kind, is_key}
use Rattle.plan_parser_exprs.specs.Begins.{key_begins, symbol_begins, begins_operand, begins_negated, begins_expr}
use Rattle.plan_parser_exprs.specs.Exprs.{literal}
use Rattle.plan_parser_laws.specs.Grammar as gram
use Rattle.plan_parser_laws.specs.Grammar.{Sym, Word, Called, ExprAt, LowAt, OrAt, AndAt, NotAt, CmpAt, ConsAt, AddAt, MulAt, PartAt, AtomAt, ArgsAt, SomeAt, MoreAt, ValAt, ValsAt, ClauseAt, ClausesAt}
use Rattle.plan_parser_laws.proofs.Follows.{literal_begins, or_right, Shorter, NotLonger, skip, onward, onward_most, onward_more, at_most, not_longer, joint_stands}
use Rattle.plan_parser_laws.proofs.TypesAre.{type_shorter}

-- a word or a symbol that begins an operand
key_starts : (f : Front) (k : Key) → Word k f → key_begins k ≡ true → begins_operand f ≡ true
unfolding begins_operand
key_starts f k e h = rw e h

symbol_starts : (f : Front) (s : Symbol) → Sym s f → symbol_begins s ≡ true → begins_operand f ≡ true
unfolding begins_operand
symbol_starts f s e h = rw e h

name_starts : (f : Front) (n : List ℕ) → Called n f → begins_operand f ≡ true
unfolding begins_operand
name_starts f n e = rw e refl

number_starts : (f : Front) (i : ℕ) → next_kind f ≡ Some (kinds.Part i) → begins_operand f ≡ true
unfolding begins_operand
number_starts f i e = rw e refl

literal_starts : (f : Front) (e : Expr) → literal (next_kind f) ≡ Some e → begins_operand f ≡ true
unfolding begins_operand
literal_starts f e h = literal_begins (next_kind f) e h

not_starts_here : (f : Front) → Word keys.Not f → begins_negated f ≡ true
unfolding begins_negated is_key
not_starts_here f e = rw e refl

if_starts_here : (f : Front) → Word keys.If f → begins_expr f ≡ true
unfolding begins_expr is_key
if_starts_here f e = rw e refl

negated_starts : (f : Front) → begins_operand f ≡ true → begins_negated f ≡ true
unfolding begins_negated
negated_starts f e = or_right (is_key keys.Not f) (begins_operand f) e

expr_starts_so : (f : Front) → begins_negated f ≡ true → begins_expr f ≡ true
unfolding begins_expr
expr_starts_so f e = or_right (is_key keys.If f) (begins_negated f) e

pub args_start : {r : ℕ} {f g : Front} {ns : List Node} → ArgsAt r f ns g → Sym symbols.ParenOpen f
args_start (gram.no_args a b) = a
args_start (gram.args a d few b) = a

atom_starts : {r : ℕ} {f g : Front} {n : Node} → AtomAt r f n g → begins_operand f ≡ true
atom_starts (gram.one_token h) = literal_starts _ _ h
atom_starts (gram.variable e) = name_starts _ _ e
atom_starts (gram.call e d) = name_starts _ _ e
atom_starts (gram.no_value e b) = symbol_starts _ _ e refl
atom_starts (gram.in_brackets e d b) = symbol_starts _ _ e refl
atom_starts (gram.tuple e d ds few b) = symbol_starts _ _ e refl
atom_starts (gram.no_items e b) = symbol_starts _ _ e refl
atom_starts (gram.no_items_of e b d c) = symbol_starts _ _ e refl
atom_starts (gram.items e d few b) = symbol_starts _ _ e refl
atom_starts (gram.chunk e a b d) = symbol_starts _ _ e refl
atom_starts (gram.let_in e v vs i d j) = key_starts _ _ e refl
atom_starts (gram.try_handle e d h cs few j) = key_starts _ _ e refl
atom_starts (gram.raise e a) = key_starts _ _ e refl
atom_starts (gram.raise_of e a b t c d) = key_starts _ _ e refl
atom_starts (gram.foldl e a b c d h i j) = key_starts _ _ e refl
atom_starts (gram.foldr e a b c d h i j) = key_starts _ _ e refl
atom_starts (gram.eval e a d b) = key_starts _ _ e refl
atom_starts (gram.on_remote e a b c d h i j k l) = key_starts _ _ e refl
atom_starts (gram.on_neighbor e a b c d h i j k l) = key_starts _ _ e refl

part_starts : {r : ℕ} {f g : Front} {n : Node} → PartAt r f n g → begins_operand f ≡ true
part_starts (gram.part_of e d) = number_starts _ _ e
part_starts (gram.atom d) = atom_starts d

mul_starts : {r : ℕ} {f g : Front} {n : Node} → MulAt r f n g → begins_operand f ≡ true
mul_starts (gram.one_factor d) = part_starts d
mul_starts (gram.more_factors d j e) = mul_starts d

add_starts : {r : ℕ} {f g : Front} {n : Node} → AddAt r f n g → begins_operand f ≡ true
add_starts (gram.one_term d) = mul_starts d
add_starts (gram.more_terms d j e) = add_starts d

pub cons_starts : {r : ℕ} {f g : Front} {n : Node} → ConsAt r f n g → begins_operand f ≡ true
cons_starts (gram.no_list d) = add_starts d
cons_starts (gram.before_list d e k) = add_starts d

pub cmp_starts : {r : ℕ} {f g : Front} {n : Node} → CmpAt r f n g → begins_operand f ≡ true
cmp_starts (gram.one_side d) = cons_starts d
cmp_starts (gram.two_sides d j e) = cons_starts d

not_starts : {r : ℕ} {f g : Front} {n : Node} → NotAt r f n g → begins_negated f ≡ true
not_starts (gram.negation e d) = not_starts_here _ e
not_starts (gram.comparison d) = negated_starts _ (cmp_starts d)

and_starts : {r : ℕ} {f g : Front} {n : Node} → AndAt r f n g → begins_negated f ≡ true
and_starts (gram.one_not d) = not_starts d
and_starts (gram.more_and d j e) = and_starts d

pub or_starts : {r : ℕ} {f g : Front} {n : Node} → OrAt r f n g → begins_negated f ≡ true
or_starts (gram.one_and d) = and_starts d
or_starts (gram.more_or d j e) = or_starts d

low_starts : {r : ℕ} {f g : Front} {n : Node} → LowAt r f n g → begins_expr f ≡ true
low_starts (gram.if_then_else e c t a k b) = if_starts_here _ e
low_starts (gram.disjunction d) = expr_starts_so _ (or_starts d)

pub expr_starts : {r : ℕ} {f g : Front} {n : Node} → ExprAt r f n g → begins_expr f ≡ true
expr_starts (gram.low d) = low_starts d
expr_starts (gram.then_next d e k) = low_starts d

literal_shorter : (f : Front) (e : Expr) → literal (next_kind f) ≡ Some e → Shorter f (behind f)
literal_shorter f e h = go (next_kind f) refl h
  where
    go : (o : Option TokenKind) → next_kind f ≡ o → literal o ≡ Some e → Shorter f (behind f)
    go (Some k) i h = skip i
    go None i h = cc

mutual
  pub expr_shorter : {r : ℕ} {f g : Front} {n : Node} → ExprAt r f n g → Shorter f g
  expr_shorter (gram.low d) = low_shorter d
  expr_shorter (gram.then_next d e k) = onward (low_shorter d) (onward (skip e) (expr_shorter k))

  low_shorter : {r : ℕ} {f g : Front} {n : Node} → LowAt r f n g → Shorter f g
  low_shorter (gram.if_then_else e c t a k b) =
      onward (skip e) (onward (expr_shorter c) (onward (skip t) (onward (low_shorter a) (onward (skip k) (low_shorter b)))))
  low_shorter (gram.disjunction d) = or_shorter d

  or_shorter : {r : ℕ} {f g : Front} {n : Node} → OrAt r f n g → Shorter f g
  or_shorter (gram.one_and d) = and_shorter d
  or_shorter (gram.more_or {j = j} d h e) = onward (or_shorter d) (onward (joint_stands chains.Or _ j h) (and_shorter e))

  pub and_shorter : {r : ℕ} {f g : Front} {n : Node} → AndAt r f n g → Shorter f g
  and_shorter (gram.one_not d) = not_shorter d
  and_shorter (gram.more_and {j = j} d h e) = onward (and_shorter d) (onward (joint_stands chains.And _ j h) (not_shorter e))

  pub not_shorter : {r : ℕ} {f g : Front} {n : Node} → NotAt r f n g → Shorter f g
  not_shorter (gram.negation e d) = onward (skip e) (not_shorter d)
  not_shorter (gram.comparison d) = cmp_shorter d

  cmp_shorter : {r : ℕ} {f g : Front} {n : Node} → CmpAt r f n g → Shorter f g
  cmp_shorter (gram.one_side d) = cons_shorter d
  cmp_shorter (gram.two_sides {j = j} d h e) = onward (cons_shorter d) (onward (joint_stands chains.Comparison _ j h) (cons_shorter e))

  cons_shorter : {r : ℕ} {f g : Front} {n : Node} → ConsAt r f n g → Shorter f g
  cons_shorter (gram.no_list d) = add_shorter d
  cons_shorter (gram.before_list d e k) = onward (add_shorter d) (onward (skip e) (cons_shorter k))

  add_shorter : {r : ℕ} {f g : Front} {n : Node} → AddAt r f n g → Shorter f g
  add_shorter (gram.one_term d) = mul_shorter d
  add_shorter (gram.more_terms {j = j} d h e) = onward (add_shorter d) (onward (joint_stands chains.Sum _ j h) (mul_shorter e))

  pub mul_shorter : {r : ℕ} {f g : Front} {n : Node} → MulAt r f n g → Shorter f g
  mul_shorter (gram.one_factor d) = part_shorter d
  mul_shorter (gram.more_factors {j = j} d h e) = onward (mul_shorter d) (onward (joint_stands chains.Product _ j h) (part_shorter e))

  pub part_shorter : {r : ℕ} {f g : Front} {n : Node} → PartAt r f n g → Shorter f g
  part_shorter (gram.part_of e d) = onward (skip e) (part_shorter d)
  part_shorter (gram.atom d) = atom_shorter d

  atom_shorter : {r : ℕ} {f g : Front} {n : Node} → AtomAt r f n g → Shorter f g
  atom_shorter (gram.one_token {e = x} h) = literal_shorter _ x h
  atom_shorter (gram.variable e) = skip e
  atom_shorter (gram.call e d) = onward (skip e) (args_shorter d)
  atom_shorter (gram.no_value e b) = onward (skip e) (skip b)
  atom_shorter (gram.in_brackets e d b) = onward (skip e) (onward (expr_shorter d) (skip b))
  atom_shorter (gram.tuple e d ds few b) = onward (skip e) (onward (expr_shorter d) (onward_more (more_shorter ds) (skip b)))
  atom_shorter (gram.no_items e b) = onward (skip e) (skip b)
  atom_shorter (gram.no_items_of e b d c) = onward (skip e) (onward (skip b) (onward (type_shorter d) (skip c)))
  atom_shorter (gram.items e d few b) = onward (skip e) (onward (some_shorter d) (skip b))
  atom_shorter (gram.chunk e a b d) = onward (skip e) (onward (skip a) (onward (skip b) (args_shorter d)))
  atom_shorter (gram.let_in e v vs i d j) =
      onward (skip e) (onward (val_shorter v) (onward_more (vals_shorter vs) (onward (skip i) (onward (expr_shorter d) (skip j)))))
  atom_shorter (gram.try_handle e d h cs few j) = onward (skip e) (onward (expr_shorter d) (onward (skip h) (onward (clauses_shorter cs) (skip j))))
  atom_shorter (gram.raise e a) = onward (skip e) (skip a)
  atom_shorter (gram.raise_of e a b t c d) = onward (skip e) (onward (skip a) (onward (skip b) (onward (type_shorter t) (onward (skip c) (skip d)))))
  atom_shorter (gram.foldl e a b c d h i j) =
      onward (skip e) (onward (skip a) (onward (skip b) (onward (skip c) (onward (expr_shorter d) (onward (skip h) (onward (expr_shorter i) (skip j)))))))
  atom_shorter (gram.foldr e a b c d h i j) =
      onward (skip e) (onward (skip a) (onward (skip b) (onward (skip c) (onward (expr_shorter d) (onward (skip h) (onward (expr_shorter i) (skip j)))))))
  atom_shorter (gram.eval e a d b) = onward (skip e) (onward (skip a) (onward (expr_shorter d) (skip b)))
  atom_shorter (gram.on_remote e a b c d h i j k l) =
      onward (skip e) (onward (skip a) (onward (expr_shorter b) (onward (skip c) (onward (expr_shorter d) (onward (skip h) (onward (expr_shorter i)
      (onward (skip j) (onward (skip k) (skip l)))))))))
  atom_shorter (gram.on_neighbor e a b c d h i j k l) =
      onward (skip e) (onward (skip a) (onward (expr_shorter b) (onward (skip c) (onward (expr_shorter d) (onward (skip h) (onward (expr_shorter i)
      (onward (skip j) (onward (expr_shorter k) (skip l)))))))))

  args_shorter : {r : ℕ} {f g : Front} {ns : List Node} → ArgsAt r f ns g → Shorter f g
  args_shorter (gram.no_args a b) = onward (skip a) (skip b)
  args_shorter (gram.args a d few b) = onward (skip a) (onward (some_shorter d) (skip b))

  some_shorter : {r : ℕ} {f g : Front} {ns : List Node} → SomeAt r f ns g → Shorter f g
  some_shorter (gram.some d ds) = onward_most (expr_shorter d) (more_shorter ds)

  more_shorter : {r : ℕ} {f g : Front} {ns : List Node} → MoreAt r f ns g → NotLonger f g
  more_shorter gram.no_more = not_longer
  more_shorter (gram.one_more e d ds) = at_most (onward (skip e) (onward_most (expr_shorter d) (more_shorter ds)))

  pub val_shorter : {r at : ℕ} {f g : Front} {b : Bound} → ValAt r at f b g → Shorter f g
  val_shorter (gram.val a b c t e d) = onward (skip a) (onward (skip b) (onward (skip c) (onward (type_shorter t) (onward (skip e) (expr_shorter d)))))

  vals_shorter : {r : ℕ} {f g : Front} {bs : List Bound} → ValsAt r f bs g → NotLonger f g
  vals_shorter gram.no_val = not_longer
  vals_shorter (gram.one_val d ds) = at_most (onward_most (val_shorter d) (vals_shorter ds))

  clause_shorter : {r : ℕ} {f g : Front} {c : Caught} → ClauseAt r f c g → Shorter f g
  clause_shorter (gram.named_clause a b d) = onward (skip a) (onward (skip b) (expr_shorter d))
  clause_shorter (gram.last_clause a b d) = onward (skip a) (onward (skip b) (expr_shorter d))

  clauses_shorter : {r : ℕ} {f g : Front} {cs : List Caught} → ClausesAt r f cs g → Shorter f g
  clauses_shorter (gram.one_clause d) = clause_shorter d
  clauses_shorter (gram.more_clauses d n b ds) = onward (clause_shorter d) (onward (skip b) (clauses_shorter ds))
