-- An expression of the grammar is read, where no expression goes on behind it.
use Rattle.std.proofs.Common.{◌≡◌, ◌≤◌, ◌<◌, ◌&&◌, ℕ, zero, suc, Bool, true, false, List, [], ◌∷◌, ◌++◌, length, is_some, Ok, if◌then◌else◌, refl, ◌∙◌, ap, append_assoc, append-nil, arith}
use Rattle.plan_base.specs.declared.limit.Limit.{Limit}
use Rattle.plan_base.specs.declared.limit.Limit.TheVariants as limits
use Rattle.plan_lexer.specs.declared.token.Key.{Key}
use Rattle.plan_lexer.specs.declared.token.Key.TheVariants as keys
use Rattle.plan_lexer.specs.declared.token.Symbol.{Symbol}
use Rattle.plan_lexer.specs.declared.token.Symbol.TheVariants as symbols
use Rattle.plan_parser_exprs.specs.declared.fault.Wanted.TheVariants as wanted
use Rattle.plan_parser_exprs.specs.declared.joint.Chain.TheVariants as chains
use Rattle.plan_parser_exprs.specs.declared.level.Level.{Level}
use Rattle.plan_parser_exprs.specs.declared.level.Level.TheVariants as levels
use Rattle.plan_parser_exprs.specs.declared.node.Node.{Node}
use Rattle.plan_parser_exprs.specs.declared.node.Bound.{Bound}
use Rattle.plan_parser_exprs.specs.declared.node.Caught.{Caught}
use Rattle.plan_parser_exprs.specs.Ahead.{Front, Reader, place, behind, next_kind, is_symbol, is_key}
use Rattle.plan_parser_exprs.specs.Begins.{begins_expr}
use Rattle.plan_parser_exprs.specs.Types.{more}
use Rattle.plan_parser_exprs.specs.Exprs.{clause_follows, arguments, binding, bindings_from, clause, clauses_from, operand, product, addition, listed_operands, comparison, negated_operand}
use Rattle.plan_parser_exprs.specs.Exprs.{conjunction, disjunction, low, whole, at_level, expr_to}
use Rattle.plan_parser_laws.specs.Grammar as gram
use Rattle.plan_parser_laws.specs.Grammar.{Sym, Word, ExprAt, LowAt, OrAt, AndAt, NotAt, CmpAt, ConsAt, AddAt, MulAt, PartAt, AtomAt, ArgsAt, MoreAt, ValAt, ValsAt, ClauseAt, ClausesAt}
use Rattle.plan_parser_laws.specs.Follow.{symbol_level, key_level, level, EndsExpr}
use Rattle.plan_parser_laws.proofs.Follows.{joint_level, no_joint, no_symbol, operand_no_key, negated_no_if, symbol_here, Shorter}
use Rattle.plan_parser_laws.proofs.SoFar.{SoFar, so_far_first, so_far_more, so_far_ends}
use Rattle.plan_parser_laws.proofs.Forms as form
use Rattle.plan_parser_laws.proofs.TypesAre.{symbol_ends_type, more_ends, more_adds, type_is}
use Rattle.plan_parser_laws.proofs.Shorters.{args_start, cons_starts, cmp_starts, or_starts, expr_starts, and_shorter, not_shorter, mul_shorter, part_shorter, val_shorter}

-- the level of what stands next
symbol_at : (s : Symbol) (f : Front) → Sym s f → level (next_kind f) ≡ symbol_level s
symbol_at s f e = ap level e

symbol_ends : (s : Symbol) (f : Front) → Sym s f → symbol_level s ≡ 8 → EndsExpr f
symbol_ends s f e k = let l = symbol_at s f e in omega (arith, l, k)

key_ends : (k : Key) (f : Front) → Word k f → key_level k ≡ 8 → EndsExpr f
key_ends k f e h = let l : level (next_kind f) ≡ key_level k = ap level e in omega (arith, l, h)

-- what another symbol that stands next says
not_symbol : (w s : Symbol) (f : Front) → Sym s f → symbol_level w < symbol_level s → is_symbol w f ≡ false
not_symbol w s f e h = no_symbol w f (let l = symbol_at s f e in omega (arith, l, h))

pub comma_shut : (f : Front) → Sym symbols.ParenClose f → is_symbol symbols.Comma f ≡ false
unfolding is_symbol
comma_shut f e = rw e refl

pub comma_shut_list : (f : Front) → Sym symbols.BracketClose f → is_symbol symbols.Comma f ≡ false
unfolding is_symbol
comma_shut_list f e = rw e refl

no_val_in : (f : Front) → Word keys.In f → is_key keys.Val f ≡ false
unfolding is_key
no_val_in f e = rw e refl

bar_end : (f : Front) → Word keys.End f → is_symbol symbols.Bar f ≡ false
unfolding is_symbol
bar_end f e = rw e refl

val_here : (f : Front) → Word keys.Val f → is_key keys.Val f ≡ true
unfolding is_key
val_here f e = rw e refl

-- readings at a level
module _ (r : ℕ) (f : Front) (x : Node × Front) where
  as_whole : whole (expr_to r) r f ≡ Ok x → expr_to (suc r) levels.Whole f ≡ Ok x
  unfolding expr_to at_level
  as_whole e = e

  as_low : low (expr_to r) r f ≡ Ok x → expr_to (suc r) levels.Low f ≡ Ok x
  unfolding expr_to at_level
  as_low e = e

  as_negated : negated_operand (expr_to r) r f ≡ Ok x → expr_to (suc r) levels.Negated f ≡ Ok x
  unfolding expr_to at_level
  as_negated e = e

  as_listed : listed_operands (expr_to r) r f ≡ Ok x → expr_to (suc r) levels.Listed f ≡ Ok x
  unfolding expr_to at_level
  as_listed e = e

  as_operand : operand (expr_to r) r f ≡ Ok x → expr_to (suc r) levels.Operand f ≡ Ok x
  unfolding expr_to at_level
  as_operand e = e

-- what was joined so far, at each level
abbrev OrSoFar : ℕ → Front → Node → Front → Type 0
OrSoFar r f n g = SoFar (expr_to r) r (conjunction (expr_to r) r) chains.Or f n g

abbrev AndSoFar : ℕ → Front → Node → Front → Type 0
AndSoFar r f n g = SoFar (expr_to r) r (negated_operand (expr_to r) r) chains.And f n g

abbrev AddSoFar : ℕ → Front → Node → Front → Type 0
AddSoFar r f n g = SoFar (expr_to r) r (product (expr_to r) r) chains.Sum f n g

abbrev MulSoFar : ℕ → Front → Node → Front → Type 0
MulSoFar r f n g = SoFar (expr_to r) r (operand (expr_to r) r) chains.Product f n g

module _ (r : ℕ) (f g : Front) (n : Node) where
  or_ends : OrSoFar r f n g → 7 ≤ level (next_kind g) → disjunction (expr_to r) r f ≡ Ok (n, g)
  unfolding disjunction
  or_ends s h = so_far_ends (expr_to r) r (conjunction (expr_to r) r) chains.Or f g n s (no_joint chains.Or (next_kind g) (omega (arith, h)))

  and_ends : AndSoFar r f n g → 6 ≤ level (next_kind g) → conjunction (expr_to r) r f ≡ Ok (n, g)
  unfolding conjunction
  and_ends s h = so_far_ends (expr_to r) r (negated_operand (expr_to r) r) chains.And f g n s (no_joint chains.And (next_kind g) (omega (arith, h)))

  add_ends : AddSoFar r f n g → 3 ≤ level (next_kind g) → addition (expr_to r) r f ≡ Ok (n, g)
  unfolding addition
  add_ends s h = so_far_ends (expr_to r) r (product (expr_to r) r) chains.Sum f g n s (no_joint chains.Sum (next_kind g) (omega (arith, h)))

  mul_ends : MulSoFar r f n g → 2 ≤ level (next_kind g) → product (expr_to r) r f ≡ Ok (n, g)
  unfolding product
  mul_ends s h = so_far_ends (expr_to r) r (operand (expr_to r) r) chains.Product f g n s (no_joint chains.Product (next_kind g) (omega (arith, h)))

-- behind further items, as before them, no expression goes on
more_follow : {r : ℕ} {f g : Front} {ns : List Node} → MoreAt r f ns g → EndsExpr g → EndsExpr f
more_follow gram.no_more h = h
more_follow (gram.one_more e d rest) h = symbol_ends symbols.Comma _ e refl

vals_follow : {r : ℕ} {f g : Front} {bs : List Bound} → ValsAt r f bs g → EndsExpr g → EndsExpr f
vals_follow gram.no_val h = h
vals_follow (gram.one_val (gram.val e a b c d k) rest) h = key_ends keys.Val _ e refl

val_stands : {r at : ℕ} {f g : Front} {b : Bound} → ValAt r at f b g → Word keys.Val f
val_stands (gram.val e a b c d k) = e

module _ (inner : Level → Reader Node) (room : ℕ) where
  -- no further `val`
  vals_end : (fuel : ℕ) (done : List Bound) (f : Front) → is_key keys.Val f ≡ false → bindings_from inner room fuel done f ≡ Ok (done ++ [], f)
  unfolding bindings_from
  vals_end zero done f e = rw (append-nil done) refl
  vals_end (suc fuel) done f e = rw (e, append-nil done) refl

  -- one more `val`, and then those behind it
  vals_add : (fuel : ℕ) (done : List Bound) (f g h : Front) (b : Bound) (bs : List Bound) → Word keys.Val f → binding inner room (place f) f ≡ Ok (b, g)
      → Shorter f g → length f.tokens ≤ fuel → ((k : ℕ) → length g.tokens ≤ k → bindings_from inner room k (done ++ b ∷ []) g ≡ Ok ((done ++ b ∷ []) ++ bs, h))
      → bindings_from inner room fuel done f ≡ Ok (done ++ b ∷ bs, h)
  unfolding bindings_from
  vals_add zero done f g h b bs here step less enough others = let l = less.less in absurd (omega (arith, l, enough))
  vals_add (suc k) done f g h b bs here step less enough others =
      rw (val_here f here, step) (others k (let l = less.less in omega (arith, l, enough)) ∙ ap (λ l. Ok (l, h)) (append_assoc done (b ∷ []) bs))

  -- the last clause
  clauses_end : (left : ℕ) (done : List Caught) (f g : Front) (c : Caught) → clause inner room f ≡ Ok (c, g) → is_symbol symbols.Bar g ≡ false → 1 ≤ left
      → clauses_from inner room left done f ≡ Ok (done ++ c ∷ [], g)
  unfolding clauses_from clause_follows
  clauses_end zero done f g c step e few = absurd (omega (arith, few))
  clauses_end (suc left) done f g c step e few = rw (step, e) (go (is_some c.name))
    where
      go : (b : Bool) → (if b && false then clauses_from inner room left (done ++ c ∷ []) (behind g) else Ok (done ++ c ∷ [], g)) ≡ Ok (done ++ c ∷ [], g)
      go true = refl
      go false = refl

  clauses_add : (left : ℕ) (done : List Caught) (f g h : Front) (c : Caught) (cs : List Caught) → clause inner room f ≡ Ok (c, g) → is_some c.name ≡ true → is_symbol symbols.Bar g ≡ true
      → length (c ∷ cs) ≤ left
      → ((k : ℕ) → length cs ≤ k → clauses_from inner room k (done ++ c ∷ []) (behind g) ≡ Ok ((done ++ c ∷ []) ++ cs, h))
      → clauses_from inner room left done f ≡ Ok (done ++ c ∷ cs, h)
  unfolding clauses_from clause_follows
  clauses_add zero done f g h c cs step e bar few others = absurd (omega (arith, few))
  clauses_add (suc k) done f g h c cs step e bar few others =
      rw (step, e, bar) (others k (omega (arith, few)) ∙ ap (λ l. Ok (l, h)) (append_assoc done (c ∷ []) cs))

mutual
  pub expr_at : {r : ℕ} {f g : Front} {n : Node} → ExprAt r f n g → EndsExpr g → whole (expr_to r) r f ≡ Ok (n, g)
  expr_at {r} {f} {g} {n} (gram.low d) ends =
      form.one_low_is (expr_to r) r f g n (low_at d (omega (arith, ends))) (no_symbol symbols.Semicolon g (omega (arith, ends)))
  expr_at {f = f} {g = h} (gram.then_next {r} {g = g} {a = a} {b = b} d e k) ends =
      form.then_is (expr_to (suc r)) r f g h a b (low_at d (let l = symbol_at symbols.Semicolon g e in omega (arith, l))) (symbol_here g e) (expr_starts k)
      (as_whole r _ _ (expr_at k ends))

  low_at : {r : ℕ} {f g : Front} {n : Node} → LowAt r f n g → 7 ≤ level (next_kind g) → low (expr_to r) r f ≡ Ok (n, g)
  low_at {f = f} {g = i} (gram.if_then_else {r} {g = g} {h = h} {c = c} {a = a} {b = b} e p t q k s) ends =
      form.if_is (expr_to (suc r)) r f g h i c a b e (as_whole r _ _ (expr_at p (key_ends keys.Then g t refl))) t
      (as_low r _ _ (low_at q (let l = key_ends keys.Else h k refl in omega (arith, l)))) k (as_low r _ _ (low_at s ends))
  low_at {r} {f} {g} {n} (gram.disjunction d) ends = form.low_is (expr_to r) r f g n (negated_no_if f (or_starts d)) (or_ends r f g n (or_at d (omega (arith, ends))) ends)

  or_at : {r : ℕ} {f g : Front} {n : Node} → OrAt r f n g → 6 ≤ level (next_kind g) → OrSoFar r f n g
  or_at {r} {f} {g} {n} (gram.one_and d) ends = so_far_first (expr_to r) r (conjunction (expr_to r) r) chains.Or f g n (and_ends r f g n (and_at d (omega (arith, ends))) ends)
  or_at {r} {f} {g = h} (gram.more_or {g = g} {a = a} {b = b} {j = j} d e k) ends =
      so_far_more (expr_to r) r (conjunction (expr_to r) r) chains.Or f g h a b j (or_at d (let l = joint_level chains.Or (next_kind g) j e in omega (arith, l))) e
      (and_ends r (behind g) h b (and_at k (omega (arith, ends))) ends) (and_shorter k)

  and_at : {r : ℕ} {f g : Front} {n : Node} → AndAt r f n g → 5 ≤ level (next_kind g) → AndSoFar r f n g
  and_at {r} {f} {g} {n} (gram.one_not d) ends = so_far_first (expr_to r) r (negated_operand (expr_to r) r) chains.And f g n (not_at d ends)
  and_at {r} {f} {g = h} (gram.more_and {g = g} {a = a} {b = b} {j = j} d e k) ends =
      so_far_more (expr_to r) r (negated_operand (expr_to r) r) chains.And f g h a b j (and_at d (let l = joint_level chains.And (next_kind g) j e in omega (arith, l))) e
      (not_at k ends) (not_shorter k)

  not_at : {r : ℕ} {f g : Front} {n : Node} → NotAt r f n g → 5 ≤ level (next_kind g) → negated_operand (expr_to r) r f ≡ Ok (n, g)
  not_at {f = f} {g = g} (gram.negation {r} {a = a} e d) ends = form.not_is (expr_to (suc r)) r f g a e (as_negated r _ _ (not_at d ends))
  not_at {r} {f} {g} {n} (gram.comparison d) ends = form.negated_is (expr_to r) r f g n (operand_no_key keys.Not f (cmp_starts d) refl) (cmp_at d ends)

  cmp_at : {r : ℕ} {f g : Front} {n : Node} → CmpAt r f n g → 5 ≤ level (next_kind g) → comparison (expr_to r) r f ≡ Ok (n, g)
  cmp_at {r} {f} {g} {n} (gram.one_side d) ends =
      form.one_side_is (expr_to r) r f g n (cons_at d (omega (arith, ends))) (no_joint chains.Comparison (next_kind g) (omega (arith, ends)))
  cmp_at {r} {f} {g = h} (gram.two_sides {g = g} {a = a} {b = b} {j = j} d e k) ends =
      form.two_sides_are (expr_to r) r f g h a b j (cons_at d (let l = joint_level chains.Comparison (next_kind g) j e in omega (arith, l))) e (cons_at k (omega (arith, ends)))

  cons_at : {r : ℕ} {f g : Front} {n : Node} → ConsAt r f n g → 4 ≤ level (next_kind g) → listed_operands (expr_to r) r f ≡ Ok (n, g)
  cons_at {r} {f} {g} {n} (gram.no_list d) ends =
      form.no_list_is (expr_to r) r f g n (add_ends r f g n (add_at d (omega (arith, ends))) (omega (arith, ends))) (no_symbol symbols.DoubleColon g (omega (arith, ends)))
  cons_at {f = f} {g = h} (gram.before_list {r} {g = g} {a = a} {b = b} d e k) ends =
      form.list_is (expr_to (suc r)) r f g h a b
      (add_ends (suc r) f g a (add_at d (let l = symbol_at symbols.DoubleColon g e in omega (arith, l))) (let l = symbol_at symbols.DoubleColon g e in omega (arith, l)))
      (symbol_here g e) (cons_starts k) (as_listed r _ _ (cons_at k ends))

  add_at : {r : ℕ} {f g : Front} {n : Node} → AddAt r f n g → 2 ≤ level (next_kind g) → AddSoFar r f n g
  add_at {r} {f} {g} {n} (gram.one_term d) ends = so_far_first (expr_to r) r (product (expr_to r) r) chains.Sum f g n (mul_ends r f g n (mul_at d (omega (arith, ends))) ends)
  add_at {r} {f} {g = h} (gram.more_terms {g = g} {a = a} {b = b} {j = j} d e k) ends =
      so_far_more (expr_to r) r (product (expr_to r) r) chains.Sum f g h a b j (add_at d (let l = joint_level chains.Sum (next_kind g) j e in omega (arith, l))) e
      (mul_ends r (behind g) h b (mul_at k (omega (arith, ends))) ends) (mul_shorter k)

  mul_at : {r : ℕ} {f g : Front} {n : Node} → MulAt r f n g → 1 ≤ level (next_kind g) → MulSoFar r f n g
  mul_at {r} {f} {g} {n} (gram.one_factor d) ends = so_far_first (expr_to r) r (operand (expr_to r) r) chains.Product f g n (part_at d ends)
  mul_at {r} {f} {g = h} (gram.more_factors {g = g} {a = a} {b = b} {j = j} d e k) ends =
      so_far_more (expr_to r) r (operand (expr_to r) r) chains.Product f g h a b j (mul_at d (let l = joint_level chains.Product (next_kind g) j e in omega (arith, l))) e
      (part_at k ends) (part_shorter k)

  part_at : {r : ℕ} {f g : Front} {n : Node} → PartAt r f n g → 1 ≤ level (next_kind g) → operand (expr_to r) r f ≡ Ok (n, g)
  part_at {f = f} {g = g} (gram.part_of {r} {i = i} {a = a} e d) ends = form.part_is (expr_to (suc r)) r f g i a e (as_operand r _ _ (part_at d ends))
  part_at (gram.atom d) ends = atom_at d ends

  atom_at : {r : ℕ} {f g : Front} {n : Node} → AtomAt r f n g → 1 ≤ level (next_kind g) → operand (expr_to r) r f ≡ Ok (n, g)
  atom_at {r} {f} (gram.one_token {e = e} h) ends = form.literal_is (expr_to r) r f e h
  atom_at {r} {f} (gram.variable {name = m} e) ends = form.variable_is (expr_to r) r f m e (no_symbol symbols.ParenOpen (behind f) (omega (arith, ends)))
  atom_at {r} {f} {g} (gram.call {name = m} {ns = ns} e d) ends = form.call_is (expr_to r) r f g m ns e (symbol_here (behind f) (args_start d)) (args_at d)
  atom_at {f = f} (gram.no_value {r} e b) ends = form.no_value_is (expr_to (suc r)) r f e b
  atom_at {f = f} (gram.in_brackets {r} {g = g} {n = n} e d b) ends =
      form.in_brackets_is (expr_to (suc r)) r f g n e (expr_starts d) (as_whole r _ _ (expr_at d (symbol_ends symbols.ParenClose g b refl))) b
  atom_at {f = f} (gram.tuple {r} {g = g} {h = h} {n = n} {m = m} {ns = ns} e d (gram.one_more comma one rest) few b) ends =
      form.tuple_is (expr_to (suc r)) r f g h n (m ∷ ns) e (expr_starts d) (as_whole r _ _ (expr_at d (symbol_ends symbols.Comma g comma refl))) comma
      (more_adds (expr_to (suc r) levels.Whole) begins_expr symbols.Comma limits.Parts wanted.AnExpr 7 (n ∷ []) g _ h m ns (symbol_here g comma)
      (as_whole r _ _ (expr_at one (more_follow rest (symbol_ends symbols.ParenClose h b refl)))) few
      (λ k enough. more_at rest limits.Parts k ((n ∷ []) ++ m ∷ []) enough (comma_shut h b) (symbol_ends symbols.ParenClose h b refl))) b
  atom_at {f = f} (gram.no_items {r} e b) ends = form.no_items_is (expr_to (suc r)) r f e b
  atom_at {f = f} (gram.no_items_of {r} {g = g} {t = t} e b d c) ends = form.no_items_of_is (expr_to (suc r)) r f g t e b (type_is d (symbol_ends_type g c)) c
  atom_at {f = f} (gram.items {r} {g = h} e (gram.some {g = g} {n = n} {ns = ns} d rest) few b) ends =
      form.items_is (expr_to (suc r)) r f g h n ns e (expr_starts d) (as_whole r _ _ (expr_at d (more_follow rest (symbol_ends symbols.BracketClose h b refl))))
      (more_at rest limits.Items 62 (n ∷ []) (omega (arith, few)) (comma_shut_list h b) (symbol_ends symbols.BracketClose h b refl)) b
  atom_at {r} {f} {g} (gram.chunk {name = m} {ns = ns} e a b d) ends = form.chunk_is (expr_to r) r f g m ns e a b (args_at d)
  atom_at {f = f} (gram.let_in {r} {g = g} {h = h} {i = i} {b = b} {bs = bs} {n = n} e v vs p d q) ends =
      form.let_is (expr_to (suc r)) r f g h i b bs n e (val_at v (vals_follow vs (key_ends keys.In h p refl)))
      (vals_at vs (length g.tokens) (b ∷ []) (omega arith) (no_val_in h p) (key_ends keys.In h p refl)) p (as_whole r _ _ (expr_at d (key_ends keys.End i q refl))) q
  atom_at {f = f} (gram.try_handle {r} {g = g} {h = h} {n = n} {cs = cs} e d p ds few q) ends =
      form.try_is (expr_to (suc r)) r f g h n cs e (as_whole r _ _ (expr_at d (key_ends keys.Handle g p refl))) p
      (clauses_at ds 8 [] few (key_ends keys.End h q refl) (bar_end h q)) q
  atom_at {r} {f} (gram.raise {name = m} e a) ends = form.raise_is (expr_to r) r f m e a
  atom_at {f = f} (gram.raise_of {r} {g = g} {t = t} {name = m} e a b d c k) ends = form.raise_of_is (expr_to (suc r)) r f g t m e a b (type_is d (symbol_ends_type g c)) c k
  atom_at {f = f} (gram.foldl {r} {g = g} {h = h} {name = m} {a = a} {b = b} e p q s d t k u) ends =
      form.foldl_is (expr_to (suc r)) r f g h m a b e p q s (as_whole r _ _ (expr_at d (symbol_ends symbols.Comma g t refl))) t
      (as_whole r _ _ (expr_at k (symbol_ends symbols.ParenClose h u refl))) u
  atom_at {f = f} (gram.foldr {r} {g = g} {h = h} {name = m} {a = a} {b = b} e p q s d t k u) ends =
      form.foldr_is (expr_to (suc r)) r f g h m a b e p q s (as_whole r _ _ (expr_at d (symbol_ends symbols.Comma g t refl))) t
      (as_whole r _ _ (expr_at k (symbol_ends symbols.ParenClose h u refl))) u
  atom_at {f = f} (gram.eval {r} {g = g} {a = a} e p d b) ends =
      form.eval_is (expr_to (suc r)) r f g a e p (as_whole r _ _ (expr_at d (symbol_ends symbols.ParenClose g b refl))) b
  atom_at {f = f} (gram.on_remote {r} {g = g} {h = h} {i = i} {a = a} {b = b} {c = c} {name = m} e p d q k s t u v w) ends =
      form.on_remote_is (expr_to (suc r)) r f g h i a b c m e p (as_whole r _ _ (expr_at d (symbol_ends symbols.Comma g q refl))) q
      (as_whole r _ _ (expr_at k (symbol_ends symbols.Comma h s refl))) s (as_whole r _ _ (expr_at t (symbol_ends symbols.Comma i u refl))) u v w
  atom_at {f = f} (gram.on_neighbor {r} {g = g} {h = h} {i = i} {j = j} {a = a} {b = b} {c = c} {d = y} e p d q k s t u v w) ends =
      form.on_neighbor_is (expr_to (suc r)) r f g h i j a b c y e p (as_whole r _ _ (expr_at d (symbol_ends symbols.Comma g q refl))) q
      (as_whole r _ _ (expr_at k (symbol_ends symbols.Comma h s refl))) s (as_whole r _ _ (expr_at t (symbol_ends symbols.Comma i u refl))) u
      (as_whole r _ _ (expr_at v (symbol_ends symbols.ParenClose j w refl))) w

  args_at : {r : ℕ} {f g : Front} {ns : List Node} → ArgsAt r f ns g → arguments (expr_to r) r f ≡ Ok (ns, g)
  args_at {f = f} (gram.no_args {r} a b) = form.no_args_is (expr_to (suc r)) r f a b
  args_at {f = f} (gram.args {r} {g = h} a (gram.some {g = g} {n = n} {ns = ns} d rest) few b) =
      form.args_is (expr_to (suc r)) r f (behind h) (n ∷ ns) a (expr_starts d)
      (form.items_are (expr_to (suc r)) r (behind f) g h n ns symbols.ParenClose limits.Arguments 7 (as_whole r _ _ (expr_at d (more_follow rest (symbol_ends symbols.ParenClose h b refl))))
      (more_at rest limits.Arguments 7 (n ∷ []) (omega (arith, few)) (comma_shut h b) (symbol_ends symbols.ParenClose h b refl)) (symbol_here h b))

  more_at : {r : ℕ} {f g : Front} {ns : List Node} → MoreAt r f ns g → (limit : Limit) (left : ℕ) (done : List Node) → length ns ≤ left → is_symbol symbols.Comma g ≡ false → EndsExpr g
      → more (expr_to (suc r) levels.Whole) begins_expr symbols.Comma limit wanted.AnExpr left done f ≡ Ok (done ++ ns, g)
  more_at {r} {f} gram.no_more limit left done few none ends = more_ends (expr_to (suc r) levels.Whole) begins_expr symbols.Comma limit wanted.AnExpr left done f none
  more_at {r} {f} {g = h} (gram.one_more {n = n} {ns = ns} comma one rest) limit left done few none ends =
      more_adds (expr_to (suc r) levels.Whole) begins_expr symbols.Comma limit wanted.AnExpr left done f _ h n ns (symbol_here f comma) (as_whole r _ _ (expr_at one (more_follow rest ends))) few
      (λ k enough. more_at rest limit k (done ++ n ∷ []) enough none ends)

  val_at : {r at : ℕ} {f g : Front} {b : Bound} → ValAt r at f b g → EndsExpr g → binding (expr_to (suc r)) (suc r) at f ≡ Ok (b, g)
  val_at {r} {at} {f} {g = h} (gram.val {g = g} {name = m} {t = t} {n = n} a b c d e k) ends =
      form.val_is (expr_to (suc r)) r at f g h m t n a b c (type_is d (symbol_ends_type g e)) e (as_whole r _ _ (expr_at k ends))

  vals_at : {r : ℕ} {f g : Front} {bs : List Bound} → ValsAt r f bs g → (fuel : ℕ) (done : List Bound) → length f.tokens ≤ fuel → is_key keys.Val g ≡ false → EndsExpr g
      → bindings_from (expr_to (suc r)) (suc r) fuel done f ≡ Ok (done ++ bs, g)
  vals_at {r} {f} gram.no_val fuel done enough none ends = vals_end (expr_to (suc r)) (suc r) fuel done f none
  vals_at {r} {f} {g = h} (gram.one_val {b = b} {bs = bs} d rest) fuel done enough none ends =
      vals_add (expr_to (suc r)) (suc r) fuel done f _ h b bs (val_stands d) (val_at d (vals_follow rest ends)) (val_shorter d) enough
      (λ k within. vals_at rest k (done ++ b ∷ []) within none ends)

  clause_at : {r : ℕ} {f g : Front} {c : Caught} → ClauseAt r f c g → EndsExpr g → clause (expr_to (suc r)) (suc r) f ≡ Ok (c, g)
  clause_at {r} {f} {g} (gram.named_clause {name = m} {n = n} a b d) ends = form.named_clause_is (expr_to (suc r)) r f g m n a b (as_whole r _ _ (expr_at d ends))
  clause_at {r} {f} {g} (gram.last_clause {n = n} a b d) ends = form.last_clause_is (expr_to (suc r)) r f g n a b (as_whole r _ _ (expr_at d ends))

  clauses_at : {r : ℕ} {f g : Front} {cs : List Caught} → ClausesAt r f cs g → (left : ℕ) (done : List Caught) → length cs ≤ left → EndsExpr g → is_symbol symbols.Bar g ≡ false
      → clauses_from (expr_to (suc r)) (suc r) left done f ≡ Ok (done ++ cs, g)
  clauses_at {r} {f} {g} (gram.one_clause {c = c} d) left done few ends none = clauses_end (expr_to (suc r)) (suc r) left done f g c (clause_at d ends) none few
  clauses_at {r} {f} {g = h} (gram.more_clauses {g = g} {c = c} {cs = cs} d named bar rest) left done few ends none =
      clauses_add (expr_to (suc r)) (suc r) left done f g h c cs (clause_at d (symbol_ends symbols.Bar g bar refl)) named (symbol_here g bar) few
      (λ k enough. clauses_at rest k (done ++ c ∷ []) enough ends none)

-- an expression of the grammar is read, where none goes on behind it
pub expr_is : {r : ℕ} {f g : Front} {n : Node} → ExprAt r f n g → EndsExpr g → expr_to (suc r) levels.Whole f ≡ Ok (n, g)
expr_is {r} {f} {g} {n} d ends = as_whole r f (n, g) (expr_at d ends)
