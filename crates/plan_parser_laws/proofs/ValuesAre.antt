-- What is a value or arguments by the grammar is read.
use Rattle.std.proofs.Common.{◌≡◌, ◌≤◌, ◌+◌, ◌-◌, ℕ, suc, true, false, List, [], ◌∷◌, ◌++◌, length, map, Option, Some, Ok, refl, sym, ◌∙◌, ap, arith}
use Rattle.std.proofs.lemmas.Bool.{le-ltb}
use Rattle.plan_base.specs.declared.limit.Limit.TheVariants as limits
use Rattle.plan_base.specs.declared.tree.Ty.{Ty}
use Rattle.plan_base.specs.declared.tree.Ty.TheVariants as ty
use Rattle.plan_base.specs.declared.tree.Value.{Value}
use Rattle.plan_base.specs.declared.tree.Value.TheVariants as v
use Rattle.plan_base.specs.Sizes.{type_depth}
use Rattle.plan_base.proofs.SameTypes.{same_type_of}
use Rattle.plan_lexer.specs.declared.token.Token.{Token}
use Rattle.plan_lexer.specs.declared.token.TokenKind.{TokenKind}
use Rattle.plan_lexer.specs.declared.token.Symbol.TheVariants as symbols
use Rattle.plan_parser_exprs.specs.declared.fault.Wanted.TheVariants as wanted
use Rattle.plan_parser_exprs.specs.Ahead.{Front, Reader, place, behind, next_kind, is_symbol_kind, is_symbol, need_symbol}
use Rattle.plan_parser_exprs.specs.Types.{opens, more, type_to}
use Rattle.plan_parser_laws.specs.Grammar.{Sym, behind2}
use Rattle.plan_parser_laws.proofs.TypesAre.{symbol_ends_type, more_ends, more_adds, type_is}
use Rattle.plan_parser_laws.proofs.ExprsAre.{comma_shut, comma_shut_list}
use Rattle.plan_parser_laws.proofs.Follows.{symbol_here}
use Rattle.plan_parser_laws.proofs.TokenFacts.{room_open}
use Rattle.plan_parser.specs.declared.item.TypedValue.{TypedValue}
use Rattle.plan_parser.specs.Values.{typed_value, literal, begins_value, tuple_of, list_of, judged_item, fits, tuple_from, tuple, grouped_value, parens, like, listing, typed_nil, brackets, value_at}
use Rattle.plan_parser.specs.Values.{value_to, nothing_follows, argument_at, arguments_from, arguments_behind, value_of, args_of}
use Rattle.plan_parser_laws.specs.ValueGrammar.{IsLiteral, ValueAt, MoreAt, LikeAt, IsValue, ArgsAt, AreArgs}
use Rattle.plan_parser_laws.specs.ValueGrammar as gram
use Rattle.plan_parser_laws.proofs.ValuesRead.{length_values}

-- ---- with what a value begins

-- the next token begins a value, and is no closing bracket and no colon
record Starts (f : Front) : Type 0 where
  begins : begins_value f ≡ true
  no_close : is_symbol symbols.ParenClose f ≡ false
  no_colon : is_symbol symbols.Colon f ≡ false

-- a literal is no bracket
record IsPlain (k : Option TokenKind) (i : TypedValue) : Type 0 where
  is : literal k ≡ Some i
  no_open : is_symbol_kind symbols.ParenOpen k ≡ false
  no_bracket : is_symbol_kind symbols.BracketOpen k ≡ false
  no_close : is_symbol_kind symbols.ParenClose k ≡ false
  no_colon : is_symbol_kind symbols.Colon k ≡ false

plain : {k : Option TokenKind} {i : TypedValue} → IsLiteral k i → IsPlain k i
plain gram.truth = record { is = refl; no_open = refl; no_bracket = refl; no_close = refl; no_colon = refl }
plain gram.falsehood = record { is = refl; no_open = refl; no_bracket = refl; no_close = refl; no_colon = refl }
plain (gram.int z) = record { is = refl; no_open = refl; no_bracket = refl; no_close = refl; no_colon = refl }
plain (gram.host n) = record { is = refl; no_open = refl; no_bracket = refl; no_close = refl; no_colon = refl }
plain (gram.dev n) = record { is = refl; no_open = refl; no_bracket = refl; no_close = refl; no_colon = refl }
plain (gram.char c) = record { is = refl; no_open = refl; no_bracket = refl; no_close = refl; no_colon = refl }
plain (gram.str s) = record { is = refl; no_open = refl; no_bracket = refl; no_close = refl; no_colon = refl }
plain (gram.blob b) = record { is = refl; no_open = refl; no_bracket = refl; no_close = refl; no_colon = refl }

literal_starts : (f : Front) (i : TypedValue) → IsPlain (next_kind f) i → Starts f
unfolding begins_value is_symbol
literal_starts f i p = record { begins = rw p.is refl; no_close = p.no_close; no_colon = p.no_colon }

paren_starts : (f : Front) → Sym symbols.ParenOpen f → Starts f
unfolding begins_value is_symbol
paren_starts f e = record { begins = rw e refl; no_close = rw e refl; no_colon = rw e refl }

bracket_starts : (f : Front) → Sym symbols.BracketOpen f → Starts f
unfolding begins_value is_symbol
bracket_starts f e = record { begins = rw e refl; no_close = rw e refl; no_colon = rw e refl }

starts : {o r : ℕ} {f g : Front} {i : TypedValue} → ValueAt o r f i g → Starts f
starts {f = f} (gram.one_token {i = i} l) = literal_starts f i (plain l)
starts {f = f} (gram.nothing a b) = paren_starts f a
starts {f = f} (gram.tuple a d m n b) = paren_starts f a
starts {f = f} (gram.no_items a b d n c) = bracket_starts f a
starts {f = f} (gram.items a d m n b) = bracket_starts f a

-- ---- each production, by what is read inside it

literal_by : (o room : ℕ) (inner : Reader TypedValue) (f : Front) (i : TypedValue) → IsPlain (next_kind f) i → value_at inner o room f ≡ Ok (i, behind f)
unfolding value_at is_symbol
literal_by o room inner f i p = rw (p.no_open, p.no_bracket, p.is) refl

unit_by : (o room : ℕ) (inner : Reader TypedValue) (f : Front) → is_symbol symbols.ParenOpen f ≡ true → is_symbol symbols.ParenClose (behind f) ≡ true → value_at inner o room f ≡ Ok (typed_value v.Unit ty.Unit, behind2 f)
unfolding value_at parens
unit_by o room inner f a b = rw (a, b) refl

tuple_by : (o q : ℕ) (inner : Reader TypedValue) (f g h : Front) (i : TypedValue) (is : List TypedValue) → is_symbol symbols.ParenOpen f ≡ true → is_symbol symbols.ParenClose (behind f) ≡ false → begins_value (behind f) ≡ true
    → inner (behind f) ≡ Ok (i, g) → is_symbol symbols.Comma g ≡ true → more inner begins_value symbols.Comma limits.Parts wanted.AValue 7 (i ∷ []) g ≡ Ok (is, h) → is_symbol symbols.ParenClose h ≡ true
    → value_at inner o (suc q) f ≡ Ok (tuple_of is, behind h)
unfolding value_at parens grouped_value tuple tuple_from need_symbol
tuple_by o q inner f g h i is a b c d e m s = rw (a, b, c, room_open q, d, e, m, s) refl

bracket_no_paren : (f : Front) → Sym symbols.BracketOpen f → is_symbol symbols.ParenOpen f ≡ false
unfolding is_symbol
bracket_no_paren f e = rw e refl

fits_ok : (room at : ℕ) (t : Ty) → type_depth t ≤ room → fits room at t ≡ Ok tt
unfolding fits
fits_ok room at t h = rw (le-ltb room (type_depth t) h) refl

nil_by : (o q : ℕ) (inner : Reader TypedValue) (f g : Front) (t : Ty) → is_symbol symbols.ParenOpen f ≡ false → is_symbol symbols.BracketOpen f ≡ true → is_symbol symbols.Colon (behind f) ≡ true
    → type_to (153 + suc q - o) (behind2 f) ≡ Ok (t, g) → fits (suc q) (place f) t ≡ Ok tt → is_symbol symbols.BracketClose g ≡ true → value_at inner o (suc q) f ≡ Ok (list_of t [], behind g)
unfolding value_at brackets opens typed_nil need_symbol
nil_by o q inner f g t n a b d e s = rw (n, a, room_open q, b, d, e, s) refl

list_by : (o q : ℕ) (inner : Reader TypedValue) (f g h : Front) (i : TypedValue) (vs : List Value) → is_symbol symbols.ParenOpen f ≡ false → is_symbol symbols.BracketOpen f ≡ true → is_symbol symbols.Colon (behind f) ≡ false
    → begins_value (behind f) ≡ true → inner (behind f) ≡ Ok (i, g) → more (like inner o (suc q) i.ty) begins_value symbols.Comma limits.Items wanted.AValue 62 (i.value ∷ []) g ≡ Ok (vs, h)
    → is_symbol symbols.BracketClose h ≡ true → value_at inner o (suc q) f ≡ Ok (list_of i.ty vs, behind h)
unfolding value_at brackets opens listing need_symbol
list_by o q inner f g h i vs n a b c d m s = rw (n, a, room_open q, b, c, d, m, s) refl

like_by : (o room : ℕ) (inner : Reader TypedValue) (t : Ty) (f g : Front) (i : TypedValue) → inner f ≡ Ok (i, g) → i.ty ≡ t → like inner o room t f ≡ Ok (i.value, g)
unfolding like judged_item
like_by o room inner t f g i d e = rw (d, same_type_of i.ty t e) refl

-- a value is read with one more bracket to open
step : (o r : ℕ) (f : Front) (x : TypedValue × Front) → value_at (value_to o r) o r f ≡ Ok x → value_to o (suc r) f ≡ Ok x
unfolding value_to
step o r f x h = h

-- ---- values

mutual
  pub value_is : {o r : ℕ} {f g : Front} {i : TypedValue} → ValueAt o r f i g → o ≤ 1 → value_to o (suc r) f ≡ Ok (i, g)
  value_is {o} {r} {f} (gram.one_token {i = i} l) small = step o r f (i, behind f) (literal_by o r (value_to o r) f i (plain l))
  value_is {o} {r} {f} (gram.nothing a b) small = step o r f (typed_value v.Unit ty.Unit, behind2 f) (unit_by o r (value_to o r) f (symbol_here f a) (symbol_here (behind f) b))
  value_is {o} {f = f} (gram.tuple {r = q} {g = g} {h = h} {i = i} {j = j} {is = is} a d (gram.one_more comma e rest) few b) small =
      let s = starts d in
      step o (suc q) f (tuple_of (i ∷ j ∷ is), behind h)
      (tuple_by o q (value_to o (suc q)) f g h i (i ∷ j ∷ is) (symbol_here f a) s.no_close s.begins (value_is d small) (symbol_here g comma)
      (more_adds (value_to o (suc q)) begins_value symbols.Comma limits.Parts wanted.AValue 7 (i ∷ []) g _ h j is (symbol_here g comma) (value_is e small) few
      (λ k enough. more_is rest small limits.Parts k ((i ∷ []) ++ j ∷ []) enough (comma_shut h b)))
      (symbol_here h b))
  value_is {o} {f = f} (gram.no_items {r = q} {g = g} {t = t} a b d deep c) small =
      let same : suc (153 + q - o) ≡ 153 + suc q - o = omega (arith, small) in
      step o (suc q) f (list_of t [], behind g)
      (nil_by o q (value_to o (suc q)) f g t (bracket_no_paren f a) (symbol_here f a) (symbol_here (behind f) b) (ap (λ n. type_to n (behind2 f)) (sym same) ∙ type_is d (symbol_ends_type g c))
      (fits_ok (suc q) (place f) t deep) (symbol_here g c))
  value_is {o} {f = f} (gram.items {r = q} {g = g} {h = h} {i = i} {vs = vs} a d m few b) small =
      let s = starts d in
      step o (suc q) f (list_of i.ty (i.value ∷ vs), behind h)
      (list_by o q (value_to o (suc q)) f g h i (i.value ∷ vs) (bracket_no_paren f a) (symbol_here f a) s.no_colon s.begins (value_is d small) (like_is m small (suc q) 62 (i.value ∷ []) few (comma_shut_list h b)) (symbol_here h b))

  more_is : {o r : ℕ} {f g : Front} {is : List TypedValue} → MoreAt o r f is g → o ≤ 1 → (limit : _) (left : ℕ) (done : List TypedValue) → length is ≤ left → is_symbol symbols.Comma g ≡ false
      → more (value_to o (suc r)) begins_value symbols.Comma limit wanted.AValue left done f ≡ Ok (done ++ is, g)
  more_is {o} {r} {f} gram.no_more small limit left done few shut = more_ends (value_to o (suc r)) begins_value symbols.Comma limit wanted.AValue left done f shut
  more_is {o} {r} {f} {g} (gram.one_more {i = i} {is = is} comma d rest) small limit left done few shut =
      more_adds (value_to o (suc r)) begins_value symbols.Comma limit wanted.AValue left done f _ g i is (symbol_here f comma) (value_is d small) few (λ k enough. more_is rest small limit k (done ++ i ∷ []) enough shut)

  like_is : {o r : ℕ} {t : Ty} {f g : Front} {vs : List Value} → LikeAt o r t f vs g → o ≤ 1 → (room left : ℕ) (done : List Value) → length vs ≤ left → is_symbol symbols.Comma g ≡ false
      → more (like (value_to o (suc r)) o room t) begins_value symbols.Comma limits.Items wanted.AValue left done f ≡ Ok (done ++ vs, g)
  like_is {o} {r} {t} {f} gram.no_like small room left done few shut = more_ends (like (value_to o (suc r)) o room t) begins_value symbols.Comma limits.Items wanted.AValue left done f shut
  like_is {o} {r} {t} {f} {g} (gram.one_like {i = i} {vs = vs} comma d same rest) small room left done few shut =
      more_adds (like (value_to o (suc r)) o room t) begins_value symbols.Comma limits.Items wanted.AValue left done f _ g i.value vs (symbol_here f comma) (like_by o room (value_to o (suc r)) t (behind f) _ i (value_is d small) same) few
      (λ k enough. like_is rest small room k (done ++ i.value ∷ []) enough shut)

-- ---- a whole value

end_ok : (f : Front) → f.tokens ≡ [] → nothing_follows f ≡ Ok tt
unfolding nothing_follows
end_ok f e = rw e refl

pub value_read : (tokens : List Token) (end : ℕ) (x : Value) → IsValue tokens end x → value_of tokens end ≡ Ok x
unfolding value_of
value_read tokens end _ (gram.a_value {g = g} {i = i} d e) = rw (value_is d (omega arith), end_ok g e) refl

-- ---- arguments

argument_is : {f g : Front} {i : TypedValue} → ValueAt 1 7 f i g → argument_at f ≡ Ok (i.value, g)
unfolding argument_at
argument_is d = rw (value_is d (omega arith)) refl

more_arguments_are : {f g : Front} {is : List TypedValue} → MoreAt 1 7 f is g → (left : ℕ) (done : List Value) → length is ≤ left → is_symbol symbols.Comma g ≡ false
    → more argument_at begins_value symbols.Comma limits.Arguments wanted.AValue left done f ≡ Ok (done ++ map (λ k. k.value) is, g)
more_arguments_are {f} gram.no_more left done few shut = more_ends argument_at begins_value symbols.Comma limits.Arguments wanted.AValue left done f shut
more_arguments_are {f} {g} (gram.one_more {i = i} {is = is} comma d rest) left done few shut =
    more_adds argument_at begins_value symbols.Comma limits.Arguments wanted.AValue left done f _ g i.value (map (λ k. k.value) is) (symbol_here f comma) (argument_is d) (let l = length_values is in omega (arith, l, few))
    (λ k enough. more_arguments_are rest k (done ++ i.value ∷ []) (let l = length_values is in omega (arith, l, enough)) shut)

some_arguments : (f g h : Front) (x : Value) (xs : List Value) → argument_at f ≡ Ok (x, g) → more argument_at begins_value symbols.Comma limits.Arguments wanted.AValue 7 (x ∷ []) g ≡ Ok (xs, h) → is_symbol symbols.ParenClose h ≡ true
    → arguments_from f ≡ Ok (xs, behind h)
unfolding arguments_from need_symbol
some_arguments f g h x xs one many shut = rw (one, many, shut) refl

behind_bracket : (f g : Front) (xs : List Value) → is_symbol symbols.ParenClose f ≡ false → begins_value f ≡ true → arguments_from f ≡ Ok (xs, g) → arguments_behind f ≡ Ok (xs, g)
unfolding arguments_behind
behind_bracket f g xs a b c = rw (a, b, c) refl

none_behind : (f : Front) → is_symbol symbols.ParenClose f ≡ true → arguments_behind f ≡ Ok ([], behind f)
unfolding arguments_behind
none_behind f a = rw a refl

arguments_open : {f g : Front} {xs : List Value} → ArgsAt f xs g → Sym symbols.ParenOpen f
arguments_open (gram.no_args a b) = a
arguments_open (gram.some_args a d m n b) = a

arguments_are : {f g : Front} {xs : List Value} → ArgsAt f xs g → arguments_behind (behind f) ≡ Ok (xs, g)
arguments_are {f} (gram.no_args a b) = none_behind (behind f) (symbol_here (behind f) b)
arguments_are {f} (gram.some_args {g = g} {h = h} {i = i} {is = is} a d m few b) =
    let s = starts d in
    behind_bracket (behind f) (behind h) (map (λ k. k.value) (i ∷ is)) s.no_close s.begins
    (some_arguments (behind f) g h i.value (map (λ k. k.value) (i ∷ is)) (argument_is d) (more_arguments_are m 7 (i.value ∷ []) few (comma_shut h b)) (symbol_here h b))

args_by : (tokens : List Token) (end : ℕ) (g : Front) (xs : List Value) → is_symbol symbols.ParenOpen (record { tokens = tokens; end = end }) ≡ true → arguments_behind (behind (record { tokens = tokens; end = end })) ≡ Ok (xs, g)
    → nothing_follows g ≡ Ok tt → args_of tokens end ≡ Ok xs
unfolding args_of need_symbol
args_by tokens end g xs a b c = rw (a, b, c) refl

pub args_read : (tokens : List Token) (end : ℕ) (xs : List Value) → AreArgs tokens end xs → args_of tokens end ≡ Ok xs
args_read tokens end xs (gram.arguments {g = g} d e) = args_by tokens end g xs (symbol_here (record { tokens = tokens; end = end }) (arguments_open d)) (arguments_are d) (end_ok g e)

-- ---- one reading

pub one_value : (tokens : List Token) (end : ℕ) (x y : Value) → IsValue tokens end x → IsValue tokens end y → x ≡ y
one_value tokens end x y d e = let z = sym (value_read tokens end x d) ∙ value_read tokens end y e in cc

pub one_arguments : (tokens : List Token) (end : ℕ) (xs ys : List Value) → AreArgs tokens end xs → AreArgs tokens end ys → xs ≡ ys
one_arguments tokens end xs ys d e = let z = sym (args_read tokens end xs d) ∙ args_read tokens end ys e in cc
