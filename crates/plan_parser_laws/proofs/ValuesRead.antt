-- What is read as a value or as arguments is one by the grammar.
use Rattle.std.proofs.Common.{◌≡◌, ◌≤◌, ◌+◌, ◌-◌, ◌==◌, ℕ, zero, suc, Bool, true, false, List, [], ◌∷◌, length, map, Option, Some, None, Result, Ok, Err, nat_lt, refl, sym, ◌∙◌, ap, subst, arith}
use Rattle.std.specs.Prelude.{if◌then◌else◌}
use Rattle.std.proofs.lemmas.Bool.{ltb-false}
use Rattle.plan_base.specs.declared.limit.Limit.TheVariants as limits
use Rattle.plan_base.specs.declared.tree.Ty.{Ty}
use Rattle.plan_base.specs.declared.tree.Ty.TheVariants as ty
use Rattle.plan_base.specs.declared.tree.Value.{Value}
use Rattle.plan_base.specs.declared.tree.Value.TheVariants as v
use Rattle.plan_base.specs.Sizes.{type_depth}
use Rattle.plan_base.specs.SameTypes.{same_type}
use Rattle.plan_base.proofs.SameTypes.{same_type_true}
use Rattle.plan_lexer.specs.declared.token.Token.{Token}
use Rattle.plan_lexer.specs.declared.token.TokenKind.{TokenKind}
use Rattle.plan_lexer.specs.declared.token.TokenKind.TheVariants as kinds
use Rattle.plan_lexer.specs.declared.token.Key.TheVariants as keys
use Rattle.plan_lexer.specs.declared.token.Symbol.TheVariants as symbols
use Rattle.plan_parser_exprs.specs.declared.fault.ParseFault.{ParseFault}
use Rattle.plan_parser_exprs.specs.declared.fault.ParseFault.TheVariants.{Expected, TooDeep}
use Rattle.plan_parser_exprs.specs.declared.fault.Wanted.TheVariants as wanted
use Rattle.plan_parser_exprs.specs.Ahead.{Front, Reader, ◌>>=◌, place, behind, next_kind, need_symbol}
use Rattle.plan_parser_exprs.specs.Types.{opens, more, type_to}
use Rattle.plan_parser_laws.specs.Grammar.{Sym, TypeAt, behind2}
use Rattle.plan_parser_laws.proofs.ReadSteps.{Reads, found_reads, refusal_reads, after, either, if_symbol, symbol_then, what_was_read}
use Rattle.plan_parser_laws.proofs.ReadLists.{Added, more_reads}
use Rattle.plan_parser_laws.proofs.TypesRead.{types_read}
use Rattle.plan_parser_laws.proofs.TokenFacts.{comma_is_no_bracket, room_open}
use Rattle.plan_parser.specs.declared.item.TypedValue.{TypedValue}
use Rattle.plan_parser.specs.Values.{typed_value, literal, literal_from, begins_value, tuple_of, list_of, judged_item, fits, tuple_from, tuple, grouped_value, parens, like, listing, typed_nil}
use Rattle.plan_parser.specs.Values.{brackets, value_at, value_to, nothing_follows, argument_at, arguments_from, arguments_behind, value_of, args_of}
use Rattle.plan_parser_laws.specs.ValueGrammar.{IsLiteral, ValueAt, MoreAt, LikeAt, IsValue, ArgsAt, AreArgs}
use Rattle.plan_parser_laws.specs.ValueGrammar as gram

-- ---- literals

some_literal : (k : Option TokenKind) (i j : TypedValue) → IsLiteral k i → Some i ≡ Some j → IsLiteral k j
some_literal k i j l h = let same : i ≡ j = cc in subst (IsLiteral k) same l

literal_is : (k : Option TokenKind) (i : TypedValue) → literal k ≡ Some i → IsLiteral k i
literal_is (Some (kinds.Int z)) i h = some_literal _ _ i (gram.int z) h
literal_is (Some (kinds.Host n)) i h = some_literal _ _ i (gram.host n) h
literal_is (Some (kinds.Dev n)) i h = some_literal _ _ i (gram.dev n) h
literal_is (Some (kinds.Char c)) i h = some_literal _ _ i (gram.char c) h
literal_is (Some (kinds.Str s)) i h = some_literal _ _ i (gram.str s) h
literal_is (Some (kinds.Blob b)) i h = some_literal _ _ i (gram.blob b) h
literal_is (Some (kinds.Key keys.True)) i h = some_literal _ _ i gram.truth h
literal_is (Some (kinds.Key keys.False)) i h = some_literal _ _ i gram.falsehood h
literal_is (Some (kinds.Key _)) i h = cc
literal_is (Some (kinds.Word w)) i h = cc
literal_is (Some (kinds.Part n)) i h = cc
literal_is (Some (kinds.Symbol s)) i h = cc
literal_is None i h = cc

literal_reads : (o r : ℕ) (f : Front) → Reads (ValueAt o r f) (literal_from f (literal (next_kind f)))
literal_reads o r f = by_kind (literal (next_kind f)) refl
  where
    by_kind : (x : Option TypedValue) → literal (next_kind f) ≡ x → Reads (ValueAt o r f) (literal_from f x)
    by_kind (Some i) e = found_reads (ValueAt o r f) i (behind f) (gram.one_token (literal_is (next_kind f) i e))
    by_kind None e = refusal_reads (ValueAt o r f) _

-- ---- lists and tuples, by what stands inside them

-- what one more reads
abbrev Inside : ℕ → ℕ → Reader TypedValue → Type 0
Inside o q inner = (h : Front) → Reads (ValueAt o q h) (inner h)

made_tuple : {o q : ℕ} {f g h : Front} {first : TypedValue} {rest : List TypedValue} → Sym symbols.ParenOpen f → ValueAt o q (behind f) first g → MoreAt o q g rest h → length rest ≤ 7 → Sym symbols.Comma g → Sym symbols.ParenClose h
    → ValueAt o (suc q) f (tuple_of (first ∷ rest)) (behind h)
made_tuple here one gram.no_more few comma shut = absurd (comma_is_no_bracket comma shut)
made_tuple here one (gram.one_more c d rest) few comma shut = gram.tuple here one (gram.one_more c d rest) few shut

module _ (o q room : ℕ) (inner : Reader TypedValue) (ir : Inside o q inner) where
  tuple_reads : (f : Front) → Sym symbols.ParenOpen f → (first : TypedValue) (g : Front) → ValueAt o q (behind f) first g → Reads (ValueAt o (suc q) f) (tuple inner o room first g)
  unfolding tuple tuple_from
  tuple_reads f here first g one =
      if_symbol (ValueAt o (suc q) f) symbols.Comma g _ _
      (λ comma. after (Added (MoreAt o q) 7 (first ∷ []) g) (ValueAt o (suc q) f) (more inner begins_value symbols.Comma limits.Parts wanted.AValue 7 (first ∷ []) g) _
      (more_reads inner begins_value symbols.Comma limits.Parts wanted.AValue (λ h i k. ValueAt o q h i k) (MoreAt o q) (λ h. gram.no_more) (λ h i j x xs a b c. gram.one_more a b c) ir 7 (first ∷ []) g)
      (λ all h a. symbol_then (ValueAt o (suc q) f) symbols.ParenClose h _
      (λ shut. found_reads (ValueAt o (suc q) f) (tuple_of all) (behind h) (subst (λ is. ValueAt o (suc q) f (tuple_of is) (behind h)) (sym a.is) (made_tuple here one a.many a.few comma shut)))))
      (refusal_reads (ValueAt o (suc q) f) _)

  -- an item of a list, by its value
  record IsLike (t : Ty) (h : Front) (x : Value) (k : Front) : Type 0 where
    item : TypedValue
    at : ValueAt o q h item k
    value : item.value ≡ x
    type : item.ty ≡ t

  like_reads : (t : Ty) (h : Front) → Reads (IsLike t h) (like inner o room t h)
  unfolding like judged_item
  like_reads t h =
      after (ValueAt o q h) (IsLike t h) (inner h) _ (ir h)
      (λ i k d. either (IsLike t h) (same_type i.ty t) _ _ (λ e. found_reads (IsLike t h) i.value k (record { item = i; at = d; value = refl; type = same_type_true i.ty t e })) (λ _. refusal_reads (IsLike t h) _))

  like_next : (t : Ty) (f g h : Front) (x : Value) (xs : List Value) → Sym symbols.Comma f → IsLike t (behind f) x g → LikeAt o q t g xs h → LikeAt o q t f (x ∷ xs) h
  like_next t f g h x xs comma one rest = subst (λ y. LikeAt o q t f (y ∷ xs) h) one.value (gram.one_like comma one.at one.type rest)

  listing_reads : (f : Front) → Sym symbols.BracketOpen f → Reads (ValueAt o (suc q) f) (listing inner o room (behind f))
  unfolding listing
  listing_reads f here =
      after (ValueAt o q (behind f)) (ValueAt o (suc q) f) (inner (behind f)) _ (ir (behind f))
      (λ first g one. after (Added (LikeAt o q first.ty) 62 (first.value ∷ []) g) (ValueAt o (suc q) f) (more (like inner o room first.ty) begins_value symbols.Comma limits.Items wanted.AValue 62 (first.value ∷ []) g) _
      (more_reads (like inner o room first.ty) begins_value symbols.Comma limits.Items wanted.AValue (λ h x k. IsLike first.ty h x k) (LikeAt o q first.ty) (λ h. gram.no_like) (like_next first.ty)
      (like_reads first.ty) 62 (first.value ∷ []) g)
      (λ all h a. symbol_then (ValueAt o (suc q) f) symbols.BracketClose h _
      (λ shut. found_reads (ValueAt o (suc q) f) (list_of first.ty all) (behind h) (subst (λ vs. ValueAt o (suc q) f (list_of first.ty vs) (behind h)) (sym a.is) (gram.items here one a.many a.few shut)))))

fits_then : {B : Type 0} (Q : B → Front → Type 0) (room at : ℕ) (t : Ty) (h : Unit {0} → Result (B × Front) ParseFault) → (type_depth t ≤ room → Reads Q (h tt)) → Reads Q (fits room at t >>= h)
unfolding fits Reads
fits_then Q room at t h k = go (nat_lt room (type_depth t)) refl
  where
    go : (b : Bool) → nat_lt room (type_depth t) ≡ b → Reads Q ((if b then Err (TooDeep at) else Ok tt) >>= h)
    go true e = tt
    go false e = k (ltb-false room (type_depth t) e)

module _ (o q : ℕ) (small : o ≤ 1) (inner : Reader TypedValue) (ir : Inside o q inner) where
  type_reads : (h : Front) → Reads (TypeAt (153 + q - o) h) (type_to (153 + suc q - o) h)
  type_reads h = let same : suc (153 + q - o) ≡ 153 + suc q - o = omega (arith, small) in subst (λ n. Reads (TypeAt (153 + q - o) h) (type_to n h)) same (types_read (153 + q - o) h)

  nil_reads : (f : Front) → Sym symbols.BracketOpen f → Sym symbols.Colon (behind f) → Reads (ValueAt o (suc q) f) (typed_nil inner o (suc q) (place f) (behind f))
  unfolding typed_nil
  nil_reads f here colon =
      after (TypeAt (153 + q - o) (behind2 f)) (ValueAt o (suc q) f) (type_to (153 + suc q - o) (behind2 f)) _ (type_reads (behind2 f))
      (λ t g d. fits_then (ValueAt o (suc q) f) (suc q) (place f) t _
      (λ deep. symbol_then (ValueAt o (suc q) f) symbols.BracketClose g _
      (λ shut. found_reads (ValueAt o (suc q) f) (list_of t []) (behind g) (gram.no_items here colon d deep shut))))

  opens_then : {B : Type 0} (Q : B → Front → Type 0) (f : Front) (h : Unit {0} × Front → Result (B × Front) ParseFault) → Reads Q (h (tt, f)) → Reads Q (opens (suc q) f >>= h)
  unfolding opens
  opens_then Q f h k = rw (room_open q) k

  brackets_reads : (f : Front) → Sym symbols.BracketOpen f → Reads (ValueAt o (suc q) f) (brackets inner o (suc q) f)
  unfolding brackets
  brackets_reads f here =
      opens_then (ValueAt o (suc q) f) f _
      (if_symbol (ValueAt o (suc q) f) symbols.Colon (behind f) _ _ (λ colon. nil_reads f here colon)
      (either (ValueAt o (suc q) f) (begins_value (behind f)) _ _ (λ _. listing_reads o q (suc q) inner ir f here) (λ _. refusal_reads (ValueAt o (suc q) f) _)))

  grouped_reads : (f : Front) → Sym symbols.ParenOpen f → Reads (ValueAt o (suc q) f) (grouped_value inner o (suc q) (place f) (behind f))
  unfolding grouped_value
  grouped_reads f here =
      either (ValueAt o (suc q) f) (suc q == 0) _ _ (λ _. refusal_reads (ValueAt o (suc q) f) _)
      (λ _. after (ValueAt o q (behind f)) (ValueAt o (suc q) f) (inner (behind f)) _ (ir (behind f)) (λ first g one. tuple_reads o q (suc q) inner ir f here first g one))

-- what a round bracket begins, by what it groups
parens_reads : (o room : ℕ) (inner : Reader TypedValue) (f : Front) → Sym symbols.ParenOpen f → Reads (ValueAt o room f) (grouped_value inner o room (place f) (behind f)) → Reads (ValueAt o room f) (parens inner o room f)
unfolding parens
parens_reads o room inner f here k =
    if_symbol (ValueAt o room f) symbols.ParenClose (behind f) _ _ (λ shut. found_reads (ValueAt o room f) (typed_value v.Unit ty.Unit) (behind2 f) (gram.nothing here shut))
    (either (ValueAt o room f) (begins_value (behind f)) _ _ (λ _. k) (λ _. refusal_reads (ValueAt o room f) _))

none_grouped : (o : ℕ) (inner : Reader TypedValue) (f : Front) → Reads (ValueAt o 0 f) (grouped_value inner o 0 (place f) (behind f))
unfolding grouped_value
none_grouped o inner f = refusal_reads (ValueAt o 0 f) _

none_bracketed : (o : ℕ) (inner : Reader TypedValue) (f : Front) → Reads (ValueAt o 0 f) (brackets inner o 0 f)
unfolding brackets opens
none_bracketed o inner f = refusal_reads (ValueAt o 0 f) _

value_reads_by : (o room : ℕ) (inner : Reader TypedValue) (f : Front) → (Sym symbols.ParenOpen f → Reads (ValueAt o room f) (parens inner o room f)) → (Sym symbols.BracketOpen f → Reads (ValueAt o room f) (brackets inner o room f))
    → Reads (ValueAt o room f) (value_at inner o room f)
unfolding value_at
value_reads_by o room inner f k l = if_symbol (ValueAt o room f) symbols.ParenOpen f _ _ k (if_symbol (ValueAt o room f) symbols.BracketOpen f _ _ l (literal_reads o room f))

pub values_read : (o : ℕ) → o ≤ 1 → (r : ℕ) (f : Front) → Reads (ValueAt o r f) (value_to o (suc r) f)
unfolding value_to
values_read o small zero f =
    value_reads_by o 0 (value_to o 0) f (λ here. parens_reads o 0 (value_to o 0) f here (none_grouped o (value_to o 0) f)) (λ here. none_bracketed o (value_to o 0) f)
values_read o small (suc q) f =
    value_reads_by o (suc q) (value_to o (suc q)) f
    (λ here. parens_reads o (suc q) (value_to o (suc q)) f here (grouped_reads o q small (value_to o (suc q)) (λ h. values_read o small q h) f here))
    (λ here. brackets_reads o q small (value_to o (suc q)) (λ h. values_read o small q h) f here)

-- ---- a whole value

no_tokens : (ts : List Token) → nat_lt 0 (length ts) ≡ false → ts ≡ []
no_tokens [] e = refl
no_tokens (t ∷ ts) e = let l = ltb-false 0 (length (t ∷ ts)) e in absurd (omega (arith, l))

-- whether something is left
abbrev ended_at : Front → Bool → Result (Unit {0}) ParseFault
ended_at f left = if left then Err (Expected wanted.AValue (place f)) else Ok tt

-- where the end is reached the value is the whole
ended_is : {A : Type 0} (f : Front) (a b : A) → (nothing_follows f >>= λ _. Ok a) ≡ Ok b → (f.tokens ≡ []) × (a ≡ b)
unfolding nothing_follows
ended_is {A} f a b h = by_rest (nat_lt 0 (length f.tokens)) refl h
  where
    by_rest : (c : Bool) → nat_lt 0 (length f.tokens) ≡ c → ◌≡◌ {A = Result A ParseFault} (ended_at f c >>= λ _. Ok a) (Ok b) → (f.tokens ≡ []) × (a ≡ b)
    by_rest true e k = cc
    by_rest false e k = (no_tokens f.tokens e, (let same : a ≡ b = cc in same))

pub value_written : (tokens : List Token) (end : ℕ) (x : Value) → value_of tokens end ≡ Ok x → IsValue tokens end x
unfolding value_of
value_written tokens end x h = by_answer (value_to 0 8 (record { tokens = tokens; end = end })) refl h
  where
    by_answer : (r : Result (TypedValue × Front) ParseFault) → value_to 0 8 (record { tokens = tokens; end = end }) ≡ r → (r >>= λ i. nothing_follows i.1 >>= λ all. Ok i.0.value) ≡ Ok x → IsValue tokens end x
    by_answer (Err e) q k = cc
    by_answer (Ok i) q k =
        let d = what_was_read (ValueAt 0 7 (record { tokens = tokens; end = end })) (value_to 0 8 (record { tokens = tokens; end = end })) i.0 i.1 (values_read 0 (omega arith) 7 (record { tokens = tokens; end = end })) q in
        let w = ended_is i.1 i.0.value x k in
        subst (IsValue tokens end) w.1 (gram.a_value d w.0)

-- ---- arguments

-- a value that is an argument
record IsArgument (h : Front) (x : Value) (k : Front) : Type 0 where
  item : TypedValue
  at : ValueAt 1 7 h item k
  value : item.value ≡ x

record AreMore (f : Front) (xs : List Value) (g : Front) : Type 0 where
  items : List TypedValue
  at : MoreAt 1 7 f items g
  values : map (λ k. k.value) items ≡ xs

argument_reads : (h : Front) → Reads (IsArgument h) (argument_at h)
unfolding argument_at
argument_reads h =
    after (ValueAt 1 7 h) (IsArgument h) (value_to 1 8 h) _ (values_read 1 (omega arith) 7 h) (λ i k d. found_reads (IsArgument h) i.value k (record { item = i; at = d; value = refl }))

more_next : (f g h : Front) (x : Value) (xs : List Value) → Sym symbols.Comma f → IsArgument (behind f) x g → AreMore g xs h → AreMore f (x ∷ xs) h
more_next f g h x xs comma one rest = record { items = one.item ∷ rest.items; at = gram.one_more comma one.at rest.at; values = λ i. one.value i ∷ rest.values i }

pub length_values : (is : List TypedValue) → length (map (λ k. k.value) is) ≡ length is
length_values [] = refl
length_values (i ∷ is) = ap suc (length_values is)

made_args : (f g h : Front) (x : Value) (all : List Value) → Sym symbols.ParenOpen f → IsArgument (behind f) x g → Added AreMore 7 (x ∷ []) g all h → Sym symbols.ParenClose h → ArgsAt f all (behind h)
made_args f g h x all here one a shut =
    let m = a.many in
    let n : length m.items ≤ 7 = (let l = length_values m.items in let e = ap length m.values in let w = a.few in omega (arith, l, e, w)) in
    let same : map (λ k. k.value) (one.item ∷ m.items) ≡ all = (λ i. one.value i ∷ m.values i) ∙ sym a.is in
    subst (λ vs. ArgsAt f vs (behind h)) same (gram.some_args here one.at m.at n shut)

arguments_from_reads : (f : Front) → Sym symbols.ParenOpen f → Reads (ArgsAt f) (arguments_from (behind f))
unfolding arguments_from
arguments_from_reads f here =
    after (IsArgument (behind f)) (ArgsAt f) (argument_at (behind f)) _ (argument_reads (behind f))
    (λ x g one. after (Added AreMore 7 (x ∷ []) g) (ArgsAt f) (more argument_at begins_value symbols.Comma limits.Arguments wanted.AValue 7 (x ∷ []) g) _
    (more_reads argument_at begins_value symbols.Comma limits.Arguments wanted.AValue (λ h y k. IsArgument h y k) AreMore (λ h. record { items = []; at = gram.no_more; values = refl }) more_next argument_reads 7 (x ∷ []) g)
    (λ all h a. symbol_then (ArgsAt f) symbols.ParenClose h _ (λ shut. found_reads (ArgsAt f) all (behind h) (made_args f g h x all here one a shut))))

arguments_reads : (f : Front) → Sym symbols.ParenOpen f → Reads (ArgsAt f) (arguments_behind (behind f))
unfolding arguments_behind
arguments_reads f here =
    if_symbol (ArgsAt f) symbols.ParenClose (behind f) _ _ (λ shut. found_reads (ArgsAt f) [] (behind2 f) (gram.no_args here shut))
    (either (ArgsAt f) (begins_value (behind f)) _ _ (λ _. arguments_from_reads f here) (λ _. refusal_reads (ArgsAt f) _))

all_reads : (f : Front) → Reads (ArgsAt f) (need_symbol symbols.ParenOpen f >>= λ o. arguments_behind o.1)
all_reads f = symbol_then (ArgsAt f) symbols.ParenOpen f (λ o. arguments_behind o.1) (λ here. arguments_reads f here)

pub args_written : (tokens : List Token) (end : ℕ) (xs : List Value) → args_of tokens end ≡ Ok xs → AreArgs tokens end xs
unfolding args_of
args_written tokens end xs h = by_open (need_symbol symbols.ParenOpen (record { tokens = tokens; end = end })) refl h
  where
    f : Front
    f = record { tokens = tokens; end = end }

    by_args : (o : Unit {0} × Front) → need_symbol symbols.ParenOpen (record { tokens = tokens; end = end }) ≡ Ok o → (r : Result (List Value × Front) ParseFault) → arguments_behind o.1 ≡ r
        → (r >>= λ args. nothing_follows args.1 >>= λ all. Ok args.0) ≡ Ok xs → AreArgs tokens end xs
    by_args o p (Err e) q k = cc
    by_args o p (Ok a) q k =
        let d = what_was_read (ArgsAt (record { tokens = tokens; end = end })) (need_symbol symbols.ParenOpen (record { tokens = tokens; end = end }) >>= λ u. arguments_behind u.1) a.0 a.1 (all_reads (record { tokens = tokens; end = end }))
        (ap (λ (z : Result (Unit {0} × Front) ParseFault). z >>= λ u. arguments_behind u.1) p ∙ q) in
        let w = ended_is a.1 a.0 xs k in
        subst (AreArgs tokens end) w.1 (gram.arguments d w.0)

    by_open : (s : Result (Unit {0} × Front) ParseFault) → need_symbol symbols.ParenOpen (record { tokens = tokens; end = end }) ≡ s
        → (s >>= λ o. arguments_behind o.1 >>= λ args. nothing_follows args.1 >>= λ all. Ok args.0) ≡ Ok xs → AreArgs tokens end xs
    by_open (Err e) p k = cc
    by_open (Ok o) p k = by_args o p (arguments_behind o.1) refl k
