-- The reading of values and of arguments works off its agenda.
use Rattle.std.proofs.Common.{◌≡◌, ◌+◌, ◌-◌, ◌≤◌, ℕ, zero, suc, Bool, true, false, List, [], ◌∷◌, ◌++◌, map, Option, Some, None, Result, Ok, Err, if◌then◌else◌, nat_lt, ap, subst, refl, arith}
use Rattle.plan_base.specs.declared.limit.Limit.TheVariants as limits
use Rattle.plan_base.specs.declared.tree.Ty.{Ty}
use Rattle.plan_base.specs.declared.tree.Ty.TheVariants as ty
use Rattle.plan_base.specs.declared.tree.Value.{Value}
use Rattle.plan_base.specs.declared.tree.Value.TheVariants as v
use Rattle.plan_base.specs.Sizes.{type_depth}
use Rattle.plan_base.specs.SameTypes.{same_type}
use Rattle.plan_lexer.specs.declared.token.TokenKind.{TokenKind}
use Rattle.plan_lexer.specs.declared.token.TokenKind.TheVariants as kinds
use Rattle.plan_lexer.specs.declared.token.Key.TheVariants as keys
use Rattle.plan_lexer.specs.declared.token.Symbol.TheVariants as symbols
use Rattle.plan_parser_exprs.specs.declared.fault.ParseFault.{ParseFault}
use Rattle.plan_parser_exprs.specs.declared.fault.ParseFault.TheVariants.{Expected, TooDeep}
use Rattle.plan_parser_exprs.specs.declared.fault.Wanted.TheVariants as wanted
use Rattle.plan_parser_exprs.specs.Ahead.{Front, Reader, ◌>>=◌, place, behind, next_kind, is_symbol}
use Rattle.plan_parser_exprs.specs.Types.{more, type_to}
use Rattle.plan_parser.specs.declared.item.TypedValue.{TypedValue as Read}
use Rattle.plan_parser.specs.Values.{typed_value, literal, literal_from, begins_value, tuple_of, list_of, judged_item, fits, tuple_from, tuple, grouped_value, parens, like, listing, typed_nil}
use Rattle.plan_parser.specs.Values.{brackets, value_at, value_to, argument_at, arguments_from, arguments_behind}
use Rattle.plan_parser_laws.specs.ValueAgenda.{ValueItem, sym, a_type, a_value, made, behind_paren, first_part, behind_part, next_part, behind_parts, behind_bracket, element, behind_element}
use Rattle.plan_parser_laws.specs.ValueAgenda.{first_item, next_item, behind_item, behind_items, args, more_args, enter, hand, literal_type, literal_step, step}
use Rattle.plan_parser_laws.proofs.ValueWorks.{Works, Follows, goes_on, stops, begin, after, given_works, both, symbol_works}
use Rattle.plan_parser_laws.proofs.TokenFacts.{room_open}
use Rattle.plan_parser_laws.proofs.ValueTypesWork.{enters, types_work}

abbrev types_of : List Read → List Ty
types_of is = map (λ i. i.ty) is

one_more_type : (is : List Read) (i : Read) → types_of (is ++ i ∷ []) ≡ types_of is ++ i.ty ∷ []
one_more_type [] i = refl
one_more_type (j ∷ is) i = ap (λ ts. j.ty ∷ ts) (one_more_type is i)

module _ (o : ℕ) where
  -- a value hands on its type
  abbrev Hands : List ValueItem → Read → List ValueItem
  Hands rest i = hand i.ty rest

  -- what reads a value in which q lists and tuples may stand inside each other
  abbrev Inside : ℕ → Reader Read → Type 0
  Inside q inner = (rest : List ValueItem) (f : Front) → Works o (a_value q ∷ rest) f (Hands rest) (inner f)

  literal_works : (rest : List ValueItem) (f : Front) (k : Option TokenKind) → Follows o (literal_step rest f (literal_type k)) (Hands rest) (literal_from f (literal k))
  literal_works rest f (Some (kinds.Int n)) = goes_on o (given_works o (Hands rest) (typed_value (v.Int n) ty.Int) (behind f))
  literal_works rest f (Some (kinds.Host n)) = goes_on o (given_works o (Hands rest) (typed_value (v.Host (record { 0 = n })) ty.Host) (behind f))
  literal_works rest f (Some (kinds.Dev n)) = goes_on o (given_works o (Hands rest) (typed_value (v.Dev (record { 0 = n })) ty.Dev) (behind f))
  literal_works rest f (Some (kinds.Char n)) = goes_on o (given_works o (Hands rest) (typed_value (v.Char n) ty.Char) (behind f))
  literal_works rest f (Some (kinds.Str s)) = goes_on o (given_works o (Hands rest) (typed_value (v.Str s) ty.Str) (behind f))
  literal_works rest f (Some (kinds.Blob b)) = goes_on o (given_works o (Hands rest) (typed_value (v.Blob b) ty.Blob) (behind f))
  literal_works rest f (Some (kinds.Key keys.True)) = goes_on o (given_works o (Hands rest) (typed_value (v.Bool true) ty.Bool) (behind f))
  literal_works rest f (Some (kinds.Key keys.False)) = goes_on o (given_works o (Hands rest) (typed_value (v.Bool false) ty.Bool) (behind f))
  literal_works rest f (Some (kinds.Key _)) = stops o _ (Hands rest)
  literal_works rest f (Some (kinds.Word w)) = stops o _ (Hands rest)
  literal_works rest f (Some (kinds.Part n)) = stops o _ (Hands rest)
  literal_works rest f (Some (kinds.Symbol s)) = stops o _ (Hands rest)
  literal_works rest f None = stops o _ (Hands rest)

  -- a value whose end was read hands on its type
  made_works : (rest : List ValueItem) (i : Read) (f : Front) → Works o (made i.ty ∷ rest) f (Hands rest) (Ok (i, f))
  unfolding step
  made_works rest i f = begin o (made i.ty) rest f (Hands rest) _ (goes_on o (given_works o (Hands rest) i f))

  module _ (q : ℕ) (inner : Reader Read) (inside : Inside q inner) where
    -- ---- tuples

    parts_work : (rest : List ValueItem) (left : ℕ) (done : List Read) (f : Front)
        → Works o (behind_parts q left (types_of done) ∷ rest) f (λ is. sym symbols.ParenClose ∷ made (ty.Tuple (types_of is)) ∷ rest) (more inner begins_value symbols.Comma limits.Parts wanted.AValue left done f)
    unfolding more step
    parts_work rest zero done f =
        let next : List Read → List ValueItem = λ is. sym symbols.ParenClose ∷ made (ty.Tuple (types_of is)) ∷ rest in
        begin o (behind_parts q 0 (types_of done)) rest f next _ (both o (is_symbol symbols.Comma f) _ _ next _ _ (stops o _ next) (goes_on o (given_works o next done f)))
    parts_work rest (suc left) done f =
        let next : List Read → List ValueItem = λ is. sym symbols.ParenClose ∷ made (ty.Tuple (types_of is)) ∷ rest in
        begin o (behind_parts q (suc left) (types_of done)) rest f next _ (both o (is_symbol symbols.Comma f) _ _ next _ _
        (goes_on o (after o (a_value q ∷ next_part q left (types_of done) ∷ rest) (behind f) (λ i. behind_parts q left (types_of done ++ i.ty ∷ []) ∷ rest) next (inner (behind f)) _
        (inside (next_part q left (types_of done) ∷ rest) (behind f))
        (λ i g. subst (λ ts. Works o (behind_parts q left ts ∷ rest) g next (more inner begins_value symbols.Comma limits.Parts wanted.AValue left (done ++ i ∷ []) g)) (one_more_type done i) (parts_work rest left (done ++ i ∷ []) g))))
        (goes_on o (given_works o next done f)))

    tuple_from_works : (room : ℕ) (rest : List ValueItem) (first : Read) (f : Front) → Works o (behind_parts q 7 (first.ty ∷ []) ∷ rest) f (Hands rest) (tuple_from inner o room first f)
    unfolding tuple_from
    tuple_from_works room rest first f =
        after o (behind_parts q 7 (first.ty ∷ []) ∷ rest) f (λ is. sym symbols.ParenClose ∷ made (ty.Tuple (types_of is)) ∷ rest) (Hands rest)
        (more inner begins_value symbols.Comma limits.Parts wanted.AValue 7 (first ∷ []) f) _ (parts_work rest 7 (first ∷ []) f)
        (λ is g. symbol_works o symbols.ParenClose (made (ty.Tuple (types_of is)) ∷ rest) g (Hands rest) _ (made_works rest (tuple_of is) (behind g)))

    tuple_works : (room : ℕ) (rest : List ValueItem) (first : Read) (f : Front) → Works o (behind_part q first.ty ∷ rest) f (Hands rest) (tuple inner o room first f)
    unfolding tuple step
    tuple_works room rest first f =
        begin o (behind_part q first.ty) rest f (Hands rest) _ (both o (is_symbol symbols.Comma f) _ _ (Hands rest) _ _ (goes_on o (tuple_from_works room rest first f)) (stops o _ (Hands rest)))

    -- ---- lists

    like_works : (room : ℕ) (rest : List ValueItem) (left : ℕ) (u : Ty) (f : Front)
        → Works o (a_value q ∷ next_item q left u (place f) ∷ rest) f (λ _. behind_items q left u ∷ rest) (like inner o room u f)
    unfolding like judged_item step
    like_works room rest left u f =
        let next : Value → List ValueItem = λ _. behind_items q left u ∷ rest in
        after o (a_value q ∷ next_item q left u (place f) ∷ rest) f (λ i. behind_item q left u (place f) i.ty ∷ rest) next (inner f) _ (inside (next_item q left u (place f) ∷ rest) f)
        (λ i g. begin o (behind_item q left u (place f) i.ty) rest g next _ (both o (same_type i.ty u) _ _ next _ _ (goes_on o (given_works o next i.value g)) (stops o _ next)))

    items_work : (room : ℕ) (rest : List ValueItem) (u : Ty) (left : ℕ) (done : List Value) (f : Front)
        → Works o (behind_items q left u ∷ rest) f (λ _. sym symbols.BracketClose ∷ made (ty.List u) ∷ rest) (more (like inner o room u) begins_value symbols.Comma limits.Items wanted.AValue left done f)
    unfolding more step
    items_work room rest u zero done f =
        let next : List Value → List ValueItem = λ _. sym symbols.BracketClose ∷ made (ty.List u) ∷ rest in
        begin o (behind_items q 0 u) rest f next _ (both o (is_symbol symbols.Comma f) _ _ next _ _ (stops o _ next) (goes_on o (given_works o next done f)))
    items_work room rest u (suc left) done f =
        let next : List Value → List ValueItem = λ _. sym symbols.BracketClose ∷ made (ty.List u) ∷ rest in
        begin o (behind_items q (suc left) u) rest f next _ (both o (is_symbol symbols.Comma f) _ _ next _ _
        (goes_on o (after o (a_value q ∷ next_item q left u (place (behind f)) ∷ rest) (behind f) (λ _. behind_items q left u ∷ rest) next (like inner o room u (behind f)) _ (like_works room rest left u (behind f))
        (λ x g. items_work room rest u left (done ++ x ∷ []) g)))
        (goes_on o (given_works o next done f)))

    listing_works : (room : ℕ) (rest : List ValueItem) (f : Front) → Works o (a_value q ∷ first_item q ∷ rest) f (Hands rest) (listing inner o room f)
    unfolding listing
    listing_works room rest f =
        after o (a_value q ∷ first_item q ∷ rest) f (λ i. behind_items q 62 i.ty ∷ rest) (Hands rest) (inner f) _ (inside (first_item q ∷ rest) f)
        (λ i g. after o (behind_items q 62 i.ty ∷ rest) g (λ _. sym symbols.BracketClose ∷ made (ty.List i.ty) ∷ rest) (Hands rest)
        (more (like inner o room i.ty) begins_value symbols.Comma limits.Items wanted.AValue 62 (i.value ∷ []) g) _ (items_work room rest i.ty 62 (i.value ∷ []) g)
        (λ vs h. symbol_works o symbols.BracketClose (made (ty.List i.ty) ∷ rest) h (Hands rest) _ (made_works rest (list_of i.ty vs) (behind h))))

    -- ---- both, where one more may open

    element_works : (at : ℕ) (rest : List ValueItem) (t : Ty) (g : Front) (h : Unit {0} → Result (Read × Front) ParseFault)
        → Works o (sym symbols.BracketClose ∷ made (ty.List t) ∷ rest) g (Hands rest) (h tt) → Works o (behind_element q at t ∷ rest) g (Hands rest) (fits (suc q) at t >>= h)
    unfolding fits step
    element_works at rest t g h k = begin o (behind_element q at t) rest g (Hands rest) _ (go (nat_lt (suc q) (type_depth t)))
      where
        go : (b : Bool) → Follows o (if b then Err (TooDeep at) else Ok (sym symbols.BracketClose ∷ made (ty.List t) ∷ rest, g)) (Hands rest) ((if b then Err (TooDeep at) else Ok tt) >>= h)
        go true = stops o _ (Hands rest)
        go false = goes_on o k

    nil_works : o ≤ 1 → (at : ℕ) (rest : List ValueItem) (f : Front) → Works o (a_type (153 + q - o) ∷ element q at ∷ rest) (behind f) (Hands rest) (typed_nil inner o (suc q) at f)
    unfolding typed_nil
    nil_works small at rest f =
        let same : suc (153 + q - o) ≡ 153 + suc q - o = omega (arith, small) in
        after o (a_type (153 + q - o) ∷ element q at ∷ rest) (behind f) (λ t. behind_element q at t ∷ rest) (Hands rest) (type_to (153 + suc q - o) (behind f)) _
        (subst (λ n. Works o (a_type (153 + q - o) ∷ element q at ∷ rest) (behind f) (λ t. behind_element q at t ∷ rest) (type_to n (behind f))) same (types_work o (153 + q - o) (element q at ∷ rest) (behind f)))
        (λ t g. element_works at rest t g _ (symbol_works o symbols.BracketClose (made (ty.List t) ∷ rest) g (Hands rest) _ (made_works rest (list_of t []) (behind g))))

    behind_bracket_works : o ≤ 1 → (at : ℕ) (rest : List ValueItem) (f : Front) → Works o (behind_bracket q at ∷ rest) f (Hands rest)
        (if is_symbol symbols.Colon f then typed_nil inner o (suc q) at f else if begins_value f then listing inner o (suc q) f else Err (Expected wanted.AValue (place f)))
    unfolding step
    behind_bracket_works small at rest f =
        begin o (behind_bracket q at) rest f (Hands rest) _
        (both o (is_symbol symbols.Colon f) _ _ (Hands rest) _ _ (goes_on o (nil_works small at rest f))
        (both o (begins_value f) _ _ (Hands rest) _ _ (goes_on o (listing_works (suc q) rest f)) (stops o _ (Hands rest))))

    grouped_works : (at : ℕ) (rest : List ValueItem) (f : Front) → Works o (a_value q ∷ first_part q ∷ rest) f (Hands rest) (inner f >>= λ first. tuple inner o (suc q) first.0 first.1)
    grouped_works at rest f =
        after o (a_value q ∷ first_part q ∷ rest) f (λ i. behind_part q i.ty ∷ rest) (Hands rest) (inner f) _ (inside (first_part q ∷ rest) f) (λ i g. tuple_works (suc q) rest i g)

  -- what a round bracket begins, by what it groups
  parens_works : (room : ℕ) (inner : Reader Read) (rest : List ValueItem) (f : Front)
      → Follows o (enter room (place f) (λ q. a_value q ∷ first_part q ∷ rest) (behind f)) (Hands rest) (grouped_value inner o room (place f) (behind f))
      → Works o (behind_paren room (place f) ∷ rest) (behind f) (Hands rest) (parens inner o room f)
  unfolding parens step
  parens_works room inner rest f k =
      begin o (behind_paren room (place f)) rest (behind f) (Hands rest) _
      (both o (is_symbol symbols.ParenClose (behind f)) _ _ (Hands rest) _ _ (goes_on o (given_works o (Hands rest) (typed_value v.Unit ty.Unit) (behind (behind f))))
      (both o (begins_value (behind f)) _ _ (Hands rest) _ _ k (stops o _ (Hands rest))))

  value_works_by : (room : ℕ) (inner : Reader Read) (rest : List ValueItem) (f : Front)
      → Follows o (enter room (place f) (λ q. a_value q ∷ first_part q ∷ rest) (behind f)) (Hands rest) (grouped_value inner o room (place f) (behind f))
      → Follows o (enter room (place f) (λ q. behind_bracket q (place f) ∷ rest) (behind f)) (Hands rest) (brackets inner o room f)
      → Works o (a_value room ∷ rest) f (Hands rest) (value_at inner o room f)
  unfolding value_at step
  value_works_by room inner rest f k l =
      begin o (a_value room) rest f (Hands rest) _
      (both o (is_symbol symbols.ParenOpen f) _ _ (Hands rest) _ _ (goes_on o (parens_works room inner rest f k))
      (both o (is_symbol symbols.BracketOpen f) _ _ (Hands rest) _ _ l (literal_works rest f (next_kind f))))

  none_grouped : (inner : Reader Read) (rest : List ValueItem) (f : Front) → Follows o (Err (TooDeep (place f))) (Hands rest) (grouped_value inner o 0 (place f) (behind f))
  unfolding grouped_value
  none_grouped inner rest f = stops o _ (Hands rest)

  some_grouped : (q : ℕ) (inner : Reader Read) → Inside q inner → (rest : List ValueItem) (f : Front)
      → Follows o (Ok (a_value q ∷ first_part q ∷ rest, behind f)) (Hands rest) (grouped_value inner o (suc q) (place f) (behind f))
  unfolding grouped_value
  some_grouped q inner inside rest f = rw (room_open q) (goes_on o (grouped_works q inner inside (place f) rest (behind f)))

  none_bracketed : (inner : Reader Read) (rest : List ValueItem) (f : Front) → Follows o (enter 0 (place f) (λ q. behind_bracket q (place f) ∷ rest) (behind f)) (Hands rest) (brackets inner o 0 f)
  unfolding brackets
  none_bracketed inner rest f = enters o 0 f (λ q. behind_bracket q (place f) ∷ rest) (behind f) (Hands rest) _ (λ r e. absurd (omega (arith, e)))

  some_bracketed : o ≤ 1 → (q : ℕ) (inner : Reader Read) → Inside q inner → (rest : List ValueItem) (f : Front)
      → Follows o (enter (suc q) (place f) (λ q. behind_bracket q (place f) ∷ rest) (behind f)) (Hands rest) (brackets inner o (suc q) f)
  unfolding brackets
  some_bracketed small q inner inside rest f =
      enters o (suc q) f (λ q. behind_bracket q (place f) ∷ rest) (behind f) (Hands rest) _
      (λ r e. let same : q ≡ r = omega (arith, e) in subst (λ k. Works o (behind_bracket k (place f) ∷ rest) (behind f) (Hands rest)
      (if is_symbol symbols.Colon (behind f) then typed_nil inner o (suc q) (place f) (behind f) else if begins_value (behind f) then listing inner o (suc q) (behind f) else Err (Expected wanted.AValue (place (behind f))))) same
      (behind_bracket_works q inner inside small (place f) rest (behind f)))

  -- the reading of a value works off its agenda
  pub values_work : o ≤ 1 → (r : ℕ) (rest : List ValueItem) (f : Front) → Works o (a_value r ∷ rest) f (Hands rest) (value_to o (suc r) f)
  unfolding value_to
  values_work small zero rest f = value_works_by 0 (value_to o 0) rest f (none_grouped (value_to o 0) rest f) (none_bracketed (value_to o 0) rest f)
  values_work small (suc q) rest f =
      value_works_by (suc q) (value_to o (suc q)) rest f (some_grouped q (value_to o (suc q)) (λ m g. values_work small q m g) rest f)
      (some_bracketed small q (value_to o (suc q)) (λ m g. values_work small q m g) rest f)

-- ---- arguments

argument_works : (left : ℕ) (rest : List ValueItem) (f : Front) → Works 1 (a_value 7 ∷ more_args left ∷ rest) f (λ _. more_args left ∷ rest) (argument_at f)
unfolding argument_at
argument_works left rest f =
    let next : Value → List ValueItem = λ _. more_args left ∷ rest in
    after 1 (a_value 7 ∷ more_args left ∷ rest) f (λ i. hand i.ty (more_args left ∷ rest)) next (value_to 1 8 f) _ (values_work 1 (omega arith) 7 (more_args left ∷ rest) f) (λ i g. given_works 1 next i.value g)

more_arguments_work : (rest : List ValueItem) (left : ℕ) (done : List Value) (f : Front)
    → Works 1 (more_args left ∷ rest) f (λ _. rest) (more argument_at begins_value symbols.Comma limits.Arguments wanted.AValue left done f)
unfolding more step
more_arguments_work rest zero done f =
    let next : List Value → List ValueItem = λ _. rest in
    begin 1 (more_args 0) rest f next _ (both 1 (is_symbol symbols.Comma f) _ _ next _ _ (stops 1 _ next) (goes_on 1 (given_works 1 next done f)))
more_arguments_work rest (suc left) done f =
    let next : List Value → List ValueItem = λ _. rest in
    begin 1 (more_args (suc left)) rest f next _ (both 1 (is_symbol symbols.Comma f) _ _ next _ _
    (goes_on 1 (after 1 (a_value 7 ∷ more_args left ∷ rest) (behind f) (λ _. more_args left ∷ rest) next (argument_at (behind f)) _ (argument_works left rest (behind f))
    (λ x g. more_arguments_work rest left (done ++ x ∷ []) g)))
    (goes_on 1 (given_works 1 next done f)))

some_arguments_work : (rest : List ValueItem) (f : Front) → Works 1 (a_value 7 ∷ more_args 7 ∷ sym symbols.ParenClose ∷ rest) f (λ _. rest) (arguments_from f)
unfolding arguments_from
some_arguments_work rest f =
    let next : List Value → List ValueItem = λ _. rest in
    after 1 (a_value 7 ∷ more_args 7 ∷ sym symbols.ParenClose ∷ rest) f (λ _. more_args 7 ∷ sym symbols.ParenClose ∷ rest) next (argument_at f) _ (argument_works 7 (sym symbols.ParenClose ∷ rest) f)
    (λ x g. after 1 (more_args 7 ∷ sym symbols.ParenClose ∷ rest) g (λ _. sym symbols.ParenClose ∷ rest) next (more argument_at begins_value symbols.Comma limits.Arguments wanted.AValue 7 (x ∷ []) g) _
    (more_arguments_work (sym symbols.ParenClose ∷ rest) 7 (x ∷ []) g)
    (λ xs h. symbol_works 1 symbols.ParenClose rest h next _ (given_works 1 next xs (behind h))))

pub arguments_work : (rest : List ValueItem) (f : Front) → Works 1 (args ∷ rest) f (λ _. rest) (arguments_behind f)
unfolding arguments_behind step
arguments_work rest f =
    let next : List Value → List ValueItem = λ _. rest in
    begin 1 args rest f next _ (both 1 (is_symbol symbols.ParenClose f) _ _ next _ _ (goes_on 1 (given_works 1 next [] (behind f)))
    (both 1 (begins_value f) _ _ next _ _ (goes_on 1 (some_arguments_work rest f)) (stops 1 _ next)))
