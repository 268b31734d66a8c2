-- A value that is read is well formed, and no type is missing in it.
use Rattle.std.proofs.Common.{◌≡◌, ℕ, zero, suc, ◌+◌, ◌-◌, ◌≤◌, Bool, true, false, List, [], ◌∷◌, length, max, map, Option, Some, None, Result, Ok, Err, refl, sym, ◌∙◌, ap, subst, arith, IsTrue}
use Rattle.std.specs.Prelude.{◌==◌, nat_lt, if◌then◌else◌}
use Rattle.std.specs.List.{list_all, fold}
use Rattle.std.proofs.lemmas.Bool.{le-leb}
use Rattle.std.proofs.lemmas.List.{length-map}
use Rattle.std.proofs.lemmas.Bool.Decides.{nat_tests}
use Rattle.containers.proofs.Bools.{both}
use Rattle.plan_base.specs.declared.limit.Limit.TheVariants as limits
use Rattle.plan_base.specs.declared.tree.Ty.{Ty, Ty-F, roll-Ty}
use Rattle.plan_base.specs.declared.tree.Value.{Value, Value-F, roll-Value, out-roll-Value}
use Rattle.plan_base.specs.declared.tree.Value.TheVariants as v
use Rattle.plan_base.specs.declared.tree.Ty.TheVariants as ty
use Rattle.plan_base.specs.declared.tree.Chunk.{Chunk}
use Rattle.plan_base.specs.Sizes.{largest_by, type_depth, type_depth_level, value_depth, value_depth_level, nesting, nesting_level, chunk_nesting}
use Rattle.plan_base.specs.WellFormed.{formed_type, formed_type_level, formed_value, formed_value_level, formed_chunk, value_has_types, typed_value_level, chunk_has_types, well_formed_value, IsWellFormedValue, ValueHasTypes}
use Rattle.plan_base.proofs.SizeLaws.{value_depth_out, nesting_out}
use Rattle.plan_base.proofs.FormLaws.{formed_value_out, value_has_types_out}
use Rattle.plan_base.specs.SameTypes.{same_type}
use Rattle.plan_lexer.specs.declared.token.Token.{Token}
use Rattle.plan_lexer.specs.declared.token.TokenKind.{TokenKind}
use Rattle.plan_lexer.specs.declared.token.TokenKind.TheVariants as kinds
use Rattle.plan_lexer.specs.declared.token.Key.{Key}
use Rattle.plan_lexer.specs.declared.token.Key.TheVariants as keys
use Rattle.plan_lexer.specs.declared.token.Symbol.TheVariants as symbols
use Rattle.plan_lexer.specs.TokenRules.{AreTokens}
use Rattle.plan_parser_exprs.specs.declared.fault.ParseFault.{ParseFault}
use Rattle.plan_parser_exprs.specs.declared.fault.ParseFault.TheVariants.{TooDeep}
use Rattle.plan_parser_exprs.specs.declared.fault.Wanted.TheVariants as wanted
use Rattle.plan_parser_exprs.specs.Ahead.{Front, Reader, ◌>>=◌, place, behind, next_kind, is_symbol, need_symbol}
use Rattle.plan_parser_exprs.specs.Types.{opens}
use Rattle.plan_parser.specs.declared.item.TypedValue.{TypedValue}
use Rattle.plan_parser.specs.Values.{typed_value, literal_key, literal, literal_from, begins_value, tuple_of, list_of, judged_item, fits, tuple_from, tuple, grouped_value, parens, like, listing}
use Rattle.plan_parser.specs.Values.{typed_nil, brackets, value_at, value_to, nothing_follows, argument_at, arguments_from, arguments_behind, value_of, args_of}
use Rattle.plan_parser.proofs.FormedTypes.{Kinds, Holds, Any, step, choose, behind_kinds, symbol_holds, Each, each_test, Between, more_holds, more_some, Good, formed_of, formed_roll, depth_roll, type_holds}
use Rattle.plan_parser.proofs.FormedReads.{KindOf, kind_of_next, text_well}
use Rattle.plan_parser.proofs.FormedPrograms.{kinds_of}

-- a value inside fewer than so many lists and tuples that may be open, with no chunk in it
pub record GoodValue (n : ℕ) (v : Value) : Type 0 where
  pub formed : formed_value v ≡ true
  pub full : value_has_types v ≡ true
  pub deep : value_depth v + 1 ≤ n
  pub flat : nesting v ≡ 0

record GoodItem (n : ℕ) (i : TypedValue) : Type 0 where
  value : GoodValue n i.value
  formed : formed_type i.ty ≡ true
  shallow : type_depth i.ty ≤ n

module _ (l : Value-F Value Chunk) {v : Value} (r : roll-Value l ≡ v) where
  formed_is : formed_value v ≡ formed_value_level formed_value formed_chunk l
  formed_is = sym (ap formed_value r) ∙ (formed_value_out (roll-Value l) ∙ ap (formed_value_level formed_value formed_chunk) (out-roll-Value l))

  full_is : value_has_types v ≡ typed_value_level value_has_types chunk_has_types l
  full_is = sym (ap value_has_types r) ∙ (value_has_types_out (roll-Value l) ∙ ap (typed_value_level value_has_types chunk_has_types) (out-roll-Value l))

  deep_is : value_depth v ≡ value_depth_level value_depth l
  deep_is = sym (ap value_depth r) ∙ (value_depth_out (roll-Value l) ∙ ap (value_depth_level value_depth) (out-roll-Value l))

  flat_is : nesting v ≡ nesting_level nesting chunk_nesting l
  flat_is = sym (ap nesting r) ∙ (nesting_out (roll-Value l) ∙ ap (nesting_level nesting chunk_nesting) (out-roll-Value l))

-- ---- literals

leaf : (n : ℕ) (l : Value-F Value Chunk) {v : Value} → roll-Value l ≡ v → (t : Ty-F Ty) {u : Ty} → roll-Ty t ≡ u
    → formed_value_level formed_value formed_chunk l ≡ true → typed_value_level value_has_types chunk_has_types l ≡ true
    → value_depth_level value_depth l ≡ 0 → nesting_level nesting chunk_nesting l ≡ 0 → formed_type_level formed_type t ≡ true → type_depth_level type_depth t ≡ 1
    → GoodItem (suc n) (typed_value v u)
leaf n l r t q f h d k g s = record {
  value = record {
    formed = formed_is l r ∙ f;
    full = full_is l r ∙ h;
    deep = (let e = deep_is l r ∙ d in omega (arith, e));
    flat = flat_is l r ∙ k;
  };
  formed = formed_roll t q g;
  shallow = (let e = depth_roll t q ∙ s in omega (arith, e));
}

abbrev GoodOption : ℕ → Option TypedValue → Type 0
GoodOption n (Some i) = GoodItem (suc n) i
GoodOption n None = Unit {0}

literal_key_good : (n : ℕ) (k : Key) → GoodOption n (literal_key k)
literal_key_good n keys.True = leaf n (Value-F.Bool true) (v.rolls-Bool true) Ty-F.Bool ty.rolls-Bool refl refl refl refl refl refl
literal_key_good n keys.False = leaf n (Value-F.Bool false) (v.rolls-Bool false) Ty-F.Bool ty.rolls-Bool refl refl refl refl refl refl
literal_key_good n _ = tt

literal_good : (n : ℕ) (o : Option TokenKind) → KindOf o → GoodOption n (literal o)
literal_good n (Some (kinds.Int z)) k = leaf n (Value-F.Int z) (v.rolls-Int z) Ty-F.Int ty.rolls-Int refl refl refl refl refl refl
literal_good n (Some (kinds.Host h)) k = leaf n (Value-F.Host (record { 0 = h })) (v.rolls-Host (record { 0 = h })) Ty-F.Host ty.rolls-Host refl refl refl refl refl refl
literal_good n (Some (kinds.Dev d)) k = leaf n (Value-F.Dev (record { 0 = d })) (v.rolls-Dev (record { 0 = d })) Ty-F.Dev ty.rolls-Dev refl refl refl refl refl refl
literal_good n (Some (kinds.Char c)) k = leaf n (Value-F.Char c) (v.rolls-Char c) Ty-F.Char ty.rolls-Char k refl refl refl refl refl
literal_good n (Some (kinds.Str s)) k = leaf n (Value-F.Str s) (v.rolls-Str s) Ty-F.Str ty.rolls-Str (text_well s k) refl refl refl refl refl
literal_good n (Some (kinds.Blob b)) k = leaf n (Value-F.Blob b) (v.rolls-Blob b) Ty-F.Blob ty.rolls-Blob (le-leb (length b) 65535 k.1) refl refl refl refl refl
literal_good n (Some (kinds.Key w)) k = literal_key_good n w
literal_good n _ k = tt

literal_holds : (n : ℕ) (f : Front) (o : Option TypedValue) → GoodOption n o → Kinds f.tokens → Holds (GoodItem (suc n)) (literal_from f o)
literal_holds n f (Some i) q k = (q, behind_kinds f k)
literal_holds n f None q k = tt

-- ---- lists and tuples

largest_within : {A : Type 0} (g : A → ℕ) (b : ℕ) (xs : List A) (m : ℕ) → m ≤ b → Each (λ x. g x ≤ b) xs → fold (λ k x. max k (g x)) m xs ≤ b
largest_within g b [] m h q = h
largest_within g b (x ∷ xs) m h q = largest_within g b xs (max m (g x)) (let p = q.0 in omega (arith, h, p)) q.1

each_map : {A B : Type 0} (P : A → Type 0) (Q : B → Type 0) (g : A → B) → ((x : A) → P x → Q (g x)) → (xs : List A) → Each P xs → Each Q (map g xs)
each_map P Q g h [] q = tt
each_map P Q g h (x ∷ xs) q = (h x q.0, each_map P Q g h xs q.1)

each_weaker : {A : Type 0} (P Q : A → Type 0) → ((x : A) → P x → Q x) → (xs : List A) → Each P xs → Each Q xs
each_weaker P Q h [] q = tt
each_weaker P Q h (x ∷ xs) q = (h x q.0, each_weaker P Q h xs q.1)

-- values that stand together
record GoodValues (n : ℕ) (vs : List Value) : Type 0 where
  formed : list_all formed_value vs ≡ true
  full : list_all value_has_types vs ≡ true
  deep : largest_by value_depth vs + 1 ≤ n
  flat : largest_by nesting vs ≡ 0

values_good : (n : ℕ) (vs : List Value) → 1 ≤ n → Each (GoodValue n) vs → GoodValues n vs
values_good n vs some q = record {
  formed = each_test (GoodValue n) formed_value (λ v p. p.formed) vs q;
  full = each_test (GoodValue n) value_has_types (λ v p. p.full) vs q;
  deep =
      (let h = largest_within value_depth (n - 1) vs 0 (omega arith)
      (each_weaker (GoodValue n) (λ v. value_depth v ≤ n - 1) (λ v p. let d = p.deep in omega (arith, d)) vs q) in omega (arith, h, some));
  flat =
      (let h = largest_within nesting 0 vs 0 (omega arith) (each_weaker (GoodValue n) (λ v. nesting v ≤ 0) (λ v p. let d = p.flat in omega (arith, d)) vs q) in omega (arith, h));
}

-- a list of values, inside one more bracket
list_good : (n : ℕ) (t : Ty) (vs : List Value) → 1 ≤ n → n ≤ 7 → formed_type t ≡ true → type_depth t ≤ n → length vs ≤ 63 → Each (GoodValue n) vs → GoodItem (suc n) (list_of t vs)
list_good n t vs some few g s l q =
    let p = values_good n vs some q in record {
      value = record {
        formed = formed_is (Value-F.List t vs) (v.rolls-List t vs)
            ∙ both (both g (le-leb (type_depth t) 7 (omega (arith, s, few)))) (both (le-leb (length vs) 65535 (omega (arith, l))) p.formed);
        full = full_is (Value-F.List t vs) (v.rolls-List t vs) ∙ p.full;
        deep = (let e = deep_is (Value-F.List t vs) (v.rolls-List t vs) in let d = p.deep in omega (arith, e, d));
        flat = flat_is (Value-F.List t vs) (v.rolls-List t vs) ∙ p.flat;
      };
      formed = formed_roll (Ty-F.List t) (ty.rolls-List t) g;
      shallow = (let e = depth_roll (Ty-F.List t) (ty.rolls-List t) in omega (arith, e, s));
    }

-- several values as a tuple, inside one more bracket
tuple_good : (n : ℕ) (is : List TypedValue) → 1 ≤ n → Between (GoodItem n) 2 8 is → GoodItem (suc n) (tuple_of is)
tuple_good n is some q =
    let vs = map (λ i. i.value) is in let ts = map (λ i. i.ty) is in
    let p = values_good n vs some (each_map (GoodItem n) (GoodValue n) (λ i. i.value) (λ i h. h.value) is q.all) in
    let m : length vs ≡ length is = length-map is (λ i. i.value) in let k : length ts ≡ length is = length-map is (λ i. i.ty) in
    let least = q.least in let most = q.most in record {
      value = record {
        formed = formed_is (Value-F.Tuple vs) (v.rolls-Tuple vs)
            ∙ both (both (le-leb 2 (length vs) (omega (arith, m, least))) (le-leb (length vs) 8 (omega (arith, m, most)))) p.formed;
        full = full_is (Value-F.Tuple vs) (v.rolls-Tuple vs) ∙ p.full;
        deep = (let e = deep_is (Value-F.Tuple vs) (v.rolls-Tuple vs) in let d = p.deep in omega (arith, e, d));
        flat = flat_is (Value-F.Tuple vs) (v.rolls-Tuple vs) ∙ p.flat;
      };
      formed = formed_roll (Ty-F.Tuple ts) (ty.rolls-Tuple ts)
          (both (both (le-leb 2 (length ts) (omega (arith, k, least))) (le-leb (length ts) 8 (omega (arith, k, most))))
          (each_test (λ t. formed_type t ≡ true) formed_type (λ t h. h) ts (each_map (GoodItem n) (λ t. formed_type t ≡ true) (λ i. i.ty) (λ i h. h.formed) is q.all)));
      shallow =
          (let e = depth_roll (Ty-F.Tuple ts) (ty.rolls-Tuple ts) in
          let d = largest_within type_depth n ts 0 (omega arith) (each_map (GoodItem n) (λ t. type_depth t ≤ n) (λ i. i.ty) (λ i h. h.shallow) is q.all) in omega (arith, e, d));
    }

judged_holds : (n at : ℕ) (t : Ty) (i : TypedValue) (f : Front) → GoodItem n i → Kinds f.tokens → Holds (GoodValue n) (judged_item t at i f)
unfolding judged_item
judged_holds n at t i f q k = choose (GoodValue n) (same_type i.ty t) _ _ (λ _. (q.value, k)) (λ _. tt)

-- a judgement without tokens, and then a reading
judge : {B : Type 0} (Q : B → Type 0) (r : Result (Unit {0}) ParseFault) (h : Unit {0} → Result (B × Front) ParseFault)
    → ((u : Unit {0}) → r ≡ Ok u → Holds Q (h u)) → Holds Q (r >>= h)
judge Q (Ok u) h k = k u refl
judge Q (Err e) h k = tt

fits_depth : (room at : ℕ) (t : Ty) (u : Unit {0}) → fits room at t ≡ Ok u → type_depth t ≤ room
unfolding fits
fits_depth room at t u e = by_test (nat_lt room (type_depth t)) refl e
  where
    by_test : (b : Bool) → nat_lt room (type_depth t) ≡ b → (if b then Err (TooDeep at) else Ok (tt {0})) ≡ Ok u → type_depth t ≤ room
    by_test true h q = absurd cc
    by_test false h q = grind (arith, nat_tests, h)

opens_some : (room : ℕ) (f : Front) → Kinds f.tokens → Holds (λ _. 1 ≤ room) (opens room f)
unfolding opens
opens_some room f k = choose (λ _. 1 ≤ room) (room == 0) _ _ (λ _. tt) (λ e. (grind (arith, nat_tests, e), k))

-- an item has room for its own bracket
item_some : (n : ℕ) (i : TypedValue) → GoodItem n i → 1 ≤ n
item_some n i q = let d = q.value.deep in omega (arith, d)

module _ (inner : Reader TypedValue) (outside room : ℕ) (few : room ≤ 7) (reads : (f : Front) → Kinds f.tokens → Holds (GoodItem room) (inner f)) where
  tuple_from_holds : (first : TypedValue) (f : Front) → is_symbol symbols.Comma f ≡ true → GoodItem room first → Kinds f.tokens → Holds (GoodItem (suc room)) (tuple_from inner outside room first f)
  unfolding tuple_from
  tuple_from_holds first f here q k =
      step (Between (GoodItem room) 2 8) (GoodItem (suc room)) _ _ (more_some (GoodItem room) inner reads begins_value symbols.Comma limits.Parts wanted.AValue 6 (first ∷ []) f here (q, tt) k)
      (λ all g p r. step Any (GoodItem (suc room)) _ _ (symbol_holds symbols.ParenClose g r)
      (λ _ h _ s. (tuple_good room all (item_some room first q) p, s)))

  tuple_holds : (first : TypedValue) (f : Front) → GoodItem room first → Kinds f.tokens → Holds (GoodItem (suc room)) (tuple inner outside room first f)
  unfolding tuple
  tuple_holds first f q k = choose (GoodItem (suc room)) (is_symbol symbols.Comma f) _ _ (λ here. tuple_from_holds first f here q k) (λ _. tt)

  grouped_holds : (at : ℕ) (f : Front) → Kinds f.tokens → Holds (GoodItem (suc room)) (grouped_value inner outside room at f)
  unfolding grouped_value
  grouped_holds at f k =
      choose (GoodItem (suc room)) (room == 0) _ _ (λ _. tt) (λ _. step (GoodItem room) (GoodItem (suc room)) _ _ (reads f k) (λ first g q r. tuple_holds first g q r))

  parens_holds : (f : Front) → Kinds f.tokens → Holds (GoodItem (suc room)) (parens inner outside room f)
  unfolding parens
  parens_holds f k =
      let s = behind_kinds f k in
      choose (GoodItem (suc room)) (is_symbol symbols.ParenClose (behind f)) _ _ (λ _. (leaf room Value-F.Unit v.rolls-Unit Ty-F.Unit ty.rolls-Unit refl refl refl refl refl refl, behind_kinds (behind f) s))
      (λ _. choose (GoodItem (suc room)) (begins_value (behind f)) _ _ (λ _. grouped_holds (place f) (behind f) s) (λ _. tt))

  like_holds : (t : Ty) (f : Front) → Kinds f.tokens → Holds (GoodValue room) (like inner outside room t f)
  unfolding like
  like_holds t f k = step (GoodItem room) (GoodValue room) _ _ (reads f k) (λ i g q r. judged_holds room (place f) t i g q r)

  listing_holds : (f : Front) → Kinds f.tokens → Holds (GoodItem (suc room)) (listing inner outside room f)
  unfolding listing
  listing_holds f k =
      step (GoodItem room) (GoodItem (suc room)) _ _ (reads f k) (λ first g q r.
      step (Between (GoodValue room) 1 63) (GoodItem (suc room)) _ _
      (more_holds (GoodValue room) (like inner outside room first.ty) (like_holds first.ty) begins_value symbols.Comma limits.Items wanted.AValue 62 (first.value ∷ []) g (q.value, tt) r)
      (λ all h p s. step Any (GoodItem (suc room)) _ _ (symbol_holds symbols.BracketClose h s)
      (λ _ i _ u. (list_good room first.ty all (item_some room first q) few q.formed q.shallow p.most p.all, u))))

  typed_nil_holds : (at : ℕ) (f : Front) → 1 ≤ room → Kinds f.tokens → Holds (GoodItem (suc room)) (typed_nil inner outside room at f)
  unfolding typed_nil
  typed_nil_holds at f some k =
      step Good (GoodItem (suc room)) _ _ (type_holds (153 + room - outside) (behind f) (behind_kinds f k)) (λ t g p q.
      judge (GoodItem (suc room)) (fits room at t) _ (λ u e. step Any (GoodItem (suc room)) _ _ (symbol_holds symbols.BracketClose g q)
      (λ _ h _ r. (list_good room t [] some few (formed_of t p) (fits_depth room at t u e) (omega arith) tt, r))))

  brackets_holds : (f : Front) → Kinds f.tokens → Holds (GoodItem (suc room)) (brackets inner outside room f)
  unfolding brackets
  brackets_holds f k =
      let s = behind_kinds f k in
      step (λ _. 1 ≤ room) (GoodItem (suc room)) _ _ (opens_some room f k) (λ _ g some _.
      choose (GoodItem (suc room)) (is_symbol symbols.Colon (behind f)) _ _ (λ _. typed_nil_holds (place f) (behind f) some s)
      (λ _. choose (GoodItem (suc room)) (begins_value (behind f)) _ _ (λ _. listing_holds (behind f) s) (λ _. tt)))

  value_at_holds : (f : Front) → Kinds f.tokens → Holds (GoodItem (suc room)) (value_at inner outside room f)
  unfolding value_at
  value_at_holds f k =
      choose (GoodItem (suc room)) (is_symbol symbols.ParenOpen f) _ _ (λ _. parens_holds f k) (λ _. choose (GoodItem (suc room)) (is_symbol symbols.BracketOpen f) _ _ (λ _. brackets_holds f k)
      (λ _. literal_holds room f (literal (next_kind f)) (literal_good room (next_kind f) (kind_of_next f k)) k))

value_holds : (outside room : ℕ) → room ≤ 8 → (f : Front) → Kinds f.tokens → Holds (GoodItem room) (value_to outside room f)
unfolding value_to
value_holds outside zero h f k = tt
value_holds outside (suc room) h f k =
    value_at_holds (value_to outside room) outside room (omega (arith, h)) (value_holds outside room (omega (arith, h))) f k

-- ---- whole values and arguments

argument_holds : (f : Front) → Kinds f.tokens → Holds (GoodValue 8) (argument_at f)
unfolding argument_at
argument_holds f k = step (GoodItem 8) (GoodValue 8) _ _ (value_holds 1 8 (omega arith) f k) (λ i g q r. (q.value, r))

arguments_from_holds : (f : Front) → Kinds f.tokens → Holds (Between (GoodValue 8) 0 8) (arguments_from f)
unfolding arguments_from
arguments_from_holds f k =
    step (GoodValue 8) (Between (GoodValue 8) 0 8) _ _ (argument_holds f k) (λ first g p q.
    step (Between (GoodValue 8) 1 8) (Between (GoodValue 8) 0 8) _ _
    (more_holds (GoodValue 8) argument_at argument_holds begins_value symbols.Comma limits.Arguments wanted.AValue 7 (first ∷ []) g (p, tt) q)
    (λ all h r s. step Any (Between (GoodValue 8) 0 8) _ _ (symbol_holds symbols.ParenClose h s)
    (λ _ i _ t. (record { all = r.all; least = omega arith; most = r.most }, t))))

arguments_behind_holds : (f : Front) → Kinds f.tokens → Holds (Between (GoodValue 8) 0 8) (arguments_behind f)
unfolding arguments_behind
arguments_behind_holds f k =
    choose (Between (GoodValue 8) 0 8) (is_symbol symbols.ParenClose f) _ _ (λ _. (record { all = tt; least = omega arith; most = omega arith }, behind_kinds f k))
    (λ _. choose (Between (GoodValue 8) 0 8) (begins_value f) _ _ (λ _. arguments_from_holds f k) (λ _. tt))

-- what is read up to the end
abbrev GoodOr : {A : Type 0} → (A → Type 0) → Result A ParseFault → Type 0
GoodOr P (Ok a) = P a
GoodOr P (Err e) = Unit {0}

up_to_end : {A B : Type 0} (P : A → Type 0) (Q : B → Type 0) (make : A → B) (r : Result (A × Front) ParseFault) → Holds P r → ((a : A) → P a → Q (make a))
    → GoodOr Q (r >>= λ x. (nothing_follows x.1 >>= λ _. Ok (make x.0)))
up_to_end P Q make (Err e) q h = tt
up_to_end P Q make (Ok x) q h = by_end (nothing_follows x.1)
  where
    by_end : (r : Result (Unit {0}) ParseFault) → GoodOr Q (r >>= λ _. Ok (make x.0))
    by_end (Ok _) = h x.0 q.0
    by_end (Err e) = tt

value_of_good : (tokens : List Token) (end : ℕ) → Kinds tokens → GoodOr (GoodValue 8) (value_of tokens end)
unfolding value_of
value_of_good tokens end k =
    up_to_end (GoodItem 8) (GoodValue 8) (λ i. i.value) (value_to 0 8 (record { tokens = tokens; end = end })) (value_holds 0 8 (omega arith) _ k) (λ i q. q.value)

args_of_good : (tokens : List Token) (end : ℕ) → Kinds tokens → GoodOr (Between (GoodValue 8) 0 8) (args_of tokens end)
unfolding args_of
args_of_good tokens end k = by_bracket (need_symbol symbols.ParenOpen (record { tokens = tokens; end = end })) (symbol_holds symbols.ParenOpen _ k)
  where
    by_bracket : (r : Result (Unit {0} × Front) ParseFault) → Holds Any r
        → GoodOr (Between (GoodValue 8) 0 8) (r >>= λ open_bracket. (arguments_behind open_bracket.1 >>= λ args. (nothing_follows args.1 >>= λ _. Ok args.0)))
    by_bracket (Ok x) q = up_to_end (Between (GoodValue 8) 0 8) (Between (GoodValue 8) 0 8) (λ vs. vs) (arguments_behind x.1) (arguments_behind_holds x.1 q.1) (λ vs p. p)
    by_bracket (Err e) q = tt

well_formed : (v : Value) → GoodValue 8 v → well_formed_value v ≡ true
unfolding well_formed_value
well_formed v q =
    let d = q.deep in let f = q.flat in both q.formed (both (le-leb (value_depth v) 8 (omega (arith, d))) (le-leb (nesting v) 4 (omega (arith, f))))

read_value : (tokens : List Token) (end : ℕ) (v : Value) → AreTokens 0 end tokens → value_of tokens end ≡ Ok v → GoodValue 8 v
read_value tokens end v h e = subst (GoodOr (GoodValue 8)) e (value_of_good tokens end (kinds_of 0 end tokens h))

read_args : (tokens : List Token) (end : ℕ) (vs : List Value) → AreTokens 0 end tokens → args_of tokens end ≡ Ok vs → Between (GoodValue 8) 0 8 vs
read_args tokens end vs h e = subst (GoodOr (Between (GoodValue 8) 0 8)) e (args_of_good tokens end (kinds_of 0 end tokens h))

module _ (tokens : List Token) (end : ℕ) (h : AreTokens 0 end tokens) where
  -- a value that is read is well formed
  pub value_formed : (v : Value) → value_of tokens end ≡ Ok v → IsWellFormedValue v
  value_formed v e = well_formed v (read_value tokens end v h e)

  pub value_full : (v : Value) → value_of tokens end ≡ Ok v → ValueHasTypes v
  value_full v e = (read_value tokens end v h e).full

  -- so are arguments
  pub args_formed : (vs : List Value) → args_of tokens end ≡ Ok vs → IsTrue (list_all well_formed_value vs)
  args_formed vs e = each_test (GoodValue 8) well_formed_value well_formed vs (read_args tokens end vs h e).all

  pub args_full : (vs : List Value) → args_of tokens end ≡ Ok vs → IsTrue (list_all value_has_types vs)
  args_full vs e = each_test (GoodValue 8) value_has_types (λ v q. q.full) vs (read_args tokens end vs h e).all

  pub args_few : (vs : List Value) → args_of tokens end ≡ Ok vs → length vs ≤ 8
  args_few vs e = (read_args tokens end vs h e).most
