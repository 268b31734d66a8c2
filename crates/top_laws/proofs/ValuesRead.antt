-- The tokens of a printed value are read as that value.
use Rattle.std.proofs.Common.{◌≡◌, ℕ, suc, ◌+◌, ◌-◌, ◌<◌, ◌≤◌, Bool, true, false, ◌||◌, List, [], ◌∷◌, ◌++◌, length, Option, Some, Ok, refl, sym, ap, ◌∙◌, subst, arith, append_assoc, append-nil, nat_lt}
use Rattle.std.specs.Prelude.{map, is_some}
use Rattle.std.proofs.lemmas.Bool.Decides.{nat_tests}
use Rattle.std.proofs.lemmas.List.{length-map}
use Rattle.containers.proofs.Bools.{not_zero}
use Rattle.containers.proofs.Lists.{regroup}
use Rattle.plan_base.specs.declared.limit.Limit.{Limit}
use Rattle.plan_base.specs.declared.limit.Limit.TheVariants as limits
use Rattle.plan_base.specs.declared.tree.Ty.{Ty}
use Rattle.plan_base.specs.declared.tree.Ty.TheVariants as ty
use Rattle.plan_base.specs.declared.tree.Value.{Value, Value-F, out-Value, roll-Value, roll-out-Value}
use Rattle.plan_base.specs.declared.tree.Value.TheVariants as v
use Rattle.plan_base.specs.declared.tree.Chunk.{Chunk}
use Rattle.plan_base.specs.Sizes.{type_depth}
use Rattle.plan_base.specs.SameTypes.{same_type}
use Rattle.plan_base.proofs.SameTypes.{same_type_itself}
use Rattle.plan_lexer.specs.declared.token.Key.TheVariants as keys
use Rattle.plan_lexer.specs.declared.token.Symbol.TheVariants as symbols
use Rattle.plan_lexer.specs.declared.token.Token.{Token}
use Rattle.plan_lexer.specs.declared.token.TokenKind.{TokenKind}
use Rattle.plan_lexer.specs.declared.token.TokenKind.TheVariants as kind
use Rattle.plan_parser_exprs.specs.declared.fault.Wanted.TheVariants as wanted
use Rattle.plan_parser_exprs.specs.Ahead.{Front, Reader, place, behind, is_symbol, is_symbol_kind}
use Rattle.plan_parser.specs.declared.item.TypedValue.{TypedValue}
use Rattle.plan_parser.specs.Values.{typed_value, literal, literal_from, begins_value, tuple_of, list_of, judged_item, fits, tuple_from, tuple, grouped_value, parens, like, listing, typed_nil}
use Rattle.plan_parser.specs.Values.{brackets, value_at, value_to, nothing_follows, value_of}
use Rattle.plan_printer_spec.specs.Pieces.{listed_pieces}
use Rattle.program_text_laws.specs.Lexes.{kinds_of}
use Rattle.program_text_laws.specs.PrintedTokens.{Kinds, mark, bool_kinds, type_kinds, value_kinds_level, value_kinds}
use Rattle.program_text_laws.specs.Proper.{IsReadableType}
use Rattle.top_laws.proofs.ValueTokens.{value_kinds_out}
use Rattle.program_text_laws.specs.Reads.{kinds_at, Took}
use Rattle.program_text_laws.proofs.Steps.{took, then_took, took_by, weaker, next_is, behind_is, symbol_is, take_symbol, take_open, AllRead, AllGood, more_took}
use Rattle.program_text_laws.proofs.TypesRead.{type_takes}
use Rattle.program_text_laws.proofs.Forms.{behind_one}
use Rattle.top_laws.specs.Readable.{IsReadable, AreOfType, AreReadable}
use Rattle.top_laws.specs.Readable.{IsReadable as R, AreOfType as O, AreReadable as M}

-- the item is that value with that type
record IsItem (w : Value) (t : Ty) (i : TypedValue) : Type 0 where
  value : i.value ≡ w
  type : i.ty ≡ t

value_is_rolled : (w : Value) (x : Value-F Value Chunk) → out-Value w ≡ x → w ≡ roll-Value x
value_is_rolled w x o = sym (roll-out-Value w) ∙ ap roll-Value o

kinds_are : (w : Value) (x : Value-F Value Chunk) → out-Value w ≡ x → value_kinds w ≡ value_kinds_level value_kinds x
kinds_are w x o = value_kinds_out w ∙ ap (value_kinds_level value_kinds) o

-- what begins a value closes no bracket and is no colon
record ValueStarts (ks : Kinds) : Type 0 where
  first : TokenKind
  others : Kinds
  are : ks ≡ first ∷ others
  begin : (is_some (literal (Some first)) || (is_symbol_kind symbols.ParenOpen (Some first) || is_symbol_kind symbols.BracketOpen (Some first))) ≡ true
  paren : is_symbol_kind symbols.ParenClose (Some first) ≡ false
  colon : is_symbol_kind symbols.Colon (Some first) ≡ false

-- a value is read, wherever it stands
record ValueRead (outside n : ℕ) (w : Value) (t : Ty) : Type 0 where
  starts : ValueStarts (value_kinds w)
  reads : (f : Front) (rest : Kinds) → kinds_at f ≡ value_kinds w ++ rest → Took (value_to outside n f) rest (IsItem w t)

begins_is : (f : Front) (w : Value) (rest : Kinds) → kinds_at f ≡ value_kinds w ++ rest → ValueStarts (value_kinds w) → begins_value f ≡ true
unfolding begins_value
begins_is f w rest h s =
    let ks : kinds_at f ≡ s.first ∷ (s.others ++ rest) = h ∙ ap (λ l. l ++ rest) s.are in
    (λ i. is_some (literal (next_is f (s.first ∷ (s.others ++ rest)) ks i)) || (symbol_is symbols.ParenOpen f (s.first ∷ (s.others ++ rest)) ks i || symbol_is symbols.BracketOpen f (s.first ∷ (s.others ++ rest)) ks i)) ∙ s.begin

isnt : (b : _) (f : Front) (w : Value) (rest : Kinds) (h : kinds_at f ≡ value_kinds w ++ rest) (s : ValueStarts (value_kinds w)) → is_symbol_kind b (Some s.first) ≡ false → is_symbol b f ≡ false
isnt b f w rest h s e = symbol_is b f (s.first ∷ (s.others ++ rest)) (h ∙ ap (λ l. l ++ rest) s.are) ∙ e

-- ---- literals

literal_took : (outside room : ℕ) (w : Value) (t : Ty) (k : TokenKind) (x : Value) → x ≡ w → literal (Some k) ≡ Some (typed_value x t) → is_symbol_kind symbols.ParenOpen (Some k) ≡ false → is_symbol_kind symbols.BracketOpen (Some k) ≡ false
    → (f : Front) (rest : Kinds) → kinds_at f ≡ k ∷ rest → Took (value_to outside (suc room) f) rest (IsItem w t)
unfolding value_to value_at
literal_took outside room w t k x e l p b f rest h =
    rw (symbol_is symbols.ParenOpen f (k ∷ rest) h ∙ p) (rw (symbol_is symbols.BracketOpen f (k ∷ rest) h ∙ b)
    (took_by (ap (λ o. literal_from f (literal o)) (next_is f (k ∷ rest) h) ∙ ap (literal_from f) l) (took (typed_value x t) (behind f) (behind_is f k rest h) (record { value = e; type = refl }))))

some_begins : (o : Option TypedValue) (i : TypedValue) (b c : Bool) → o ≡ Some i → (is_some o || (b || c)) ≡ true
some_begins o i b c e = rw e refl

literal_read : (outside room : ℕ) (w : Value) (t : Ty) (k : TokenKind) (x : Value) → x ≡ w → literal (Some k) ≡ Some (typed_value x t) → is_symbol_kind symbols.ParenOpen (Some k) ≡ false → is_symbol_kind symbols.BracketOpen (Some k) ≡ false
    → is_symbol_kind symbols.ParenClose (Some k) ≡ false → is_symbol_kind symbols.Colon (Some k) ≡ false → value_kinds w ≡ k ∷ [] → ValueRead outside (suc room) w t
literal_read outside room w t k x e l p b c d ks = record {
  starts = record { first = k; others = []; are = ks; begin = some_begins (literal (Some k)) (typed_value x t) (is_symbol_kind symbols.ParenOpen (Some k)) (is_symbol_kind symbols.BracketOpen (Some k)) l; paren = c; colon = d };
  reads = λ f rest h. literal_took outside room w t k x e l p b f rest (h ∙ ap (λ l. l ++ rest) ks);
}

paren_starts : (ks ls : Kinds) → ks ≡ kind.Symbol symbols.ParenOpen ∷ ls → ValueStarts ks
paren_starts ks ls e = record { first = kind.Symbol symbols.ParenOpen; others = ls; are = e; begin = refl; paren = refl; colon = refl }

square_starts : (ks ls : Kinds) → ks ≡ kind.Symbol symbols.BracketOpen ∷ ls → ValueStarts ks
square_starts ks ls e = record { first = kind.Symbol symbols.BracketOpen; others = ls; are = e; begin = refl; paren = refl; colon = refl }

-- ---- brackets

unit_took : (outside room : ℕ) (w : Value) → v.Unit ≡ w → (f : Front) (rest : Kinds) → kinds_at f ≡ kind.Symbol symbols.ParenOpen ∷ kind.Symbol symbols.ParenClose ∷ rest → Took (value_to outside (suc room) f) rest (IsItem w ty.Unit)
unfolding value_to value_at parens
unit_took outside room w e f rest h =
    let hs : kinds_at (behind f) ≡ kind.Symbol symbols.ParenClose ∷ rest = behind_is f (kind.Symbol symbols.ParenOpen) _ h in
    rw (symbol_is symbols.ParenOpen f _ h) (rw (symbol_is symbols.ParenClose (behind f) _ hs)
    (took (typed_value v.Unit ty.Unit) (behind (behind f)) (behind_is (behind f) (kind.Symbol symbols.ParenClose) rest hs) (record { value = e; type = refl })))

fits_ok : (room at : ℕ) (t : Ty) → type_depth t ≤ room → fits room at t ≡ Ok tt
unfolding fits
fits_ok room at t h = let e : nat_lt room (type_depth t) ≡ false = grind (arith, nat_tests) in rw e refl

nil_took : (outside room : ℕ) → outside ≤ 1 → (w : Value) (t : Ty) → v.List t [] ≡ w → 0 < room → IsReadableType t → type_depth t ≤ room → (f : Front) (rest : Kinds)
    → kinds_at f ≡ kind.Symbol symbols.BracketOpen ∷ kind.Symbol symbols.Colon ∷ (type_kinds t ++ (kind.Symbol symbols.BracketClose ∷ rest)) → Took (value_to outside (suc room) f) rest (IsItem w (ty.List t))
unfolding value_to value_at brackets typed_nil
nil_took outside room few w t e n p d f rest h =
    let ks : Kinds = kind.Symbol symbols.Colon ∷ (type_kinds t ++ (kind.Symbol symbols.BracketClose ∷ rest)) in
    let hs : kinds_at (behind f) ≡ ks = behind_is f (kind.Symbol symbols.BracketOpen) _ h in
    rw (symbol_is symbols.ParenOpen f _ h) (rw (symbol_is symbols.BracketOpen f _ h)
    (then_took _ (take_open room f _ n h) (λ u0 g0 h0 q0. rw (symbol_is symbols.Colon (behind f) ks hs)
    (then_took _ (type_takes p.0 (153 + room - outside) (omega (arith, p.1, few)) p.1 (behind (behind f)) (kind.Symbol symbols.BracketClose ∷ rest) (behind_is (behind f) (kind.Symbol symbols.Colon) _ hs) refl) (λ u g1 h1 q1.
    rw (ap (fits room (place f)) q1 ∙ fits_ok room (place f) t d)
    (then_took _ (take_symbol symbols.BracketClose g1 rest h1) (λ u2 g2 h2 q2. took _ g2 h2 (record { value = ap (λ z. v.List z []) q1 ∙ e; type = ap ty.List q1 }))))))))

-- ---- lists

like_took : (outside room : ℕ) (t : Ty) (w : Value) → ValueRead outside room w t → (u : Ty) → u ≡ t → (f : Front) (rest : Kinds) → kinds_at f ≡ value_kinds w ++ rest → Took (like (value_to outside room) outside room u f) rest (λ x. x ≡ w)
unfolding like judged_item
like_took outside room t w r u e f rest h =
    then_took _ (r.reads f rest h) (λ i g k q. rw (ap (λ z. same_type z u) q.type ∙ (ap (same_type t) e ∙ same_type_itself t)) (took i.value g k q.value))

-- values that are read as values of one type
abbrev AllOfType : ℕ → ℕ → List Value → Ty → Type 0
AllOfType outside room [] t = Unit {0}
AllOfType outside room (w ∷ ws) t = ValueRead outside room w t × AllOfType outside room ws t

abbrev same_value : Value → Value → Type 0
same_value w x = x ≡ w

abbrev anything : Kinds → Type 0
anything ks = Unit {0}

items_read : (outside room : ℕ) (t : Ty) (ws : List Value) → AllOfType outside room ws t → (u : Ty) → u ≡ t
    → AllRead (like (value_to outside room) outside room u) begins_value symbols.Comma limits.Items wanted.AValue value_kinds same_value anything ws
items_read outside room t [] rs u e = tt
items_read outside room t (w ∷ ws) rs u e = ((λ f rest h _. like_took outside room t w rs.0 u e f rest h), items_read outside room t ws rs.1 u e)

all_values : (one : Reader Value) (xs ys : List Value) → AllGood one begins_value symbols.Comma limits.Items wanted.AValue value_kinds same_value anything xs ys → ys ≡ xs
all_values one [] [] g = refl
all_values one (x ∷ xs) (y ∷ ys) g = let e = g.0 in let es = all_values one xs ys g.1 in cc
all_values one [] (y ∷ ys) g = absurd g
all_values one (x ∷ xs) [] g = absurd g

listing_took : (outside room : ℕ) (t : Ty) (w : Value) (ws : List Value) → length ws ≤ 62 → ValueRead outside room w t → AllOfType outside room ws t → (f : Front) (rest : Kinds)
    → kinds_at f ≡ value_kinds w ++ (listed_pieces (mark symbols.Comma) (mark symbols.Comma) value_kinds ws ++ (kind.Symbol symbols.BracketClose ∷ rest))
    → Took (listing (value_to outside room) outside room f) rest (IsItem (v.List t (w ∷ ws)) (ty.List t))
unfolding listing
listing_took outside room t w ws n r rs f rest h =
    let close : Kinds = kind.Symbol symbols.BracketClose ∷ rest in
    then_took _ (r.reads f (listed_pieces (mark symbols.Comma) (mark symbols.Comma) value_kinds ws ++ close) h) (λ i g hg q.
    then_took _ (more_took (like (value_to outside room) outside room i.ty) begins_value symbols.Comma limits.Items wanted.AValue value_kinds same_value anything close refl (λ s. tt) tt ws
    (items_read outside room t ws rs i.ty q.type) 62 n (i.value ∷ []) g hg) (λ all k hk p.
    then_took _ (take_symbol symbols.BracketClose k rest hk) (λ u k2 h2 q2.
    took (list_of i.ty all) k2 h2 (record {
      value = ap (λ z. v.List z all) q.type
          ∙ ap (v.List t) (p.1 ∙ (ap (λ z. z ∷ p.0) q.value ∙ ap (λ zs. w ∷ zs) (all_values (like (value_to outside room) outside room i.ty) ws p.0 p.2)));
      type = ap ty.List q.type;
    }))))

list_took : (outside room : ℕ) (t : Ty) (w : Value) (ws : List Value) → 0 < room → length ws ≤ 62 → ValueRead outside room w t → AllOfType outside room ws t → (f : Front) (rest : Kinds)
    → kinds_at f ≡ kind.Symbol symbols.BracketOpen ∷ (value_kinds w ++ (listed_pieces (mark symbols.Comma) (mark symbols.Comma) value_kinds ws ++ (kind.Symbol symbols.BracketClose ∷ rest)))
    → Took (value_to outside (suc room) f) rest (IsItem (v.List t (w ∷ ws)) (ty.List t))
unfolding value_to value_at brackets
list_took outside room t w ws n len r rs f rest h =
    let tail : Kinds = listed_pieces (mark symbols.Comma) (mark symbols.Comma) value_kinds ws ++ (kind.Symbol symbols.BracketClose ∷ rest) in
    let hs : kinds_at (behind f) ≡ value_kinds w ++ tail = behind_is f (kind.Symbol symbols.BracketOpen) _ h in
    rw (symbol_is symbols.ParenOpen f _ h) (rw (symbol_is symbols.BracketOpen f _ h)
    (then_took _ (take_open room f _ n h) (λ u0 g0 h0 q0.
    rw (isnt symbols.Colon (behind f) w tail hs r.starts r.starts.colon) (rw (begins_is (behind f) w tail hs r.starts) (listing_took outside room t w ws len r rs (behind f) rest hs)))))

-- ---- tuples

-- values, each with its type
abbrev Pairs : Type 0
Pairs = List (Value × Ty)

abbrev pair_kinds : Value × Ty → Kinds
pair_kinds y = value_kinds y.0

abbrev is_pair : Value × Ty → TypedValue → Type 0
is_pair y i = IsItem y.0 y.1 i

abbrev PartsRead : ℕ → ℕ → Pairs → Type 0
PartsRead outside room ys = AllRead (value_to outside room) begins_value symbols.Comma limits.Parts wanted.AValue pair_kinds is_pair anything ys

parts_are : (one : Reader TypedValue) (ys : Pairs) (is : List TypedValue) → AllGood one begins_value symbols.Comma limits.Parts wanted.AValue pair_kinds is_pair anything ys is
    → (map (λ i. i.value) is ≡ map (λ y. y.0) ys) × (map (λ i. i.ty) is ≡ map (λ y. y.1) ys)
parts_are one [] [] g = (refl, refl)
parts_are one (y ∷ ys) (i ∷ is) g =
    let e = parts_are one ys is g.1 in ((λ k. g.0.value k ∷ e.0 k), (λ k. g.0.type k ∷ e.1 k))
parts_are one [] (i ∷ is) g = absurd g
parts_are one (y ∷ ys) [] g = absurd g

pairs_listed : (ys : Pairs) → listed_pieces (mark symbols.Comma) (mark symbols.Comma) pair_kinds ys ≡ listed_pieces (mark symbols.Comma) (mark symbols.Comma) value_kinds (map (λ y. y.0) ys)
pairs_listed [] = refl
pairs_listed (y ∷ ys) = ap (λ s. mark symbols.Comma ++ (value_kinds y.0 ++ s)) (pairs_listed ys)

tuple_from_took : (outside room : ℕ) (a : Value) (t : Ty) (ys : Pairs) → length ys ≤ 7 → PartsRead outside room ys → (i : TypedValue) → IsItem a t i → (g : Front) (rest : Kinds)
    → kinds_at g ≡ listed_pieces (mark symbols.Comma) (mark symbols.Comma) pair_kinds ys ++ (kind.Symbol symbols.ParenClose ∷ rest)
    → Took (tuple_from (value_to outside room) outside room i g) rest (IsItem (v.Tuple (a ∷ map (λ y. y.0) ys)) (ty.Tuple (t ∷ map (λ y. y.1) ys)))
unfolding tuple_from
tuple_from_took outside room a t ys n rs i p g rest h =
    then_took _ (more_took (value_to outside room) begins_value symbols.Comma limits.Parts wanted.AValue pair_kinds is_pair anything (kind.Symbol symbols.ParenClose ∷ rest) refl (λ s. tt) tt ys rs 7 n (i ∷ []) g h)
    (λ all k hk q. then_took _ (take_symbol symbols.ParenClose k rest hk) (λ u k2 h2 q2.
    let e = parts_are (value_to outside room) ys q.0 q.2 in
    took (tuple_of all) k2 h2 (record {
      value = ap v.Tuple (ap (map (λ j. j.value)) q.1 ∙ (λ z. p.value z ∷ e.0 z));
      type = ap ty.Tuple (ap (map (λ j. j.ty)) q.1 ∙ (λ z. p.type z ∷ e.1 z));
    })))

tuple_took : (outside room : ℕ) (a : Value) (t : Ty) (y : Value × Ty) (ys : Pairs) → 0 < room → length (y ∷ ys) ≤ 7 → ValueRead outside room a t → PartsRead outside room (y ∷ ys) → (f : Front) (rest : Kinds)
    → kinds_at f ≡ kind.Symbol symbols.ParenOpen ∷ (value_kinds a ++ (listed_pieces (mark symbols.Comma) (mark symbols.Comma) pair_kinds (y ∷ ys) ++ (kind.Symbol symbols.ParenClose ∷ rest)))
    → Took (value_to outside (suc room) f) rest (IsItem (v.Tuple (a ∷ map (λ y. y.0) (y ∷ ys))) (ty.Tuple (t ∷ map (λ y. y.1) (y ∷ ys))))
unfolding value_to value_at parens grouped_value tuple
tuple_took outside room a t y ys n len r rs f rest h =
    let tail : Kinds = listed_pieces (mark symbols.Comma) (mark symbols.Comma) pair_kinds (y ∷ ys) ++ (kind.Symbol symbols.ParenClose ∷ rest) in
    let hs : kinds_at (behind f) ≡ value_kinds a ++ tail = behind_is f (kind.Symbol symbols.ParenOpen) _ h in
    rw (symbol_is symbols.ParenOpen f _ h) (rw (isnt symbols.ParenClose (behind f) a tail hs r.starts r.starts.paren) (rw (begins_is (behind f) a tail hs r.starts) (rw (not_zero room n)
    (then_took _ (r.reads (behind f) tail hs) (λ i g hg q. rw (symbol_is symbols.Comma g tail hg) (tuple_from_took outside room a t (y ∷ ys) len rs i q g rest hg))))))

-- ---- every value

bool_read : (outside room : ℕ) (w : Value) (b : Bool) → v.Bool b ≡ w → value_kinds w ≡ bool_kinds b → ValueRead outside (suc room) w ty.Bool
bool_read outside room w true e ks = literal_read outside room w ty.Bool (kind.Key keys.True) (v.Bool true) e refl refl refl refl refl ks
bool_read outside room w false e ks = literal_read outside room w ty.Bool (kind.Key keys.False) (v.Bool false) e refl refl refl refl refl ks

unit_read : (outside room : ℕ) (w : Value) → v.Unit ≡ w → value_kinds w ≡ kind.Symbol symbols.ParenOpen ∷ kind.Symbol symbols.ParenClose ∷ [] → ValueRead outside (suc room) w ty.Unit
unit_read outside room w e ks = record {
  starts = paren_starts (value_kinds w) _ ks;
  reads = λ f rest h. unit_took outside room w e f rest (h ∙ ap (λ l. l ++ rest) ks);
}

nil_read : (outside room : ℕ) → outside ≤ 1 → (w : Value) (t : Ty) → v.List t [] ≡ w → 0 < room → IsReadableType t → type_depth t ≤ room
    → value_kinds w ≡ kind.Symbol symbols.BracketOpen ∷ kind.Symbol symbols.Colon ∷ (type_kinds t ++ (kind.Symbol symbols.BracketClose ∷ [])) → ValueRead outside (suc room) w (ty.List t)
nil_read outside room few w t e n p d ks = record {
  starts = square_starts (value_kinds w) _ ks;
  reads = λ f rest h. nil_took outside room few w t e n p d f rest
      (h ∙ (ap (λ l. l ++ rest) ks ∙ behind_one _ (behind_one _ (append_assoc (type_kinds t) (kind.Symbol symbols.BracketClose ∷ []) rest))));
}

list_read : (outside room : ℕ) (w : Value) (t : Ty) (a : Value) (ws : List Value) → v.List t (a ∷ ws) ≡ w → 0 < room → length ws ≤ 62 → ValueRead outside room a t → AllOfType outside room ws t
    → value_kinds w ≡ kind.Symbol symbols.BracketOpen ∷ ((value_kinds a ++ listed_pieces (mark symbols.Comma) (mark symbols.Comma) value_kinds ws) ++ (kind.Symbol symbols.BracketClose ∷ []))
    → ValueRead outside (suc room) w (ty.List t)
list_read outside room w t a ws e n len r rs ks = record {
  starts = square_starts (value_kinds w) _ ks;
  reads = λ f rest h. weaker (list_took outside room t a ws n len r rs f rest
      (h ∙ (ap (λ l. l ++ rest) ks ∙ behind_one _ (regroup (value_kinds a) (listed_pieces (mark symbols.Comma) (mark symbols.Comma) value_kinds ws) (kind.Symbol symbols.BracketClose) rest))))
      (λ i q. record { value = q.value ∙ e; type = q.type });
}

tuple_read : (outside room : ℕ) (w : Value) (t : Ty) (a : Value) (y : Value × Ty) (ys : Pairs) → v.Tuple (a ∷ map (λ y. y.0) (y ∷ ys)) ≡ w → 0 < room → length (y ∷ ys) ≤ 7
    → ValueRead outside room a t → PartsRead outside room (y ∷ ys)
    → value_kinds w ≡ kind.Symbol symbols.ParenOpen ∷ ((value_kinds a ++ listed_pieces (mark symbols.Comma) (mark symbols.Comma) value_kinds (map (λ y. y.0) (y ∷ ys))) ++ (kind.Symbol symbols.ParenClose ∷ []))
    → ValueRead outside (suc room) w (ty.Tuple (t ∷ map (λ y. y.1) (y ∷ ys)))
tuple_read outside room w t a y ys e n len r rs ks = record {
  starts = paren_starts (value_kinds w) _ ks;
  reads = λ f rest h. weaker (tuple_took outside room a t y ys n len r rs f rest
      (h ∙ (ap (λ l. l ++ rest) ks ∙ behind_one _ (regroup (value_kinds a) (listed_pieces (mark symbols.Comma) (mark symbols.Comma) value_kinds (map (λ y. y.0) (y ∷ ys))) (kind.Symbol symbols.ParenClose) rest
      ∙ ap (λ s. value_kinds a ++ (s ++ (kind.Symbol symbols.ParenClose ∷ rest))) (sym (pairs_listed (y ∷ ys)))))))
      (λ i q. record { value = q.value ∙ e; type = q.type });
}

-- values with their types in order
record Parts (outside room : ℕ) (vs : List Value) (ts : List Ty) : Type 0 where
  pairs : Pairs
  values : map (λ y. y.0) pairs ≡ vs
  types : map (λ y. y.1) pairs ≡ ts
  read : PartsRead outside room pairs

one_more : (outside room : ℕ) (w : Value) (vs : List Value) (t : Ty) (ts : List Ty) → ValueRead outside room w t → Parts outside room vs ts → Parts outside room (w ∷ vs) (t ∷ ts)
one_more outside room w vs t ts r p = record {
  pairs = (w, t) ∷ p.pairs;
  values = ap (λ s. w ∷ s) p.values;
  types = ap (λ s. t ∷ s) p.types;
  read = ((λ f rest h _. r.reads f rest h), p.read);
}

parts_read : (outside room : ℕ) (w a : Value) (b : Value) (vs : List Value) (t u : Ty) (ts : List Ty) → v.Tuple (a ∷ b ∷ vs) ≡ w → 0 < room → length vs ≤ 6
    → ValueRead outside room a t → ValueRead outside room b u → Parts outside room vs ts
    → value_kinds w ≡ kind.Symbol symbols.ParenOpen ∷ ((value_kinds a ++ listed_pieces (mark symbols.Comma) (mark symbols.Comma) value_kinds (b ∷ vs)) ++ (kind.Symbol symbols.ParenClose ∷ []))
    → ValueRead outside (suc room) w (ty.Tuple (t ∷ u ∷ ts))
parts_read outside room w a b vs t u ts e n len ra rb p ks =
    subst (λ us. ValueRead outside (suc room) w (ty.Tuple (t ∷ u ∷ us))) p.types
    (tuple_read outside room w t a (b, u) p.pairs (ap (λ ws. v.Tuple (a ∷ b ∷ ws)) p.values ∙ e) n (let m = sym (length-map p.pairs (λ y. y.0)) ∙ ap length p.values in omega (arith, m, len)) ra
    ((λ f rest h _. rb.reads f rest h), p.read)
    (ks ∙ ap (λ ws. kind.Symbol symbols.ParenOpen ∷ ((value_kinds a ++ listed_pieces (mark symbols.Comma) (mark symbols.Comma) value_kinds (b ∷ ws)) ++ (kind.Symbol symbols.ParenClose ∷ []))) (sym p.values)))

mutual
  value_reads : {room : ℕ} {w : Value} {t : Ty} → IsReadable room w t → (outside : ℕ) → outside ≤ 1 → ValueRead outside room w t
  value_reads {w = w} (R.unit o) outside few = unit_read outside _ w (sym (value_is_rolled w _ o ∙ v.rolls-Unit)) (kinds_are w _ o)
  value_reads {w = w} (R.bool b o) outside few = bool_read outside _ w b (sym (value_is_rolled w _ o ∙ v.rolls-Bool b)) (kinds_are w _ o)
  value_reads {w = w} (R.int z o) outside few = literal_read outside _ w ty.Int (kind.Int z) (v.Int z) (sym (value_is_rolled w _ o ∙ v.rolls-Int z)) refl refl refl refl refl (kinds_are w _ o)
  value_reads {w = w} (R.char c o) outside few = literal_read outside _ w ty.Char (kind.Char c) (v.Char c) (sym (value_is_rolled w _ o ∙ v.rolls-Char c)) refl refl refl refl refl (kinds_are w _ o)
  value_reads {w = w} (R.str s o) outside few = literal_read outside _ w ty.Str (kind.Str s) (v.Str s) (sym (value_is_rolled w _ o ∙ v.rolls-Str s)) refl refl refl refl refl (kinds_are w _ o)
  value_reads {w = w} (R.blob b o) outside few = literal_read outside _ w ty.Blob (kind.Blob b) (v.Blob b) (sym (value_is_rolled w _ o ∙ v.rolls-Blob b)) refl refl refl refl refl (kinds_are w _ o)
  value_reads {w = w} (R.host h o) outside few = literal_read outside _ w ty.Host (kind.Host h.0) (v.Host h) (sym (value_is_rolled w _ o ∙ v.rolls-Host h)) refl refl refl refl refl (kinds_are w _ o)
  value_reads {w = w} (R.dev d o) outside few = literal_read outside _ w ty.Dev (kind.Dev d.0) (v.Dev d) (sym (value_is_rolled w _ o ∙ v.rolls-Dev d)) refl refl refl refl refl (kinds_are w _ o)
  value_reads {w = w} (R.nil t o n p d) outside few = nil_read outside _ few w t (sym (value_is_rolled w _ o ∙ v.rolls-List t [])) n p d (kinds_are w _ o)
  value_reads {w = w} (R.list t a ws o n len p ps) outside few =
      list_read outside _ w t a ws (sym (value_is_rolled w _ o ∙ v.rolls-List t (a ∷ ws))) n len (value_reads p outside few) (items_are ps outside few) (kinds_are w _ o)
  value_reads {w = w} (R.tuple a b vs t u ts o n len p q ps) outside few =
      parts_read outside _ w a b vs t u ts (sym (value_is_rolled w _ o ∙ v.rolls-Tuple (a ∷ b ∷ vs))) n len (value_reads p outside few) (value_reads q outside few) (parts_of ps outside few) (kinds_are w _ o)

  items_are : {room : ℕ} {ws : List Value} {t : Ty} → AreOfType room ws t → (outside : ℕ) → outside ≤ 1 → AllOfType outside room ws t
  items_are O.no_items outside few = tt
  items_are (O.and_item p ps) outside few = (value_reads p outside few, items_are ps outside few)

  parts_of : {room : ℕ} {ws : List Value} {ts : List Ty} → AreReadable room ws ts → (outside : ℕ) → outside ≤ 1 → Parts outside room ws ts
  parts_of M.no_parts outside few = record { pairs = []; values = refl; types = refl; read = tt }
  parts_of (M.and_part p ps) outside few = one_more outside _ _ _ _ _ (value_reads p outside few) (parts_of ps outside few)

-- the tokens of a readable value are that value, and nothing follows
pub value_again : (w : Value) (t : Ty) (ts : List Token) (end : ℕ) → IsReadable 8 w t → kinds_of ts ≡ value_kinds w → value_of ts end ≡ Ok w
unfolding value_of nothing_follows
value_again w t ts end r h =
    let k = (value_reads r 0 (omega arith)).reads (record { tokens = ts; end = end }) [] (h ∙ sym (append-nil (value_kinds w))) in
    let none : length k.rest.tokens ≡ 0 = none_left k.rest.tokens k.left in
    rw k.is (rw none (ap Ok k.good.value))
  where
    none_left : (us : List Token) → kinds_of us ≡ [] → length us ≡ 0
    none_left [] e = refl
    none_left (u ∷ us) e = absurd cc
