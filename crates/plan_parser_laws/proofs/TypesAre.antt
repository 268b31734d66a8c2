-- A type of the grammar is read, where no type goes on behind it.
use Rattle.std.proofs.Common.{◌≡◌, ◌+◌, ◌≤◌, ℕ, zero, suc, Bool, true, false, List, [], ◌∷◌, ◌++◌, length, drop, Option, Some, None, Result, Ok, Err, if◌then◌else◌, nat_lt, refl, sym, ◌∙◌, ap, append_assoc, append-nil, arith, le-ltb}
use Rattle.plan_base.specs.declared.limit.Limit.{Limit}
use Rattle.plan_base.specs.declared.limit.Limit.TheVariants as limits
use Rattle.plan_base.specs.declared.tree.Ty.{Ty}
use Rattle.plan_base.specs.declared.tree.Ty.TheVariants as ty
use Rattle.plan_base.specs.Sizes.{type_depth}
use Rattle.plan_lexer.specs.declared.token.Token.{Token}
use Rattle.plan_lexer.specs.declared.token.TokenKind.{TokenKind}
use Rattle.plan_lexer.specs.declared.token.TokenKind.TheVariants as kinds
use Rattle.plan_lexer.specs.declared.token.Key.TheVariants as keys
use Rattle.plan_lexer.specs.declared.token.Symbol.{Symbol}
use Rattle.plan_lexer.specs.declared.token.Symbol.TheVariants as symbols
use Rattle.plan_parser_exprs.specs.declared.fault.ParseFault.{ParseFault}
use Rattle.plan_parser_exprs.specs.declared.fault.ParseFault.TheVariants.{TooDeep}
use Rattle.plan_parser_exprs.specs.declared.fault.Wanted.{Wanted}
use Rattle.plan_parser_exprs.specs.declared.fault.Wanted.TheVariants as wanted
use Rattle.plan_parser_exprs.specs.Ahead.{Front, Reader, ◌>>=◌, place, behind, kind_in, next_kind, is_symbol_kind, is_symbol, is_key_kind, is_key, need_symbol}
use Rattle.plan_parser_exprs.specs.Begins.{kind_type, begins_type}
use Rattle.plan_parser_exprs.specs.Types.{opens, more, is_list_word, after_lists, list_words, behind_lists, lists_of, judged_type, tuple_type, single_type, group_type, base_type, whole_type, type_to}
use Rattle.plan_parser_laws.specs.Grammar as gram
use Rattle.plan_parser_laws.specs.Grammar.{Sym, Word, TypeAt, ListsAt, BaseAt, PartsAt}
use Rattle.plan_parser_laws.specs.Follow.{EndsType}
use Rattle.plan_parser_laws.proofs.TokenFacts.{room_open}
use Rattle.plan_parser_laws.proofs.Follows.{Shorter, NotLonger, skip, onward, onward_most, onward_more, at_most, not_longer, symbol_here}
use Rattle.plan_parser_laws.proofs.TypesRead.{depth_of_lists, lists_last}

-- a type ends before a symbol
pub symbol_ends_type : {w : Symbol} (f : Front) → Sym w f → EndsType f
unfolding is_key
symbol_ends_type f e = rw e refl

module _ {A : Type 0} (one : Reader A) (begins : Front → Bool) (sep : Symbol) (limit : Limit) (what : Wanted) where
  -- no further item
  pub more_ends : (left : ℕ) (done : List A) (f : Front) → is_symbol sep f ≡ false → more one begins sep limit what left done f ≡ Ok (done ++ [], f)
  unfolding more
  more_ends zero done f e = rw (e, append-nil done) refl
  more_ends (suc left) done f e = rw (e, append-nil done) refl

  -- one more item, and then those behind it
  pub more_adds : (left : ℕ) (done : List A) (f g h : Front) (x : A) (xs : List A) → is_symbol sep f ≡ true → one (behind f) ≡ Ok (x, g) → length (x ∷ xs) ≤ left
      → ((k : ℕ) → length xs ≤ k → more one begins sep limit what k (done ++ x ∷ []) g ≡ Ok ((done ++ x ∷ []) ++ xs, h))
      → more one begins sep limit what left done f ≡ Ok (done ++ x ∷ xs, h)
  unfolding more
  more_adds zero done f g h x xs here step few others = absurd (omega (arith, few))
  more_adds (suc k) done f g h x xs here step few others = rw (here, step) (others k (omega (arith, few)) ∙ ap (λ l. Ok (l, h)) (append_assoc done (x ∷ []) xs))

after_ends : (n : ℕ) (ts : List Token) → is_key_kind keys.List (kind_in ts) ≡ false → after_lists n ts ≡ (n, ts)
after_ends n [] e = refl
after_ends n (t ∷ ts) e = rw e refl

after_one : (n : ℕ) (ts : List Token) → kind_in ts ≡ Some (kinds.Key keys.List) → after_lists n ts ≡ after_lists (n + 1) (drop 1 ts)
after_one n [] e = cc
after_one n (t ∷ ts) e = let k : is_list_word t ≡ true = ap (λ o. is_key_kind keys.List o) e in rw k refl

-- the base of lists is read, and the words behind it are counted so far
record ListsSoFar (one : Reader Ty) (f : Front) (t : Ty) (g : Front) : Type 0 where
  base : Ty
  first : Front
  words : ℕ
  read : one f ≡ Ok (base, first)
  is : t ≡ lists_of words base
  counted : after_lists 0 first.tokens ≡ after_lists words g.tokens
  ends : first.end ≡ g.end

one_more_list : (one : Reader Ty) (f : Front) (t : Ty) (g : Front) → ListsSoFar one f t g → Word keys.List g → ListsSoFar one f (ty.List t) (behind g)
unfolding behind next_kind
one_more_list one f t g s e = record {
  base = s.base;
  first = s.first;
  words = s.words + 1;
  read = s.read;
  is = ap ty.List s.is ∙ sym (lists_last s.words s.base);
  counted = s.counted ∙ after_one s.words g.tokens e;
  ends = s.ends;
}

abbrev pub left_behind : Front → Ty → Result (Ty × Front) ParseFault
left_behind g t = Ok (t, g)

by_base : (inner : Reader Ty) (room : ℕ) (f first : Front) (base : Ty) → base_type inner room f ≡ Ok (base, first)
    → whole_type inner room f ≡ (judged_type (place f) (list_words first) base >>= left_behind (behind_lists first))
unfolding whole_type
by_base inner room f first base read = rw read refl

judged_is : (at words : ℕ) (base : Ty) → nat_lt 8 (type_depth base + words) ≡ false → judged_type at words base ≡ Ok (lists_of words base)
unfolding judged_type
judged_is at words base within = go (nat_lt 8 (type_depth base + words)) within
  where
    go : (b : Bool) → b ≡ false → (if b then Err (TooDeep at) else Ok (lists_of words base)) ≡ Ok (lists_of words base)
    go true e = cc
    go false e = refl

by_words : (at words : ℕ) (base : Ty) (first : Front) (ts : List Token) → after_lists 0 first.tokens ≡ (words, ts) → nat_lt 8 (type_depth base + words) ≡ false
    → (judged_type at (list_words first) base >>= left_behind (behind_lists first)) ≡ Ok (lists_of words base, record { tokens = ts; end = first.end })
unfolding list_words behind_lists
by_words at words base first ts counted within =
    let F : ℕ × List Token → Result (Ty × Front) ParseFault = λ p. judged_type at p.0 base >>= left_behind (record { tokens = p.1; end = first.end }) in
    let G : Result Ty ParseFault → Result (Ty × Front) ParseFault = λ r. r >>= left_behind (record { tokens = ts; end = first.end }) in
    ap F counted ∙ ap G (judged_is at words base within)

ends_counting : (g : Front) (words : ℕ) → EndsType g → after_lists words g.tokens ≡ (words, g.tokens)
unfolding is_key next_kind
ends_counting g words ends = after_ends words g.tokens ends

whole_is : (inner : Reader Ty) (room : ℕ) (f : Front) (t : Ty) (g : Front) → ListsSoFar (base_type inner room) f t g → type_depth t ≤ 8 → EndsType g
    → whole_type inner room f ≡ Ok (t, g)
whole_is inner room f t g s deep ends =
    by_base inner room f s.first s.base s.read
    ∙ (by_words (place f) s.words s.base s.first g.tokens (s.counted ∙ ends_counting g s.words ends) within
    ∙ (ap (λ u. Ok (u, record { tokens = g.tokens; end = s.first.end })) (sym s.is) ∙ ap (λ e. Ok (t, record { tokens = g.tokens; end = e })) s.ends))
  where
    within : nat_lt 8 (type_depth s.base + s.words) ≡ false
    within = le-ltb _ _ (let d = depth_of_lists s.words s.base in let e : type_depth t ≡ type_depth (lists_of s.words s.base) = ap type_depth s.is in omega (arith, d, e, deep))

named_kind : (o : Option TokenKind) (t : Ty) → kind_type o ≡ Some t → is_symbol_kind symbols.ParenOpen o ≡ false
named_kind (Some (kinds.Key k)) t e = refl
named_kind _ t e = cc

named_is : (inner : Reader Ty) (room : ℕ) (f : Front) (t : Ty) → kind_type (next_kind f) ≡ Some t → base_type inner room f ≡ Ok (t, behind f)
unfolding base_type is_symbol
named_is inner room f t e = rw (named_kind (next_kind f) t e, e) refl

brackets_are : (inner : Reader Ty) (r : ℕ) (f : Front) (t : Ty) (g : Front) → Sym symbols.ParenOpen f → inner (behind f) ≡ Ok (t, g) → Sym symbols.ParenClose g
    → base_type inner (suc r) f ≡ Ok (t, behind g)
unfolding base_type group_type single_type opens need_symbol is_symbol
brackets_are inner r f t g a one b = rw (a, room_open r, one, b) refl

tuple_is : (inner : Reader Ty) (r : ℕ) (f : Front) (t : Ty) (ts : List Ty) (g h : Front) → Sym symbols.ParenOpen f → inner (behind f) ≡ Ok (t, g) → Sym symbols.Star g
    → more inner begins_type symbols.Star limits.Parts wanted.AType 7 (t ∷ []) g ≡ Ok (t ∷ ts, h) → Sym symbols.ParenClose h → base_type inner (suc r) f ≡ Ok (ty.Tuple (t ∷ ts), behind h)
unfolding base_type group_type tuple_type opens need_symbol is_symbol
tuple_is inner r f t ts g h a one star many b = rw (a, room_open r, one, star, many, b) refl

no_star : (f : Front) → Sym symbols.ParenClose f → is_symbol symbols.Star f ≡ false
unfolding is_symbol
no_star f e = rw e refl

parts_follow : {r : ℕ} {f g : Front} {ts : List Ty} → PartsAt r f ts g → EndsType g → EndsType f
parts_follow gram.no_part h = h
parts_follow (gram.one_part e d rest) h = symbol_ends_type _ e

as_type : (r : ℕ) (f : Front) (x : Ty × Front) → whole_type (type_to r) r f ≡ Ok x → type_to (suc r) f ≡ Ok x
unfolding type_to
as_type r f x e = e

mutual
  pub type_is : {r : ℕ} {f g : Front} {t : Ty} → TypeAt r f t g → EndsType g → type_to (suc r) f ≡ Ok (t, g)
  type_is {r} {f} {g} {t} (gram.a_type d deep) ends = as_type r f (t, g) (whole_is (type_to r) r f t g (lists_are d) deep ends)

  lists_are : {r : ℕ} {f g : Front} {t : Ty} → ListsAt r f t g → ListsSoFar (base_type (type_to r) r) f t g
  lists_are {r} {f} {g} {t} (gram.base_type d) = record { base = t; first = g; words = 0; read = base_is d; is = refl; counted = refl; ends = refl }
  lists_are {r} {f} (gram.list_type {g = g} {t = t} d e) = one_more_list (base_type (type_to r) r) f t g (lists_are d) e

  base_is : {r : ℕ} {f g : Front} {t : Ty} → BaseAt r f t g → base_type (type_to r) r f ≡ Ok (t, g)
  base_is {r} {f} (gram.named_type {t = t} e) = named_is (type_to r) r f t e
  base_is {f = f} (gram.type_in_brackets {r} {g = g} {t = t} a d b) = brackets_are (type_to (suc r)) r f t g a (type_is d (symbol_ends_type _ b)) b
  base_is {f = f} (gram.tuple_type {r} {g = g} {h = h} {t = t} {u = u} {ts = ts} a d (gram.one_part star one rest) few b) =
      tuple_is (type_to (suc r)) r f t (u ∷ ts) g h a (type_is d (symbol_ends_type _ star)) star
      (more_adds (type_to (suc r)) begins_type symbols.Star limits.Parts wanted.AType 7 (t ∷ []) g _ h u ts (symbol_here _ star) (type_is one (parts_follow rest (symbol_ends_type _ b))) few
      (λ k enough. parts_are rest k ((t ∷ []) ++ u ∷ []) enough (no_star _ b) (symbol_ends_type _ b))) b

  parts_are : {r : ℕ} {f g : Front} {ts : List Ty} → PartsAt r f ts g → (left : ℕ) (done : List Ty) → length ts ≤ left → is_symbol symbols.Star g ≡ false → EndsType g
      → more (type_to (suc r)) begins_type symbols.Star limits.Parts wanted.AType left done f ≡ Ok (done ++ ts, g)
  parts_are {r} {f} gram.no_part left done few none ends = more_ends (type_to (suc r)) begins_type symbols.Star limits.Parts wanted.AType left done f none
  parts_are {r} {f} {g} (gram.one_part {t = t} {ts = ts} star one rest) left done few none ends =
      more_adds (type_to (suc r)) begins_type symbols.Star limits.Parts wanted.AType left done f _ g t ts (symbol_here _ star) (type_is one (parts_follow rest ends)) few
      (λ k enough. parts_are rest k (done ++ t ∷ []) enough none ends)

kind_stands : {f : Front} {t : Ty} → kind_type (next_kind f) ≡ Some t → Shorter f (behind f)
kind_stands {f} {t} e = go (next_kind f) refl e
  where
    go : (o : Option TokenKind) → next_kind f ≡ o → kind_type o ≡ Some t → Shorter f (behind f)
    go (Some k) h i = skip h
    go None h i = cc

mutual
  pub type_shorter : {r : ℕ} {f g : Front} {t : Ty} → TypeAt r f t g → Shorter f g
  type_shorter (gram.a_type d deep) = lists_shorter d

  lists_shorter : {r : ℕ} {f g : Front} {t : Ty} → ListsAt r f t g → Shorter f g
  lists_shorter (gram.base_type d) = base_shorter d
  lists_shorter (gram.list_type d e) = onward (lists_shorter d) (skip e)

  base_shorter : {r : ℕ} {f g : Front} {t : Ty} → BaseAt r f t g → Shorter f g
  base_shorter (gram.named_type e) = kind_stands e
  base_shorter (gram.type_in_brackets a d b) = onward (skip a) (onward (type_shorter d) (skip b))
  base_shorter (gram.tuple_type a d many few b) = onward (skip a) (onward (type_shorter d) (onward_more (parts_shorter many) (skip b)))

  parts_shorter : {r : ℕ} {f g : Front} {ts : List Ty} → PartsAt r f ts g → NotLonger f g
  parts_shorter gram.no_part = not_longer
  parts_shorter (gram.one_part star one rest) = at_most (onward (skip star) (onward_most (type_shorter one) (parts_shorter rest)))
