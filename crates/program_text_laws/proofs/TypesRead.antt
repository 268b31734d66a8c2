-- The tokens of a printed type are read as that type.
use Rattle.std.proofs.Common.{◌≡◌, ℕ, zero, suc, ◌+◌, ◌<◌, ◌≤◌, max, Bool, true, false, List, [], ◌∷◌, ◌++◌, length, Some, Result, Ok, refl, sym, ap, ◌∙◌, subst, arith, append_assoc, nat_lt}
use Rattle.std.specs.Prelude.{is_some, ◌||◌}
use Rattle.std.proofs.lemmas.Bool.Decides.{nat_tests}
use Rattle.std.specs.List.{fold}
use Rattle.containers.proofs.Lists.{regroup}
use Rattle.plan_base.specs.declared.limit.Limit.TheVariants as limits
use Rattle.plan_base.specs.declared.tree.Ty.{Ty, Ty-F, out-Ty, roll-Ty, roll-out-Ty}
use Rattle.plan_base.specs.declared.tree.Ty.TheVariants as made
use Rattle.plan_base.specs.Sizes.{largest_by, type_depth_level, type_depth}
use Rattle.plan_base.proofs.SizeLaws.{type_depth_out}
use Rattle.plan_lexer.specs.declared.token.Key.{Key}
use Rattle.plan_lexer.specs.declared.token.Key.TheVariants as keys
use Rattle.plan_lexer.specs.declared.token.Symbol.TheVariants as symbols
use Rattle.plan_lexer.specs.declared.token.Token.{Token}
use Rattle.plan_lexer.specs.declared.token.TokenKind.{TokenKind}
use Rattle.plan_lexer.specs.declared.token.TokenKind.TheVariants as kind
use Rattle.plan_parser_exprs.specs.declared.fault.ParseFault.{ParseFault}
use Rattle.plan_parser_exprs.specs.declared.fault.Wanted.TheVariants as wanted
use Rattle.plan_parser_exprs.specs.Ahead.{Front, Reader, behind, place, is_symbol, is_symbol_kind, is_key_kind}
use Rattle.plan_parser_exprs.specs.Begins.{simple_type, kind_type, begins_type}
use Rattle.plan_parser_exprs.specs.Types.{type_or_fault, after_lists, is_list_word, list_words, behind_lists, lists_of, judged_type, tuple_type, group_type, base_type, whole_type, type_to}
use Rattle.plan_printer_spec.specs.Pieces.{listed_pieces}
use Rattle.program_text_laws.specs.Lexes.{kinds_of}
use Rattle.program_text_laws.specs.PrintedTokens.{Kinds, mark, word, type_kinds_level, type_kinds}
use Rattle.program_text_laws.specs.Proper.{base_key, IsProperType, AreProperTypes}
use Rattle.program_text_laws.specs.Proper.{IsProperType as T, AreProperTypes as M}
use Rattle.program_text_laws.proofs.KindsOut.{type_kinds_out}
use Rattle.program_text_laws.specs.Reads.{kinds_at, Took, first_kind, FollowsType}
use Rattle.program_text_laws.proofs.Steps.{took, then_took, took_by, next_is, behind_is, symbol_is, take_symbol, take_open, AllRead, AllGood, more_took}

-- so many words `list`
abbrev lists : ℕ → Kinds
lists zero = []
lists (suc n) = kind.Key keys.List ∷ lists n

-- ---- base types

record IsBase (t : Ty) (k : Key) : Type 0 where
  word : simple_type k ≡ Some t
  kinds : type_kinds t ≡ kind.Key k ∷ []
  depth : type_depth t ≡ 1

by_key : (w k : Key) → k ≡ w → (t u : Ty) → t ≡ u → simple_type w ≡ Some u → type_kinds t ≡ kind.Key w ∷ [] → type_depth t ≡ 1 → IsBase t k
by_key w k e t u m s ks d = record {
  word = ap simple_type e ∙ (s ∙ ap Some (sym m));
  kinds = ks ∙ ap (λ v. kind.Key v ∷ []) (sym e);
  depth = d;
}

base_is : (t : Ty) (x : Ty-F Ty) → out-Ty t ≡ x → (k : Key) → base_key x ≡ Some k → IsBase t k
base_is t Ty-F.Unit o k e =
    let m : t ≡ made.Unit = sym (roll-out-Ty t) ∙ (ap roll-Ty o ∙ made.rolls-Unit) in
    let w : k ≡ keys.Unit = cc in
    by_key keys.Unit k w t made.Unit m refl (type_kinds_out t ∙ ap (type_kinds_level type_kinds) o) (type_depth_out t ∙ ap (type_depth_level type_depth) o)
base_is t Ty-F.Bool o k e =
    let m : t ≡ made.Bool = sym (roll-out-Ty t) ∙ (ap roll-Ty o ∙ made.rolls-Bool) in
    let w : k ≡ keys.Bool = cc in
    by_key keys.Bool k w t made.Bool m refl (type_kinds_out t ∙ ap (type_kinds_level type_kinds) o) (type_depth_out t ∙ ap (type_depth_level type_depth) o)
base_is t Ty-F.Int o k e =
    let m : t ≡ made.Int = sym (roll-out-Ty t) ∙ (ap roll-Ty o ∙ made.rolls-Int) in
    let w : k ≡ keys.Int = cc in
    by_key keys.Int k w t made.Int m refl (type_kinds_out t ∙ ap (type_kinds_level type_kinds) o) (type_depth_out t ∙ ap (type_depth_level type_depth) o)
base_is t Ty-F.Char o k e =
    let m : t ≡ made.Char = sym (roll-out-Ty t) ∙ (ap roll-Ty o ∙ made.rolls-Char) in
    let w : k ≡ keys.Char = cc in
    by_key keys.Char k w t made.Char m refl (type_kinds_out t ∙ ap (type_kinds_level type_kinds) o) (type_depth_out t ∙ ap (type_depth_level type_depth) o)
base_is t Ty-F.Str o k e =
    let m : t ≡ made.Str = sym (roll-out-Ty t) ∙ (ap roll-Ty o ∙ made.rolls-Str) in
    let w : k ≡ keys.Str = cc in
    by_key keys.Str k w t made.Str m refl (type_kinds_out t ∙ ap (type_kinds_level type_kinds) o) (type_depth_out t ∙ ap (type_depth_level type_depth) o)
base_is t Ty-F.Blob o k e =
    let m : t ≡ made.Blob = sym (roll-out-Ty t) ∙ (ap roll-Ty o ∙ made.rolls-Blob) in
    let w : k ≡ keys.Blob = cc in
    by_key keys.Blob k w t made.Blob m refl (type_kinds_out t ∙ ap (type_kinds_level type_kinds) o) (type_depth_out t ∙ ap (type_depth_level type_depth) o)
base_is t Ty-F.Host o k e =
    let m : t ≡ made.Host = sym (roll-out-Ty t) ∙ (ap roll-Ty o ∙ made.rolls-Host) in
    let w : k ≡ keys.Host = cc in
    by_key keys.Host k w t made.Host m refl (type_kinds_out t ∙ ap (type_kinds_level type_kinds) o) (type_depth_out t ∙ ap (type_depth_level type_depth) o)
base_is t Ty-F.Dev o k e =
    let m : t ≡ made.Dev = sym (roll-out-Ty t) ∙ (ap roll-Ty o ∙ made.rolls-Dev) in
    let w : k ≡ keys.Dev = cc in
    by_key keys.Dev k w t made.Dev m refl (type_kinds_out t ∙ ap (type_kinds_level type_kinds) o) (type_depth_out t ∙ ap (type_depth_level type_depth) o)
base_is t Ty-F.Chunk o k e =
    let m : t ≡ made.Chunk = sym (roll-out-Ty t) ∙ (ap roll-Ty o ∙ made.rolls-Chunk) in
    let w : k ≡ keys.Chunk = cc in
    by_key keys.Chunk k w t made.Chunk m refl (type_kinds_out t ∙ ap (type_kinds_level type_kinds) o) (type_depth_out t ∙ ap (type_depth_level type_depth) o)
base_is t (Ty-F.List u) o k e = absurd (cc)
base_is t (Ty-F.Tuple ts) o k e = absurd (cc)

-- ---- the words `list`

after_is : (n : ℕ) (ts : List Token) (k : ℕ) (ks : Kinds) → kinds_of ts ≡ lists n ++ ks → FollowsType ks → ((after_lists k ts).0 ≡ k + n) × (kinds_of (after_lists k ts).1 ≡ ks)
after_is zero [] k ks h e = (omega arith, h)
after_is zero (t ∷ ts) k ks h e = let w : is_list_word t ≡ false = ap (λ s. is_key_kind keys.List (first_kind s)) h ∙ e in rw w (omega arith, h)
after_is (suc n) [] k ks h e = absurd (cc)
after_is (suc n) (t ∷ ts) k ks h e =
    let w : is_list_word t ≡ true = ap (λ s. is_key_kind keys.List (first_kind s)) h in
    let r = after_is n ts (k + 1) ks (ap further h) e in
    rw w (r.0 ∙ omega arith, r.1)
  where
    further : Kinds → Kinds
    further [] = []
    further (k ∷ ks) = ks

-- ---- what stands before the words `list`

record BaseTook (r : Result (Ty × Front) ParseFault) (m : ℕ) (ks : Kinds) (t : Ty) : Type 0 where
  value : Ty
  rest : Front
  count : ℕ
  is : r ≡ Ok (value, rest)
  left : kinds_at rest ≡ lists (count + m) ++ ks
  same : lists_of (count + m) value ≡ lists_of m t
  deep : type_depth value + count ≡ type_depth t

module _ (inner : Reader Ty) (room : ℕ) where
  takes_base : (t : Ty) (k : Key) → IsBase t k → (m : ℕ) (ks : Kinds) (f : Front) → kinds_at f ≡ type_kinds t ++ (lists m ++ ks) → BaseTook (base_type inner room f) m ks t
  unfolding base_type
  takes_base t k b m ks f h =
      let hs : kinds_at f ≡ kind.Key k ∷ (lists m ++ ks) = h ∙ ap (λ s. s ++ (lists m ++ ks)) b.kinds in
      let z : m ≡ 0 + m = omega arith in
      record {
        value = t;
        rest = behind f;
        count = 0;
        is = rw (symbol_is symbols.ParenOpen f (kind.Key k ∷ (lists m ++ ks)) hs) (ap (λ o. type_or_fault f (kind_type o)) (next_is f (kind.Key k ∷ (lists m ++ ks)) hs) ∙ ap (type_or_fault f) b.word);
        left = behind_is f (kind.Key k) (lists m ++ ks) hs ∙ ap (λ n. lists n ++ ks) z;
        same = ap (λ n. lists_of n t) (sym z);
        deep = omega arith;
      }

-- ---- a whole type

abbrev pub same_type : Ty → Ty → Type 0
same_type t u = u ≡ t

deep_enough : (n : ℕ) → n ≤ 8 → nat_lt 8 n ≡ false
deep_enough n h = grind (arith, nat_tests)

judged_ok : (start n : ℕ) (v : Ty) → type_depth v + n ≤ 8 → judged_type start n v ≡ Ok (lists_of n v)
unfolding judged_type
judged_ok start n v h = rw (deep_enough (type_depth v + n) h) refl

words_is : (f : Front) (n : ℕ) (ks : Kinds) → kinds_at f ≡ lists n ++ ks → FollowsType ks → (list_words f ≡ n) × (kinds_at (behind_lists f) ≡ ks)
unfolding list_words behind_lists
words_is f n ks h w = let r = after_is n f.tokens 0 ks h w in (r.0 ∙ omega arith, r.1)

whole_took : (room : ℕ) (t : Ty) (ks : Kinds) (f : Front) → type_depth t ≤ 8 → FollowsType ks → BaseTook (base_type (type_to room) room f) 0 ks t → Took (type_to (suc room) f) ks (same_type t)
unfolding type_to whole_type
whole_took room t ks f d w b =
    let z : b.count + 0 ≡ b.count = omega arith in
    let r = words_is b.rest b.count ks (b.left ∙ ap (λ n. lists n ++ ks) z) w in
    let j : judged_type (place f) (list_words b.rest) b.value ≡ Ok (lists_of b.count b.value) = ap (λ n. judged_type (place f) n b.value) r.0 ∙ judged_ok (place f) b.count b.value (omega (arith, b.deep, d)) in
    took_by (rw b.is (rw j refl)) (took (lists_of b.count b.value) (behind_lists b.rest) r.1 (ap (λ n. lists_of n b.value) (sym z) ∙ b.same))

some_depth : (x : Ty-F Ty) → 1 ≤ type_depth_level type_depth x
some_depth (Ty-F.List u) = omega arith
some_depth (Ty-F.Tuple ts) = omega arith
some_depth Ty-F.Unit = omega arith
some_depth Ty-F.Bool = omega arith
some_depth Ty-F.Int = omega arith
some_depth Ty-F.Char = omega arith
some_depth Ty-F.Str = omega arith
some_depth Ty-F.Blob = omega arith
some_depth Ty-F.Host = omega arith
some_depth Ty-F.Dev = omega arith
some_depth Ty-F.Chunk = omega arith

pub depth_some : (t : Ty) → 1 ≤ type_depth t
depth_some t = subst (λ n. 1 ≤ n) (sym (type_depth_out t)) (some_depth (out-Ty t))

abbrev pub ReadsType : ℕ → Ty → Type 0
ReadsType most t = (f : Front) (rest : Kinds) → kinds_at f ≡ type_kinds t ++ rest → FollowsType rest → Took (type_to most f) rest (same_type t)

takes_by : (t : Ty) (most : ℕ) → type_depth t ≤ most → type_depth t ≤ 8
    → ((room : ℕ) → type_depth t ≤ suc room → (f : Front) (ks : Kinds) → kinds_at f ≡ type_kinds t ++ (lists 0 ++ ks) → BaseTook (base_type (type_to room) room f) 0 ks t)
    → ReadsType most t
takes_by t zero d e k f rest h w = absurd (omega (arith, depth_some t, d))
takes_by t (suc room) d e k f rest h w = whole_took room t rest f e w (k room d f rest h)

-- ---- lists and tuples

list_base : (room : ℕ) (f : Front) (t u : Ty) (m : ℕ) (ks : Kinds) → out-Ty t ≡ Ty-F.List u → BaseTook (base_type (type_to room) room f) (suc m) ks u → BaseTook (base_type (type_to room) room f) m ks t
list_base room f t u m ks o b =
    let is : t ≡ made.List u = sym (roll-out-Ty t) ∙ (ap roll-Ty o ∙ made.rolls-List u) in
    let n : b.count + suc m ≡ suc b.count + m = omega arith in
    let d : type_depth t ≡ 1 + type_depth u = type_depth_out t ∙ ap (type_depth_level type_depth) o in
    record {
      value = b.value;
      rest = b.rest;
      count = suc b.count;
      is = b.is;
      left = b.left ∙ ap (λ k. lists k ++ ks) n;
      same = ap (λ k. lists_of k b.value) (sym n) ∙ (b.same ∙ ap (lists_of m) (sym is));
      deep = omega (arith, b.deep, d);
    }

all_same : (one : Reader Ty) (begins : Front → Bool) (xs ys : List Ty) → AllGood one begins symbols.Star limits.Parts wanted.AType type_kinds same_type FollowsType xs ys → ys ≡ xs
all_same one begins [] [] g = refl
all_same one begins (x ∷ xs) (y ∷ ys) g = let e = g.0 in let es = all_same one begins xs ys g.1 in cc
all_same one begins [] (y ∷ ys) g = absurd g
all_same one begins (x ∷ xs) [] g = absurd g

-- the parts of a tuple type behind the first, and its bracket
parts_took : (most : ℕ) (x y : Ty) (zs : List Ty) → length (y ∷ zs) ≤ 7 → AllRead (type_to most) begins_type symbols.Star limits.Parts wanted.AType type_kinds same_type FollowsType (y ∷ zs)
    → (a : Ty) → a ≡ x → (g : Front) (rest : Kinds) → kinds_at g ≡ listed_pieces (mark symbols.Star) (mark symbols.Star) type_kinds (y ∷ zs) ++ (kind.Symbol symbols.ParenClose ∷ rest)
    → (room : ℕ) → Took (tuple_type (type_to most) room a g) rest (same_type (made.Tuple (x ∷ y ∷ zs)))
unfolding tuple_type
parts_took most x y zs n r a e g rest h room =
    then_took _ (more_took (type_to most) begins_type symbols.Star limits.Parts wanted.AType type_kinds same_type FollowsType (kind.Symbol symbols.ParenClose ∷ rest) refl (λ s. refl) refl (y ∷ zs) r 7 n (a ∷ []) g h)
    (λ all k hk q. then_took _ (take_symbol symbols.ParenClose k rest hk)
    (λ u k2 h2 q2. took (made.Tuple all) k2 h2 (ap made.Tuple (q.1 ∙ (ap (λ v. v ∷ q.0) e ∙ ap (λ vs. x ∷ vs) (all_same (type_to most) begins_type (y ∷ zs) q.0 q.2))))))

group_took : (room : ℕ) (x y : Ty) (zs : List Ty) → 0 < room → length (y ∷ zs) ≤ 7 → AllRead (type_to room) begins_type symbols.Star limits.Parts wanted.AType type_kinds same_type FollowsType (x ∷ y ∷ zs)
    → (f : Front) (rest : Kinds) → kinds_at f ≡ kind.Symbol symbols.ParenOpen ∷ (type_kinds x ++ (listed_pieces (mark symbols.Star) (mark symbols.Star) type_kinds (y ∷ zs) ++ (kind.Symbol symbols.ParenClose ∷ rest)))
    → Took (base_type (type_to room) room f) rest (same_type (made.Tuple (x ∷ y ∷ zs)))
unfolding base_type group_type
group_took room x y zs n len r f rest h =
    let tail : Kinds = listed_pieces (mark symbols.Star) (mark symbols.Star) type_kinds (y ∷ zs) ++ (kind.Symbol symbols.ParenClose ∷ rest) in
    let ks : Kinds = kind.Symbol symbols.ParenOpen ∷ (type_kinds x ++ tail) in
    rw (symbol_is symbols.ParenOpen f ks h)
    (then_took _ (take_open room f ks n h)
    (λ u g hg q. then_took _ (r.0 (behind g) tail (behind_is g (kind.Symbol symbols.ParenOpen) (type_kinds x ++ tail) hg) refl)
    (λ a k hk e. rw (symbol_is symbols.Star k tail hk) (parts_took room x y zs len r.1 a e k rest hk room))))

tuple_base : (t : Ty) (ts : List Ty) → out-Ty t ≡ Ty-F.Tuple ts → 2 ≤ length ts → length ts ≤ 8 → (room : ℕ) → 0 < room
    → AllRead (type_to room) begins_type symbols.Star limits.Parts wanted.AType type_kinds same_type FollowsType ts
    → (m : ℕ) (ks : Kinds) (f : Front) → kinds_at f ≡ type_kinds t ++ (lists m ++ ks) → BaseTook (base_type (type_to room) room f) m ks t
tuple_base t [] o two most room n r m ks f h = absurd (omega (arith, two))
tuple_base t (x ∷ []) o two most room n r m ks f h = absurd (omega (arith, two))
tuple_base t (x ∷ y ∷ zs) o two most room n r m ks f h =
    let is : t ≡ made.Tuple (x ∷ y ∷ zs) = sym (roll-out-Ty t) ∙ (ap roll-Ty o ∙ made.rolls-Tuple (x ∷ y ∷ zs)) in
    let K : type_kinds t ≡ mark symbols.ParenOpen ++ ((type_kinds x ++ listed_pieces (mark symbols.Star) (mark symbols.Star) type_kinds (y ∷ zs)) ++ mark symbols.ParenClose) = type_kinds_out t ∙ ap (type_kinds_level type_kinds) o in
    let b = group_took room x y zs n (omega (arith, most)) r f (lists m ++ ks)
    (h ∙
    (ap (λ s. s ++ (lists m ++ ks)) K ∙ ap (λ s. kind.Symbol symbols.ParenOpen ∷ s)
    (regroup (type_kinds x) (listed_pieces (mark symbols.Star) (mark symbols.Star) type_kinds (y ∷ zs)) (kind.Symbol symbols.ParenClose) (lists m ++ ks)))) in
    by_took b is
  where
    by_took : Took (base_type (type_to room) room f) (lists m ++ ks) (same_type (made.Tuple (x ∷ y ∷ zs))) → t ≡ made.Tuple (x ∷ y ∷ zs) → BaseTook (base_type (type_to room) room f) m ks t
    by_took b is = let z : m ≡ 0 + m = omega arith in record {
      value = b.value;
      rest = b.rest;
      count = 0;
      is = b.is;
      left = b.left ∙ ap (λ n. lists n ++ ks) z;
      same = ap (λ n. lists_of n b.value) (sym z) ∙ ap (lists_of m) (b.good ∙ sym is);
      deep = omega arith ∙ ap type_depth (b.good ∙ sym is);
    }

-- the greatest number, one item more at the front
pub fold_max : {X : Type 0} (f : X → ℕ) (acc : ℕ) (xs : List X) → fold (λ m x. max m (f x)) acc xs ≡ max acc (fold (λ m x. max m (f x)) 0 xs)
fold_max f acc [] = omega arith
fold_max f acc (x ∷ xs) = let p = fold_max f (max acc (f x)) xs in let q = fold_max f (max 0 (f x)) xs in omega (arith, p, q)

pub largest_cons : {X : Type 0} (f : X → ℕ) (x : X) (xs : List X) → largest_by f (x ∷ xs) ≡ max (f x) (largest_by f xs)
largest_cons f x xs = let p = fold_max f (max 0 (f x)) xs in omega (arith, p)

largest_first : (t : Ty) (ts : List Ty) → (type_depth t ≤ largest_by type_depth (t ∷ ts)) × (largest_by type_depth ts ≤ largest_by type_depth (t ∷ ts))
largest_first t ts = let p = largest_cons type_depth t ts in (omega (arith, p), omega (arith, p))

types_some : (ts : List Ty) → 2 ≤ length ts → 1 ≤ largest_by type_depth ts
types_some [] n = absurd (omega (arith, n))
types_some (t ∷ ts) n = omega (arith, depth_some t, (largest_first t ts).0)

mutual
  base_takes : {t : Ty} → IsProperType t → (room : ℕ) → type_depth t ≤ suc room → type_depth t ≤ 8 → (m : ℕ) (ks : Kinds) (f : Front)
      → kinds_at f ≡ type_kinds t ++ (lists m ++ ks) → BaseTook (base_type (type_to room) room f) m ks t
  base_takes {t = t} (T.base k e) room d w m ks f h = takes_base (type_to room) room t k (base_is t (out-Ty t) refl k e) m ks f h
  base_takes {t = t} (T.list u o p) room d w m ks f h =
      let K : type_kinds t ≡ type_kinds u ++ word keys.List = type_kinds_out t ∙ ap (type_kinds_level type_kinds) o in
      let D : type_depth t ≡ 1 + type_depth u = type_depth_out t ∙ ap (type_depth_level type_depth) o in
      list_base room f t u m ks o (base_takes p room (omega (arith, D, d)) (omega (arith, D, w)) (suc m) ks f
      (h ∙ (ap (λ s. s ++ (lists m ++ ks)) K ∙ append_assoc (type_kinds u) (word keys.List) (lists m ++ ks))))
  base_takes {t = t} (T.tuple ts o n ps) room d w m ks f h =
      let D : type_depth t ≡ 1 + largest_by type_depth ts = type_depth_out t ∙ ap (type_depth_level type_depth) o in
      tuple_base t ts o n.0 n.1 room (omega (arith, D, d, types_some ts n.0)) (types_take ps room (omega (arith, D, d)) (omega (arith, D, w))) m ks f h

  types_take : {ts : List Ty} → AreProperTypes ts → (most : ℕ) → largest_by type_depth ts ≤ most → largest_by type_depth ts ≤ 8
      → AllRead (type_to most) begins_type symbols.Star limits.Parts wanted.AType type_kinds same_type FollowsType ts
  types_take M.no_types most d w = tt
  types_take (M.and_type {t = t} {ts = ts} p ps) most d w =
      let l = largest_first t ts in (
        takes_by t most (omega (arith, l.0, d)) (omega (arith, l.0, w)) (λ room e f ks h. base_takes p room e (omega (arith, l.0, w)) 0 ks f h),
        types_take ps most (omega (arith, l.1, d)) (omega (arith, l.1, w)),
      )

-- a printed type is read as that type
pub type_takes : {t : Ty} → IsProperType t → (most : ℕ) → type_depth t ≤ most → type_depth t ≤ 8 → ReadsType most t
type_takes {t = t} p most d w = takes_by t most d w (λ room e f ks h. base_takes p room e w 0 ks f h)

-- ---- how a type begins

begins_base : (x : Ty-F Ty) (k : Key) → base_key x ≡ Some k → is_some (simple_type k) ≡ true
begins_base (Ty-F.List u) k e = absurd (cc)
begins_base (Ty-F.Tuple ts) k e = absurd (cc)
begins_base Ty-F.Unit k e = let w : k ≡ keys.Unit = cc in ap (λ v. is_some (simple_type v)) w
begins_base Ty-F.Bool k e = let w : k ≡ keys.Bool = cc in ap (λ v. is_some (simple_type v)) w
begins_base Ty-F.Int k e = let w : k ≡ keys.Int = cc in ap (λ v. is_some (simple_type v)) w
begins_base Ty-F.Char k e = let w : k ≡ keys.Char = cc in ap (λ v. is_some (simple_type v)) w
begins_base Ty-F.Str k e = let w : k ≡ keys.Str = cc in ap (λ v. is_some (simple_type v)) w
begins_base Ty-F.Blob k e = let w : k ≡ keys.Blob = cc in ap (λ v. is_some (simple_type v)) w
begins_base Ty-F.Host k e = let w : k ≡ keys.Host = cc in ap (λ v. is_some (simple_type v)) w
begins_base Ty-F.Dev k e = let w : k ≡ keys.Dev = cc in ap (λ v. is_some (simple_type v)) w
begins_base Ty-F.Chunk k e = let w : k ≡ keys.Chunk = cc in ap (λ v. is_some (simple_type v)) w

-- the kind that a type begins with
record TypeStarts (ks : Kinds) : Type 0 where
  first : TokenKind
  others : Kinds
  are : ks ≡ first ∷ others
  begin : (is_some (kind_type (Some first)) || is_symbol_kind symbols.ParenOpen (Some first)) ≡ true
  shut : is_symbol_kind symbols.ParenClose (Some first) ≡ false

first_of_type : {t : Ty} → IsProperType t → TypeStarts (type_kinds t)
first_of_type {t = t} (T.base k e) = let b = base_is t (out-Ty t) refl k e in record { first = kind.Key k; others = []; are = b.kinds; begin = rw (begins_base (out-Ty t) k e) refl; shut = refl }
first_of_type {t = t} (T.list u o p) = let s = first_of_type p in record {
  first = s.first;
  others = s.others ++ word keys.List;
  are = type_kinds_out t ∙ (ap (type_kinds_level type_kinds) o ∙ ap (λ l. l ++ word keys.List) s.are);
  begin = s.begin;
  shut = s.shut;
}
first_of_type {t = t} (T.tuple ts o n ps) = record {
  first = kind.Symbol symbols.ParenOpen;
  others = _;
  are = type_kinds_out t ∙ ap (type_kinds_level type_kinds) o;
  begin = refl;
  shut = refl;
}

-- where a printed type stands next, one may begin, and no bracket closes
pub type_starts : (t : Ty) → IsProperType t → (f : Front) (rest : Kinds) → kinds_at f ≡ type_kinds t ++ rest → (is_symbol symbols.ParenClose f ≡ false) × (begins_type f ≡ true)
unfolding begins_type
type_starts t p f rest h =
    let s = first_of_type p in
    let ks : kinds_at f ≡ s.first ∷ (s.others ++ rest) = h ∙ ap (λ l. l ++ rest) s.are in (
      symbol_is symbols.ParenClose f (s.first ∷ (s.others ++ rest)) ks ∙ s.shut,
      (λ i. is_some (kind_type (next_is f (s.first ∷ (s.others ++ rest)) ks i)) || symbol_is symbols.ParenOpen f (s.first ∷ (s.others ++ rest)) ks i) ∙ s.begin,
    )
