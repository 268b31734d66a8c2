-- A reading that gives something gives what has a property, and leaves tokens that keep the limits of their kinds.
use Rattle.std.proofs.Common.{◌≡◌, ℕ, zero, suc, ◌+◌, ◌≤◌, Bool, true, false, List, [], ◌∷◌, ◌++◌, length, drop, Option, Some, None, Result, Ok, Err, refl, sym, ◌∙◌, ap, subst, arith, length-append}
use Rattle.std.specs.Prelude.{◌&&◌, ◌==◌, nat_le, nat_lt, if◌then◌else◌}
use Rattle.std.specs.List.{list_all}
use Rattle.std.proofs.lemmas.Bool.{le-leb}
use Rattle.std.proofs.lemmas.Bool.Decides.{nat_tests}
use Rattle.containers.proofs.Bools.{both}
use Rattle.plan_base.specs.declared.limit.Limit.{Limit}
use Rattle.plan_base.specs.declared.limit.Limit.TheVariants as limits
use Rattle.plan_base.specs.declared.tree.Ty.{Ty, Ty-F, roll-Ty, out-roll-Ty}
use Rattle.plan_base.specs.declared.tree.Ty.TheVariants as ty
use Rattle.plan_base.specs.Sizes.{type_depth, type_depth_level}
use Rattle.plan_base.specs.WellFormed.{formed_type, formed_type_level, well_formed_type}
use Rattle.plan_base.proofs.SizeLaws.{type_depth_out}
use Rattle.plan_base.proofs.FormLaws.{formed_type_out}
use Rattle.plan_lexer.specs.declared.token.Token.{Token}
use Rattle.plan_lexer.specs.declared.token.TokenKind.{TokenKind}
use Rattle.plan_lexer.specs.declared.token.TokenKind.TheVariants as kinds
use Rattle.plan_lexer.specs.declared.token.Key.{Key}
use Rattle.plan_lexer.specs.declared.token.Key.TheVariants as keys
use Rattle.plan_lexer.specs.declared.token.Symbol.{Symbol}
use Rattle.plan_lexer.specs.declared.token.Symbol.TheVariants as symbols
use Rattle.plan_lexer.specs.TokenRules.{IsKind}
use Rattle.plan_parser_exprs.specs.declared.fault.ParseFault.{ParseFault}
use Rattle.plan_parser_exprs.specs.declared.fault.ParseFault.TheVariants.{TooDeep}
use Rattle.plan_parser_exprs.specs.declared.fault.Wanted.{Wanted}
use Rattle.plan_parser_exprs.specs.declared.fault.Wanted.TheVariants as wanted
use Rattle.plan_parser_exprs.specs.Ahead.{Front, Reader, ◌>>=◌, place, behind, next_kind, is_symbol, need_symbol}
use Rattle.plan_parser_exprs.specs.Begins.{simple_type, kind_type, begins_type}
use Rattle.plan_parser_exprs.specs.Types.{opens, more, type_or_fault, after_lists, list_words, behind_lists, is_list_word, lists_of, judged_type, tuple_type, single_type, group_type, base_type, whole_type, type_to}

pub left_of_both : (b c : Bool) → (b && c) ≡ true → b ≡ true
left_of_both true c h = refl
left_of_both false c h = h

-- each token keeps the limits of its kind
abbrev pub Kinds : List Token → Type 0
Kinds [] = Unit {0}
Kinds (t ∷ ts) = IsKind t.kind × Kinds ts

-- what is read has the property
abbrev pub Holds : {A : Type 0} → (A → Type 0) → Result (A × Front) ParseFault → Type 0
Holds P (Ok x) = P x.0 × Kinds x.1.tokens
Holds P (Err e) = Unit {0}

abbrev pub Any : {A : Type 0} → A → Type 0
Any x = Unit {0}

pub step : {A B : Type 0} (P : A → Type 0) (Q : B → Type 0) (r : Result (A × Front) ParseFault) (h : A × Front → Result (B × Front) ParseFault)
    → Holds P r → ((x : A) (g : Front) → P x → Kinds g.tokens → Holds Q (h (x, g))) → Holds Q (r >>= h)
step P Q (Ok x) h p k = k x.0 x.1 p.0 p.1
step P Q (Err e) h p k = tt

pub choose : {A : Type 0} (P : A → Type 0) (b : Bool) (x y : Result (A × Front) ParseFault) → (b ≡ true → Holds P x) → (b ≡ false → Holds P y)
    → Holds P (if b then x else y)
choose P true x y h k = h refl
choose P false x y h k = k refl

pub behind_kinds : (f : Front) → Kinds f.tokens → Kinds (behind f).tokens
unfolding behind
behind_kinds f k = behind_list f.tokens k
  where
    behind_list : (ts : List Token) → Kinds ts → Kinds (drop 1 ts)
    behind_list [] q = tt
    behind_list (t ∷ ts) q = q.1

pub symbol_holds : (w : Symbol) (f : Front) → Kinds f.tokens → Holds Any (need_symbol w f)
unfolding need_symbol
symbol_holds w f k = choose Any (is_symbol w f) _ _ (λ _. (tt, behind_kinds f k)) (λ _. tt)

pub opens_holds : (room : ℕ) (f : Front) → Kinds f.tokens → Holds Any (opens room f)
unfolding opens
opens_holds room f k = choose Any (room == 0) _ _ (λ _. tt) (λ _. (tt, k))

pub weaken : {A : Type 0} (P Q : A → Type 0) (r : Result (A × Front) ParseFault) → ((x : A) → P x → Q x) → Holds P r → Holds Q r
weaken P Q (Ok x) h p = (h x.0 p.0, p.1)
weaken P Q (Err e) h p = tt

-- ---- items behind separators

-- each item has the property
abbrev pub Each : {A : Type 0} → (A → Type 0) → List A → Type 0
Each P [] = Unit {0}
Each P (x ∷ xs) = P x × Each P xs

pub each_last : {A : Type 0} (P : A → Type 0) (xs : List A) (x : A) → Each P xs → P x → Each P (xs ++ x ∷ [])
each_last P [] x q p = (p, tt)
each_last P (y ∷ ys) x q p = (q.0, each_last P ys x q.1 p)

pub each_test : {A : Type 0} (P : A → Type 0) (test : A → Bool) → ((x : A) → P x → test x ≡ true) → (xs : List A) → Each P xs → list_all test xs ≡ true
each_test P test h [] q = refl
each_test P test h (x ∷ xs) q = both (h x q.0) (each_test P test h xs q.1)

pub record Between {A : Type 0} (P : A → Type 0) (low high : ℕ) (xs : List A) : Type 0 where
  pub all : Each P xs
  pub least : low ≤ length xs
  pub most : length xs ≤ high

wider : {A : Type 0} (P : A → Type 0) (a b c d : ℕ) → c ≤ a → b ≤ d → (xs : List A) → Between P a b xs → Between P c d xs
wider P a b c d l m xs q = record { all = q.all; least = (let h = q.least in omega (arith, h, l)); most = (let h = q.most in omega (arith, h, m)) }

module _ {A : Type 0} (P : A → Type 0) (one : Reader A) (reads : (f : Front) → Kinds f.tokens → Holds P (one f)) (begins : Front → Bool) (sep : Symbol) (limit : Limit) (what : Wanted) where
  grown_by_one : (done : List A) (x : A) → length (done ++ x ∷ []) ≡ length done + 1
  grown_by_one done x = length-append done (x ∷ [])

  pub more_holds : (most : ℕ) (done : List A) (f : Front) → Each P done → Kinds f.tokens
      → Holds (Between P (length done) (length done + most)) (more one begins sep limit what most done f)
  unfolding more
  more_holds zero done f q k = choose (Between P (length done) (length done + 0)) (is_symbol sep f) _ _ (λ _. tt) (λ _. (record { all = q; least = omega arith; most = omega arith }, k))
  more_holds (suc most) done f q k =
      choose (Between P (length done) (length done + suc most)) (is_symbol sep f) _ _
      (λ _. step P (Between P (length done) (length done + suc most)) (one (behind f)) _ (reads (behind f) (behind_kinds f k))
      (λ x g p r. let e = grown_by_one done x in
      weaken (Between P (length (done ++ x ∷ [])) (length (done ++ x ∷ []) + most)) (Between P (length done) (length done + suc most)) _
      (wider P _ _ _ _ (omega (arith, e)) (omega (arith, e))) (more_holds most (done ++ x ∷ []) g (each_last P done x q p) r)))
      (λ _. (record { all = q; least = omega arith; most = omega arith }, k))

  -- where a separator stands there is one more
  pub more_some : (most : ℕ) (done : List A) (f : Front) → is_symbol sep f ≡ true → Each P done → Kinds f.tokens
      → Holds (Between P (length done + 1) (length done + suc most)) (more one begins sep limit what (suc most) done f)
  unfolding more
  more_some most done f here q k =
      rw here (step P (Between P (length done + 1) (length done + suc most)) (one (behind f)) _ (reads (behind f) (behind_kinds f k))
      (λ x g p r. let e = grown_by_one done x in
      weaken (Between P (length (done ++ x ∷ [])) (length (done ++ x ∷ []) + most)) (Between P (length done + 1) (length done + suc most)) _
      (wider P _ _ _ _ (omega (arith, e)) (omega (arith, e))) (more_holds most (done ++ x ∷ []) g (each_last P done x q p) r)))

-- ---- types

abbrev pub Formed : Ty → Type 0
Formed t = formed_type t ≡ true

abbrev pub Good : Ty → Type 0
Good t = well_formed_type t ≡ true

good : (t : Ty) → Formed t → type_depth t ≤ 8 → Good t
unfolding well_formed_type
good t f d = both f (le-leb (type_depth t) 8 d)

pub formed_of : (t : Ty) → Good t → Formed t
unfolding well_formed_type
formed_of t g = left_of_both (formed_type t) (nat_le (type_depth t) 8) g

pub formed_roll : (x : Ty-F Ty) {t : Ty} → roll-Ty x ≡ t → formed_type_level formed_type x ≡ true → Formed t
formed_roll x r h = subst Formed r (formed_type_out (roll-Ty x) ∙ (ap (formed_type_level formed_type) (out-roll-Ty x) ∙ h))

pub depth_roll : (x : Ty-F Ty) {t : Ty} → roll-Ty x ≡ t → type_depth t ≡ type_depth_level type_depth x
depth_roll x r = sym (ap type_depth r) ∙ (type_depth_out (roll-Ty x) ∙ ap (type_depth_level type_depth) (out-roll-Ty x))

abbrev FormedOption : Option Ty → Type 0
FormedOption (Some t) = Formed t
FormedOption None = Unit {0}

simple_formed : (k : Key) → FormedOption (simple_type k)
simple_formed keys.Unit = formed_roll Ty-F.Unit ty.rolls-Unit refl
simple_formed keys.Bool = formed_roll Ty-F.Bool ty.rolls-Bool refl
simple_formed keys.Int = formed_roll Ty-F.Int ty.rolls-Int refl
simple_formed keys.Char = formed_roll Ty-F.Char ty.rolls-Char refl
simple_formed keys.Str = formed_roll Ty-F.Str ty.rolls-Str refl
simple_formed keys.Blob = formed_roll Ty-F.Blob ty.rolls-Blob refl
simple_formed keys.Host = formed_roll Ty-F.Host ty.rolls-Host refl
simple_formed keys.Dev = formed_roll Ty-F.Dev ty.rolls-Dev refl
simple_formed keys.Chunk = formed_roll Ty-F.Chunk ty.rolls-Chunk refl
simple_formed _ = tt

kind_formed : (k : Option TokenKind) → FormedOption (kind_type k)
kind_formed (Some (kinds.Key k)) = simple_formed k
kind_formed _ = tt

named_formed : (f : Front) (t : Option Ty) → FormedOption t → Kinds f.tokens → Holds Formed (type_or_fault f t)
named_formed f (Some t) q k = (q, behind_kinds f k)
named_formed f None q k = tt

lists_kinds : (n : ℕ) (ts : List Token) → Kinds ts → Kinds (after_lists n ts).1
lists_kinds n [] k = tt
lists_kinds n (t ∷ ts) k = by_word (is_list_word t) (lists_kinds (n + 1) ts k.1)
  where
    by_word : (b : Bool) → Kinds (after_lists (n + 1) ts).1 → Kinds (if b then after_lists (n + 1) ts else (n, t ∷ ts)).1
    by_word true h = h
    by_word false h = k

behind_lists_kinds : (f : Front) → Kinds f.tokens → Kinds (behind_lists f).tokens
unfolding behind_lists
behind_lists_kinds f k = lists_kinds 0 f.tokens k

lists_depth : (n : ℕ) (t : Ty) → type_depth (lists_of n t) ≡ type_depth t + n
lists_depth zero t = omega arith
lists_depth (suc n) t = let e = lists_depth n (ty.List t) in let d = depth_roll (Ty-F.List t) (ty.rolls-List t) in omega (arith, e, d)

lists_formed : (n : ℕ) (t : Ty) → Formed t → Formed (lists_of n t)
lists_formed zero t h = h
lists_formed (suc n) t h = lists_formed n (ty.List t) (formed_roll (Ty-F.List t) (ty.rolls-List t) h)

-- a type that is judged
abbrev GoodOr : Result Ty ParseFault → Type 0
GoodOr (Ok t) = Good t
GoodOr (Err e) = Unit {0}

judged_good : (start n : ℕ) (t : Ty) → Formed t → GoodOr (judged_type start n t)
unfolding judged_type
judged_good start n t h = by_depth (nat_lt 8 (type_depth t + n)) refl
  where
    by_depth : (b : Bool) → nat_lt 8 (type_depth t + n) ≡ b → GoodOr (if b then Err (TooDeep start) else Ok (lists_of n t))
    by_depth true e = tt
    by_depth false e = good (lists_of n t) (lists_formed n t h) (let d = lists_depth n t in grind (arith, nat_tests, e, d))

module _ (inner : Reader Ty) (room : ℕ) (reads : (f : Front) → Kinds f.tokens → Holds Good (inner f)) where
  tuple_holds : (first : Ty) (f : Front) → is_symbol symbols.Star f ≡ true → Good first → Kinds f.tokens → Holds Formed (tuple_type inner room first f)
  unfolding tuple_type
  tuple_holds first f here q k =
      step (Between Good 2 8) Formed _ _ (more_some Good inner reads begins_type symbols.Star limits.Parts wanted.AType 6 (first ∷ []) f here (q, tt) k)
      (λ parts g p r. step Any Formed _ _ (symbol_holds symbols.ParenClose g r)
      (λ _ h _ s. (
        formed_roll (Ty-F.Tuple parts) (ty.rolls-Tuple parts)
            (both (both (le-leb 2 (length parts) p.least) (le-leb (length parts) 8 p.most)) (each_test Good formed_type formed_of parts p.all)),
        s,
      )))

  single_holds : (first : Ty) (f : Front) → Good first → Kinds f.tokens → Holds Formed (single_type inner room first f)
  unfolding single_type
  single_holds first f q k = step Any Formed _ _ (symbol_holds symbols.ParenClose f k) (λ _ g _ r. (formed_of first q, r))

  group_holds : (f : Front) → Kinds f.tokens → Holds Formed (group_type inner room f)
  unfolding group_type
  group_holds f k =
      step Any Formed _ _ (opens_holds room f k) (λ _ g _ r.
      step Good Formed _ _ (reads (behind g) (behind_kinds g r)) (λ first h p s.
      choose Formed (is_symbol symbols.Star h) _ _ (λ here. tuple_holds first h here p s) (λ _. single_holds first h p s)))

  base_holds : (f : Front) → Kinds f.tokens → Holds Formed (base_type inner room f)
  unfolding base_type
  base_holds f k = choose Formed (is_symbol symbols.ParenOpen f) _ _ (λ _. group_holds f k) (λ _. named_formed f (kind_type (next_kind f)) (kind_formed (next_kind f)) k)

  whole_holds : (f : Front) → Kinds f.tokens → Holds Good (whole_type inner room f)
  unfolding whole_type
  whole_holds f k = step Formed Good _ _ (base_holds f k) (λ base g p r. by_judged (judged_type (place f) (list_words g) base) (judged_good (place f) (list_words g) base p) g r)
    where
      by_judged : (j : Result Ty ParseFault) → GoodOr j → (g : Front) → Kinds g.tokens → Holds Good (j >>= λ t. Ok (t, behind_lists g))
      by_judged (Ok t) h g r = (h, behind_lists_kinds g r)
      by_judged (Err e) h g r = tt

-- a type that is read is well formed
pub type_holds : (room : ℕ) (f : Front) → Kinds f.tokens → Holds Good (type_to room f)
unfolding type_to
type_holds zero f k = tt
type_holds (suc room) f k = whole_holds (type_to room) room (type_holds room) f k
