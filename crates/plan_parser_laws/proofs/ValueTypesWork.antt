-- The reading of a type works off its agenda.
use Rattle.std.proofs.Common.{◌≡◌, ◌+◌, ℕ, zero, suc, Bool, true, false, List, [], ◌∷◌, ◌++◌, Option, Some, None, Result, Ok, Err, if◌then◌else◌, nat_lt, subst, sym as back, refl, arith}
use Rattle.plan_base.specs.declared.limit.Limit.TheVariants as limits
use Rattle.plan_base.specs.declared.tree.Ty.{Ty}
use Rattle.plan_base.specs.declared.tree.Ty.TheVariants as ty
use Rattle.plan_base.specs.Sizes.{type_depth}
use Rattle.plan_lexer.specs.declared.token.Token.{Token}
use Rattle.plan_lexer.specs.declared.token.Symbol.TheVariants as symbols
use Rattle.plan_parser_exprs.specs.declared.fault.ParseFault.{ParseFault}
use Rattle.plan_parser_exprs.specs.declared.fault.ParseFault.TheVariants.{TooDeep}
use Rattle.plan_parser_exprs.specs.declared.fault.Wanted.TheVariants as wanted
use Rattle.plan_parser_exprs.specs.Ahead.{Front, Reader, ◌>>=◌, place, behind, next_kind, is_key, is_symbol}
use Rattle.plan_parser_exprs.specs.Begins.{kind_type, begins_type}
use Rattle.plan_parser_exprs.specs.Types.{opens, more, type_or_fault, is_list_word, after_lists, list_words, behind_lists, lists_of, judged_type, tuple_type, single_type, group_type, base_type, whole_type, type_to}
use Rattle.plan_parser_laws.specs.Agenda.{StepOf}
use Rattle.plan_parser_laws.proofs.TokenFacts.{room_open}
use Rattle.plan_parser_laws.proofs.TypesAre.{left_behind}
use Rattle.plan_parser_laws.proofs.TypesRead.{depth_of_lists}
use Rattle.plan_parser_laws.specs.ValueAgenda.{ValueItem, a_type, lists, first_type, behind_first, next_type, behind_next, sym, enter, hand, type_step, step}
use Rattle.plan_parser_laws.proofs.ValueWorks.{Works, Follows, goes_on, stops, begin, after, given_works, both, symbol_works}

-- one more `list` is the outermost
list_of_lists : (n : ℕ) (t : Ty) → ty.List (lists_of n t) ≡ lists_of n (ty.List t)
list_of_lists zero t = refl
list_of_lists (suc n) t = list_of_lists n (ty.List t)

one_more_list : (n : ℕ) (t : Ty) → ty.List (lists_of n t) ≡ lists_of (n + 1) t
one_more_list n t = let next : suc n ≡ n + 1 = omega arith in subst (λ m. ty.List (lists_of n t) ≡ lists_of m t) next (list_of_lists n t)

-- a bracket opens, if one more may
pub enters : {B : Type 0} (o room : ℕ) (at : Front) (items : ℕ → List ValueItem) (g : Front) (next : B → List ValueItem) (h : Unit {0} × Front → Result (B × Front) ParseFault)
    → ((r : ℕ) → room ≡ suc r → Works o (items r) g next (h (tt, at))) → Follows o (enter room (place at) items g) next (opens room at >>= h)
unfolding opens
enters o zero at items g next h k = stops o _ next
enters o (suc r) at items g next h k = rw (room_open r) (goes_on o (k r refl))

-- the words `list` behind a base, and the judgement at their end
module _ (o start end : ℕ) (base : Ty) (more : List ValueItem) where
  abbrev Handed : Ty → List ValueItem
  Handed t = hand t more

  abbrev Ends : ℕ × List Token → Result (Ty × Front) ParseFault
  Ends p = judged_type start p.0 base >>= left_behind (record { tokens = p.1; end = end })

  abbrev Judge : ℕ → List Token → StepOf ValueItem
  Judge n ts = if nat_lt 8 (type_depth (lists_of n base)) then Err (TooDeep start) else Ok (hand (lists_of n base) more, record { tokens = ts; end = end })

  ended_words_follow : (n : ℕ) (ts : List Token) → Follows o (Judge n ts) Handed (Ends (n, ts))
  unfolding judged_type
  ended_words_follow n ts =
      subst (λ d. Follows o (if nat_lt 8 d then Err (TooDeep start) else Ok (hand (lists_of n base) more, record { tokens = ts; end = end })) Handed (Ends (n, ts))) (back (depth_of_lists n base)) (go (nat_lt 8 (type_depth base + n)))
    where
      go : (b : Bool)
          → Follows o (if b then Err (TooDeep start) else Ok (hand (lists_of n base) more, record { tokens = ts; end = end })) Handed
          ((if b then Err (TooDeep start) else Ok (lists_of n base)) >>= left_behind (record { tokens = ts; end = end }))
      go true = stops o (TooDeep start) Handed
      go false = goes_on o (given_works o Handed (lists_of n base) (record { tokens = ts; end = end }))

  words_work : (ts : List Token) (n : ℕ) → Works o (lists start (lists_of n base) ∷ more) (record { tokens = ts; end = end }) Handed (Ends (after_lists n ts))
  unfolding step is_key next_kind behind
  words_work [] n = begin o (lists start (lists_of n base)) more (record { tokens = []; end = end }) Handed _ (ended_words_follow n [])
  words_work (t ∷ ts) n = begin o (lists start (lists_of n base)) more (record { tokens = t ∷ ts; end = end }) Handed _ (go (words_work ts (n + 1)) (is_list_word t))
    where
      go : Works o (lists start (lists_of (n + 1) base) ∷ more) (record { tokens = ts; end = end }) Handed (Ends (after_lists (n + 1) ts)) → (b : Bool)
          → Follows o (if b then Ok (lists start (ty.List (lists_of n base)) ∷ more, record { tokens = ts; end = end }) else Judge n (t ∷ ts)) Handed
          (Ends (if b then after_lists (n + 1) ts else (n, t ∷ ts)))
      go w true =
          goes_on o (subst (λ u. Works o (lists start u ∷ more) (record { tokens = ts; end = end }) Handed (Ends (after_lists (n + 1) ts))) (back (one_more_list n base)) w)
      go w false = ended_words_follow n (t ∷ ts)

module _ (o room : ℕ) (inner : Reader Ty)
    (inside : (r : ℕ) → room ≡ suc r → (more : List ValueItem) (f : Front) → Works o (a_type r ∷ more) f (λ t. hand t more) (inner f)) where
  parts_work : (r : ℕ) → room ≡ suc r → (start : ℕ) (rest : List ValueItem) (left : ℕ) (done : List Ty) (f : Front)
      → Works o (behind_next r start left done ∷ rest) f (λ ts. sym symbols.ParenClose ∷ lists start (ty.Tuple ts) ∷ rest)
      (more inner begins_type symbols.Star limits.Parts wanted.AType left done f)
  unfolding more step
  parts_work r e start rest zero done f =
      let next : List Ty → List ValueItem = λ ts. sym symbols.ParenClose ∷ lists start (ty.Tuple ts) ∷ rest in
      begin o (behind_next r start 0 done) rest f next _ (both o (is_symbol symbols.Star f) _ _ next _ _ (stops o _ next) (goes_on o (given_works o next done f)))
  parts_work r e start rest (suc left) done f =
      let next : List Ty → List ValueItem = λ ts. sym symbols.ParenClose ∷ lists start (ty.Tuple ts) ∷ rest in
      begin o (behind_next r start (suc left) done) rest f next _ (both o (is_symbol symbols.Star f) _ _ next _ _
      (goes_on o (after o (a_type r ∷ next_type r start left done ∷ rest) (behind f) (λ t. behind_next r start left (done ++ t ∷ []) ∷ rest) next (inner (behind f)) _
      (inside r e (next_type r start left done ∷ rest) (behind f)) (λ t g. parts_work r e start rest left (done ++ t ∷ []) g)))
      (goes_on o (given_works o next done f)))

  abbrev Based : ℕ → List ValueItem → Ty → List ValueItem
  Based start more t = lists start t ∷ more

  tuple_works : (r : ℕ) → room ≡ suc r → (start : ℕ) (rest : List ValueItem) (first : Ty) (f : Front)
      → Works o (behind_next r start 7 (first ∷ []) ∷ rest) f (Based start rest) (tuple_type inner room first f)
  unfolding tuple_type
  tuple_works r e start rest first f =
      after o (behind_next r start 7 (first ∷ []) ∷ rest) f (λ ts. sym symbols.ParenClose ∷ lists start (ty.Tuple ts) ∷ rest) (Based start rest)
      (more inner begins_type symbols.Star limits.Parts wanted.AType 7 (first ∷ []) f) _ (parts_work r e start rest 7 (first ∷ []) f)
      (λ ts g. symbol_works o symbols.ParenClose (lists start (ty.Tuple ts) ∷ rest) g (Based start rest) _ (given_works o (Based start rest) (ty.Tuple ts) (behind g)))

  single_works : (start : ℕ) (rest : List ValueItem) (first : Ty) (f : Front)
      → Works o (sym symbols.ParenClose ∷ lists start first ∷ rest) f (Based start rest) (single_type inner room first f)
  unfolding single_type
  single_works start rest first f = symbol_works o symbols.ParenClose (lists start first ∷ rest) f (Based start rest) _ (given_works o (Based start rest) first (behind f))

  behind_first_works : (r : ℕ) → room ≡ suc r → (start : ℕ) (rest : List ValueItem) (first : Ty) (f : Front)
      → Works o (behind_first r start first ∷ rest) f (Based start rest) (if is_symbol symbols.Star f then tuple_type inner room first f else single_type inner room first f)
  unfolding step
  behind_first_works r e start rest first f =
      begin o (behind_first r start first) rest f (Based start rest) _
      (both o (is_symbol symbols.Star f) _ _ (Based start rest) _ _ (goes_on o (tuple_works r e start rest first f)) (goes_on o (single_works start rest first f)))

  group_works : (rest : List ValueItem) (f : Front)
      → Follows o (enter room (place f) (λ q. a_type q ∷ first_type q (place f) ∷ rest) (behind f)) (Based (place f) rest) (group_type inner room f)
  unfolding group_type
  group_works rest f =
      enters o room f (λ q. a_type q ∷ first_type q (place f) ∷ rest) (behind f) (Based (place f) rest) _
      (λ r e. after o (a_type r ∷ first_type r (place f) ∷ rest) (behind f) (λ t. behind_first r (place f) t ∷ rest) (Based (place f) rest) (inner (behind f)) _
      (inside r e (first_type r (place f) ∷ rest) (behind f)) (λ t g. behind_first_works r e (place f) rest t g))

  named_works : (rest : List ValueItem) (f : Front) (k : Option Ty) → Follows o (type_step rest f k) (Based (place f) rest) (type_or_fault f k)
  named_works rest f (Some t) = goes_on o (given_works o (Based (place f) rest) t (behind f))
  named_works rest f None = stops o _ (Based (place f) rest)

  base_works : (rest : List ValueItem) (f : Front) → Works o (a_type room ∷ rest) f (Based (place f) rest) (base_type inner room f)
  unfolding base_type step
  base_works rest f =
      begin o (a_type room) rest f (Based (place f) rest) _
      (both o (is_symbol symbols.ParenOpen f) _ _ (Based (place f) rest) _ _ (group_works rest f) (named_works rest f (kind_type (next_kind f))))

  tail_works : (rest : List ValueItem) (start : ℕ) (base : Ty) (g : Front)
      → Works o (lists start base ∷ rest) g (λ t. hand t rest) (judged_type start (list_words g) base >>= left_behind (behind_lists g))
  unfolding list_words behind_lists
  tail_works rest start base g = words_work o start g.end base rest g.tokens 0

  whole_works : (rest : List ValueItem) (f : Front) → Works o (a_type room ∷ rest) f (λ t. hand t rest) (whole_type inner room f)
  unfolding whole_type
  whole_works rest f =
      after o (a_type room ∷ rest) f (Based (place f) rest) (λ t. hand t rest) (base_type inner room f) _ (base_works rest f) (λ base g. tail_works rest (place f) base g)

-- the reading of a type works off its agenda
pub types_work : (o r : ℕ) (more : List ValueItem) (f : Front) → Works o (a_type r ∷ more) f (λ t. hand t more) (type_to (suc r) f)
unfolding type_to
types_work o zero more f = whole_works o 0 (type_to 0) (λ r e m g. absurd (let none : 0 ≡ suc r = e in omega (arith, none))) more f
types_work o (suc r) more f =
    whole_works o (suc r) (type_to (suc r))
    (λ s e m g. subst (λ k. Works o (a_type k ∷ m) g (λ t. hand t m) (type_to (suc r) g)) (let same : suc r ≡ suc s = e in omega (arith, same)) (types_work o r m g)) more f
