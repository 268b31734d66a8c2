-- The reading of a type works off its agenda.
use Rattle.std.proofs.Common.{◌≡◌, ◌+◌, ℕ, zero, suc, max, Bool, true, false, List, [], ◌∷◌, ◌++◌, Option, Some, None, Result, Ok, Err, if◌then◌else◌, nat_lt, ◌∙◌, ap, subst, arith}
use Rattle.std.proofs.lemmas.Grind.{fold-append}
use Rattle.plan_base.specs.declared.limit.Limit.TheVariants as limits
use Rattle.plan_base.specs.declared.tree.Ty.{Ty}
use Rattle.plan_base.specs.declared.tree.Ty.TheVariants as ty
use Rattle.plan_base.specs.Sizes.{type_depth, type_depth_level, largest_by}
use Rattle.plan_base.proofs.SizeLaws.{type_depth_out}
use Rattle.plan_lexer.specs.declared.token.Token.{Token}
use Rattle.plan_lexer.specs.declared.token.Symbol.TheVariants as symbols
use Rattle.plan_parser_exprs.specs.declared.fault.ParseFault.{ParseFault}
use Rattle.plan_parser_exprs.specs.declared.fault.ParseFault.TheVariants.{TooDeep}
use Rattle.plan_parser_exprs.specs.declared.fault.Wanted.TheVariants as wanted
use Rattle.plan_parser_exprs.specs.Ahead.{Front, Reader, ◌>>=◌, place, behind, next_kind, is_key, is_symbol}
use Rattle.plan_parser_exprs.specs.Begins.{kind_type, begins_type}
use Rattle.plan_parser_exprs.specs.Types.{more, type_or_fault, is_list_word, after_lists, list_words, behind_lists, lists_of, judged_type, tuple_type, single_type, group_type, base_type, whole_type, type_to}
use Rattle.plan_parser_laws.specs.Agenda.{GrammarItem, a_type, lists, first_type, behind_first, next_type, behind_next, sym, GrammarStep, enter, hand, type_step, step}
use Rattle.plan_parser_laws.proofs.TypesRead.{depth_of_lists}
use Rattle.plan_parser_laws.proofs.TypesAre.{left_behind}
use Rattle.plan_parser_laws.proofs.Works.{Works, Follows, goes_on, stops, begin, after, given_works, both, symbol_works, enters}

depth_of_tuple : (ts : List Ty) → type_depth (ty.Tuple ts) ≡ 1 + largest_by type_depth ts
depth_of_tuple ts = type_depth_out (ty.Tuple ts) ∙ ap (type_depth_level type_depth) (ty.outs-Tuple ts)

deepest_last : (ts : List Ty) (t : Ty) → largest_by type_depth (ts ++ t ∷ []) ≡ max (largest_by type_depth ts) (type_depth t)
deepest_last ts t = fold-append _ _ ts (t ∷ [])

-- the words `list` behind a base, and the judgement at their end
module _ (start end : ℕ) (base : Ty) (more : List GrammarItem) where
  abbrev Handed : Ty → List GrammarItem
  Handed t = hand (type_depth t) more

  abbrev Ends : ℕ × List Token → Result (Ty × Front) ParseFault
  Ends p = judged_type start p.0 base >>= left_behind (record { tokens = p.1; end = end })

  abbrev Judge : ℕ → List Token → GrammarStep
  Judge n ts = if nat_lt 8 (type_depth base + n) then Err (TooDeep start) else Ok (hand (type_depth base + n) more, record { tokens = ts; end = end })

  ended_words_follow : (n : ℕ) (ts : List Token) → Follows (Judge n ts) Handed (Ends (n, ts))
  unfolding judged_type
  ended_words_follow n ts = go (nat_lt 8 (type_depth base + n))
    where
      handed_type_works : Works (hand (type_depth base + n) more) (record { tokens = ts; end = end }) Handed (Ok (lists_of n base, record { tokens = ts; end = end }))
      handed_type_works =
          subst (λ d. Works (hand d more) (record { tokens = ts; end = end }) Handed (Ok (lists_of n base, record { tokens = ts; end = end }))) (depth_of_lists n base)
          (given_works Handed (lists_of n base) (record { tokens = ts; end = end }))

      go : (b : Bool)
          → Follows (if b then Err (TooDeep start) else Ok (hand (type_depth base + n) more, record { tokens = ts; end = end })) Handed
          ((if b then Err (TooDeep start) else Ok (lists_of n base)) >>= left_behind (record { tokens = ts; end = end }))
      go true = stops (TooDeep start) Handed
      go false = goes_on handed_type_works

  words_work : (ts : List Token) (n : ℕ) → Works (lists start (type_depth base + n) ∷ more) (record { tokens = ts; end = end }) Handed (Ends (after_lists n ts))
  unfolding step is_key next_kind behind
  words_work [] n = begin (lists start (type_depth base + n)) more (record { tokens = []; end = end }) Handed _ (ended_words_follow n [])
  words_work (t ∷ ts) n = begin (lists start (type_depth base + n)) more (record { tokens = t ∷ ts; end = end }) Handed _ (go (words_work ts (n + 1)) (is_list_word t))
    where
      go : Works (lists start (type_depth base + (n + 1)) ∷ more) (record { tokens = ts; end = end }) Handed (Ends (after_lists (n + 1) ts)) → (b : Bool)
          → Follows (if b then Ok (lists start (type_depth base + n + 1) ∷ more, record { tokens = ts; end = end }) else Judge n (t ∷ ts)) Handed
          (Ends (if b then after_lists (n + 1) ts else (n, t ∷ ts)))
      go w true =
          goes_on (subst (λ d. Works (lists start d ∷ more) (record { tokens = ts; end = end }) Handed (Ends (after_lists (n + 1) ts)))
          (let e : type_depth base + (n + 1) ≡ type_depth base + n + 1 = omega arith in e) w)
      go w false = ended_words_follow n (t ∷ ts)

module _ (room : ℕ) (inner : Reader Ty)
    (inside : (r : ℕ) → room ≡ suc r → (more : List GrammarItem) (f : Front) → Works (a_type r ∷ more) f (λ t. hand (type_depth t) more) (inner f)) where
  parts_work : (r : ℕ) → room ≡ suc r → (start : ℕ) (rest : List GrammarItem) (left : ℕ) (done : List Ty) (f : Front)
      → Works (behind_next r start left (largest_by type_depth done) ∷ rest) f (λ ts. sym symbols.ParenClose ∷ lists start (1 + largest_by type_depth ts) ∷ rest)
      (more inner begins_type symbols.Star limits.Parts wanted.AType left done f)
  unfolding more step
  parts_work r e start rest zero done f =
      let next : List Ty → List GrammarItem = λ ts. sym symbols.ParenClose ∷ lists start (1 + largest_by type_depth ts) ∷ rest in
      begin (behind_next r start 0 (largest_by type_depth done)) rest f next _ (both (is_symbol symbols.Star f) _ _ next _ _ (stops _ next) (goes_on (given_works next done f)))
  parts_work r e start rest (suc left) done f =
      let next : List Ty → List GrammarItem = λ ts. sym symbols.ParenClose ∷ lists start (1 + largest_by type_depth ts) ∷ rest in
      begin (behind_next r start (suc left) (largest_by type_depth done)) rest f next _ (both (is_symbol symbols.Star f) _ _ next _ _
      (goes_on (after (a_type r ∷ next_type r start left (largest_by type_depth done) ∷ rest) (behind f)
      (λ t. behind_next r start left (max (largest_by type_depth done) (type_depth t)) ∷ rest) next (inner (behind f)) _
      (inside r e (next_type r start left (largest_by type_depth done) ∷ rest) (behind f))
      (λ t g. subst (λ d. Works (behind_next r start left d ∷ rest) g next (more inner begins_type symbols.Star limits.Parts wanted.AType left (done ++ t ∷ []) g))
      (deepest_last done t) (parts_work r e start rest left (done ++ t ∷ []) g))))
      (goes_on (given_works next done f)))

  abbrev Based : ℕ → List GrammarItem → Ty → List GrammarItem
  Based start more t = lists start (type_depth t) ∷ more

  tuple_works : (r : ℕ) → room ≡ suc r → (start : ℕ) (rest : List GrammarItem) (first : Ty) (f : Front)
      → Works (behind_next r start 7 (type_depth first) ∷ rest) f (Based start rest) (tuple_type inner room first f)
  unfolding tuple_type
  tuple_works r e start rest first f =
      after (behind_next r start 7 (type_depth first) ∷ rest) f (λ ts. sym symbols.ParenClose ∷ lists start (1 + largest_by type_depth ts) ∷ rest) (Based start rest)
      (more inner begins_type symbols.Star limits.Parts wanted.AType 7 (first ∷ []) f) _
      (subst (λ d. Works (behind_next r start 7 d ∷ rest) f (λ ts. sym symbols.ParenClose ∷ lists start (1 + largest_by type_depth ts) ∷ rest)
      (more inner begins_type symbols.Star limits.Parts wanted.AType 7 (first ∷ []) f)) (alone (type_depth first)) (parts_work r e start rest 7 (first ∷ []) f))
      (λ ts g. symbol_works symbols.ParenClose (lists start (1 + largest_by type_depth ts) ∷ rest) g (Based start rest) _
      (subst (λ d. Works (lists start d ∷ rest) (behind g) (Based start rest) (Ok (ty.Tuple ts, behind g))) (depth_of_tuple ts) (given_works (Based start rest) (ty.Tuple ts) (behind g))))
    where
      alone : (d : ℕ) → max 0 d ≡ d
      alone d = omega arith

  single_works : (start : ℕ) (rest : List GrammarItem) (first : Ty) (f : Front)
      → Works (sym symbols.ParenClose ∷ lists start (type_depth first) ∷ rest) f (Based start rest) (single_type inner room first f)
  unfolding single_type
  single_works start rest first f = symbol_works symbols.ParenClose (lists start (type_depth first) ∷ rest) f (Based start rest) _ (given_works (Based start rest) first (behind f))

  behind_first_works : (r : ℕ) → room ≡ suc r → (start : ℕ) (rest : List GrammarItem) (first : Ty) (f : Front)
      → Works (behind_first r start (type_depth first) ∷ rest) f (Based start rest) (if is_symbol symbols.Star f then tuple_type inner room first f else single_type inner room first f)
  unfolding step
  behind_first_works r e start rest first f =
      begin (behind_first r start (type_depth first)) rest f (Based start rest) _
      (both (is_symbol symbols.Star f) _ _ (Based start rest) _ _ (goes_on (tuple_works r e start rest first f)) (goes_on (single_works start rest first f)))

  group_works : (rest : List GrammarItem) (f : Front)
      → Follows (enter room f (λ q. a_type q ∷ first_type q (place f) ∷ rest) (behind f)) (Based (place f) rest) (group_type inner room f)
  unfolding group_type
  group_works rest f =
      enters room f (λ q. a_type q ∷ first_type q (place f) ∷ rest) (behind f) (Based (place f) rest) _
      (λ r e. after (a_type r ∷ first_type r (place f) ∷ rest) (behind f) (λ t. behind_first r (place f) (type_depth t) ∷ rest) (Based (place f) rest) (inner (behind f)) _
      (inside r e (first_type r (place f) ∷ rest) (behind f)) (λ t g. behind_first_works r e (place f) rest t g))

  named_works : (rest : List GrammarItem) (f : Front) (o : Option Ty) → Follows (type_step rest f o) (Based (place f) rest) (type_or_fault f o)
  named_works rest f (Some t) = goes_on (given_works (Based (place f) rest) t (behind f))
  named_works rest f None = stops _ (Based (place f) rest)

  base_works : (rest : List GrammarItem) (f : Front) → Works (a_type room ∷ rest) f (Based (place f) rest) (base_type inner room f)
  unfolding base_type step
  base_works rest f =
      begin (a_type room) rest f (Based (place f) rest) _
      (both (is_symbol symbols.ParenOpen f) _ _ (Based (place f) rest) _ _ (group_works rest f) (named_works rest f (kind_type (next_kind f))))

  tail_works : (rest : List GrammarItem) (start : ℕ) (base : Ty) (g : Front)
      → Works (lists start (type_depth base) ∷ rest) g (λ t. hand (type_depth t) rest) (judged_type start (list_words g) base >>= left_behind (behind_lists g))
  unfolding list_words behind_lists
  tail_works rest start base g =
      subst (λ d. Works (lists start d ∷ rest) g (λ t. hand (type_depth t) rest) (Ends start g.end base rest (after_lists 0 g.tokens)))
      (let e : type_depth base + 0 ≡ type_depth base = omega arith in e) (words_work start g.end base rest g.tokens 0)

  pub whole_works : (rest : List GrammarItem) (f : Front) → Works (a_type room ∷ rest) f (λ t. hand (type_depth t) rest) (whole_type inner room f)
  unfolding whole_type
  whole_works rest f =
      after (a_type room ∷ rest) f (Based (place f) rest) (λ t. hand (type_depth t) rest) (base_type inner room f) _ (base_works rest f) (λ base g. tail_works rest (place f) base g)

-- the reading of a type works off its agenda
pub types_work : (r : ℕ) (more : List GrammarItem) (f : Front) → Works (a_type r ∷ more) f (λ t. hand (type_depth t) more) (type_to (suc r) f)
unfolding type_to
types_work zero more f = whole_works 0 (type_to 0) (λ r e m g. absurd (let none : 0 ≡ suc r = e in omega (arith, none))) more f
types_work (suc r) more f =
    whole_works (suc r) (type_to (suc r))
    (λ s e m g. subst (λ k. Works (a_type k ∷ m) g (λ t. hand (type_depth t) m) (type_to (suc r) g)) (let same : suc r ≡ suc s = e in omega (arith, same)) (types_work r m g)) more f
