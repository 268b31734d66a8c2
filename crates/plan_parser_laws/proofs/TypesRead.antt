-- A type that is read is a type of the grammar.
use Rattle.std.proofs.Common.{◌≡◌, ◌+◌, ◌≤◌, ℕ, zero, suc, Bool, true, false, List, [], ◌∷◌, length, Option, Some, None, Ok, Err, if◌then◌else◌, nat_lt, refl, sym, ◌∙◌, ap, subst, arith, ltb-false}
use Rattle.plan_base.specs.declared.limit.Limit.TheVariants as limits
use Rattle.plan_base.specs.declared.tree.Ty.{Ty}
use Rattle.plan_base.specs.declared.tree.Ty.TheVariants as ty
use Rattle.plan_base.specs.Sizes.{type_depth, type_depth_level}
use Rattle.plan_base.proofs.SizeLaws.{type_depth_out}
use Rattle.plan_lexer.specs.declared.token.Token.{Token}
use Rattle.plan_lexer.specs.declared.token.Key.TheVariants as keys
use Rattle.plan_lexer.specs.declared.token.Symbol.TheVariants as symbols
use Rattle.plan_parser_exprs.specs.declared.fault.ParseFault.TheVariants.{TooDeep}
use Rattle.plan_parser_exprs.specs.declared.fault.Wanted.TheVariants as wanted
use Rattle.plan_parser_exprs.specs.Ahead.{Front, Reader, ◌>>=◌, place, behind, next_kind}
use Rattle.plan_parser_exprs.specs.Begins.{kind_type, begins_type}
use Rattle.plan_parser_exprs.specs.Types.{more, type_or_fault, is_list_word, after_lists, list_words, behind_lists, lists_of, judged_type, tuple_type, single_type, group_type, base_type, whole_type, type_to}
use Rattle.plan_parser_laws.specs.Grammar as gram
use Rattle.plan_parser_laws.specs.Grammar.{Sym, TypeAt, ListsAt, BaseAt, PartsAt}
use Rattle.plan_parser_laws.proofs.TokenFacts.{key_stands, star_is_no_bracket}
use Rattle.plan_parser_laws.proofs.ReadSteps.{Reads, found_reads, refusal_reads, after, if_symbol, symbol_then, opening_reads}
use Rattle.plan_parser_laws.proofs.ReadLists.{Added, more_reads}

-- the depth of lists of lists
depth_of_list : (u : Ty) → type_depth (ty.List u) ≡ 1 + type_depth u
depth_of_list u = type_depth_out (ty.List u) ∙ ap (type_depth_level type_depth) (ty.outs-List u)

pub depth_of_lists : (n : ℕ) (t : Ty) → type_depth (lists_of n t) ≡ type_depth t + n
depth_of_lists zero t = omega arith
depth_of_lists (suc n) t = let e = depth_of_lists n (ty.List t) in let d = depth_of_list t in omega (arith, e, d)

-- the last level of a list of lists
lists_next : (n : ℕ) (t : Ty) → lists_of (suc n) t ≡ ty.List (lists_of n t)
lists_next zero t = refl
lists_next (suc n) t = lists_next n (ty.List t)

pub lists_last : (n : ℕ) (t : Ty) → lists_of (n + 1) t ≡ ty.List (lists_of n t)
lists_last n t = let e : n + 1 ≡ suc n = omega arith in ap (λ k. lists_of k t) e ∙ lists_next n t

abbrev at_end : ℕ → List Token → Front
at_end end ts = record { tokens = ts; end = end }

module _ (r end : ℕ) (f : Front) (base : Ty) where
  -- the words `list` that are counted are levels
  pub words_read : (ts : List Token) (n : ℕ) → ListsAt r f (lists_of n base) (at_end end ts)
      → ListsAt r f (lists_of ((after_lists n ts).0) base) (at_end end ((after_lists n ts).1))
  unfolding behind next_kind
  words_read [] n d = d
  words_read (t ∷ ts) n d = go (λ k. words_read ts (n + 1) k) (is_list_word t) refl
    where
      go : (ListsAt r f (lists_of (n + 1) base) (at_end end ts) → ListsAt r f (lists_of ((after_lists (n + 1) ts).0) base) (at_end end ((after_lists (n + 1) ts).1)))
          → (b : Bool) → is_list_word t ≡ b
          → ListsAt r f (lists_of ((if b then after_lists (n + 1) ts else (n, t ∷ ts)).0) base) (at_end end ((if b then after_lists (n + 1) ts else (n, t ∷ ts)).1))
      go on true e =
          on (subst (λ u. ListsAt r f u (at_end end ts)) (sym (lists_last n base)) (gram.list_type d (key_stands keys.List (Some t.kind) e)))
      go on false e = d

no_parts : {r : ℕ} {f g : Front} → PartsAt r f [] g → g ≡ f
no_parts gram.no_part = refl

module _ (room : ℕ) (inner : Reader Ty) (inside : (r : ℕ) → room ≡ suc r → (f : Front) → Reads (TypeAt r f) (inner f)) where
  parts_reads : (r : ℕ) → room ≡ suc r → (first : Ty) (f : Front) → Reads (Added (PartsAt r) 7 (first ∷ []) f) (more inner begins_type symbols.Star limits.Parts wanted.AType 7 (first ∷ []) f)
  parts_reads r e first f =
      more_reads inner begins_type symbols.Star limits.Parts wanted.AType (TypeAt r) (PartsAt r) (λ g. gram.no_part) (λ g h i t ts here one many. gram.one_part here one many) (inside r e) 7 (first ∷ []) f

  tuple_reads : (r : ℕ) → room ≡ suc r → (f g : Front) (first : Ty) → Sym symbols.ParenOpen f → TypeAt r (behind f) first g → Sym symbols.Star g
      → Reads (BaseAt (suc r) f) (tuple_type inner room first g)
  unfolding tuple_type
  tuple_reads r e f g first here one star =
      after (Added (PartsAt r) 7 (first ∷ []) g) (BaseAt (suc r) f) (more inner begins_type symbols.Star limits.Parts wanted.AType 7 (first ∷ []) g) _ (parts_reads r e first g)
      (λ all h a. symbol_then (BaseAt (suc r) f) symbols.ParenClose h _
      (λ shut. found_reads (BaseAt (suc r) f) (ty.Tuple all) (behind h) (closed_reads_tuple a.rest all h a.is a.many a.few shut)))
    where
      closed_reads_tuple : (rest all : List Ty) (h : Front) → all ≡ first ∷ rest → PartsAt r g rest h → length rest ≤ 7 → Sym symbols.ParenClose h → BaseAt (suc r) f (ty.Tuple all) (behind h)
      closed_reads_tuple [] all h is many few shut = absurd (star_is_no_bracket star (subst (λ k. Sym symbols.ParenClose k) (no_parts many) shut))
      closed_reads_tuple (u ∷ ts) all h is many few shut = subst (λ us. BaseAt (suc r) f (ty.Tuple us) (behind h)) (sym is) (gram.tuple_type here one many few shut)

  single_reads : (r : ℕ) (f g : Front) (first : Ty) → Sym symbols.ParenOpen f → TypeAt r (behind f) first g
      → Reads (BaseAt (suc r) f) (single_type inner room first g)
  unfolding single_type
  single_reads r f g first here one =
      symbol_then (BaseAt (suc r) f) symbols.ParenClose g _ (λ shut. found_reads (BaseAt (suc r) f) first (behind g) (gram.type_in_brackets here one shut))

  group_reads : (f : Front) → Sym symbols.ParenOpen f → Reads (BaseAt room f) (group_type inner room f)
  unfolding group_type
  group_reads f here = opening_reads (λ s. BaseAt s f) room f _
      (λ r e. after (TypeAt r (behind f)) (BaseAt (suc r) f) (inner (behind f)) _ (inside r e (behind f))
      (λ first g one. if_symbol (BaseAt (suc r) f) symbols.Star g _ _ (tuple_reads r e f g first here one) (single_reads r f g first here one)))

  named_reads : (f : Front) (o : Option Ty) → kind_type (next_kind f) ≡ o → Reads (BaseAt room f) (type_or_fault f o)
  named_reads f (Some t) e = found_reads (BaseAt room f) t (behind f) (gram.named_type e)
  named_reads f None e = refusal_reads (BaseAt room f) _

  base_reads : (f : Front) → Reads (BaseAt room f) (base_type inner room f)
  unfolding base_type
  base_reads f = if_symbol (BaseAt room f) symbols.ParenOpen f _ _ (group_reads f) (named_reads f (kind_type (next_kind f)) refl)

  judged_reads : (f g : Front) (base : Ty) → BaseAt room f base g
      → Reads (TypeAt room f) (judged_type (place f) (list_words g) base >>= λ t. Ok (t, behind_lists g))
  unfolding judged_type list_words behind_lists Reads
  judged_reads f g base d = go (nat_lt 8 (type_depth base + (after_lists 0 g.tokens).0)) refl
    where
      go : (b : Bool) → nat_lt 8 (type_depth base + (after_lists 0 g.tokens).0) ≡ b
          → Reads (TypeAt room f) ((if b then Err (TooDeep (place f)) else Ok (lists_of ((after_lists 0 g.tokens).0) base)) >>= λ t. Ok (t, record g { tokens = (after_lists 0 g.tokens).1 }))
      go true e = tt
      go false e =
          let within = ltb-false _ _ e in
          let deep = depth_of_lists ((after_lists 0 g.tokens).0) base in
          gram.a_type (words_read room g.end f base g.tokens 0 (gram.base_type d)) (omega (arith, within, deep))

  pub whole_reads : (f : Front) → Reads (TypeAt room f) (whole_type inner room f)
  unfolding whole_type
  whole_reads f = after (BaseAt room f) (TypeAt room f) (base_type inner room f) _ (base_reads f) (λ base g d. judged_reads f g base d)

-- a type that is read is one
pub types_read : (r : ℕ) (f : Front) → Reads (TypeAt r f) (type_to (suc r) f)
unfolding type_to
types_read zero f = whole_reads 0 (type_to 0) (λ r e. absurd (let no : 0 ≡ suc r = e in omega (arith, no))) f
types_read (suc r) f = whole_reads (suc r) (type_to (suc r)) (λ s e g. subst (λ k. Reads (TypeAt k g) (type_to (suc r) g)) (let same : suc r ≡ suc s = e in omega (arith, same)) (types_read r g)) f
