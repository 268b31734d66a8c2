-- What the next token rules out: that an expression goes on, or that something else begins.
use Rattle.std.proofs.Common.{◌≡◌, ◌<◌, ◌≤◌, ◌||◌, ℕ, Bool, true, false, List, [], ◌∷◌, drop, length, Option, Some, None, refl, ap, subst, arith, eq-eqb}
use Rattle.plan_base.specs.declared.tree.Expr.{Expr}
use Rattle.plan_lexer.specs.declared.token.Token.{Token}
use Rattle.plan_lexer.specs.declared.token.TokenKind.{TokenKind}
use Rattle.plan_lexer.specs.declared.token.TokenKind.TheVariants as kinds
use Rattle.plan_lexer.specs.declared.token.Key.{Key}
use Rattle.plan_lexer.specs.declared.token.Key.TheVariants as keys
use Rattle.plan_lexer.specs.declared.token.Symbol.{Symbol}
use Rattle.plan_lexer.specs.declared.token.Symbol.TheVariants as symbols
use Rattle.plan_parser_exprs.specs.declared.joint.Joint.{Joint}
use Rattle.plan_parser_exprs.specs.declared.joint.Chain.{Chain}
use Rattle.plan_parser_exprs.specs.declared.joint.Chain.TheVariants as chains
use Rattle.plan_parser_exprs.specs.Ahead.{Front, behind, kind_in, next_kind, is_symbol_kind, is_symbol, is_key_kind, is_key}
use Rattle.plan_parser_exprs.specs.Begins.{key_begins, symbol_begins, kind_begins, begins_operand, begins_negated, begins_expr}
use Rattle.plan_parser_exprs.specs.Joints.{joint_of}
use Rattle.plan_parser_exprs.specs.Exprs.{literal}
use Rattle.plan_parser_laws.specs.Grammar.{Sym}
use Rattle.plan_parser_laws.specs.Follow.{symbol_level, level}
use Rattle.plan_parser_laws.proofs.TokenFacts.{symbol_stands, key_stands}

-- the level of each chain
abbrev pub chain_level : Chain → ℕ
chain_level chains.Product = 1
chain_level chains.Sum = 2
chain_level chains.Comparison = 4
chain_level chains.And = 5
chain_level chains.Or = 6

product_level : (o : Option TokenKind) (j : Joint) → joint_of chains.Product o ≡ Some j → level o ≡ chain_level chains.Product
product_level (Some (kinds.Symbol symbols.Star)) j e = refl
product_level (Some (kinds.Symbol symbols.Slash)) j e = refl
product_level (Some (kinds.Key keys.Mod)) j e = refl
product_level _ j e = cc

sum_level : (o : Option TokenKind) (j : Joint) → joint_of chains.Sum o ≡ Some j → level o ≡ chain_level chains.Sum
sum_level (Some (kinds.Symbol symbols.Plus)) j e = refl
sum_level (Some (kinds.Symbol symbols.Minus)) j e = refl
sum_level (Some (kinds.Symbol symbols.Caret)) j e = refl
sum_level _ j e = cc

comparison_level : (o : Option TokenKind) (j : Joint) → joint_of chains.Comparison o ≡ Some j → level o ≡ chain_level chains.Comparison
comparison_level (Some (kinds.Symbol symbols.Equal)) j e = refl
comparison_level (Some (kinds.Symbol symbols.NotEqual)) j e = refl
comparison_level (Some (kinds.Symbol symbols.Less)) j e = refl
comparison_level (Some (kinds.Symbol symbols.LessEqual)) j e = refl
comparison_level (Some (kinds.Symbol symbols.Greater)) j e = refl
comparison_level (Some (kinds.Symbol symbols.GreaterEqual)) j e = refl
comparison_level _ j e = cc

and_level : (o : Option TokenKind) (j : Joint) → joint_of chains.And o ≡ Some j → level o ≡ chain_level chains.And
and_level (Some (kinds.Key keys.And)) j e = refl
and_level _ j e = cc

or_level : (o : Option TokenKind) (j : Joint) → joint_of chains.Or o ≡ Some j → level o ≡ chain_level chains.Or
or_level (Some (kinds.Key keys.Or)) j e = refl
or_level _ j e = cc

-- a joint has the level of its chain
pub joint_level : (c : Chain) (o : Option TokenKind) (j : Joint) → joint_of c o ≡ Some j → level o ≡ chain_level c
joint_level chains.Product o j e = product_level o j e
joint_level chains.Sum o j e = sum_level o j e
joint_level chains.Comparison o j e = comparison_level o j e
joint_level chains.And o j e = and_level o j e
joint_level chains.Or o j e = or_level o j e

-- a token of a looser level is no joint
pub no_joint : (c : Chain) (o : Option TokenKind) → chain_level c < level o → joint_of c o ≡ None
no_joint c o h = go (joint_of c o) refl
  where
    go : (j : Option Joint) → joint_of c o ≡ j → joint_of c o ≡ None
    go None e = e
    go (Some j) e = let same = joint_level c o j e in absurd (omega (arith, same, h))

-- nor is it a symbol of that level
pub no_symbol : (w : Symbol) (f : Front) → symbol_level w < level (next_kind f) → is_symbol w f ≡ false
unfolding is_symbol
no_symbol w f h = go (is_symbol_kind w (next_kind f)) refl
  where
    go : (b : Bool) → is_symbol_kind w (next_kind f) ≡ b → is_symbol_kind w (next_kind f) ≡ false
    go false e = e
    go true e = let same : level (next_kind f) ≡ symbol_level w = ap level (symbol_stands w (next_kind f) e) in absurd (omega (arith, same, h))

-- where an expression begins, no symbol and no word stands that begins none
pub starts_no_symbol : (w : Symbol) (f : Front) → begins_expr f ≡ true → symbol_begins w ≡ false → is_symbol w f ≡ false
unfolding begins_expr begins_negated begins_operand is_symbol is_key
starts_no_symbol w f h none = go (is_symbol_kind w (next_kind f)) refl
  where
    clash : symbol_begins w ≡ true → is_symbol_kind w (next_kind f) ≡ false
    clash k = cc

    go : (b : Bool) → is_symbol_kind w (next_kind f) ≡ b → is_symbol_kind w (next_kind f) ≡ false
    go false e = e
    go true e = clash (rw (symbol_stands w (next_kind f) e) at h)

pub operand_no_key : (w : Key) (f : Front) → begins_operand f ≡ true → key_begins w ≡ false → is_key w f ≡ false
unfolding begins_operand is_key
operand_no_key w f h none = go (is_key_kind w (next_kind f)) refl
  where
    clash : key_begins w ≡ true → is_key_kind w (next_kind f) ≡ false
    clash k = cc

    go : (b : Bool) → is_key_kind w (next_kind f) ≡ b → is_key_kind w (next_kind f) ≡ false
    go false e = e
    go true e = clash (rw (key_stands w (next_kind f) e) at h)

pub negated_no_if : (f : Front) → begins_negated f ≡ true → is_key keys.If f ≡ false
unfolding begins_negated begins_operand is_key
negated_no_if f h = go (is_key_kind keys.If (next_kind f)) refl
  where
    clash : false ≡ true → is_key_kind keys.If (next_kind f) ≡ false
    clash k = cc

    go : (b : Bool) → is_key_kind keys.If (next_kind f) ≡ b → is_key_kind keys.If (next_kind f) ≡ false
    go false e = e
    go true e = clash (rw (key_stands keys.If (next_kind f) e) at h)

pub literal_begins : (o : Option TokenKind) (e : Expr) → literal o ≡ Some e → kind_begins o ≡ true
literal_begins (Some (kinds.Int n)) e h = refl
literal_begins (Some (kinds.Host n)) e h = refl
literal_begins (Some (kinds.Dev n)) e h = refl
literal_begins (Some (kinds.Char n)) e h = refl
literal_begins (Some (kinds.Str n)) e h = refl
literal_begins (Some (kinds.Blob n)) e h = refl
literal_begins (Some (kinds.Key keys.True)) e h = refl
literal_begins (Some (kinds.Key keys.False)) e h = refl
literal_begins _ e h = cc

pub or_right : (a b : Bool) → b ≡ true → (a || b) ≡ true
or_right true b h = refl
or_right false b h = h

-- fewer tokens are left, or no more
pub record Shorter (f g : Front) : Type 0 where
  pub less : length g.tokens < length f.tokens

pub record NotLonger (f g : Front) : Type 0 where
  pub most : length g.tokens ≤ length f.tokens

-- a token that stands there is one of those that are left
one_less : (ts : List Token) (k : TokenKind) → kind_in ts ≡ Some k → length (drop 1 ts) < length ts
one_less [] k h = cc
one_less (t ∷ ts) k h = omega arith

stands_less : (f : Front) (k : TokenKind) → next_kind f ≡ Some k → Shorter f (behind f)
unfolding next_kind behind
stands_less f k e = record { less = one_less f.tokens k e }

pub skip : {f : Front} {k : TokenKind} → next_kind f ≡ Some k → Shorter f (behind f)
skip {f} {k} e = stands_less f k e

pub onward : {f g h : Front} → Shorter f g → Shorter g h → Shorter f h
onward a b = record { less = (let x = a.less in let y = b.less in omega (arith, x, y)) }

pub onward_most : {f g h : Front} → Shorter f g → NotLonger g h → Shorter f h
onward_most a b = record { less = (let x = a.less in let y = b.most in omega (arith, x, y)) }

pub onward_more : {f g h : Front} → NotLonger f g → Shorter g h → Shorter f h
onward_more a b = record { less = (let x = a.most in let y = b.less in omega (arith, x, y)) }

pub at_most : {f g : Front} → Shorter f g → NotLonger f g
at_most a = record { most = (let x = a.less in omega (arith, x)) }

pub not_longer : {f : Front} → NotLonger f f
not_longer = record { most = omega arith }

no_joint_at_end : (d : Chain) (i : Joint) → joint_of d None ≡ Some i → ⊥
no_joint_at_end d i n = cc

pub joint_stands : (c : Chain) (f : Front) (j : Joint) → joint_of c (next_kind f) ≡ Some j → Shorter f (behind f)
joint_stands c f j e = go (next_kind f) refl
  where
    go : (o : Option TokenKind) → next_kind f ≡ o → Shorter f (behind f)
    go (Some k) h = skip h
    go None h = absurd (no_joint_at_end c j (subst (λ o. joint_of c o ≡ Some j) h e))

-- what a symbol or a word that stands next says
same_symbol : (s : Symbol) → is_symbol_kind s (Some (kinds.Symbol s)) ≡ true
same_symbol s = eq-eqb _ _ refl

pub symbol_here : {w : Symbol} (f : Front) → Sym w f → is_symbol w f ≡ true
unfolding is_symbol
symbol_here {w} f e = rw e (same_symbol w)
