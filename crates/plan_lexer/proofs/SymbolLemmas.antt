-- The symbol that a text begins with, by its first two bytes.
use Rattle.std.proofs.Common.{◌≡◌, ℕ, ◌≤◌, Bool, true, cond, ◌&&◌, List, [], ◌∷◌, length, get_or, Option, Some, None, refl, sym, ap, ◌∙◌, eqb, arith}
use Rattle.std.specs.Prelude.{IfSome}
use Rattle.std.proofs.lemmas.Bool.Decides.{nat_tests}
use Rattle.std.proofs.lemmas.List.{length-take}
use Rattle.plan_lexer.specs.Tables.{symbol_text, symbol_at, single, symbol_of}
use Rattle.plan_lexer.specs.declared.token.Symbol.{Symbol}
use Rattle.plan_lexer.specs.declared.token.Symbol.TheVariants as symbol
use Rattle.plan_lexer.proofs.FrontLemmas.{symbol_found}

one : (c a : ℕ) → (eqb c a && true) ≡ eqb a c
one c a = grind (arith, nat_tests)

two : (c d a b : ℕ) → (eqb c a && (eqb d b && true)) ≡ (eqb a c && eqb b d)
two c d a b = grind (arith, nat_tests)

or_next : {p q : Bool} {m n : Option Symbol} (s : Symbol) → p ≡ q → m ≡ n → cond p (Some s) m ≡ cond q (Some s) n
or_next s e f = λ i. cond (e i) (Some s) (f i)

pair_is : (a b : ℕ) → symbol_at (a ∷ b ∷ []) ≡ symbol_of a b
unfolding symbol_at symbol_text symbol_of single
pair_is a b =
    or_next symbol.DoubleColon (two 58 58 a b) (or_next symbol.NotEqual (two 60 62 a b)
    (or_next symbol.LessEqual (two 60 61 a b) (or_next symbol.GreaterEqual (two 62 61 a b)
    (or_next symbol.Arrow (two 45 62 a b) (or_next symbol.FatArrow (two 61 62 a b)
    (or_next symbol.ParenOpen (one 40 a) (or_next symbol.ParenClose (one 41 a)
    (or_next symbol.BracketOpen (one 91 a) (or_next symbol.BracketClose (one 93 a)
    (or_next symbol.Comma (one 44 a) (or_next symbol.Semicolon (one 59 a)
    (or_next symbol.Colon (one 58 a) (or_next symbol.Equal (one 61 a)
    (or_next symbol.Less (one 60 a) (or_next symbol.Greater (one 62 a)
    (or_next symbol.Plus (one 43 a) (or_next symbol.Minus (one 45 a)
    (or_next symbol.Star (one 42 a) (or_next symbol.Slash (one 47 a)
    (or_next symbol.Caret (one 94 a) (or_next symbol.Bar (one 124 a)
    (or_next symbol.Underscore (one 95 a) refl))))))))))))))))))))))

-- no symbol has a third byte
first_two : (text : List ℕ) → symbol_at text ≡ symbol_at (get_or text 0 0 ∷ get_or text 1 0 ∷ [])
unfolding symbol_at symbol_text
first_two [] = refl
first_two (a ∷ []) = refl
first_two (a ∷ b ∷ more) = refl

pub by_bytes : (text : List ℕ) → symbol_of (get_or text 0 0) (get_or text 1 0) ≡ symbol_at text
by_bytes text = sym (first_two text ∙ pair_is (get_or text 0 0) (get_or text 1 0))

fits_by : (text : List ℕ) (o : Option Symbol) → symbol_at text ≡ o → IfSome o (λ s. length (symbol_text s) ≤ length text)
fits_by text None e = tt
fits_by text (Some s) e =
    let long = ap length (symbol_found text s e) ∙ length-take (length (symbol_text s)) text in
    omega (arith, long)

-- a symbol is within the text that begins with it
pub symbol_fits : (text : List ℕ) → IfSome (symbol_at text) (λ s. length (symbol_text s) ≤ length text)
symbol_fits text = fits_by text (symbol_at text) refl
