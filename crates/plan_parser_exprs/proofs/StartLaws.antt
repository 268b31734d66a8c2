-- An operand is read by what it begins with.
use Rattle.std.proofs.Common.{◌≡◌, ℕ, Option, Some, refl, sym, ap}
use Rattle.plan_lexer.specs.declared.token.TokenKind.{TokenKind}
use Rattle.plan_lexer.specs.declared.token.TokenKind.TheVariants as kinds
use Rattle.plan_lexer.specs.declared.token.Key.{Key}
use Rattle.plan_lexer.specs.declared.token.Key.TheVariants as keys
use Rattle.plan_lexer.specs.declared.token.Symbol.{Symbol}
use Rattle.plan_lexer.specs.declared.token.Symbol.TheVariants as symbols
use Rattle.plan_parser_exprs.specs.declared.level.Level.{Level}
use Rattle.plan_parser_exprs.specs.declared.node.Node.{Node}
use Rattle.plan_parser_exprs.specs.Ahead.{Front, Reader, next_kind}
use Rattle.plan_parser_exprs.specs.Exprs.{literal, literal_from, key_form, symbol_form, operand_kind, operand}
use Rattle.plan_parser_exprs.specs.Starts.{key_start, symbol_start, start_of, start_at}

module _ (inner : Level → Reader Node) (room : ℕ) (f : Front) where
  same_literal : (o : Option TokenKind) → next_kind f ≡ o → literal_from f (literal o) ≡ literal_from f (literal (next_kind f))
  same_literal o e = ap (λ k. literal_from f (literal k)) (sym e)

  by_key : (k : Key) → next_kind f ≡ Some (kinds.Key k) → key_form inner room k f ≡ start_at inner room (key_start k) f
  unfolding key_form
  by_key keys.Let e = refl
  by_key keys.Try e = refl
  by_key keys.Raise e = refl
  by_key keys.Foldl e = refl
  by_key keys.Foldr e = refl
  by_key keys.Eval e = refl
  by_key keys.OnRemote e = refl
  by_key keys.OnNeighbor e = refl
  by_key k e = same_literal (Some (kinds.Key k)) e

  by_symbol : (s : Symbol) → next_kind f ≡ Some (kinds.Symbol s) → symbol_form inner room s f ≡ start_at inner room (symbol_start s) f
  unfolding symbol_form
  by_symbol symbols.ParenOpen e = refl
  by_symbol symbols.BracketOpen e = refl
  by_symbol symbols.Bar e = refl
  by_symbol s e = same_literal (Some (kinds.Symbol s)) e

  by_kind : (k : Option TokenKind) → next_kind f ≡ k → operand_kind inner room f k ≡ start_at inner room (start_of k) f
  by_kind (Some (kinds.Word n)) e = refl
  by_kind (Some (kinds.Key k)) e = by_key k e
  by_kind (Some (kinds.Symbol s)) e = by_symbol s e
  by_kind (Some (kinds.Part i)) e = refl
  by_kind k e = same_literal k e

  pub operand_is : operand inner room f ≡ start_at inner room (start_of (next_kind f)) f
  unfolding operand
  operand_is = by_kind (next_kind f) refl
