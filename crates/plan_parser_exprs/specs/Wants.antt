-- How what is wanted prints.
use Rattle.std.specs.Prelude.{ℕ, List, codes}
use Rattle.plan_lexer.specs.Tables.{key_text, symbol_text}
use Rattle.plan_parser_exprs.specs.declared.fault.Wanted.{Wanted}
use Rattle.plan_parser_exprs.specs.declared.fault.Wanted.TheVariants as wanted

-- a token's spelling, or a word
abbrev pub wanted_text : Wanted → List ℕ
wanted_text (wanted.Key k) = key_text k
wanted_text (wanted.Symbol s) = symbol_text s
wanted_text wanted.AName = codes "name"
wanted_text wanted.AType = codes "type"
wanted_text wanted.AnExpr = codes "expression"
wanted_text wanted.ADecl = codes "declaration"
wanted_text wanted.AValue = codes "value"
