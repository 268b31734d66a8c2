-- What joins two operands, and at which level.
use Rattle.std.specs.Prelude.{Option, Some, None}
use Rattle.plan_base.specs.declared.tree.Op.{Op}
use Rattle.plan_base.specs.declared.tree.Op.TheVariants as ops
use Rattle.plan_base.specs.declared.tree.Expr.{Expr}
use Rattle.plan_base.specs.declared.tree.Expr.TheVariants as x
use Rattle.plan_lexer.specs.declared.token.TokenKind.{TokenKind}
use Rattle.plan_lexer.specs.declared.token.TokenKind.TheVariants as kinds
use Rattle.plan_lexer.specs.declared.token.Key.{Key}
use Rattle.plan_lexer.specs.declared.token.Key.TheVariants as keys
use Rattle.plan_lexer.specs.declared.token.Symbol.{Symbol}
use Rattle.plan_lexer.specs.declared.token.Symbol.TheVariants as symbols
use Rattle.plan_parser_exprs.specs.declared.joint.Joint.{Joint}
use Rattle.plan_parser_exprs.specs.declared.joint.Joint.TheVariants as joints
use Rattle.plan_parser_exprs.specs.declared.joint.Chain.{Chain}
use Rattle.plan_parser_exprs.specs.declared.joint.Chain.TheVariants as chains

-- the operators that multiply
abbrev pub product_symbol : Symbol → Option Joint
product_symbol symbols.Star = Some (joints.Operator ops.Mul)
product_symbol symbols.Slash = Some (joints.Operator ops.Div)
product_symbol _ = None

-- the operators that add
abbrev pub sum_symbol : Symbol → Option Joint
sum_symbol symbols.Plus = Some (joints.Operator ops.Add)
sum_symbol symbols.Minus = Some (joints.Operator ops.Sub)
sum_symbol symbols.Caret = Some (joints.Operator ops.Cat)
sum_symbol _ = None

-- the operators that compare
abbrev pub compared_symbol : Symbol → Option Joint
compared_symbol symbols.Equal = Some (joints.Operator ops.Eq)
compared_symbol symbols.NotEqual = Some (joints.Operator ops.Ne)
compared_symbol symbols.Less = Some (joints.Operator ops.Lt)
compared_symbol symbols.LessEqual = Some (joints.Operator ops.Le)
compared_symbol symbols.Greater = Some (joints.Operator ops.Gt)
compared_symbol symbols.GreaterEqual = Some (joints.Operator ops.Ge)
compared_symbol _ = None

-- the joint of a symbol at a level
abbrev pub symbol_joint : Chain → Symbol → Option Joint
symbol_joint chains.Product s = product_symbol s
symbol_joint chains.Sum s = sum_symbol s
symbol_joint chains.Comparison s = compared_symbol s
symbol_joint chains.And s = None
symbol_joint chains.Or s = None

-- `mod` multiplies
abbrev pub product_key : Key → Option Joint
product_key keys.Mod = Some (joints.Operator ops.Mod)
product_key _ = None

abbrev pub and_key : Key → Option Joint
and_key keys.And = Some joints.And
and_key _ = None

abbrev pub or_key : Key → Option Joint
or_key keys.Or = Some joints.Or
or_key _ = None

-- the joint of a reserved word at a level
abbrev pub key_joint : Chain → Key → Option Joint
key_joint chains.Product k = product_key k
key_joint chains.And k = and_key k
key_joint chains.Or k = or_key k
key_joint chains.Sum k = None
key_joint chains.Comparison k = None

-- the joint of a token at a level
abbrev pub joint_of : Chain → Option TokenKind → Option Joint
joint_of chain (Some (kinds.Symbol s)) = symbol_joint chain s
joint_of chain (Some (kinds.Key k)) = key_joint chain k
joint_of chain _ = None

-- two operands with their joint
abbrev pub joined_tree : Joint → Expr → Expr → Expr
joined_tree (joints.Operator op) a b = x.Binary op a b
joined_tree joints.And a b = x.And a b
joined_tree joints.Or a b = x.Or a b
