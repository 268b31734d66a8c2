-- What it is to read tokens by their kinds alone.
use Rattle.std.specs.Prelude.{◌≡◌, ◌+◌, false, length, [], ◌∷◌, Option, Some, None, Result, Ok}
use Rattle.plan_base.specs.declared.tree.Expr.{Expr}
use Rattle.plan_base.specs.Sizes.{expr_depth, expr_nodes}
use Rattle.plan_lexer.specs.declared.token.Key.TheVariants as keys
use Rattle.plan_lexer.specs.declared.token.Symbol.TheVariants as symbols
use Rattle.plan_lexer.specs.declared.token.TokenKind.{TokenKind}
use Rattle.plan_parser_exprs.specs.declared.fault.ParseFault.{ParseFault}
use Rattle.plan_parser_exprs.specs.declared.joint.Chain.TheVariants as chains
use Rattle.plan_parser_exprs.specs.declared.node.Node.{Node}
use Rattle.plan_parser_exprs.specs.Ahead.{Front, is_symbol_kind, is_key_kind}
use Rattle.plan_parser_exprs.specs.Joints.{joint_of}
use Rattle.program_text_laws.specs.Lexes.{kinds_of}
use Rattle.program_text_laws.specs.PrintedTokens.{Kinds}

-- the kinds of the tokens that are left
abbrev pub kinds_at : Front → Kinds
kinds_at f = kinds_of f.tokens

-- a reading that gives such a value and leaves tokens of these kinds
pub record Took {A : Type 0} (r : Result (A × Front) ParseFault) (more : Kinds) (Q : A → Type 0) : Type 0 where
  pub value : A
  pub rest : Front
  pub is : r ≡ Ok (value, rest)
  pub left : kinds_at rest ≡ more
  pub good : Q value

abbrev pub first_kind : Kinds → Option TokenKind
first_kind [] = None
first_kind (k ∷ ks) = Some k

-- what may follow a type: no `list`
abbrev pub FollowsType : Kinds → Type 0
FollowsType ks = is_key_kind keys.List (first_kind ks) ≡ false

-- the node is that expression, with its depth, and with a place for each expression in it
pub record IsNode (e : Expr) (n : Node) : Type 0 where
  pub tree : n.tree ≡ e
  pub depth : n.depth ≡ expr_depth e
  pub nodes : length n.below + 1 ≡ expr_nodes e

-- what may follow an expression: no joint of a chain, no `::`, no `;` and no opening bracket
pub record Ends (k : Option TokenKind) : Type 0 where
  pub product : joint_of chains.Product k ≡ None
  pub sum : joint_of chains.Sum k ≡ None
  pub cons : is_symbol_kind symbols.DoubleColon k ≡ false
  pub comparison : joint_of chains.Comparison k ≡ None
  pub both : joint_of chains.And k ≡ None
  pub either : joint_of chains.Or k ≡ None
  pub next : is_symbol_kind symbols.Semicolon k ≡ false
  pub call : is_symbol_kind symbols.ParenOpen k ≡ false
