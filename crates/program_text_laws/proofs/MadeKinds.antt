-- The tokens of types and expressions that are given by their trees.
use Rattle.std.proofs.Common.{◌≡◌, ℕ, ℤ, List, [], ◌∷◌, ◌++◌, ap, ◌∙◌}
use Rattle.plan_base.specs.declared.name.Name.{Name}
use Rattle.plan_base.specs.declared.tree.Ty.{Ty}
use Rattle.plan_base.specs.declared.tree.Ty.TheVariants as ty
use Rattle.plan_base.specs.declared.tree.Expr.{Expr, Expr-F}
use Rattle.plan_base.specs.declared.tree.Expr.TheVariants as x
use Rattle.plan_lexer.specs.declared.token.Key.TheVariants as key
use Rattle.plan_lexer.specs.declared.token.Symbol.TheVariants as symbol
use Rattle.plan_lexer.specs.declared.token.TokenKind.TheVariants as kind
use Rattle.plan_printer_spec.specs.Pieces.{listed_pieces}
use Rattle.program_text_laws.specs.PrintedTokens.{mark, word, name, type_kinds_level, type_kinds, comma_kinds, expr_kinds}
use Rattle.program_text_laws.specs.Written.{test_kinds_level, test_kinds, body_kinds_level, body_kinds}
use Rattle.program_text_laws.proofs.KindsOut.{type_kinds_out}
use Rattle.program_text_laws.proofs.Forms.{kinds_are}

pub unit_kinds : type_kinds ty.Unit ≡ word key.Unit
unit_kinds = type_kinds_out ty.Unit ∙ ap (type_kinds_level type_kinds) ty.outs-Unit

pub bool_kinds : type_kinds ty.Bool ≡ word key.Bool
bool_kinds = type_kinds_out ty.Bool ∙ ap (type_kinds_level type_kinds) ty.outs-Bool

pub int_kinds : type_kinds ty.Int ≡ word key.Int
int_kinds = type_kinds_out ty.Int ∙ ap (type_kinds_level type_kinds) ty.outs-Int

pub str_kinds : type_kinds ty.Str ≡ word key.Str
str_kinds = type_kinds_out ty.Str ∙ ap (type_kinds_level type_kinds) ty.outs-Str

pub blob_kinds : type_kinds ty.Blob ≡ word key.Blob
blob_kinds = type_kinds_out ty.Blob ∙ ap (type_kinds_level type_kinds) ty.outs-Blob

pub host_kinds : type_kinds ty.Host ≡ word key.Host
host_kinds = type_kinds_out ty.Host ∙ ap (type_kinds_level type_kinds) ty.outs-Host

pub tuple_type_kinds : (ts : List Ty) → type_kinds (ty.Tuple ts) ≡ mark symbol.ParenOpen ++ listed_pieces (mark symbol.Star) [] type_kinds ts ++ mark symbol.ParenClose
tuple_type_kinds ts = type_kinds_out (ty.Tuple ts) ∙ ap (type_kinds_level type_kinds) (ty.outs-Tuple ts)

pub var_kinds : (v : Name) → expr_kinds (x.Var v) ≡ name v
var_kinds v = kinds_are (x.Var v) (Expr-F.Var v) (x.outs-Var v)

pub number_kinds : (z : ℤ) → expr_kinds (x.Int z) ≡ kind.Int z ∷ []
number_kinds z = kinds_are (x.Int z) (Expr-F.Int z) (x.outs-Int z)

pub text_kinds : (s : List ℕ) → expr_kinds (x.Str s) ≡ kind.Str s ∷ []
text_kinds s = kinds_are (x.Str s) (Expr-F.Str s) (x.outs-Str s)

pub bytes_kinds : (b : List ℕ) → expr_kinds (x.Blob b) ≡ kind.Blob b ∷ []
bytes_kinds b = kinds_are (x.Blob b) (Expr-F.Blob b) (x.outs-Blob b)

pub tuple_kinds : (es : List Expr) → expr_kinds (x.Tuple es) ≡ mark symbol.ParenOpen ++ comma_kinds expr_kinds es ++ mark symbol.ParenClose
tuple_kinds es = kinds_are (x.Tuple es) (Expr-F.Tuple es) (x.outs-Tuple es)

pub call_kinds : (f : Name) (es : List Expr) → expr_kinds (x.Call f es) ≡ name f ++ mark symbol.ParenOpen ++ comma_kinds expr_kinds es ++ mark symbol.ParenClose
call_kinds f es = kinds_are (x.Call f es) (Expr-F.Call f es) (x.outs-Call f es)

pub packing_kinds : (f : Name) (es : List Expr)
    → expr_kinds (x.ChunkOf f es) ≡ mark symbol.Bar ++ name f ++ mark symbol.Bar ++ mark symbol.ParenOpen ++ comma_kinds expr_kinds es ++ mark symbol.ParenClose
packing_kinds f es = kinds_are (x.ChunkOf f es) (Expr-F.ChunkOf f es) (x.outs-ChunkOf f es)

pub remote_kinds : (c h n : Expr) (r : Name)
    → expr_kinds (x.OnRemote c h n r)
    ≡ word key.OnRemote ++ mark symbol.ParenOpen ++ expr_kinds c ++ mark symbol.Comma ++ expr_kinds h ++ mark symbol.Comma ++ expr_kinds n ++ mark symbol.Comma ++ name r
    ++ mark symbol.ParenClose
remote_kinds c h n r = kinds_are (x.OnRemote c h n r) (Expr-F.OnRemote c h n r) (x.outs-OnRemote c h n r)

-- behind `if`, and as a body
pub called_test_kinds : (f : Name) (es : List Expr) → test_kinds (x.Call f es) ≡ name f ++ mark symbol.ParenOpen ++ comma_kinds expr_kinds es ++ mark symbol.ParenClose
unfolding test_kinds
called_test_kinds f es = ap test_kinds_level (x.outs-Call f es)

pub not_test_kinds : (a : Expr) → test_kinds (x.Not a) ≡ word key.Not ++ expr_kinds a
unfolding test_kinds
not_test_kinds a = ap test_kinds_level (x.outs-Not a)

pub called_body_kinds : (f : Name) (es : List Expr) → body_kinds (x.Call f es) ≡ name f ++ mark symbol.ParenOpen ++ comma_kinds expr_kinds es ++ mark symbol.ParenClose
unfolding body_kinds
called_body_kinds f es = ap body_kinds_level (x.outs-Call f es)

pub choice_body_kinds : (c a b : Expr) → body_kinds (x.If c a b) ≡ word key.If ++ test_kinds c ++ word key.Then ++ expr_kinds a ++ word key.Else ++ expr_kinds b
unfolding body_kinds
choice_body_kinds c a b = ap body_kinds_level (x.outs-If c a b)

-- rewritten by these, the tokens of a tree are its words, symbols and names in a row
pub ruleset type_words = (unit_kinds, bool_kinds, int_kinds, str_kinds, blob_kinds, host_kinds, tuple_type_kinds)

pub ruleset made_kinds = (type_words, var_kinds, number_kinds, text_kinds, bytes_kinds, tuple_kinds, call_kinds, packing_kinds, remote_kinds, called_test_kinds, not_test_kinds, called_body_kinds, choice_body_kinds)
