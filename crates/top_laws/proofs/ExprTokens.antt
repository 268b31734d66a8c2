-- A printed expression is read as its tokens.
use Rattle.std.proofs.Common.{◌≡◌, ℕ, List, [], ◌++◌, Option, Some, None, refl, sym, ap, ◌∙◌, subst, arith, append_assoc}
use Rattle.std.specs.Prelude.{codes}
use Rattle.plan_base.specs.Words.{IsName}
use Rattle.plan_base.specs.declared.name.Name.{Name}
use Rattle.plan_base.specs.declared.tree.Ty.{Ty}
use Rattle.plan_base.specs.declared.tree.Expr.{Expr, Expr-F, out-Expr}
use Rattle.plan_base.specs.declared.tree.Clause.{Clause}
use Rattle.plan_printer_spec.specs.Literals.{part_text}
use Rattle.plan_lexer.specs.Tables.{key_text, symbol_text}
use Rattle.plan_lexer.specs.declared.token.Key.TheVariants as keys
use Rattle.plan_lexer.specs.declared.token.Symbol.TheVariants as symbols
use Rattle.plan_printer_spec.specs.Pieces.{listed_pieces, commas}
use Rattle.plan_printer_spec.specs.Printed.{nil_text, raise_text, op_text, catch_text, expr_text_level, expr_text, clause_text}
use Rattle.plan_printer.proofs.PrintLaws.{expr_text_out}
use Rattle.program_text_laws.specs.PrintedTokens.{mark, word, nil_kinds, raise_kinds, catch_kinds, expr_kinds_level, expr_kinds, clause_kinds}
use Rattle.program_text_laws.proofs.KindsOut.{expr_kinds_out}
use Rattle.program_text_laws.specs.Proper.{IsProperOption, IsProperCatch, IsProper, AreProper, AreProperClauses}
use Rattle.program_text_laws.specs.Proper.{IsProper as P, AreProper as M, AreProperClauses as K}
use Rattle.top_laws.proofs.Segments.{begins, calm, anything, Part, ◌>>◌, segment_begins, blank_part}
use Rattle.top_laws.proofs.Glue.{is_text, name_part, key_part, int_part, host_part, dev_part, pick_part, char_part, string_part, blob_part, bool_part, colon_part, spaced_part, paren_part, close_part}
use Rattle.top_laws.proofs.Glue.{square_part, unsquare_part, comma_part, semicolon_part, bar_part, under_part, op_glue, then_blank}
use Rattle.top_laws.proofs.Lists.{AllParts, some_listed, all_listed}
use Rattle.top_laws.proofs.TypeTokens.{type_part, empty_part}

regroup : (a b c d : List ℕ) → a ++ ((b ++ c) ++ d) ≡ ((a ++ b) ++ c) ++ d
regroup a b c d = sym (append_assoc a (b ++ c) d) ∙ ap (λ s. s ++ d) (sym (append_assoc a b c))

-- an expression by its level
part_by_level : (e : Expr) (x : Expr-F Expr Clause) → out-Expr e ≡ x → Part begins calm (expr_text_level expr_text clause_text x) (expr_kinds_level expr_kinds clause_kinds x)
    → Part begins calm (expr_text e) (expr_kinds e)
part_by_level e x o Q = is_text Q (sym (expr_text_out e ∙ ap (expr_text_level expr_text clause_text) o)) (sym (expr_kinds_out e ∙ ap (expr_kinds_level expr_kinds clause_kinds) o))

nil_part : (t : Option Ty) → IsProperOption t → Part begins calm (nil_text t) (nil_kinds t)
nil_part None h = is_text (square_part refl >> unsquare_part {f = anything} refl) refl refl
nil_part (Some t) h = empty_part t h.0

raise_part : (x : Name) (t : Option Ty) → IsName x → IsProperOption t → Part begins calm (raise_text x t) (raise_kinds x t)
unfolding key_text
raise_part x None n h = is_text (key_part keys.Raise >> blank_part refl >> name_part x n) refl refl
raise_part x (Some t) n h = is_text (then_blank (key_part keys.Raise >> segment_begins (empty_part t h.0) refl) >> name_part x n) refl refl

catch_part : (n : Option Name) → IsProperCatch n → Part begins calm (catch_text n) (catch_kinds n)
catch_part (Some x) h = name_part x h
catch_part None h = under_part refl

-- the comma between two expressions
pub comma_glue : Part calm begins (codes ", ") (mark symbols.Comma)
comma_glue = is_text (comma_part refl >> blank_part {f = anything} refl) refl refl

bar_glue : Part calm begins (codes " | ") (mark symbols.Bar)
bar_glue = is_text (blank_part refl >> bar_part {f = anything} refl >> blank_part {f = anything} refl) refl refl

end_part : Part calm calm (codes " end") (word keys.End)
unfolding key_text
end_part = is_text (blank_part refl >> key_part keys.End) refl refl

-- arguments up to their bracket
args_part : (es : List Expr) → AllParts calm expr_text expr_kinds es → Part begins calm (listed_pieces (codes ", ") [] expr_text es ++ codes ")") (listed_pieces (mark symbols.Comma) [] expr_kinds es ++ mark symbols.ParenClose)
args_part es h = all_listed expr_text expr_kinds (codes ", ") (mark symbols.Comma) comma_glue (codes ")") (mark symbols.ParenClose) (close_part refl) (close_part refl) es h

clause_by : (c : Clause) → IsProperCatch c.name → Part begins calm (expr_text c.body) (expr_kinds c.body) → Part begins calm (clause_text c) (clause_kinds c)
unfolding symbol_text
clause_by c n h = is_text (catch_part c.name n >> (blank_part refl >> spaced_part {f = anything} symbols.FatArrow refl refl >> blank_part refl) >> h) refl refl

mutual
  unfolding key_text symbol_text part_text

  pub expr_part : {e : Expr} → IsProper e → Part begins calm (expr_text e) (expr_kinds e)
  expr_part (P.unit o) = part_by_level _ Expr-F.Unit o (is_text (paren_part refl >> close_part refl) refl refl)
  expr_part (P.bool b o) = part_by_level _ (Expr-F.Bool b) o (bool_part b)
  expr_part (P.int z o h) = part_by_level _ (Expr-F.Int z) o (int_part z h)
  expr_part (P.char c o h) = part_by_level _ (Expr-F.Char c) o (char_part c h)
  expr_part (P.str s o h) = part_by_level _ (Expr-F.Str s) o (string_part s h)
  expr_part (P.blob b o h) = part_by_level _ (Expr-F.Blob b) o (blob_part b h)
  expr_part (P.host n o h) = part_by_level _ (Expr-F.Host n) o (host_part n.0 h)
  expr_part (P.dev n o h) = part_by_level _ (Expr-F.Dev n) o (dev_part n.0 h)
  expr_part (P.nil t o h) = part_by_level _ (Expr-F.Nil t) o (nil_part t h)
  expr_part (P.var x o h) = part_by_level _ (Expr-F.Var x) o (name_part x h)
  expr_part (P.tuple es o n h) = part_by_level _ (Expr-F.Tuple es) o (is_text (paren_part refl >> args_part es (parts_part h)) refl refl)
  expr_part (P.call f es o n m h) = part_by_level _ (Expr-F.Call f es) o (is_text (name_part f n >> paren_part refl >> args_part es (parts_part h)) (sym (append_assoc (f ++ codes "(") (commas expr_text es) (codes ")"))) refl)
  expr_part (P.choice c a b o p q r) = part_by_level _ (Expr-F.If c a b) o (is_text
      (paren_part refl >> key_part keys.If >> blank_part refl >> expr_part p >> (blank_part refl >> key_part keys.Then >> blank_part refl) >> expr_part q
      >> (blank_part refl >> key_part keys.Else >> blank_part refl) >> expr_part r >> close_part refl) refl refl)
  expr_part (P.binder x t a b o n k p q) = part_by_level _ (Expr-F.Let x t a b) o (is_text
      (key_part keys.Let >> blank_part refl >> key_part keys.Val >> blank_part refl >> name_part x n >> (blank_part refl >> colon_part {f = anything} refl >> blank_part refl)
      >> type_part k.0 >> (blank_part refl >> spaced_part {f = anything} symbols.Equal refl refl >> blank_part refl) >> expr_part p >> (blank_part refl >> key_part keys.In >> blank_part refl)
      >> expr_part q >> end_part) refl refl)
  expr_part (P.sequence a b o p q) = part_by_level _ (Expr-F.Then a b) o (is_text (paren_part refl >> expr_part p >> (semicolon_part refl >> blank_part {f = anything} refl) >> expr_part q >> close_part refl) refl refl)
  expr_part (P.both a b o p q) = part_by_level _ (Expr-F.And a b) o (is_text
      (paren_part refl >> expr_part p >> (blank_part refl >> key_part keys.And >> blank_part refl) >> expr_part q >> close_part refl) refl refl)
  expr_part (P.either a b o p q) = part_by_level _ (Expr-F.Or a b) o (is_text
      (paren_part refl >> expr_part p >> (blank_part refl >> key_part keys.Or >> blank_part refl) >> expr_part q >> close_part refl) refl refl)
  expr_part (P.negation a o p) = part_by_level _ (Expr-F.Not a) o (is_text (paren_part refl >> key_part keys.Not >> blank_part refl >> expr_part p >> close_part refl) refl refl)
  expr_part (P.binary m a b o p q) = part_by_level _ (Expr-F.Binary m a b) o (is_text
      (is_text (paren_part refl >> expr_part p >> op_glue m) (regroup (codes "(" ++ expr_text a) (codes " ") (op_text m) (codes " ")) refl >> expr_part q >> close_part refl) refl refl)
  expr_part (P.part i a o l m p) = part_by_level _ (Expr-F.Part i a) o (is_text (paren_part refl >> pick_part i l m >> blank_part refl >> expr_part p >> close_part refl) refl refl)
  expr_part (P.raising x t o n h) = part_by_level _ (Expr-F.Raise x t) o (raise_part x t n h)
  expr_part (P.handling a cs o p l m h) = part_by_level _ (Expr-F.Try a cs) o (is_text
      (key_part keys.Try >> blank_part refl >> expr_part p >> (blank_part refl >> key_part keys.Handle >> blank_part refl)
      >> some_listed clause_text clause_kinds (codes " | ") (mark symbols.Bar) bar_glue (codes " end") (word keys.End) end_part cs (omega (arith, l)) (clauses_part h))
      (sym (append_assoc (codes "try " ++ expr_text a ++ codes " handle ") (listed_pieces (codes " | ") [] clause_text cs) (codes " end")))
      (sym (append_assoc (word keys.Try ++ expr_kinds a ++ word keys.Handle) (listed_pieces (mark symbols.Bar) [] clause_kinds cs) (word keys.End))))
  expr_part (P.fold_left f a l o n p q) = part_by_level _ (Expr-F.Foldl f a l) o (is_text
      (key_part keys.Foldl >> paren_part refl >> name_part f n >> comma_glue >> expr_part p >> comma_glue >> expr_part q >> close_part refl) refl refl)
  expr_part (P.fold_right f a l o n p q) = part_by_level _ (Expr-F.Foldr f a l) o (is_text
      (key_part keys.Foldr >> paren_part refl >> name_part f n >> comma_glue >> expr_part p >> comma_glue >> expr_part q >> close_part refl) refl refl)
  expr_part (P.packing f es o n m h) = part_by_level _ (Expr-F.ChunkOf f es) o (is_text (bar_part refl >> name_part f n >> (bar_part refl >> paren_part {f = anything} refl) >> args_part es (parts_part h))
      (sym (append_assoc (codes "|" ++ f ++ codes "|(") (commas expr_text es) (codes ")"))) refl)
  expr_part (P.evaluation c o p) = part_by_level _ (Expr-F.Eval c) o (is_text (key_part keys.Eval >> paren_part refl >> expr_part p >> close_part refl) refl refl)
  expr_part (P.remote c h n r o p q s m) = part_by_level _ (Expr-F.OnRemote c h n r) o (is_text
      (key_part keys.OnRemote >> paren_part refl >> expr_part p >> comma_glue >> expr_part q >> comma_glue >> expr_part s >> comma_glue >> name_part r m >> close_part refl) refl refl)
  expr_part (P.neighbour c h n d o p q s t) = part_by_level _ (Expr-F.OnNeighbor c h n d) o (is_text
      (key_part keys.OnNeighbor >> paren_part refl >> expr_part p >> comma_glue >> expr_part q >> comma_glue >> expr_part s >> comma_glue >> expr_part t >> close_part refl) refl refl)

  pub parts_part : {es : List Expr} → AreProper es → AllParts calm expr_text expr_kinds es
  parts_part M.no_parts = tt
  parts_part (M.and_part h hs) = (expr_part h, parts_part hs)

  pub clauses_part : {cs : List Clause} → AreProperClauses cs → AllParts calm clause_text clause_kinds cs
  clauses_part K.no_clauses = tt
  clauses_part (K.last_clause {c = c} n h) = (clause_by c n (expr_part h), tt)
  clauses_part (K.and_clause {c = c} x e n h hs) = (clause_by c (subst IsProperCatch (sym e) n) (expr_part h), clauses_part hs)
