-- A printed value is read as its tokens.
use Rattle.std.proofs.Common.{◌≡◌, ◌<◌, List, [], ◌∷◌, ◌++◌, length, refl, sym, ap, ◌∙◌, arith}
use Rattle.std.specs.Prelude.{codes}
use Rattle.plan_base.specs.declared.tree.Ty.{Ty}
use Rattle.plan_base.specs.declared.tree.Value.{Value, Value-F, out-Value, map-Value, fold_out-Value}
use Rattle.plan_base.specs.declared.tree.Chunk.{Chunk, fold-Chunk}
use Rattle.plan_lexer.specs.declared.token.Symbol.TheVariants as symbols
use Rattle.plan_printer_spec.specs.Pieces.{listed_pieces}
use Rattle.plan_printer_spec.specs.Printed.{values_text, chunk_text, value_text_level, value_text}
use Rattle.plan_printer.proofs.PrintLaws.{listed-map}
use Rattle.plan_printer.proofs.ValueLaws.{value_text_out}
use Rattle.program_text_laws.specs.PrintedTokens.{Kinds, mark, values_kinds, value_kinds_level, value_kinds}
use Rattle.program_text_laws.specs.Proper.{IsProperType, IsProperValue, AreProperValues}
use Rattle.program_text_laws.specs.Proper.{IsProperValue as V, AreProperValues as A}
use Rattle.top_laws.proofs.Segments.{begins, calm, Part, ◌>>◌}
use Rattle.top_laws.proofs.Glue.{is_text, int_part, host_part, dev_part, char_part, string_part, blob_part, bool_part, paren_part, close_part, square_part, unsquare_part}
use Rattle.top_laws.proofs.Lists.{AllParts, some_listed}
use Rattle.top_laws.proofs.TypeTokens.{empty_part}
use Rattle.top_laws.proofs.ExprTokens.{comma_glue}

value_kinds_step : (f : Value → Kinds) (g : Chunk → Unit {0}) (x : Value-F Value Chunk) → value_kinds_level (λ s. s) (map-Value Value Chunk Kinds (Unit {0}) f g x) ≡ value_kinds_level f x
value_kinds_step f g (Value-F.List t []) = refl
value_kinds_step f g (Value-F.List t (v ∷ vs)) = ap (λ s. mark symbols.BracketOpen ++ s ++ mark symbols.BracketClose) (listed-map (mark symbols.Comma) [] f (v ∷ vs))
value_kinds_step f g (Value-F.Tuple vs) = ap (λ s. mark symbols.ParenOpen ++ s ++ mark symbols.ParenClose) (listed-map (mark symbols.Comma) [] f vs)
value_kinds_step f g _ = refl

pub value_kinds_out : (v : Value) → value_kinds v ≡ value_kinds_level value_kinds (out-Value v)
unfolding value_kinds
value_kinds_out v = fold_out-Value Kinds (Unit {0}) (value_kinds_level (λ s. s)) (λ _. tt) v ∙ value_kinds_step value_kinds (fold-Chunk Kinds (Unit {0}) (value_kinds_level (λ s. s)) (λ _. tt)) (out-Value v)

part_by_level : (v : Value) (x : Value-F Value Chunk) → out-Value v ≡ x → Part begins calm (value_text_level value_text chunk_text x) (value_kinds_level value_kinds x) → Part begins calm (value_text v) (value_kinds v)
part_by_level v x o Q = is_text Q (sym (value_text_out v ∙ ap (value_text_level value_text chunk_text) o)) (sym (value_kinds_out v ∙ ap (value_kinds_level value_kinds) o))

-- values up to their closing bracket
round_part : (vs : List Value) → 0 < length vs → AllParts calm value_text value_kinds vs
    → Part begins calm (listed_pieces (codes ", ") [] value_text vs ++ codes ")") (listed_pieces (mark symbols.Comma) [] value_kinds vs ++ mark symbols.ParenClose)
round_part vs n h = some_listed value_text value_kinds (codes ", ") (mark symbols.Comma) comma_glue (codes ")") (mark symbols.ParenClose) (close_part refl) vs n h

list_part : (t : Ty) (vs : List Value) → IsProperType t → AllParts calm value_text value_kinds vs → Part begins calm (values_text value_text t vs) (values_kinds value_kinds t vs)
list_part t [] k h = empty_part t k
list_part t (v ∷ vs) k h = is_text
    (square_part {t = begins} refl >> some_listed value_text value_kinds (codes ", ") (mark symbols.Comma) comma_glue (codes "]") (mark symbols.BracketClose) (unsquare_part refl) (v ∷ vs) (omega arith) h) refl refl

mutual
  pub value_part : {v : Value} → IsProperValue v → Part begins calm (value_text v) (value_kinds v)
  value_part (V.unit o) = part_by_level _ Value-F.Unit o (is_text (paren_part refl >> close_part refl) refl refl)
  value_part (V.bool b o) = part_by_level _ (Value-F.Bool b) o (bool_part b)
  value_part (V.int z o h) = part_by_level _ (Value-F.Int z) o (int_part z h)
  value_part (V.char c o h) = part_by_level _ (Value-F.Char c) o (char_part c h)
  value_part (V.str s o h) = part_by_level _ (Value-F.Str s) o (string_part s h)
  value_part (V.blob b o h) = part_by_level _ (Value-F.Blob b) o (blob_part b h)
  value_part (V.host n o h) = part_by_level _ (Value-F.Host n) o (host_part n.0 h)
  value_part (V.dev n o h) = part_by_level _ (Value-F.Dev n) o (dev_part n.0 h)
  value_part (V.list t vs o k h) = part_by_level _ (Value-F.List t vs) o (list_part t vs k (values_part h))
  value_part (V.tuple vs o n h) = part_by_level _ (Value-F.Tuple vs) o (is_text (paren_part refl >> round_part vs (omega (arith, n.0)) (values_part h)) refl refl)

  pub values_part : {vs : List Value} → AreProperValues vs → AllParts calm value_text value_kinds vs
  values_part A.no_values = tt
  values_part (A.and_value h hs) = (value_part h, values_part hs)
