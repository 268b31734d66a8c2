-- A printed type is read as its tokens.
use Rattle.std.proofs.Common.{◌≡◌, List, ◌++◌, Some, refl, sym, ap, ◌∙◌, arith}
use Rattle.std.specs.Prelude.{codes}
use Rattle.plan_base.specs.declared.tree.Ty.{Ty, Ty-F, out-Ty}
use Rattle.plan_lexer.specs.Tables.{key_text, symbol_text}
use Rattle.plan_lexer.specs.declared.token.Key.{Key}
use Rattle.plan_lexer.specs.declared.token.Key.TheVariants as keys
use Rattle.plan_lexer.specs.declared.token.Symbol.TheVariants as symbols
use Rattle.plan_printer_spec.specs.Printed.{type_text_level, type_text, empty_text}
use Rattle.plan_printer.proofs.PrintLaws.{type_text_out}
use Rattle.program_text_laws.specs.PrintedTokens.{mark, word, type_kinds_level, type_kinds, empty_kinds}
use Rattle.program_text_laws.proofs.KindsOut.{type_kinds_out}
use Rattle.program_text_laws.specs.Proper.{base_key, IsProperType, AreProperTypes}
use Rattle.program_text_laws.specs.Proper.{IsProperType as T, AreProperTypes as A}
use Rattle.top_laws.proofs.Segments.{begins, calm, anything, Part, ◌>>◌, blank_part}
use Rattle.top_laws.proofs.Glue.{is_text, key_part, paren_part, close_part, square_part, unsquare_part, colon_part, spaced_part}
use Rattle.top_laws.proofs.Lists.{AllParts, some_listed}

base_part : (x : Ty-F Ty) (k : Key) → base_key x ≡ Some k → Part begins calm (type_text_level type_text x) (type_kinds_level type_kinds x)
unfolding key_text
base_part Ty-F.Unit k e = is_text (key_part keys.Unit) refl refl
base_part Ty-F.Bool k e = is_text (key_part keys.Bool) refl refl
base_part Ty-F.Int k e = is_text (key_part keys.Int) refl refl
base_part Ty-F.Char k e = is_text (key_part keys.Char) refl refl
base_part Ty-F.Str k e = is_text (key_part keys.Str) refl refl
base_part Ty-F.Blob k e = is_text (key_part keys.Blob) refl refl
base_part Ty-F.Host k e = is_text (key_part keys.Host) refl refl
base_part Ty-F.Dev k e = is_text (key_part keys.Dev) refl refl
base_part Ty-F.Chunk k e = is_text (key_part keys.Chunk) refl refl
base_part (Ty-F.List t) k e = absurd (cc)
base_part (Ty-F.Tuple ts) k e = absurd (cc)

by_level : (t : Ty) (x : Ty-F Ty) → out-Ty t ≡ x → Part begins calm (type_text_level type_text x) (type_kinds_level type_kinds x) → Part begins calm (type_text t) (type_kinds t)
by_level t x o P = is_text P (sym (type_text_out t ∙ ap (type_text_level type_text) o)) (sym (type_kinds_out t ∙ ap (type_kinds_level type_kinds) o))

list_part : (t : Ty) → Part begins calm (type_text t) (type_kinds t) → Part begins calm (type_text t ++ codes " list") (type_kinds t ++ word keys.List)
unfolding key_text
list_part t P = is_text (P >> (blank_part refl >> key_part keys.List)) refl refl

-- the star between the parts of a tuple type
star_part : Part calm begins (codes " * ") (mark symbols.Star)
unfolding symbol_text
star_part = is_text (blank_part refl >> spaced_part {f = anything} symbols.Star refl refl >> blank_part refl) refl refl

mutual
  pub type_part : {t : Ty} → IsProperType t → Part begins calm (type_text t) (type_kinds t)
  type_part {t = t} (T.base k e) = by_level t (out-Ty t) refl (base_part (out-Ty t) k e)
  type_part {t = t} (T.list u o h) = by_level t (Ty-F.List u) o (list_part u (type_part h))
  type_part {t = t} (T.tuple ts o n h) = by_level t (Ty-F.Tuple ts) o
      (paren_part refl >> some_listed type_text type_kinds (codes " * ") (mark symbols.Star) star_part (codes ")") (mark symbols.ParenClose) (close_part refl) ts (omega (arith, n.0)) (types_parts h))

  pub types_parts : {ts : List Ty} → AreProperTypes ts → AllParts calm type_text type_kinds ts
  types_parts A.no_types = tt
  types_parts (A.and_type h hs) = (type_part h, types_parts hs)

-- the empty list with its element type
pub empty_part : (t : Ty) → IsProperType t → Part begins calm (empty_text t) (empty_kinds t)
empty_part t h = is_text (square_part refl >> colon_part {f = anything} refl >> type_part h >> unsquare_part refl) refl refl
