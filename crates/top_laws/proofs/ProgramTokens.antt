-- A printed program is read as its tokens.
use Rattle.std.proofs.Common.{◌≡◌, ℕ, Bool, true, List, [], ◌∷◌, ◌++◌, refl, sym, subst, append-nil, append_assoc}
use Rattle.std.specs.Prelude.{codes}
use Rattle.std.specs.List.{flat_map}
use Rattle.plan_base.specs.Words.{IsName}
use Rattle.plan_base.specs.declared.name.Name.{Name}
use Rattle.plan_base.specs.declared.tree.Ty.{Ty}
use Rattle.plan_base.specs.declared.tree.Svc.{Svc}
use Rattle.plan_base.specs.declared.tree.Param.{Param}
use Rattle.plan_base.specs.declared.tree.Fun.{Fun}
use Rattle.plan_base.specs.declared.tree.Program.{Program}
use Rattle.plan_lexer.specs.Tables.{key_text, symbol_text}
use Rattle.plan_lexer.specs.declared.token.Key.TheVariants as keys
use Rattle.plan_lexer.specs.declared.token.Symbol.TheVariants as symbols
use Rattle.plan_lexer.specs.declared.token.TokenKind.TheVariants as kind
use Rattle.plan_printer_spec.specs.Pieces.{listed_pieces, commas}
use Rattle.plan_printer_spec.specs.Printed.{type_text, svc_text, exn_text, param_text, fun_text, program_text}
use Rattle.program_text_laws.specs.Lexes.{Lexes}
use Rattle.program_text_laws.specs.PrintedTokens.{mark, word, type_kinds, svc_kinds, exn_kinds, param_kinds, fun_kinds, program_kinds}
use Rattle.program_text_laws.specs.Proper.{AllProper, IsReadableType, IsProperSvc, IsProperParam, IsProperFun, IsProperProgram}
use Rattle.top_laws.proofs.Segments.{begins, calm, anything, Part, ◌>>◌, blank_part, lexes_end}
use Rattle.top_laws.proofs.Glue.{is_text, name_part, key_part, colon_part, spaced_part, paren_part, close_part, then_line}
use Rattle.top_laws.proofs.Lists.{AllParts, all_listed, lines_lex}
use Rattle.top_laws.proofs.TypeTokens.{type_part}
use Rattle.top_laws.proofs.ExprTokens.{comma_glue, expr_part}

-- the texts behind the types of a service and behind the parameters of a function
result_glue : {f : ℕ → Bool} → f 41 ≡ true → Part f begins (codes ") -> ") (mark symbols.ParenClose ++ mark symbols.Arrow)
unfolding symbol_text
result_glue e = is_text (close_part e >> blank_part {f = calm} refl >> spaced_part {f = anything} symbols.Arrow refl refl >> blank_part refl) refl refl

type_glue : {f : ℕ → Bool} → f 41 ≡ true → Part f begins (codes ") : ") (mark symbols.ParenClose ++ mark symbols.Colon)
type_glue e = is_text (close_part e >> blank_part {f = calm} refl >> colon_part {f = anything} refl >> blank_part refl) refl refl

types_parts : (ts : List Ty) → AllProper IsReadableType ts → AllParts calm type_text type_kinds ts
types_parts [] h = tt
types_parts (t ∷ ts) h = (type_part h.0.0, types_parts ts h.1)

svc_part : (s : Svc) → IsProperSvc s → Part begins anything (svc_text s) (svc_kinds s)
unfolding key_text
svc_part s h = then_line (is_text
    (key_part keys.Svc >> blank_part refl >> name_part s.name h.name >> (blank_part refl >> colon_part {f = anything} refl >> blank_part refl >> paren_part {f = anything} refl)
    >> all_listed type_text type_kinds (codes ", ") (mark symbols.Comma) comma_glue (codes ") -> ") (mark symbols.ParenClose ++ mark symbols.Arrow) (result_glue refl) (result_glue refl) s.params (types_parts s.params h.params))
    (sym (append_assoc (codes "svc " ++ s.name ++ codes " : (") (commas type_text s.params) (codes ") -> ")))
    (sym (append_assoc (word keys.Svc ++ kind.Word s.name ∷ [] ++ mark symbols.Colon ++ mark symbols.ParenOpen ++ listed_pieces (mark symbols.Comma) [] type_kinds s.params) (mark symbols.ParenClose) (mark symbols.Arrow)))
    >> type_part h.result.0)

exn_part : (x : Name) → IsName x → Part begins anything (exn_text x) (exn_kinds x)
unfolding key_text
exn_part x h = is_text (then_line (key_part keys.Exception >> blank_part refl >> name_part x h)) refl refl

param_part : (p : Param) → IsProperParam p → Part begins calm (param_text p) (param_kinds p)
param_part p h = is_text (name_part p.name h.name >> (blank_part refl >> colon_part {f = anything} refl >> blank_part refl) >> type_part h.ty.0) refl refl

params_parts : (ps : List Param) → AllProper IsProperParam ps → AllParts calm param_text param_kinds ps
params_parts [] h = tt
params_parts (p ∷ ps) h = (param_part p h.0, params_parts ps h.1)

fun_part : (f : Fun) → IsProperFun f → Part begins anything (fun_text f) (fun_kinds f)
unfolding key_text symbol_text
fun_part f h = then_line (is_text
    (key_part keys.Fun >> blank_part refl >> name_part f.name h.name >> paren_part refl
    >> all_listed param_text param_kinds (codes ", ") (mark symbols.Comma) comma_glue (codes ") : ") (mark symbols.ParenClose ++ mark symbols.Colon) (type_glue refl) (type_glue refl) f.params (params_parts f.params h.params))
    (sym (append_assoc (codes "fun " ++ f.name ++ codes "(") (commas param_text f.params) (codes ") : ")))
    (sym (append_assoc (word keys.Fun ++ kind.Word f.name ∷ [] ++ mark symbols.ParenOpen ++ listed_pieces (mark symbols.Comma) [] param_kinds f.params) (mark symbols.ParenClose) (mark symbols.Colon)))
    >> type_part h.result.0 >> (blank_part refl >> spaced_part {f = anything} symbols.Equal refl refl >> blank_part refl) >> expr_part h.body)

svcs_parts : (ss : List Svc) → AllProper IsProperSvc ss → AllParts anything svc_text svc_kinds ss
svcs_parts [] h = tt
svcs_parts (s ∷ ss) h = (svc_part s h.0, svcs_parts ss h.1)

exns_parts : (xs : List Name) → AllProper IsName xs → AllParts anything exn_text exn_kinds xs
exns_parts [] h = tt
exns_parts (x ∷ xs) h = (exn_part x h.0, exns_parts xs h.1)

funs_parts : (fs : List Fun) → AllProper IsProperFun fs → AllParts anything fun_text fun_kinds fs
funs_parts [] h = tt
funs_parts (f ∷ fs) h = (fun_part f h.0, funs_parts fs h.1)

pub program_lexes : (p : Program) → IsProperProgram p → Lexes (program_text p) (program_kinds p)
unfolding program_text program_kinds
program_lexes p h =
    let funs : Lexes (flat_map fun_text p.funs) (flat_map fun_kinds p.funs) =
    subst (λ s. Lexes s (flat_map fun_kinds p.funs)) (append-nil (flat_map fun_text p.funs)) (subst (λ m. Lexes (flat_map fun_text p.funs ++ []) m) (append-nil (flat_map fun_kinds p.funs))
    (lines_lex fun_text fun_kinds p.funs (funs_parts p.funs h.funs) [] [] lexes_end)) in
    subst (λ t. Lexes t ((flat_map svc_kinds p.svcs ++ flat_map exn_kinds p.exns) ++ flat_map fun_kinds p.funs)) (sym (append_assoc (flat_map svc_text p.svcs) (flat_map exn_text p.exns) (flat_map fun_text p.funs)))
    (subst (λ m. Lexes (flat_map svc_text p.svcs ++ (flat_map exn_text p.exns ++ flat_map fun_text p.funs)) m) (sym (append_assoc (flat_map svc_kinds p.svcs) (flat_map exn_kinds p.exns) (flat_map fun_kinds p.funs)))
    (lines_lex svc_text svc_kinds p.svcs (svcs_parts p.svcs h.svcs) _ _ (lines_lex exn_text exn_kinds p.exns (exns_parts p.exns h.exns) _ _ funs)))
