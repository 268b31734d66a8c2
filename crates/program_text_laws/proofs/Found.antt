-- A text that is written so says its program.
use Rattle.std.proofs.Common.{◌≡◌, List, [], ℕ, length, Result, Ok, Err, ap, ◌∙◌, ◌⊎◌, inl, inr}
use Rattle.plan_base.specs.declared.tree.Program.{Program}
use Rattle.plan_types_spec.specs.TypingOrder.{annotated_program}
use Rattle.plan_types_spec.proofs.Programs.{annotated_complete, fills_itself, depths_kept}
use Rattle.checked_chunks.specs.Kept.{IsChecked}
use Rattle.plan_lexer.specs.declared.fault.LexFault.{LexFault}
use Rattle.plan_lexer.specs.declared.token.Token.{Token}
use Rattle.program_text.specs.declared.fault.TextFault.{TextFault}
use Rattle.program_text.specs.declared.fault.TextFault.TheVariants as fault
use Rattle.program_text.specs.Scanned.{tokens_of}
use Rattle.program_text.specs.Texts.{placed_result, typed_of, parsed_of, program_of}
use Rattle.program_text_laws.specs.Lexes.{kinds_of}
use Rattle.program_text_laws.specs.Proper.{IsProperProgram}
use Rattle.program_text_laws.specs.Written.{written_kinds}
use Rattle.program_text_laws.proofs.Within.{within_limits}
use Rattle.program_text_laws.proofs.WrittenRead.{written_reads}
use Rattle.program_text_laws.proofs.BuiltPrograms.{BuiltProgram}

pub written_found : (text : List ℕ) (ts : List Token) (p : Program) → tokens_of text ≡ Ok ts → kinds_of ts ≡ written_kinds p → IsProperProgram p → IsChecked p → program_of text ≡ Ok p
unfolding program_of
written_found text ts p t k h c =
    let d = written_reads p ts (length text) h (within_limits p c.formed) k in
    let found : annotated_program d.draft.program ≡ Ok p = ap annotated_program d.same ∙ annotated_complete p p (depths_kept p c.formed) (fills_itself p c.typed) c.typed in
    ap (parsed_of (length text)) t ∙ (ap typed_of d.is ∙ ap (placed_result d.draft.decl_at d.draft.node_at) found)

-- the tokens that were found
abbrev pub lexed : Result (List Token) LexFault → List Token
lexed (Ok ts) = ts
lexed (Err e) = []

-- a text says the program that is built, where its tokens are those of it
pub text_says : (text : List ℕ) (p : Program) {m : ℕ} → tokens_of text ≡ Ok (lexed (tokens_of text)) → kinds_of (lexed (tokens_of text)) ≡ written_kinds p → BuiltProgram p m → program_of text ≡ Ok p
text_says text p t k b = written_found text (lexed (tokens_of text)) p t k b.proper b.checked

-- a text that says a program is refused for no reason but memory
pub text_never : (text want : List ℕ) (p : Program) (e : TextFault) → text ≡ want → program_of want ≡ Ok p → (e ≡ fault.NoMemory) ⊎ (program_of text ≡ Err e) → e ≡ fault.NoMemory
text_never text want p e s h (inl m) = m
text_never text want p e s h (inr r) = absurd (cc)
