-- A text is tokens, then a draft, then a typed program, or is refused where it first isn't.
use Rattle.std.proofs.Common.{◌≡◌, ◌≤◌, ℕ, List, length, Result, Ok, Err, refl, sym, ap, ◌∙◌, subst, inl, inr}
use Rattle.std.specs.Prelude.{◌↔◌}
use Rattle.plan_base.specs.declared.tree.Draft.{Draft}
use Rattle.plan_base.specs.declared.tree.Program.{Program}
use Rattle.plan_types_spec.specs.declared.type_fault.TypeFault.{TypeFault}
use Rattle.plan_base.specs.WellFormed.{IsWellFormedProgram}
use Rattle.plan_types_spec.specs.TypingOrder.{annotated_program}
use Rattle.plan_lexer.specs.Scanning.{Toks, IsAnswered}
use Rattle.plan_lexer.specs.declared.token.Token.{Token}
use Rattle.plan_lexer.proofs.LawLemmas.{tokens_or_refusal}
use Rattle.plan_lexer.proofs.RuleLemmas.{tokens_rules}
use Rattle.plan_parser_exprs.specs.declared.fault.ParseFault.{ParseFault}
use Rattle.plan_parser.specs.Programs as parsed
use Rattle.plan_parser.proofs.FormedPrograms.{draft_formed}
use Rattle.plan_parser_laws.proofs.ProgramsRead.{program_written}
use Rattle.plan_parser_laws.proofs.ProgramsAre.{program_is}
use Rattle.plan_parser_laws.proofs.ProgramsWork.{program_refused}
use Rattle.plan_parser_laws.proofs.Own.{agenda_own}
use Rattle.plan_parser_laws.proofs.TokenOwn.{refused_own}
use Rattle.plan_types_spec.proofs.Programs.{annotated_sound, annotated_complete, depths_kept}
use Rattle.plan_parser_laws.proofs.ProgramReadings.{first_is}
use Rattle.plan_parser_laws.proofs.TypingOwn.{program_own}
use Rattle.program_text.specs.declared.fault.TextFault.{TextFault}
use Rattle.program_text.specs.declared.fault.TextFault.TheVariants as faults
use Rattle.program_text.specs.Texts.{placed_result, typed_of, program_of}
use Rattle.program_text.proofs.Readings.{read_by, refused_by}
use Rattle.file_laws.specs.ProgramRefusals.{IsTypedProgram, FirstRefusal, of_tokens, of_grammar, of_types, IsProgramOrRefused, HoldsNoMemory}

-- what tokens are that were read as a draft
drafted_program_is : (text : List ℕ) (ts : List Token) (d : Draft) (r : Result Program TypeFault) → Toks 0 text ts → parsed.program_of ts (length text) ≡ Ok d → annotated_program d.program ≡ r
    → program_of text ≡ placed_result d.decl_at d.node_at r
drafted_program_is text ts d r t q h = read_by text ts t (placed_result d.decl_at d.node_at r) (ap typed_of q ∙ ap (placed_result d.decl_at d.node_at) h)

undrafted_is_refused : (text : List ℕ) (ts : List Token) (e : ParseFault) → Toks 0 text ts → parsed.program_of ts (length text) ≡ Err e → program_of text ≡ Err (faults.Parse e)
undrafted_is_refused text ts e t q = read_by text ts t (Err (faults.Parse e)) (ap typed_of q)

module _ (text : List ℕ) (small : length text ≤ 65536) where
  -- what the answer says of the text
  abbrev Stands : Result Program TextFault → Type 0
  Stands (Ok p) = IsTypedProgram text p
  Stands (Err e) = FirstRefusal text e

  draft_is_formed : (ts : List Token) (d : Draft) → Toks 0 text ts → parsed.program_of ts (length text) ≡ Ok d → IsWellFormedProgram d.program
  draft_is_formed ts d t q = draft_formed ts (length text) (Ok d) (tokens_rules text ts small t) q

  by_types : (ts : List Token) (d : Draft) → Toks 0 text ts → parsed.program_of ts (length text) ≡ Ok d → (r : Result Program TypeFault) → annotated_program d.program ≡ r → Stands (program_of text)
  by_types ts d t q (Ok p) h =
      let s = annotated_sound d.program p h in
      subst Stands (sym (drafted_program_is text ts d (Ok p) t q h)) (record { tokens = ts; draft = d; toks = t; is = program_written ts (length text) d q; fills = s.0; typed = s.1 })
  by_types ts d t q (Err f) h =
      subst Stands (sym (drafted_program_is text ts d (Err f) t q h)) (of_types ts d f t (program_written ts (length text) d q) ((first_is d.program (draft_is_formed ts d t q) f).0 h))

  by_grammar : (ts : List Token) → Toks 0 text ts → (r : Result Draft ParseFault) → parsed.program_of ts (length text) ≡ r → Stands (program_of text)
  by_grammar ts t (Ok d) q = by_types ts d t q (annotated_program d.program) refl
  by_grammar ts t (Err e) q = subst Stands (sym (undrafted_is_refused text ts e t q)) (of_grammar ts e t ((program_refused ts (length text) e).0 q))

  stands : Stands (program_of text)
  stands = by_tokens (tokens_or_refusal 0 text)
    where
      by_tokens : IsAnswered 0 text → Stands (program_of text)
      by_tokens (inl t) = by_grammar t.0 t.1 (parsed.program_of t.0 (length text)) refl
      by_tokens (inr r) = subst Stands (sym (refused_by text r.0 r.1)) (of_tokens r.0 r.1)

  first_is_refused : (e : TextFault) → FirstRefusal text e → program_of text ≡ Err e
  first_is_refused _ (of_tokens e r) = refused_by text e r
  first_is_refused _ (of_grammar ts e t r) = undrafted_is_refused text ts e t ((program_refused ts (length text) e).1 r)
  first_is_refused _ (of_types ts d f t w r) =
      let q = program_is w in
      drafted_program_is text ts d (Err f) t q ((first_is d.program (draft_is_formed ts d t q) f).1 r)

  pub first : (e : TextFault) → (program_of text ≡ Err e) ↔ FirstRefusal text e
  first e = (λ h. subst Stands h stands, first_is_refused e)

  pub some : IsProgramOrRefused text
  some = go (program_of text) stands
    where
      go : (r : Result Program TextFault) → Stands r → IsProgramOrRefused text
      go (Ok p) s = inl (p, s)
      go (Err e) s = inr (e, s)

  pub apart : (p : Program) (e : TextFault) → IsTypedProgram text p → FirstRefusal text e → ⊥
  apart p e k r =
      let q = program_is k.is in
      let w = draft_is_formed k.tokens k.draft k.toks q in
      let h = drafted_program_is text k.tokens k.draft (Ok p) k.toks q (annotated_complete k.draft.program p (depths_kept k.draft.program w) k.fills k.typed) in
      let z : ◌≡◌ {A = Result Program TextFault} (Ok p) (Err e) = sym h ∙ first_is_refused e r in cc

  pub one : (d e : TextFault) → FirstRefusal text d → FirstRefusal text e → d ≡ e
  one d e r s = let z : ◌≡◌ {A = Result Program TextFault} (Err d) (Err e) = sym (first_is_refused d r) ∙ first_is_refused e s in cc

-- ---- no running out of memory

module _ (text : List ℕ) where
  abbrev Own : Result Program TextFault → Type 0
  Own (Ok p) = Unit {0}
  Own (Err e) = HoldsNoMemory e

  own_types : (ts : List Token) (d : Draft) → Toks 0 text ts → parsed.program_of ts (length text) ≡ Ok d → (r : Result Program TypeFault) → annotated_program d.program ≡ r → Own (program_of text)
  own_types ts d t q (Ok p) h = subst Own (sym (drafted_program_is text ts d (Ok p) t q h)) tt
  own_types ts d t q (Err f) h = subst Own (sym (drafted_program_is text ts d (Err f) t q h)) (program_own d.program f h)

  own_grammar : (ts : List Token) → Toks 0 text ts → (r : Result Draft ParseFault) → parsed.program_of ts (length text) ≡ r → Own (program_of text)
  own_grammar ts t (Ok d) q = own_types ts d t q (annotated_program d.program) refl
  own_grammar ts t (Err e) q = subst Own (sym (undrafted_is_refused text ts e t q)) (agenda_own e _ _ ((program_refused ts (length text) e).0 q))

  own : Own (program_of text)
  own = by_tokens (tokens_or_refusal 0 text)
    where
      by_tokens : IsAnswered 0 text → Own (program_of text)
      by_tokens (inl t) = own_grammar t.0 t.1 (parsed.program_of t.0 (length text)) refl
      by_tokens (inr r) = subst Own (sym (refused_by text r.0 r.1)) (refused_own r.0 0 text r.1)

  pub text_own : (e : TextFault) → program_of text ≡ Err e → HoldsNoMemory e
  text_own e h = subst Own h own
