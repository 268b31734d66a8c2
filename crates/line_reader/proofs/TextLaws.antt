-- What the texts of programs and of arguments say is typed and well formed.
use Rattle.std.proofs.Common.{◌≡◌, inl, inr, ◌≤◌, ℕ, Bool, true, false, not, List, length, Option, Some, None, Result, Ok, Err, refl, sym, ap, subst, ◌∙◌}
use Rattle.std.specs.Prelude.{IsTrue, is_some}
use Rattle.std.specs.List.{list_all}
use Rattle.plan_base.specs.declared.tree.Chunk.{Chunk}
use Rattle.plan_base.specs.declared.tree.Draft.{Draft}
use Rattle.plan_base.specs.declared.tree.Program.{Program}
use Rattle.plan_base.specs.declared.tree.Value.{Value}
use Rattle.plan_types_spec.specs.declared.type_fault.TypeFault.{TypeFault}
use Rattle.plan_types_spec.specs.TypingOrder.{annotated_program}
use Rattle.plan_base.specs.WellFormed.{IsWellFormedProgram, well_formed_value, value_has_types}
use Rattle.plan_lexer.specs.declared.fault.LexFault.{LexFault}
use Rattle.plan_lexer.specs.declared.token.Token.{Token}
use Rattle.plan_lexer.specs.Scanning.{IsAnswered}
use Rattle.plan_lexer.specs.TokenRules.{AreTokens}
use Rattle.plan_lexer.proofs.LawLemmas.{tokens_or_refusal}
use Rattle.plan_lexer.proofs.RuleLemmas.{tokens_rules}
use Rattle.plan_parser_exprs.specs.declared.fault.ParseFault.{ParseFault}
use Rattle.plan_parser.specs.Programs as parsed
use Rattle.plan_parser.specs.Values.{args_of}
use Rattle.plan_parser.proofs.FormedPrograms.{draft_formed}
use Rattle.plan_parser.proofs.FormedValues as read
use Rattle.checked_chunks.specs.Kept.{IsChecked, is_small_chunk, IsCheckedChunk}
use Rattle.plan_types.proofs.Answered.{checked_by}
use Rattle.program_text.specs.Scanned.{tokens_of}
use Rattle.program_text.specs.Texts.{placed_result, typed_of, parsed_of, program_of, args_by, args_in, args_of_text}
use Rattle.program_text.proofs.Scanning.{has_tokens, is_refused}
use Rattle.plan_types_chunks.specs.declared.fault.Ill.{Ill}
use Rattle.plan_types_chunks.specs.Chunks.{right, ill_call, as_fault, or_large, refusal_of}
use Rattle.plan_types_chunks.proofs.Values.{call_found, call_only}

abbrev scanned_result : List Token → Result (List Token) LexFault
scanned_result ts = Ok ts

tokens_are : (ts us : List Token) → scanned_result ts ≡ scanned_result us → ts ≡ us
tokens_are ts us e = cc

tokens_kept : (text : List ℕ) (ts : List Token) → length text ≤ 65536 → tokens_of text ≡ Ok ts → AreTokens 0 (length text) ts
tokens_kept text ts small e = by (tokens_or_refusal 0 text)
  where
    by : IsAnswered 0 text → AreTokens 0 (length text) ts
    by (inl (us, h)) = subst (λ z. AreTokens 0 (length text) z) (tokens_are us ts (sym (has_tokens text us h) ∙ e)) (tokens_rules text us small h)
    by (inr (f, h)) = absurd (let both = sym (is_refused text f h) ∙ e in cc)

-- ---- programs

placed_ok : (decls nodes : List ℕ) (r : Result Program TypeFault) (p : Program) → placed_result decls nodes r ≡ Ok p → r ≡ Ok p
placed_ok decls nodes (Ok q) p e = let same : q ≡ p = cc in ap (λ z. Ok z) same
placed_ok decls nodes (Err f) p e = absurd cc

draft_checked : (r : Result Draft ParseFault) (p : Program) → ((d : Draft) → r ≡ Ok d → IsWellFormedProgram d.program) → typed_of r ≡ Ok p → IsChecked p
draft_checked (Ok d) p w e = (checked_by d.program p (placed_ok d.decl_at d.node_at (annotated_program d.program) p e) (w d refl)).1
draft_checked (Err f) p w e = absurd cc

tokens_checked : (len : ℕ) (r : Result (List Token) LexFault) (p : Program) → ((ts : List Token) → r ≡ Ok ts → AreTokens 0 len ts) → parsed_of len r ≡ Ok p → IsChecked p
tokens_checked len (Ok ts) p k e = draft_checked (parsed.program_of ts len) p (λ d h. draft_formed ts len (Ok d) (k ts refl) h) e
tokens_checked len (Err f) p k e = absurd cc

-- a program that a text says is checked
pub program_checked : (text : List ℕ) (p : Program) → length text ≤ 65536 → program_of text ≡ Ok p → IsChecked p
unfolding program_of
program_checked text p small e = tokens_checked (length text) (tokens_of text) p (λ ts h. tokens_kept text ts small h) e

-- ---- arguments

abbrev pub AreGood : List Value → Type 0
AreGood vs = IsTrue (list_all well_formed_value vs) × IsTrue (list_all value_has_types vs)

read_good : (tokens : List Token) (end : ℕ) (vs : List Value) → AreTokens 0 end tokens → args_of tokens end ≡ Ok vs → AreGood vs
read_good tokens end vs h e = (read.args_formed tokens end h vs e, read.args_full tokens end h vs e)

by_good : (r : Result (List Value) ParseFault) (vs : List Value) → ((us : List Value) → r ≡ Ok us → AreGood us) → args_by r ≡ Some vs → AreGood vs
by_good (Ok us) vs k e = let same : us ≡ vs = cc in subst AreGood same (k us refl)
by_good (Err f) vs k e = absurd cc

in_good : (len : ℕ) (r : Result (List Token) LexFault) (vs : List Value) → ((ts : List Token) → r ≡ Ok ts → AreTokens 0 len ts) → args_in len r ≡ Some vs → AreGood vs
in_good len (Ok ts) vs k e = by_good (args_of ts len) vs (λ us h. read_good ts len us (k ts refl) h) e
in_good len (Err f) vs k e = absurd cc

pub args_good : (text : List ℕ) (vs : List Value) → length text ≤ 65536 → args_of_text text ≡ Some vs → AreGood vs
unfolding args_of_text
args_good text vs small e = in_good (length text) (tokens_of text) vs (λ ts h. tokens_kept text ts small h) e

-- arguments that a text says are well formed
pub args_formed : (text : List ℕ) (vs : List Value) → length text ≤ 65536 → args_of_text text ≡ Some vs → IsTrue (list_all well_formed_value vs)
args_formed text vs small e = (args_good text vs small e).0

-- and no type is missing in them
pub args_full : (text : List ℕ) (vs : List Value) → length text ≤ 65536 → args_of_text text ≡ Some vs → IsTrue (list_all value_has_types vs)
args_full text vs small e = (args_good text vs small e).1

-- ---- chunks

-- a typed chunk isn't refused
pub not_refused : (c : Chunk) → IsTrue (list_all well_formed_value c.args) → IsCheckedChunk c → not (is_some (refusal_of c)) ≡ true
not_refused c f k = ap (λ o. not (is_some o)) (call_only c f k.typed)

none_left : (small : Bool) (o : Option Ill) → not (is_some (or_large small (as_fault o))) ≡ true → (small ≡ true) × (o ≡ None)
none_left true None e = (refl, refl)
none_left false None e = absurd cc
none_left true (Some i) e = absurd cc
none_left false (Some i) e = absurd cc

-- and what isn't refused is typed
pub chunk_checked : (c : Chunk) → IsChecked c.code → IsTrue (list_all well_formed_value c.args) → IsTrue (list_all value_has_types c.args) → not (is_some (refusal_of c)) ≡ true → IsCheckedChunk c
chunk_checked c code f k e =
    let n = none_left (is_small_chunk c) (ill_call right c.code c.entry c.args) e in
    call_found c code f k n.0 n.1
