-- What is injected is typed, and its handler may handle.
use Rattle.std.proofs.Common.{◌≡◌, ℕ, Bool, true, false, cond, not, List, Option, Some, None, Result, refl, sym, subst}
use Rattle.std.specs.Prelude.{is_some}
use lib.Chars.{codes}
use Rattle.plan_base.specs.declared.name.Name.{Name}
use Rattle.plan_base.specs.declared.tree.Chunk.{Chunk}
use Rattle.plan_base.specs.declared.tree.Program.{Program}
use Rattle.plan_types_spec.specs.Handlers.{is_handler}
use Rattle.checked_chunks.specs.Kept.{IsChecked}
use Rattle.plan_types_chunks.specs.Chunks.{refusal_of}
use Rattle.plan_base.specs.declared.stamp.Version.{Version}
use Rattle.plan_base.specs.declared.stamp.Version.TheVariants.{One, Two}
use Rattle.network_config.specs.Rules.{MayName, KeepsInjection}
use Rattle.line_reader.specs.declared.fault.LineReason.{LineReason}
use Rattle.line_reader.specs.declared.fault.LineReason.TheVariants.{BadArgument}
use Rattle.line_reader.specs.Reads.{word_at, allowed_or_reason}
use Rattle.line_reader.specs.Numbers.{number_at}
use Rattle.line_reader.specs.Programs.{named_word, entry_at, args_at, chunk_with, typed_chunk}
use Rattle.line_reader.specs.Handlers.{comes, named_handler, handler_at}
use Rattle.line_reader.specs.Injections.{injection_at}
use Rattle.line_reader.proofs.Keeping.{IfRead, then_keeps, done_keeps, allowed_true, number_is}
use Rattle.line_reader.proofs.KeptPrograms.{args_are, chunk_is}

either_read : {B : Type 0} (P : B → Type 0) (t : Bool) (a b : Result B LineReason) → IfRead P a → IfRead P b → IfRead P (cond t a b)
either_read P true a b h k = h
either_read P false a b h k = k

-- a handler may be named for each chunk of a program
abbrev pub MayNameFor : Version → Program → Option Name × List (List ℕ) → Type 0
MayNameFor version program x = (c : Chunk) → c.code ≡ program → MayName version c x.0

named_is : (program : Program) (ws : List (List ℕ)) → IfRead (MayNameFor Two program) (named_handler program ws)
unfolding named_handler
named_is program ws =
    then_keeps (MayNameFor Two program) (word_at ws) _ (λ first hf.
    then_keeps (MayNameFor Two program) (word_at first.1) _ (λ w hw.
    then_keeps (MayNameFor Two program) (named_word w.0 BadArgument) _ (λ name hn.
    then_keeps (MayNameFor Two program) (allowed_or_reason (is_handler program name) BadArgument) _ (λ u hu.
    done_keeps (MayNameFor Two program) (Some name, w.1) (λ c e. subst (λ p. is_handler p name ≡ true) (sym e) (allowed_true (is_handler program name) BadArgument u hu))))))

-- so is one that is read
pub handler_is : (version : Version) (program : Program) (ws : List (List ℕ)) → IfRead (MayNameFor version program) (handler_at version program ws)
unfolding handler_at
handler_is One program ws = done_keeps (MayNameFor One program) (None, ws) (λ c e. refl)
handler_is Two program ws = either_read (MayNameFor Two program) (comes (codes "handler") ws) _ _ (named_is program ws) (done_keeps (MayNameFor Two program) (None, ws) (λ c e. tt))

abbrev HasCode : Program → Chunk → Type 0
HasCode program c = c.code ≡ program

code_is : (c : Chunk) → IfRead (HasCode c.code) (typed_chunk c)
unfolding typed_chunk
code_is c =
    then_keeps (HasCode c.code) (allowed_or_reason (not (is_some (refusal_of c))) BadArgument) _ (λ u hu.
    done_keeps (HasCode c.code) c refl)

abbrev pub KeepsAll : Version → Chunk × ℕ × Option Name → Type 0
KeepsAll version i = KeepsInjection version i.0 i.1 i.2

-- what is injected is typed, with a bound of at most 65,535, and its handler may handle
pub injection_is : (version : Version) (program : Program) (ws : List (List ℕ)) → IsChecked program → IfRead (KeepsAll version) (injection_at version program ws)
unfolding injection_at
injection_is version program ws checked =
    then_keeps (KeepsAll version) (entry_at program.funs ws) _ (λ f hf.
    then_keeps (KeepsAll version) (number_at 0 65535 f.1) _ (λ bound hb.
    then_keeps (KeepsAll version) (handler_at version program bound.1) _ (λ handler hh.
    then_keeps (KeepsAll version) (args_at handler.1) _ (λ args ha.
    let call = chunk_with program f.0.name args in
    then_keeps (KeepsAll version) (typed_chunk call) _ (λ chunk hc.
    done_keeps (KeepsAll version) (chunk, bound.0, handler.0)
    (((number_is 0 65535 f.1 bound hb).1, chunk_is call checked (args_are handler.1 args ha) chunk hc), handler_is version program bound.1 handler hh chunk (code_is call chunk hc)))))))
