-- The programs of a file are typed, and so are the chunks that are injected.
use Rattle.std.proofs.Common.{◌≡◌, ℕ, ◌+◌, ◌≤◌, not, leb, List, length, Result, Ok, Err, refl, ap}
use Rattle.std.specs.Prelude.{is_some}
use Rattle.std.proofs.lemmas.Bool.{leb-true}
use Rattle.plan_base.specs.declared.tree.Chunk.{Chunk}
use Rattle.plan_base.specs.declared.tree.Program.{Program}
use Rattle.plan_base.specs.Sizes.{chunk_weight}
use Rattle.checked_chunks.specs.Kept.{IsChecked, IsCheckedChunk}
use Rattle.plan_types_chunks.specs.Chunks.{refusal_of}
use Rattle.program_text.specs.declared.fault.TextFault.{TextFault}
use Rattle.program_text.specs.Texts.{program_of, args_of_text}
use Rattle.line_reader.specs.declared.fault.LineReason.TheVariants.{TooMany, BadArgument}
use Rattle.line_reader.specs.Reads.{rest_at, allowed_or_reason}
use Rattle.line_reader.specs.Programs.{accepted_program, program_in, entry_at, args_at, chunk_with, typed_chunk, call_at, weighed_sum}
use Rattle.line_reader.proofs.TextLaws.{AreGood, program_checked, args_good, chunk_checked}
use Rattle.line_reader.proofs.Keeping.{IfRead, ok_is, then_keeps, done_keeps, allowed_true, ok_or_is}

accepted_is : (r : Result Program TextFault) (p : Program) → accepted_program r ≡ Ok p → r ≡ Ok p
accepted_is (Ok q) p e = let same = ok_is q p e in ap (λ z. Ok z) same
accepted_is (Err why) p e = absurd cc

-- a program that is read is checked
pub program_is : (text : List ℕ) → IfRead IsChecked (program_in text)
unfolding program_in
program_is text =
    then_keeps IsChecked (allowed_or_reason (leb (length text) 65536) TooMany) _ (λ u small p hp.
    program_checked text p (leb-true (length text) 65536 (allowed_true (leb (length text) 65536) TooMany u small)) (accepted_is (program_of text) p hp))

pub args_are : (ws : List (List ℕ)) → IfRead AreGood (args_at ws)
unfolding args_at
args_are ws =
    then_keeps AreGood (rest_at ws) _ (λ text ht.
    then_keeps AreGood (allowed_or_reason (leb (length text) 65536) BadArgument) _ (λ u small vs e.
    args_good text vs (leb-true (length text) 65536 (allowed_true (leb (length text) 65536) BadArgument u small)) (ok_or_is (args_of_text text) BadArgument vs e)))

pub chunk_is : (c : Chunk) → IsChecked c.code → AreGood c.args → IfRead IsCheckedChunk (typed_chunk c)
unfolding typed_chunk
chunk_is c code good =
    then_keeps IsCheckedChunk (allowed_or_reason (not (is_some (refusal_of c))) BadArgument) _ (λ u hu.
    done_keeps IsCheckedChunk c (chunk_checked c code good.0 good.1 (allowed_true (not (is_some (refusal_of c))) BadArgument u hu)))

-- a call is typed
pub call_is : (program : Program) (ws : List (List ℕ)) → IsChecked program → IfRead IsCheckedChunk (call_at program ws)
unfolding call_at
call_is program ws checked =
    then_keeps IsCheckedChunk (entry_at program.funs ws) _ (λ f hf.
    then_keeps IsCheckedChunk (args_at f.1) _ (λ args ha.
    chunk_is (chunk_with program f.0.name args) checked (args_are f.1 args ha)))

abbrev pub IsWeighed : ℕ → Chunk → ℕ → Type 0
IsWeighed sum chunk total = (total ≡ sum + (1 + chunk_weight chunk)) × (total ≤ 16777216)

-- the weight that is counted is within the limit
pub weighed_is : (sum : ℕ) (chunk : Chunk) → IfRead (IsWeighed sum chunk) (weighed_sum sum chunk)
unfolding weighed_sum
weighed_is sum chunk =
    then_keeps (IsWeighed sum chunk) (allowed_or_reason (leb (sum + (1 + chunk_weight chunk)) 16777216) TooMany) _ (λ u hu.
    done_keeps (IsWeighed sum chunk) (sum + (1 + chunk_weight chunk)) (refl, leb-true (sum + (1 + chunk_weight chunk)) 16777216 (allowed_true (leb (sum + (1 + chunk_weight chunk)) 16777216) TooMany u hu)))
