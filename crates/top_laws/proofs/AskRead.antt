-- A request that is written reads as itself.
use Rattle.std.proofs.Common.{◌≡◌, ℕ, ◌+◌, ◌^◌, ◌<◌, ◌≤◌, true, false, cond, List, [], ◌∷◌, ◌++◌, length, Option, Some, None, Result, Ok, refl, sym, ap, ◌∙◌, arith}
use Rattle.std.specs.Str.{bytes_eq}
use Rattle.std.specs.Fmt.{decimal}
use lib.Chars.{codes}
use Rattle.plan_base.specs.declared.tree.Chunk.{Chunk}
use Rattle.plan_base.specs.declared.tree.Program.{Program}
use Rattle.checked_chunks.specs.Kept.{IsCheckedChunk}
use Rattle.network_config.specs.declared.fleet.AskFile.{AskFile}
use Rattle.line_reader.specs.declared.fault.LineReason.{LineReason}
use Rattle.line_reader.specs.declared.programs.OpenProgram.{OpenProgram}
use Rattle.line_reader.specs.Lines.{words, spaced_words}
use Rattle.line_reader.specs.Files.{at_line}
use Rattle.line_reader.specs.Inside.{after_lines}
use Rattle.line_reader.specs.Reads.{◌>>=◌, rest_at}
use Rattle.line_reader.specs.Programs.{opened_program, with_line, call_at}
use Rattle.line_reader.proofs.Again.{without, word_first}
use Rattle.line_reader.proofs.LineLaws.{no_lines, then_lines}
use Rattle.line_reader.proofs.Splits.{rest_all}
use Rattle.schedule_text.specs.Written.{IsCall}
use Rattle.schedule_text.proofs.WordLaws.{Free, free-append, line_is, words_rest, name_free}
use Rattle.schedule_text.proofs.ReadSteps.{then_ok}
use Rattle.schedule_text.proofs.EventsRead.{entry_ok, args_ok, call_is}
use Rattle.node_files.specs.declared.ask.AskWord.TheVariants as word
use Rattle.node_files.specs.declared.ask.AskStage.{AskStage}
use Rattle.node_files.specs.declared.ask.AskStage.TheVariants as stages
use Rattle.node_files.specs.declared.ask.AskReading.{AskReading}
use Rattle.node_files.specs.Parts.{behind_word}
use Rattle.node_files.specs.Asks.{to_line, from_line, bound_line, entry_line, program_line, wanted_line, close_program, ask_step_at, request_of, ask_format, nothing_asked, ask_of}
use Rattle.node_files.proofs.NodeLines.{Clean, clean_more, clean_number, last_reads, usual_by, usual_again}
use Rattle.top_laws.specs.Asks.{to_words, from_words, bound_words, entry_words, ask_lines, ask_text, IsAsk}
use Rattle.schedule_text.proofs.WholeRead.{text_free}
use Rattle.top_laws.proofs.Leading.{behind_lines, said_by, with_text, text_leads}

-- ---- the entry and its arguments

-- a call is read as it is written
call_ok : (c : Chunk) (args : List ℕ) → IsCall args c → IsCheckedChunk c → call_at c.code (c.entry ∷ words args) ≡ Ok c
unfolding call_at
call_ok c args k checked =
    then_ok _ (k.function, words args) _ _ (entry_ok c k.function (words args) k.found)
    (then_ok _ c.args _ _ (args_ok c args k.short k.says) (call_is args c k checked))

-- the words of an entry with its arguments
call_words : (entry args : List ℕ) → without 32 entry ≡ true → words (entry ++ 32 ∷ args) ≡ entry ∷ words args
call_words entry args free = word_first entry args free

abbrev rest : List ℕ → Result (List ℕ) LineReason
rest xs = Ok xs

rest_same : (xs ys : List ℕ) → rest xs ≡ rest ys → xs ≡ ys
rest_same xs ys e = cc

-- words that go on to the end of the line
rest_is : (entry args : List ℕ) → without 32 entry ≡ true → spaced_words (entry ∷ words args) ≡ entry ++ 32 ∷ args
rest_is entry args free = rest_same (spaced_words (entry ∷ words args)) (entry ++ 32 ∷ args) (ap rest_at (sym (call_words entry args free)) ∙ rest_all (entry ++ 32 ∷ args))

module _ (text : List (List ℕ)) (args : List ℕ) (a : AskFile) (is : IsAsk text args a) where
  -- ---- what the lines leave

  abbrev state : AskStage → ℕ → ℕ → ℕ → AskReading
  state stage to from bound = record { stage = stage; to = to; from = from; bound = bound; entry = []; entry_line = 1; program = opened_program 1; checked = None }

  -- behind the line of the entry, the fifth
  abbrev called_reading : AskStage → OpenProgram → Option Program → AskReading
  called_reading stage program checked = record { stage = stage; to = a.to; from = a.from; bound = a.bound; entry = a.chunk.entry ++ 32 ∷ args; entry_line = 5; program = program; checked = checked }

  -- with any words of an entry
  abbrev with_entry : List ℕ → AskReading
  with_entry entry = record { stage = stages.Wants word.Program; to = a.to; from = a.from; bound = a.bound; entry = entry; entry_line = 5; program = opened_program 1; checked = None }

  -- ---- numbers

  port_small : (p : ℕ) → p ≤ 65535 → p < 2 ^ 64
  port_small p h = omega (arith, h)

  to_clean : Clean (to_words a)
  to_clean = clean_more (codes "to") (decimal a.to ∷ []) (refl, refl) (clean_number a.to (port_small a.to is.rules.to.1) [] (tt, tt))

  from_clean : Clean (from_words a)
  from_clean = clean_more (codes "from") (decimal a.from ∷ []) (refl, refl) (clean_number a.from (port_small a.from is.rules.from.1) [] (tt, tt))

  bound_clean : Clean (bound_words a)
  bound_clean = clean_more (codes "bound") (decimal a.bound ∷ []) (refl, refl) (clean_number a.bound (port_small a.bound is.rules.injection.0) [] (tt, tt))

  to_reads : to_line (to_words a) (state (stages.Wants word.To) 1 1 0) ≡ Ok (state (stages.Wants word.From) a.to 1 0)
  unfolding to_line behind_word
  to_reads = then_ok _ a.to _ _ (last_reads 1 65535 a.to (port_small a.to is.rules.to.1) is.rules.to.0 is.rules.to.1) refl

  from_reads : from_line (from_words a) (state (stages.Wants word.From) a.to 1 0) ≡ Ok (state (stages.Wants word.Bound) a.to a.from 0)
  unfolding from_line behind_word
  from_reads = then_ok _ a.from _ _ (last_reads 1 65535 a.from (port_small a.from is.rules.from.1) is.rules.from.0 is.rules.from.1) refl

  bound_reads : bound_line (bound_words a) (state (stages.Wants word.Bound) a.to a.from 0) ≡ Ok (state (stages.Wants word.Entry) a.to a.from a.bound)
  unfolding bound_line behind_word
  bound_reads = then_ok _ a.bound _ _ (last_reads 0 65535 a.bound (port_small a.bound is.rules.injection.0) (omega arith) is.rules.injection.0) refl

  entry_reads : entry_line 5 (codes "entry" ∷ a.chunk.entry ∷ words args) (state (stages.Wants word.Entry) a.to a.from a.bound) ≡ Ok (called_reading (stages.Wants word.Program) (opened_program 1) None)
  unfolding entry_line behind_word
  entry_reads =
      then_ok (rest_at (words args)) args (λ _. Ok (with_entry (spaced_words (a.chunk.entry ∷ words args)))) (Ok (called_reading (stages.Wants word.Program) (opened_program 1) None)) (rest_all args)
      (ap (λ (t : List ℕ). Ok (with_entry t)) (rest_is a.chunk.entry args (name_free a.chunk.entry is.call.entry).0))

  program_reads : program_line 6 (codes "program" ∷ []) (called_reading (stages.Wants word.Program) (opened_program 1) None) ≡ Ok (called_reading stages.Inside (opened_program 6) None)
  unfolding program_line behind_word
  program_reads = refl

  -- ---- the steps of the lines

  header_step : ask_format.step 1 (codes "planet inject 1") nothing_asked ≡ Ok (state (stages.Wants word.To) 1 1 0)
  unfolding ask_step_at
  header_step = refl

  to_step : ask_format.step 2 (spaced_words (to_words a)) (state (stages.Wants word.To) 1 1 0) ≡ Ok (state (stages.Wants word.From) a.to 1 0)
  unfolding ask_step_at wanted_line
  to_step = usual_again 2 (codes "to") (decimal a.to ∷ []) (state (stages.Wants word.To) 1 1 0) (state (stages.Wants word.From) a.to 1 0) (λ ws. to_line ws (state (stages.Wants word.To) 1 1 0)) refl to_clean to_reads

  from_step : ask_format.step 3 (spaced_words (from_words a)) (state (stages.Wants word.From) a.to 1 0) ≡ Ok (state (stages.Wants word.Bound) a.to a.from 0)
  unfolding ask_step_at wanted_line
  from_step = usual_again 3 (codes "from") (decimal a.from ∷ []) (state (stages.Wants word.From) a.to 1 0) (state (stages.Wants word.Bound) a.to a.from 0) (λ ws.
      from_line ws (state (stages.Wants word.From) a.to 1 0)) refl from_clean from_reads

  bound_step : ask_format.step 4 (spaced_words (bound_words a)) (state (stages.Wants word.Bound) a.to a.from 0) ≡ Ok (state (stages.Wants word.Entry) a.to a.from a.bound)
  unfolding ask_step_at wanted_line
  bound_step = usual_again 4 (codes "bound") (decimal a.bound ∷ []) (state (stages.Wants word.Bound) a.to a.from 0) (state (stages.Wants word.Entry) a.to a.from a.bound) (λ ws.
      bound_line ws (state (stages.Wants word.Bound) a.to a.from 0)) refl bound_clean bound_reads

  entry_step : ask_format.step 5 (spaced_words (entry_words args a)) (state (stages.Wants word.Entry) a.to a.from a.bound) ≡ Ok (called_reading (stages.Wants word.Program) (opened_program 1) None)
  unfolding ask_step_at wanted_line
  entry_step =
      usual_by 5 (spaced_words (entry_words args a)) (codes "entry" ∷ a.chunk.entry ∷ words args) (state (stages.Wants word.Entry) a.to a.from a.bound)
      (called_reading (stages.Wants word.Program) (opened_program 1) None)
      (λ ws.
      entry_line 5 ws (state (stages.Wants word.Entry) a.to a.from a.bound)) refl
      (words_rest (codes "entry") (a.chunk.entry ∷ []) args (refl, ((name_free a.chunk.entry is.call.entry).0, tt))) entry_reads

  program_step : ask_format.step 6 (codes "program") (called_reading (stages.Wants word.Program) (opened_program 1) None) ≡ Ok (called_reading stages.Inside (opened_program 6) None)
  unfolding ask_step_at wanted_line
  program_step = usual_again 6 (codes "program") [] (called_reading (stages.Wants word.Program) (opened_program 1) None) (called_reading stages.Inside (opened_program 6) None) (λ ws.
      program_line 6 ws (called_reading (stages.Wants word.Program) (opened_program 1) None)) refl ((refl, tt), (refl, tt)) program_reads

  -- ---- the program

  abbrev inside : OpenProgram → AskReading
  inside begun = called_reading stages.Inside begun None

  text_step : (number : ℕ) (line : List ℕ) (begun : OpenProgram) → bytes_eq line (codes "end program") ≡ false → ask_format.step number line (inside begun) ≡ Ok (inside (with_line begun line))
  unfolding ask_step_at
  text_step number line begun e = ap (λ b. cond b (at_line begun.line (close_program (inside begun))) (Ok (inside (with_line begun line)))) e

  abbrev whole : AskReading
  whole = called_reading stages.Behind (with_text (opened_program 6) text) (Some a.chunk.code)

  end_step : (number : ℕ) → ask_format.step number (codes "end program") (inside (with_text (opened_program 6) text)) ≡ Ok whole
  unfolding ask_step_at close_program
  end_step number = ap (λ r. at_line 6 (r >>= λ p. Ok (called_reading stages.Behind (with_text (opened_program 6) text) (Some p)))) is.program.says

  -- ---- the whole

  text_lead : after_lines ask_format 7 (text ++ codes "end program" ∷ []) (inside (opened_program 6)) ≡ Ok whole
  text_lead =
      behind_lines ask_format text (codes "end program" ∷ []) 7 (inside (opened_program 6)) (inside (with_text (opened_program 6) text)) whole (text_leads ask_format inside text_step text (opened_program 6) is.program.lines 7)
      (then_lines ask_format (7 + length text) (codes "end program") [] (inside (with_text (opened_program 6) text)) whole whole (end_step (7 + length text)) (no_lines ask_format (7 + length text + 1) whole))

  all_lead : after_lines ask_format 1 (ask_lines text args a) nothing_asked ≡ Ok whole
  all_lead =
      then_lines ask_format 1 (codes "planet inject 1") _ nothing_asked (state (stages.Wants word.To) 1 1 0) whole header_step
      (then_lines ask_format 2 (spaced_words (to_words a)) _ _ (state (stages.Wants word.From) a.to 1 0) whole to_step
      (then_lines ask_format 3 (spaced_words (from_words a)) _ _ (state (stages.Wants word.Bound) a.to a.from 0) whole from_step
      (then_lines ask_format 4 (spaced_words (bound_words a)) _ _ (state (stages.Wants word.Entry) a.to a.from a.bound) whole bound_step
      (then_lines ask_format 5 (spaced_words (entry_words args a)) _ _ (called_reading (stages.Wants word.Program) (opened_program 1) None) whole entry_step
      (then_lines ask_format 6 (codes "program") _ _ (inside (opened_program 6)) whole program_step text_lead)))))

  lines_free : Free 10 (ask_lines text args a)
  lines_free = (
    refl,
    (
      line_is (to_words a) to_clean.1,
      (
        line_is (from_words a) from_clean.1,
        (
          line_is (bound_words a) bound_clean.1,
          (
            line_is (entry_words args a) (refl, ((name_free a.chunk.entry is.call.entry).1, (is.call.line, tt))),
            (refl, free-append 10 text _ (text_free text is.program.lines) (refl, tt)),
          ),
        ),
      ),
    ),
  )

  end_is : (number : ℕ) → ask_format.finish number whole ≡ Ok a
  unfolding request_of
  end_is number =
      ap (λ r. at_line 5 (r >>= λ c. Ok (record { to = a.to; from = a.from; bound = a.bound; chunk = c })))
      (ap (λ ws. call_at a.chunk.code ws) (call_words a.chunk.entry args (name_free a.chunk.entry is.call.entry).0) ∙ call_ok a.chunk args is.call is.rules.injection.1)

  -- a request that is written reads as itself
  pub ask_again : ask_of (ask_text text args a) ≡ Ok a
  ask_again = said_by ask_format (ask_lines text args a) nothing_asked whole (Ok a) lines_free all_lead (end_is (1 + length (ask_lines text args a)))
