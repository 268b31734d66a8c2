-- A request that a file says keeps its rules, and each file has one answer.
use Rattle.std.proofs.Common.{◌⊎◌, ℕ, ◌+◌, ◌≤◌, List, Option, Some, None, Result, Err, arith}
use Rattle.std.specs.Prelude.{IfOk}
use Rattle.std.specs.Str.{bytes_eq}
use lib.Chars.{codes}
use Rattle.plan_base.specs.declared.tree.Program.{Program}
use Rattle.checked_chunks.specs.Kept.{IsChecked}
use Rattle.network_config.specs.declared.fleet.AskFile.{AskFile}
use Rattle.network_config.specs.NodeRules.{IsPort, KeepsAsk}
use Rattle.line_reader.specs.declared.fault.LineReason.TheVariants.{BadWord}
use Rattle.line_reader.specs.declared.fault.LineFault.{LineFault}
use Rattle.line_reader.specs.Lines.{lines, words}
use Rattle.line_reader.specs.Reads.{word_at, end_at, rest_at, FileGives}
use Rattle.line_reader.specs.Programs.{with_line, program_in, call_at}
use Rattle.line_reader.proofs.FileLaws.{is_keeping}
use Rattle.line_reader.proofs.Keeping.{IfRead, then_keeps, done_keeps, none_keeps, IfStep, step_done, at_line_keeps, either_keeps, read_keeps}
use Rattle.line_reader.proofs.KeptPrograms.{program_is, call_is}
use Rattle.line_reader.specs.Inside.{OnFault, RefusesRead}
use Rattle.line_reader.proofs.Placing.{fault_done, fault_here, at_line_placed, either_placed, Places, refuses_read}
use Rattle.node_files.specs.declared.ask.AskWord.{AskWord}
use Rattle.node_files.specs.declared.ask.AskWord.TheVariants as word
use Rattle.node_files.specs.declared.ask.AskStage.{AskStage}
use Rattle.node_files.specs.declared.ask.AskStage.TheVariants as stages
use Rattle.node_files.specs.declared.ask.AskReading.{AskReading}
use Rattle.node_files.specs.Parts.{behind_word, last_number}
use Rattle.node_files.specs.Asks.{to_line, from_line, bound_line, entry_line, program_line, wanted_line, close_program, ask_step_at, early, request_of, ask_end, ask_format, nothing_asked, ask_of}
use Rattle.node_files.specs.Answers.{Accepted, Refused}
use Rattle.node_files.proofs.PartLaws.{HasChecked, last_number_is, header_keeps, usual_keeps, header_placed, usual_placed, value_or_refusal}

-- ---- the rules

record Keeps (s : AskReading) : Type 0 where
  to : IsPort s.to
  from : IsPort s.from
  bound : s.bound ≤ 65535
  checked : HasChecked s.checked

to_keeps : (ws : List (List ℕ)) (s : AskReading) → Keeps s → IfRead Keeps (to_line ws s)
unfolding to_line
to_keeps ws s k =
    then_keeps Keeps (behind_word (codes "to") ws) _ (λ more hm.
    then_keeps Keeps (last_number 1 65535 more) _ (λ p hp.
    done_keeps Keeps _ (record { to = last_number_is 1 65535 more p hp; from = k.from; bound = k.bound; checked = k.checked })))

from_keeps : (ws : List (List ℕ)) (s : AskReading) → Keeps s → IfRead Keeps (from_line ws s)
unfolding from_line
from_keeps ws s k =
    then_keeps Keeps (behind_word (codes "from") ws) _ (λ more hm.
    then_keeps Keeps (last_number 1 65535 more) _ (λ p hp.
    done_keeps Keeps _ (record { to = k.to; from = last_number_is 1 65535 more p hp; bound = k.bound; checked = k.checked })))

bound_keeps : (ws : List (List ℕ)) (s : AskReading) → Keeps s → IfRead Keeps (bound_line ws s)
unfolding bound_line
bound_keeps ws s k =
    then_keeps Keeps (behind_word (codes "bound") ws) _ (λ more hm.
    then_keeps Keeps (last_number 0 65535 more) _ (λ n hn.
    done_keeps Keeps _ (record { to = k.to; from = k.from; bound = (last_number_is 0 65535 more n hn).1; checked = k.checked })))

entry_keeps : (number : ℕ) (ws : List (List ℕ)) (s : AskReading) → Keeps s → IfRead Keeps (entry_line number ws s)
unfolding entry_line
entry_keeps number ws s k =
    then_keeps Keeps (behind_word (codes "entry") ws) _ (λ more hm.
    then_keeps Keeps (rest_at more) _ (λ text ht.
    then_keeps Keeps (word_at more) _ (λ w hw.
    then_keeps Keeps (rest_at w.1) _ (λ r hr.
    done_keeps Keeps _ (record { to = k.to; from = k.from; bound = k.bound; checked = k.checked })))))

program_keeps : (number : ℕ) (ws : List (List ℕ)) (s : AskReading) → Keeps s → IfRead Keeps (program_line number ws s)
unfolding program_line
program_keeps number ws s k =
    then_keeps Keeps (behind_word (codes "program") ws) _ (λ more hm.
    then_keeps Keeps (end_at more) _ (λ u hu.
    done_keeps Keeps _ (record { to = k.to; from = k.from; bound = k.bound; checked = k.checked })))

wanted_keeps : (w : AskWord) (number : ℕ) (ws : List (List ℕ)) (s : AskReading) → Keeps s → IfRead Keeps (wanted_line w number ws s)
unfolding wanted_line
wanted_keeps word.To number ws s k = to_keeps ws s k
wanted_keeps word.From number ws s k = from_keeps ws s k
wanted_keeps word.Bound number ws s k = bound_keeps ws s k
wanted_keeps word.Entry number ws s k = entry_keeps number ws s k
wanted_keeps word.Program number ws s k = program_keeps number ws s k

close_keeps : (s : AskReading) → Keeps s → IfRead Keeps (close_program s)
unfolding close_program
close_keeps s k =
    then_keeps Keeps (program_in s.program.text) _ (λ p hp.
    done_keeps Keeps _ (record { to = k.to; from = k.from; bound = k.bound; checked = program_is s.program.text p hp }))

more_keeps : (line : List ℕ) (s : AskReading) → Keeps s → Keeps (record s { program = with_line s.program line })
more_keeps line s k = record { to = k.to; from = k.from; bound = k.bound; checked = k.checked }

begun_keeps : (s : AskReading) → Keeps s → Keeps (record s { stage = stages.Wants word.To })
begun_keeps s k = record { to = k.to; from = k.from; bound = k.bound; checked = k.checked }

step_keeps : (stage : AskStage) (number : ℕ) (line : List ℕ) (s : AskReading) → Keeps s → IfStep Keeps (ask_step_at stage number line s)
unfolding ask_step_at
step_keeps stages.Header number line s k = header_keeps Keeps (codes "planet inject 1") number line (record s { stage = stages.Wants word.To }) (begun_keeps s k)
step_keeps (stages.Wants w) number line s k = usual_keeps Keeps number line s (λ ws. wanted_line w number ws s) k (λ ws. wanted_keeps w number ws s k)
step_keeps stages.Inside number line s k =
    either_keeps Keeps (bytes_eq line (codes "end program")) _ _
    (at_line_keeps Keeps s.program.line (close_program s) (close_keeps s k))
    (step_done Keeps _ (more_keeps line s k))
step_keeps stages.Behind number line s k = usual_keeps Keeps number line s (λ ws. Err BadWord) k (λ ws. none_keeps Keeps BadWord)

request_keeps : (program : Program) (s : AskReading) → IsChecked program → Keeps s → IfRead KeepsAsk (request_of program s)
unfolding request_of
request_keeps program s checked k =
    then_keeps KeepsAsk (call_at program (words s.entry)) _ (λ chunk hc.
    done_keeps KeepsAsk _ (record { to = k.to; from = k.from; injection = (k.bound, call_is program (words s.entry) checked chunk hc) }))

end_keeps : (checked : Option Program) (number : ℕ) (s : AskReading) → HasChecked checked → Keeps s → IfStep KeepsAsk (ask_end checked number s)
end_keeps None number s c k y e = absurd cc
end_keeps (Some program) number s c k y e = at_line_keeps KeepsAsk s.entry_line (request_of program s) (request_keeps program s c k) y e

nothing_keeps : Keeps nothing_asked
nothing_keeps = record { to = (omega arith, omega arith); from = (omega arith, omega arith); bound = omega arith; checked = tt }

ask_keeps : (bytes : List ℕ) → IfStep KeepsAsk (ask_of bytes)
ask_keeps bytes =
    read_keeps ask_format Keeps KeepsAsk
    (λ number line s k. step_keeps s.stage number line s k)
    (λ number s k. end_keeps s.checked number s k.checked k)
    (lines bytes) 1 nothing_asked nothing_keeps

pub ask_rules : (bytes : List ℕ) (r : Result AskFile LineFault) → FileGives (λ s. s) r (ask_of bytes) → IfOk r KeepsAsk
ask_rules bytes r h = is_keeping KeepsAsk r (ask_of bytes) h (ask_keeps bytes)

-- ---- where refusals stand

abbrev IsLine : ℕ → ℕ → Type 0
IsLine number n = (1 ≤ n) × (n ≤ number)

record Begun (number : ℕ) (s : AskReading) : Type 0 where
  entry : IsLine number s.entry_line
  program : IsLine number s.program.line

later : (number : ℕ) (s : AskReading) → Begun number s → Begun (number + 1) s
later number s b = record { entry = (b.entry.0, omega (arith, b.entry.1)); program = (b.program.0, omega (arith, b.program.1)) }

entry_begun : (number : ℕ) (ws : List (List ℕ)) (s : AskReading) → 1 ≤ number → Begun number s → IfRead (Begun number) (entry_line number ws s)
unfolding entry_line
entry_begun number ws s low b =
    then_keeps (Begun number) (behind_word (codes "entry") ws) _ (λ more hm.
    then_keeps (Begun number) (rest_at more) _ (λ text ht.
    then_keeps (Begun number) (word_at more) _ (λ w hw.
    then_keeps (Begun number) (rest_at w.1) _ (λ r hr.
    done_keeps (Begun number) _ (record { entry = (low, omega arith); program = b.program })))))

program_begun : (number : ℕ) (ws : List (List ℕ)) (s : AskReading) → 1 ≤ number → Begun number s → IfRead (Begun number) (program_line number ws s)
unfolding program_line
program_begun number ws s low b =
    then_keeps (Begun number) (behind_word (codes "program") ws) _ (λ more hm.
    then_keeps (Begun number) (end_at more) _ (λ u hu.
    done_keeps (Begun number) _ (record { entry = b.entry; program = (low, omega arith) })))

to_begun : (number : ℕ) (ws : List (List ℕ)) (s : AskReading) → Begun number s → IfRead (Begun number) (to_line ws s)
unfolding to_line
to_begun number ws s b =
    then_keeps (Begun number) (behind_word (codes "to") ws) _ (λ more hm.
    then_keeps (Begun number) (last_number 1 65535 more) _ (λ p hp.
    done_keeps (Begun number) _ (record { entry = b.entry; program = b.program })))

from_begun : (number : ℕ) (ws : List (List ℕ)) (s : AskReading) → Begun number s → IfRead (Begun number) (from_line ws s)
unfolding from_line
from_begun number ws s b =
    then_keeps (Begun number) (behind_word (codes "from") ws) _ (λ more hm.
    then_keeps (Begun number) (last_number 1 65535 more) _ (λ p hp.
    done_keeps (Begun number) _ (record { entry = b.entry; program = b.program })))

bound_begun : (number : ℕ) (ws : List (List ℕ)) (s : AskReading) → Begun number s → IfRead (Begun number) (bound_line ws s)
unfolding bound_line
bound_begun number ws s b =
    then_keeps (Begun number) (behind_word (codes "bound") ws) _ (λ more hm.
    then_keeps (Begun number) (last_number 0 65535 more) _ (λ n hn.
    done_keeps (Begun number) _ (record { entry = b.entry; program = b.program })))

wanted_begun : (w : AskWord) (number : ℕ) (ws : List (List ℕ)) (s : AskReading) → 1 ≤ number → Begun number s → IfRead (Begun number) (wanted_line w number ws s)
unfolding wanted_line
wanted_begun word.To number ws s low b = to_begun number ws s b
wanted_begun word.From number ws s low b = from_begun number ws s b
wanted_begun word.Bound number ws s low b = bound_begun number ws s b
wanted_begun word.Entry number ws s low b = entry_begun number ws s low b
wanted_begun word.Program number ws s low b = program_begun number ws s low b

close_begun : (number : ℕ) (s : AskReading) → Begun number s → IfRead (Begun number) (close_program s)
unfolding close_program
close_begun number s b =
    then_keeps (Begun number) (program_in s.program.text) _ (λ p hp.
    done_keeps (Begun number) _ (record { entry = b.entry; program = b.program }))

begun_more : (number : ℕ) (line : List ℕ) (s : AskReading) → Begun number s → Begun number (record s { program = with_line s.program line })
begun_more number line s b = record { entry = b.entry; program = b.program }

begun_to : (number : ℕ) (s : AskReading) → Begun number s → Begun number (record s { stage = stages.Wants word.To })
begun_to number s b = record { entry = b.entry; program = b.program }

step_begun : (stage : AskStage) (number : ℕ) (line : List ℕ) (s : AskReading) → 1 ≤ number → Begun number s → IfStep (Begun number) (ask_step_at stage number line s)
unfolding ask_step_at
step_begun stages.Header number line s low b = header_keeps (Begun number) (codes "planet inject 1") number line (record s { stage = stages.Wants word.To }) (begun_to number s b)
step_begun (stages.Wants w) number line s low b = usual_keeps (Begun number) number line s (λ ws. wanted_line w number ws s) b (λ ws. wanted_begun w number ws s low b)
step_begun stages.Inside number line s low b =
    either_keeps (Begun number) (bytes_eq line (codes "end program")) _ _
    (at_line_keeps (Begun number) s.program.line (close_program s) (close_begun number s b))
    (step_done (Begun number) _ (begun_more number line s b))
step_begun stages.Behind number line s low b = usual_keeps (Begun number) number line s (λ ws. Err BadWord) b (λ ws. none_keeps (Begun number) BadWord)

step_placed : (stage : AskStage) (number : ℕ) (line : List ℕ) (s : AskReading) → 1 ≤ number → Begun number s → OnFault number (ask_step_at stage number line s)
unfolding ask_step_at
step_placed stages.Header number line s low b = header_placed (codes "planet inject 1") number line (record s { stage = stages.Wants word.To }) low
step_placed (stages.Wants w) number line s low b = usual_placed number line s (λ ws. wanted_line w number ws s) low
step_placed stages.Inside number line s low b =
    either_placed number (bytes_eq line (codes "end program")) _ _
    (at_line_placed number s.program.line (close_program s) b.program.0 b.program.1)
    (fault_done number _)
step_placed stages.Behind number line s low b = usual_placed number line s (λ ws. Err BadWord) low

end_placed : (checked : Option Program) (number : ℕ) (s : AskReading) → 1 ≤ number → Begun number s → OnFault number (ask_end checked number s)
end_placed None number s low b = fault_here {B = AskFile} number number (early s.stage) low (omega arith)
end_placed (Some program) number s low b = at_line_placed number s.entry_line (request_of program s) b.entry.0 b.entry.1

ask_places : Places ask_format Begun
ask_places = record {
  later = later;
  kept = λ number line s low b. step_begun s.stage number line s low b;
  step = λ number line s low b. step_placed s.stage number line s low b;
  finish = λ number s low b. end_placed s.checked number s low b;
}

-- they refuse lines that were read
pub ask_refuses : RefusesRead ask_format nothing_asked
ask_refuses = refuses_read ask_format nothing_asked Begun ask_places (record { entry = (omega arith, omega arith); program = (omega arith, omega arith) })

pub ask_answered : (bytes : List ℕ) → Accepted ask_of bytes ⊎ Refused ask_of bytes
ask_answered bytes = value_or_refusal ask_format nothing_asked ask_refuses bytes
