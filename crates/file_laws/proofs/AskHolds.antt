-- A request is refused for no `NoMemory`.
use Rattle.std.proofs.Common.{◌≡◌, ℕ, List, Option, Some, None, Err}
use Rattle.file_laws.proofs.FileHolds.{OnRefusal, either_refuses, done_refuses, none_refuses, at_line_refuses, file_holds}
use Rattle.file_laws.proofs.LineHolds.{Holds, then_holds, done_holds, none_holds, word_at_holds, end_at_holds, rest_at_holds, program_in_holds, call_at_holds}
use Rattle.file_laws.proofs.NodeHolds.{behind_word_holds, last_number_holds, header_holds, usual_holds}
use Rattle.file_laws.specs.Refusals.{FaultHolds, ReasonHolds}
use Rattle.line_reader.specs.Lines.{words}
use Rattle.line_reader.specs.Programs.{opened_program, program_in, call_at}
use Rattle.line_reader.specs.Reads.{word_at, end_at, rest_at}
use Rattle.line_reader.specs.declared.fault.LineFault.{LineFault}
use Rattle.line_reader.specs.declared.fault.LineReason.TheVariants.{BadWord}
use Rattle.node_files.specs.Asks.{to_line, from_line, bound_line, entry_line, program_line, wanted_line, close_program, ask_step_at, early, request_of, ask_end, ask_format, nothing_asked, ask_of}
use Rattle.node_files.specs.Parts.{behind_word, last_number}
use Rattle.node_files.specs.declared.ask.AskReading.{AskReading}
use Rattle.node_files.specs.declared.ask.AskStage.{AskStage}
use Rattle.node_files.specs.declared.ask.AskWord.{AskWord}
use Rattle.plan_base.specs.declared.tree.Program.{Program}
use Rattle.std.specs.Str.{bytes_eq}
use lib.Chars.{codes}
use Rattle.line_reader.specs.declared.fault.LineFault.TheVariants as faults
use Rattle.node_files.specs.declared.ask.AskStage.TheVariants as stages
use Rattle.node_files.specs.declared.ask.AskWord.TheVariants as word

to_line_holds : (ws : List (List ℕ)) (s : AskReading) → Holds (to_line ws s)
unfolding to_line
to_line_holds ws s =
    then_holds (behind_word (codes "to") ws) _ (behind_word_holds (codes "to") ws) (λ more.
    then_holds (last_number 1 65535 more) _ (last_number_holds 1 65535 more) (λ p.
    done_holds (record s { stage = stages.Wants word.From; to = p })))

from_line_holds : (ws : List (List ℕ)) (s : AskReading) → Holds (from_line ws s)
unfolding from_line
from_line_holds ws s =
    then_holds (behind_word (codes "from") ws) _ (behind_word_holds (codes "from") ws) (λ more.
    then_holds (last_number 1 65535 more) _ (last_number_holds 1 65535 more) (λ p.
    done_holds (record s { stage = stages.Wants word.Bound; from = p })))

bound_line_holds : (ws : List (List ℕ)) (s : AskReading) → Holds (bound_line ws s)
unfolding bound_line
bound_line_holds ws s =
    then_holds (behind_word (codes "bound") ws) _ (behind_word_holds (codes "bound") ws) (λ more.
    then_holds (last_number 0 65535 more) _ (last_number_holds 0 65535 more) (λ n.
    done_holds (record s { stage = stages.Wants word.Entry; bound = n })))

entry_line_holds : (number : ℕ) (ws : List (List ℕ)) (s : AskReading) → Holds (entry_line number ws s)
unfolding entry_line
entry_line_holds number ws s =
    then_holds (behind_word (codes "entry") ws) _ (behind_word_holds (codes "entry") ws) (λ more.
    then_holds (rest_at more) _ (rest_at_holds more) (λ text.
    then_holds (word_at more) _ (word_at_holds more) (λ w.
    then_holds (rest_at w.1) _ (rest_at_holds w.1) (λ u3.
    done_holds (record s { stage = stages.Wants word.Program; entry = text; entry_line = number })))))

program_line_holds : (number : ℕ) (ws : List (List ℕ)) (s : AskReading) → Holds (program_line number ws s)
unfolding program_line
program_line_holds number ws s =
    then_holds (behind_word (codes "program") ws) _ (behind_word_holds (codes "program") ws) (λ more.
    then_holds (end_at more) _ (end_at_holds more) (λ u1.
    done_holds (record s { stage = stages.Inside; program = opened_program number })))

wanted_line_holds : (x0 : AskWord) (number : ℕ) (ws : List (List ℕ)) (s : AskReading) → Holds (wanted_line x0 number ws s)
unfolding wanted_line
wanted_line_holds word.To number ws s = to_line_holds ws s
wanted_line_holds word.From number ws s = from_line_holds ws s
wanted_line_holds word.Bound number ws s = bound_line_holds ws s
wanted_line_holds word.Entry number ws s = entry_line_holds number ws s
wanted_line_holds word.Program number ws s = program_line_holds number ws s

close_program_holds : (s : AskReading) → Holds (close_program s)
unfolding close_program
close_program_holds s =
    then_holds (program_in s.program.text) _ (program_in_holds s.program.text) (λ p.
    done_holds (record s { stage = stages.Behind; checked = Some p }))

request_of_holds : (program : Program) (s : AskReading) → Holds (request_of program s)
unfolding request_of
request_of_holds program s =
    then_holds (call_at program (words s.entry)) _ (call_at_holds program (words s.entry)) (λ chunk.
    done_holds (record { to = s.to; from = s.from; bound = s.bound; chunk = chunk }))

step_holds : (stage : AskStage) (number : ℕ) (line : List ℕ) (s : AskReading) → OnRefusal (ask_step_at stage number line s)
unfolding ask_step_at
step_holds stages.Header number line s = header_holds (codes "planet inject 1") number line (record s { stage = stages.Wants word.To })
step_holds (stages.Wants w) number line s = usual_holds number line s (λ ws. wanted_line w number ws s) (λ ws. wanted_line_holds w number ws s)
step_holds stages.Inside number line s = either_refuses (bytes_eq line (codes "end program")) _ _ (at_line_refuses s.program.line (close_program s) (close_program_holds s)) (done_refuses _)
step_holds stages.Behind number line s = usual_holds number line s (λ ws. Err BadWord) (λ ws. none_holds BadWord tt)

early_holds : (stage : AskStage) → ReasonHolds (early stage)
early_holds stages.Header = tt
early_holds (stages.Wants w) = tt
early_holds stages.Inside = tt
early_holds stages.Behind = tt

end_holds : (checked : Option Program) (number : ℕ) (s : AskReading) → OnRefusal (ask_end checked number s)
end_holds None number s = none_refuses (faults.Line number (early s.stage)) (early_holds s.stage)
end_holds (Some program) number s = at_line_refuses s.entry_line (request_of program s) (request_of_holds program s)

-- no first refusal of a request is or holds `NoMemory`
pub ask_holds : (bytes : List ℕ) (e : LineFault) → ask_of bytes ≡ Err e → FaultHolds e
ask_holds bytes e h = file_holds ask_format nothing_asked (λ number line s. step_holds s.stage number line s) (λ number s. end_holds s.checked number s) bytes e h
