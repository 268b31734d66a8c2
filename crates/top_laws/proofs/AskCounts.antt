-- A request only counts its lines.
use Rattle.std.proofs.Common.{◌≡◌, ℕ, ◌≤◌, true, List, Option, Some, None, Ok, Err, refl, ap}
use Rattle.std.specs.Str.{bytes_eq}
use lib.Chars.{codes}
use Rattle.plan_base.specs.declared.tree.Program.{Program}
use Rattle.line_reader.specs.declared.fault.LineReason.TheVariants.{BadWord}
use Rattle.line_reader.specs.Counting.{moved_line, moved_by, CountsOnly}
use Rattle.line_reader.specs.Files.{is_skipped}
use Rattle.line_reader.specs.Programs.{program_in, opened_program}
use Rattle.line_reader.specs.Reads.{word_at, end_at, rest_at}
use Rattle.node_files.specs.declared.ask.AskReading.{AskReading}
use Rattle.node_files.specs.declared.ask.AskStage.{AskStage}
use Rattle.node_files.specs.declared.ask.AskStage.TheVariants as stages
use Rattle.node_files.specs.declared.ask.AskWord.{AskWord}
use Rattle.node_files.specs.declared.ask.AskWord.TheVariants as word
use Rattle.node_files.specs.Parts.{behind_word, last_number}
use Rattle.node_files.specs.Asks.{to_line, from_line, bound_line, entry_line, program_line, wanted_line, close_program, ask_step_at, request_of, ask_end, ask_format, nothing_asked}
use Rattle.top_laws.specs.Outside.{IsAskOutside, AskOutside}
use Rattle.top_laws.specs.Later.{later_ask}
use Rattle.top_laws.specs.Skipping.{SkipsLines}
use Rattle.top_laws.proofs.MovedCounts.{Moves, moved_not, moves_count, skips_lines}
use Rattle.line_reader.proofs.CountLaws.{changed_read, then_changed}
use Rattle.top_laws.proofs.LinesMoved.{identity_changes_nothing, at_moved, either_moved, header_moved, usual_moved, usual_skips}

to_moved : (first : ℕ) (ws : List (List ℕ)) (s : AskReading) → to_line ws (later_ask first s) ≡ changed_read (later_ask first) (to_line ws s)
unfolding to_line
to_moved first ws s =
    then_changed (later_ask first) (behind_word (codes "to") ws) _ _ (λ more.
    then_changed (later_ask first) (last_number 1 65535 more) _ _ (λ p. refl))

from_moved : (first : ℕ) (ws : List (List ℕ)) (s : AskReading) → from_line ws (later_ask first s) ≡ changed_read (later_ask first) (from_line ws s)
unfolding from_line
from_moved first ws s =
    then_changed (later_ask first) (behind_word (codes "from") ws) _ _ (λ more.
    then_changed (later_ask first) (last_number 1 65535 more) _ _ (λ p. refl))

bound_moved : (first : ℕ) (ws : List (List ℕ)) (s : AskReading) → bound_line ws (later_ask first s) ≡ changed_read (later_ask first) (bound_line ws s)
unfolding bound_line
bound_moved first ws s =
    then_changed (later_ask first) (behind_word (codes "bound") ws) _ _ (λ more.
    then_changed (later_ask first) (last_number 0 65535 more) _ _ (λ n. refl))

entry_moved : (first number : ℕ) (ws : List (List ℕ)) (s : AskReading) → entry_line (moved_line first number) ws (later_ask first s) ≡ changed_read (later_ask first) (entry_line number ws s)
unfolding entry_line
entry_moved first number ws s =
    then_changed (later_ask first) (behind_word (codes "entry") ws) _ _ (λ more.
    then_changed (later_ask first) (rest_at more) _ _ (λ text.
    then_changed (later_ask first) (word_at more) _ _ (λ w.
    then_changed (later_ask first) (rest_at w.1) _ _ (λ r. refl))))

program_moved : (first number : ℕ) (ws : List (List ℕ)) (s : AskReading) → program_line (moved_line first number) ws (later_ask first s) ≡ changed_read (later_ask first) (program_line number ws s)
unfolding program_line
program_moved first number ws s =
    then_changed (later_ask first) (behind_word (codes "program") ws) _ _ (λ more.
    then_changed (later_ask first) (end_at more) _ _ (λ u. refl))

wanted_moved : (first number : ℕ) (w : AskWord) (ws : List (List ℕ)) (s : AskReading) → wanted_line w (moved_line first number) ws (later_ask first s) ≡ changed_read (later_ask first) (wanted_line w number ws s)
unfolding wanted_line
wanted_moved first number word.To ws s = to_moved first ws s
wanted_moved first number word.From ws s = from_moved first ws s
wanted_moved first number word.Bound ws s = bound_moved first ws s
wanted_moved first number word.Entry ws s = entry_moved first number ws s
wanted_moved first number word.Program ws s = program_moved first number ws s

close_moved : (first : ℕ) (s : AskReading) → close_program (later_ask first s) ≡ changed_read (later_ask first) (close_program s)
unfolding close_program
close_moved first s = then_changed (later_ask first) (program_in s.program.text) _ _ (λ p. refl)

step_moved : (first number : ℕ) (line : List ℕ) (stage : AskStage) (s : AskReading) → ask_step_at stage (moved_line first number) line (later_ask first s) ≡ moved_by first (later_ask first) (ask_step_at stage number line s)
unfolding ask_step_at
step_moved first number line stages.Header s =
    let begun : AskReading = record s { stage = stages.Wants word.To } in
    header_moved (codes "planet inject 1") first number line (later_ask first) begun (later_ask first begun) refl
step_moved first number line (stages.Wants w) s =
    usual_moved first number line (later_ask first) s (later_ask first s) (λ ws. wanted_line w number ws s) (λ ws. wanted_line w (moved_line first number) ws (later_ask first s)) refl (λ ws. wanted_moved first number w ws s)
step_moved first number line stages.Inside s =
    either_moved first (later_ask first) (bytes_eq line (codes "end program")) _ _ _ _
    (at_moved first s.program.line (later_ask first) (close_program s) (close_program (later_ask first s)) (close_moved first s))
    refl
step_moved first number line stages.Behind s = usual_moved first number line (later_ask first) s (later_ask first s) (λ ws. Err BadWord) (λ ws. Err BadWord) refl (λ ws. refl)

request_same : (first : ℕ) (program : Program) (s : AskReading) → request_of program (later_ask first s) ≡ request_of program s
unfolding request_of
request_same first program s = refl

end_moved : (first number : ℕ) (checked : Option Program) (s : AskReading) → ask_end checked (moved_line first number) (later_ask first s) ≡ moved_by first (λ x. x) (ask_end checked number s)
end_moved first number None s = refl
end_moved first number (Some program) s =
    at_moved first s.entry_line (λ x. x) (request_of program s) (request_of program (later_ask first s)) (rw (request_same first program s) (identity_changes_nothing (request_of program s)))

moves : Moves ask_format later_ask
moves = record {
  step = λ first number line s. step_moved first number line s.stage s;
  finish = λ first number s. end_moved first number s.checked s;
}

pub counts : CountsOnly ask_format later_ask
counts = moves_count ask_format later_ask moves

skipped_changes_nothing : (number : ℕ) (line : List ℕ) (stage : AskStage) (s : AskReading) → is_skipped line ≡ true → IsAskOutside stage → ask_step_at stage number line s ≡ Ok s
unfolding ask_step_at
skipped_changes_nothing number line stages.Header s e o = absurd o
skipped_changes_nothing number line (stages.Wants w) s e o = usual_skips number line s (λ ws. wanted_line w number ws s) e
skipped_changes_nothing number line stages.Inside s e o = absurd o
skipped_changes_nothing number line stages.Behind s e o = usual_skips number line s (λ ws. Err BadWord) e

-- the first line's number moves behind no line
start_is_fixed : (first : ℕ) → 1 ≤ first → later_ask first nothing_asked ≡ nothing_asked
start_is_fixed first low = ap (λ n. let s : AskReading = record nothing_asked { entry_line = n; program = opened_program n } in s) (moved_not first 1 low)

pub skips : SkipsLines ask_format nothing_asked AskOutside
skips = skips_lines ask_format nothing_asked later_ask AskOutside moves (record {
  step = λ number line s e o. skipped_changes_nothing number line s.stage s e o;
  fixed = start_is_fixed;
  header = λ o. o;
})
