-- The file of two ends of a port only counts its lines.
use Rattle.std.proofs.Common.{◌≡◌, ℕ, true, List, Ok, refl}
use lib.Chars.{codes}
use Rattle.line_reader.specs.Counting.{moved_line, moved_by, CountsOnly}
use Rattle.line_reader.specs.Files.{is_skipped}
use Rattle.command_files.specs.declared.port.PortReading.{PortReading}
use Rattle.command_files.specs.declared.port.PortStage.{PortStage}
use Rattle.command_files.specs.declared.port.PortStage.TheVariants as stages
use Rattle.command_files.specs.PortFiles.{purses_line, begin_line, event_line, port_step_at, port_end, port_format, nothing_read}
use Rattle.top_laws.specs.Outside.{IsPortOutside, PortOutside}
use Rattle.top_laws.specs.Later.{unmoved_reading}
use Rattle.top_laws.specs.Skipping.{SkipsLines}
use Rattle.top_laws.proofs.MovedCounts.{Moves, moves_count, skips_lines}
use Rattle.top_laws.proofs.LinesMoved.{identity_changes_nothing, header_moved, usual_moved, usual_skips}

step_moved : (first number : ℕ) (line : List ℕ) (stage : PortStage) (s : PortReading) → port_step_at stage (moved_line first number) line s ≡ moved_by first (λ x. x) (port_step_at stage number line s)
unfolding port_step_at
step_moved first number line stages.Header s =
    let begun : PortReading = record s { stage = stages.Purses } in
    header_moved (codes "planet port 1") first number line (λ x. x) begun begun refl
step_moved first number line stages.Purses s = usual_moved first number line (λ x. x) s s (λ ws. purses_line ws s) (λ ws. purses_line ws s) refl (λ ws. identity_changes_nothing (purses_line ws s))
step_moved first number line stages.Begin s = usual_moved first number line (λ x. x) s s (λ ws. begin_line ws s) (λ ws. begin_line ws s) refl (λ ws. identity_changes_nothing (begin_line ws s))
step_moved first number line stages.Events s = usual_moved first number line (λ x. x) s s (λ ws. event_line ws s) (λ ws. event_line ws s) refl (λ ws. identity_changes_nothing (event_line ws s))

end_moved : (first number : ℕ) (stage : PortStage) (s : PortReading) → port_end stage (moved_line first number) s ≡ moved_by first (λ x. x) (port_end stage number s)
end_moved first number stages.Header s = refl
end_moved first number stages.Purses s = refl
end_moved first number stages.Begin s = refl
end_moved first number stages.Events s = refl

moves : Moves port_format unmoved_reading
moves = record {
  step = λ first number line s. step_moved first number line s.stage s;
  finish = λ first number s. end_moved first number s.stage s;
}

pub counts : CountsOnly port_format unmoved_reading
counts = moves_count port_format unmoved_reading moves

skipped_changes_nothing : (number : ℕ) (line : List ℕ) (stage : PortStage) (s : PortReading) → is_skipped line ≡ true → IsPortOutside stage → port_step_at stage number line s ≡ Ok s
unfolding port_step_at
skipped_changes_nothing number line stages.Header s e o = absurd o
skipped_changes_nothing number line stages.Purses s e o = usual_skips number line s (λ ws. purses_line ws s) e
skipped_changes_nothing number line stages.Begin s e o = usual_skips number line s (λ ws. begin_line ws s) e
skipped_changes_nothing number line stages.Events s e o = usual_skips number line s (λ ws. event_line ws s) e

pub skips : SkipsLines port_format nothing_read PortOutside
skips = skips_lines port_format nothing_read unmoved_reading PortOutside moves (record {
  step = λ number line s e o. skipped_changes_nothing number line s.stage s e o;
  fixed = λ first low. refl;
  header = λ o. o;
})
