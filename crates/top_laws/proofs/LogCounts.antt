-- The log of a node only counts its lines.
use Rattle.std.proofs.Common.{◌≡◌, ℕ, true, List, Ok, refl}
use lib.Chars.{codes}
use Rattle.line_reader.specs.Counting.{moved_line, moved_by, CountsOnly}
use Rattle.line_reader.specs.Files.{is_skipped}
use Rattle.node_files.specs.declared.log.LogReading.{LogReading}
use Rattle.node_files.specs.declared.log.LogStage.{LogStage}
use Rattle.node_files.specs.declared.log.LogStage.TheVariants as stages
use Rattle.node_files.specs.Logs.{own_line, boot_line, network_line, node_line, entry_line, begun_by, log_step_at, log_end, log_format, nothing_logged}
use Rattle.top_laws.specs.Outside.{IsLogOutside, LogOutside}
use Rattle.top_laws.specs.Later.{unmoved_reading}
use Rattle.top_laws.specs.Skipping.{SkipsLines}
use Rattle.top_laws.proofs.MovedCounts.{Moves, moves_count, skips_lines}
use Rattle.top_laws.proofs.LinesMoved.{identity_changes_nothing, version_moved, usual_moved, usual_skips}

step_moved : (first number : ℕ) (line : List ℕ) (stage : LogStage) (s : LogReading) → log_step_at stage (moved_line first number) line s ≡ moved_by first (λ x. x) (log_step_at stage number line s)
unfolding log_step_at
step_moved first number line stages.Header s = version_moved (codes "planet log ") first number line (λ x. x) (begun_by s) (begun_by s) (λ v. refl)
step_moved first number line stages.Host s = usual_moved first number line (λ x. x) s s (λ ws. own_line ws s) (λ ws. own_line ws s) refl (λ ws. identity_changes_nothing (own_line ws s))
step_moved first number line stages.Boot s = usual_moved first number line (λ x. x) s s (λ ws. boot_line ws s) (λ ws. boot_line ws s) refl (λ ws. identity_changes_nothing (boot_line ws s))
step_moved first number line stages.Hosts s = usual_moved first number line (λ x. x) s s (λ ws. network_line ws s) (λ ws. network_line ws s) refl (λ ws. identity_changes_nothing (network_line ws s))
step_moved first number line (stages.Node lacks) s = usual_moved first number line (λ x. x) s s (λ ws. node_line lacks ws s) (λ ws. node_line lacks ws s) refl (λ ws. identity_changes_nothing (node_line lacks ws s))
step_moved first number line stages.Events s = usual_moved first number line (λ x. x) s s (λ ws. entry_line ws s) (λ ws. entry_line ws s) refl (λ ws. identity_changes_nothing (entry_line ws s))

end_moved : (first number : ℕ) (stage : LogStage) (s : LogReading) → log_end stage (moved_line first number) s ≡ moved_by first (λ x. x) (log_end stage number s)
end_moved first number stages.Header s = refl
end_moved first number stages.Host s = refl
end_moved first number stages.Boot s = refl
end_moved first number stages.Hosts s = refl
end_moved first number (stages.Node lacks) s = refl
end_moved first number stages.Events s = refl

moves : Moves log_format unmoved_reading
moves = record {
  step = λ first number line s. step_moved first number line s.stage s;
  finish = λ first number s. end_moved first number s.stage s;
}

pub counts : CountsOnly log_format unmoved_reading
counts = moves_count log_format unmoved_reading moves

skipped_changes_nothing : (number : ℕ) (line : List ℕ) (stage : LogStage) (s : LogReading) → is_skipped line ≡ true → IsLogOutside stage → log_step_at stage number line s ≡ Ok s
unfolding log_step_at
skipped_changes_nothing number line stages.Header s e o = absurd o
skipped_changes_nothing number line stages.Host s e o = usual_skips number line s (λ ws. own_line ws s) e
skipped_changes_nothing number line stages.Boot s e o = usual_skips number line s (λ ws. boot_line ws s) e
skipped_changes_nothing number line stages.Hosts s e o = usual_skips number line s (λ ws. network_line ws s) e
skipped_changes_nothing number line (stages.Node lacks) s e o = usual_skips number line s (λ ws. node_line lacks ws s) e
skipped_changes_nothing number line stages.Events s e o = usual_skips number line s (λ ws. entry_line ws s) e

pub skips : SkipsLines log_format nothing_logged LogOutside
skips = skips_lines log_format nothing_logged unmoved_reading LogOutside moves (record {
  step = λ number line s e o. skipped_changes_nothing number line s.stage s e o;
  fixed = λ first low. refl;
  header = λ o. o;
})
