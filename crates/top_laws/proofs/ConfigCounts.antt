-- A configuration only counts its lines.
use Rattle.std.proofs.Common.{◌≡◌, ℕ, ◌≤◌, true, List, Ok, refl, ap}
use Rattle.std.specs.Option.{ok_or}
use Rattle.std.specs.Str.{bytes_eq}
use lib.Chars.{codes}
use Rattle.line_reader.specs.declared.fault.LineReason.TheVariants.{BadWord, UnknownProgram}
use Rattle.line_reader.specs.Counting.{moved_line, moved_by, CountsOnly}
use Rattle.line_reader.specs.FileNames.{file_name_at}
use Rattle.line_reader.specs.Files.{is_skipped}
use Rattle.line_reader.specs.Injections.{injection_at}
use Rattle.line_reader.specs.Numbers.{number_at}
use Rattle.line_reader.specs.Packages.{package_at}
use Rattle.line_reader.specs.Programs.{program_in, opened_program, weighed_sum}
use Rattle.line_reader.specs.Reads.{word_at, end_at, allowed_or_reason}
use Rattle.node_files.specs.declared.config.ConfigReading.{ConfigReading}
use Rattle.node_files.specs.declared.config.ConfigStage.{ConfigStage}
use Rattle.node_files.specs.declared.config.ConfigStage.TheVariants as stages
use Rattle.node_files.specs.declared.config.HeadWord.{HeadWord}
use Rattle.node_files.specs.declared.config.HeadWord.TheVariants as head
use Rattle.node_files.specs.declared.config.TailPart.{TailPart}
use Rattle.node_files.specs.declared.config.TailWord.{TailWord}
use Rattle.node_files.specs.declared.config.TailWord.TheVariants as tail
use Rattle.node_files.specs.Nodes.{host_line, hosts_line, neighbour_at}
use Rattle.node_files.specs.Parts.{behind_word, last_number}
use Rattle.node_files.specs.Configs.{port_line, free_port, control_line, period_line, log_line, wanted_line, tail_word, may_come, device_line, missing_line, program_line, inject_line, tail_rest}
use Rattle.node_files.specs.Configs.{tail_line, close_program, begun_by, config_step_at, config_end, config_format, nothing_read}
use Rattle.top_laws.specs.Outside.{IsConfigOutside, ConfigOutside}
use Rattle.top_laws.specs.Later.{later_config}
use Rattle.top_laws.specs.Skipping.{SkipsLines}
use Rattle.top_laws.proofs.MovedCounts.{Moves, moved_not, moves_count, skips_lines}
use Rattle.line_reader.proofs.CountLaws.{changed_read, then_changed}
use Rattle.top_laws.proofs.LinesMoved.{at_moved, either_moved, version_moved, usual_moved, usual_skips}

-- ---- the lines in front of the devices

port_moved : (first : ℕ) (ws : List (List ℕ)) (s : ConfigReading) → port_line ws (later_config first s) ≡ changed_read (later_config first) (port_line ws s)
unfolding port_line
port_moved first ws s =
    then_changed (later_config first) (behind_word (codes "port") ws) _ _ (λ more.
    then_changed (later_config first) (last_number 1 65535 more) _ _ (λ p. refl))

free_same : (first : ℕ) (ws : List (List ℕ)) (s : ConfigReading) → free_port (later_config first s) ws ≡ free_port s ws
unfolding free_port
free_same first ws s = refl

control_moved : (first : ℕ) (ws : List (List ℕ)) (s : ConfigReading) → control_line ws (later_config first s) ≡ changed_read (later_config first) (control_line ws s)
unfolding control_line
control_moved first ws s =
    then_changed (later_config first) (behind_word (codes "control") ws) _ _ (λ more.
    rw (free_same first more s)
    (then_changed (later_config first) (free_port s more) _ _ (λ p.
    then_changed (later_config first) (end_at p.1) _ _ (λ u. refl))))

period_moved : (first : ℕ) (ws : List (List ℕ)) (s : ConfigReading) → period_line ws (later_config first s) ≡ changed_read (later_config first) (period_line ws s)
unfolding period_line
period_moved first ws s =
    then_changed (later_config first) (behind_word (codes "period") ws) _ _ (λ more.
    then_changed (later_config first) (last_number 1 60000 more) _ _ (λ n. refl))

log_moved : (first : ℕ) (ws : List (List ℕ)) (s : ConfigReading) → log_line ws (later_config first s) ≡ changed_read (later_config first) (log_line ws s)
unfolding log_line
log_moved first ws s =
    then_changed (later_config first) (behind_word (codes "log") ws) _ _ (λ more.
    then_changed (later_config first) (file_name_at more) _ _ (λ file.
    then_changed (later_config first) (end_at file.1) _ _ (λ u. refl)))

wanted_moved : (first : ℕ) (w : HeadWord) (ws : List (List ℕ)) (s : ConfigReading) → wanted_line w ws (later_config first s) ≡ changed_read (later_config first) (wanted_line w ws s)
unfolding wanted_line
wanted_moved first head.Host ws s = then_changed (later_config first) (host_line ws) _ _ (λ here. refl)
wanted_moved first head.Hosts ws s = then_changed (later_config first) (hosts_line s.here ws) _ _ (λ hosts. refl)
wanted_moved first head.Port ws s = port_moved first ws s
wanted_moved first head.Control ws s = control_moved first ws s
wanted_moved first head.Period ws s = period_moved first ws s
wanted_moved first head.Log ws s = log_moved first ws s

-- ---- devices, missing packages, the program and what is injected

device_moved : (first : ℕ) (ws : List (List ℕ)) (s : ConfigReading) → device_line ws (later_config first s) ≡ changed_read (later_config first) (device_line ws s)
unfolding device_line
device_moved first ws s =
    then_changed (later_config first) (neighbour_at s.here s.hosts s.neighbours ws) _ _ (λ n.
    rw (free_same first n.1 s)
    (then_changed (later_config first) (free_port s n.1) _ _ (λ p.
    then_changed (later_config first) (end_at p.1) _ _ (λ u. refl))))

missing_moved : (first : ℕ) (ws : List (List ℕ)) (s : ConfigReading) → missing_line ws (later_config first s) ≡ changed_read (later_config first) (missing_line ws s)
unfolding missing_line
missing_moved first ws s =
    then_changed (later_config first) (package_at s.missing ws) _ _ (λ missing.
    then_changed (later_config first) (end_at missing.1) _ _ (λ u. refl))

program_moved : (first number : ℕ) (ws : List (List ℕ)) (s : ConfigReading) → program_line (moved_line first number) ws (later_config first s) ≡ changed_read (later_config first) (program_line number ws s)
unfolding program_line
program_moved first number ws s = then_changed (later_config first) (end_at ws) _ _ (λ u. refl)

inject_moved : (first : ℕ) (ws : List (List ℕ)) (s : ConfigReading) → inject_line ws (later_config first s) ≡ changed_read (later_config first) (inject_line ws s)
unfolding inject_line
inject_moved first ws s =
    then_changed (later_config first) (ok_or s.checked UnknownProgram) _ _ (λ program.
    then_changed (later_config first) (number_at 1 1000000 ws) _ _ (λ turn.
    then_changed (later_config first) (behind_word (codes "inject") turn.1) _ _ (λ more.
    then_changed (later_config first) (injection_at s.version program more) _ _ (λ i.
    then_changed (later_config first) (weighed_sum s.weight i.0) _ _ (λ total. refl)))))

rest_moved : (first number : ℕ) (k : TailWord) (ws : List (List ℕ)) (s : ConfigReading) → tail_rest k (moved_line first number) ws (later_config first s) ≡ changed_read (later_config first) (tail_rest k number ws s)
unfolding tail_rest
rest_moved first number tail.Dev ws s = device_moved first ws s
rest_moved first number tail.Without ws s = missing_moved first ws s
rest_moved first number tail.Program ws s = program_moved first number ws s
rest_moved first number tail.At ws s = inject_moved first ws s

tail_moved : (first number : ℕ) (part : TailPart) (ws : List (List ℕ)) (s : ConfigReading) → tail_line part (moved_line first number) ws (later_config first s) ≡ changed_read (later_config first) (tail_line part number ws s)
unfolding tail_line
tail_moved first number part ws s =
    then_changed (later_config first) (word_at ws) _ _ (λ w.
    then_changed (later_config first) (ok_or (tail_word w.0) BadWord) _ _ (λ k.
    then_changed (later_config first) (allowed_or_reason (may_come part k) BadWord) _ _ (λ u. rest_moved first number k w.1 s)))

close_moved : (first : ℕ) (s : ConfigReading) → close_program (later_config first s) ≡ changed_read (later_config first) (close_program s)
unfolding close_program
close_moved first s = then_changed (later_config first) (program_in s.program.text) _ _ (λ p. refl)

-- ---- whole lines

step_moved : (first number : ℕ) (line : List ℕ) (stage : ConfigStage) (s : ConfigReading)
    → config_step_at stage (moved_line first number) line (later_config first s) ≡ moved_by first (later_config first) (config_step_at stage number line s)
unfolding config_step_at
step_moved first number line stages.Header s = version_moved (codes "planet node ") first number line (later_config first) (begun_by s) (begun_by (later_config first s)) (λ v. refl)
step_moved first number line (stages.Wants w) s =
    usual_moved first number line (later_config first) s (later_config first s) (λ ws. wanted_line w ws s) (λ ws. wanted_line w ws (later_config first s)) refl (λ ws. wanted_moved first w ws s)
step_moved first number line (stages.Tail part) s =
    usual_moved first number line (later_config first) s (later_config first s) (λ ws. tail_line part number ws s) (λ ws. tail_line part (moved_line first number) ws (later_config first s)) refl (λ ws. tail_moved first number part ws s)
step_moved first number line stages.Inside s =
    either_moved first (later_config first) (bytes_eq line (codes "end program")) _ _ _ _
    (at_moved first s.program.line (later_config first) (close_program s) (close_program (later_config first s)) (close_moved first s))
    refl

end_moved : (first number : ℕ) (stage : ConfigStage) (s : ConfigReading) → config_end stage (moved_line first number) (later_config first s) ≡ moved_by first (λ x. x) (config_end stage number s)
end_moved first number stages.Header s = refl
end_moved first number (stages.Wants w) s = refl
end_moved first number (stages.Tail part) s = refl
end_moved first number stages.Inside s = refl

moves : Moves config_format later_config
moves = record {
  step = λ first number line s. step_moved first number line s.stage s;
  finish = λ first number s. end_moved first number s.stage s;
}

pub counts : CountsOnly config_format later_config
counts = moves_count config_format later_config moves

skipped_changes_nothing : (number : ℕ) (line : List ℕ) (stage : ConfigStage) (s : ConfigReading) → is_skipped line ≡ true → IsConfigOutside stage → config_step_at stage number line s ≡ Ok s
unfolding config_step_at
skipped_changes_nothing number line stages.Header s e o = absurd o
skipped_changes_nothing number line (stages.Wants w) s e o = usual_skips number line s (λ ws. wanted_line w ws s) e
skipped_changes_nothing number line (stages.Tail part) s e o = usual_skips number line s (λ ws. tail_line part number ws s) e
skipped_changes_nothing number line stages.Inside s e o = absurd o

-- the first line's number moves behind no line
start_is_fixed : (first : ℕ) → 1 ≤ first → later_config first nothing_read ≡ nothing_read
start_is_fixed first low = ap (λ n. let s : ConfigReading = record nothing_read { program = opened_program n } in s) (moved_not first 1 low)

pub skips : SkipsLines config_format nothing_read ConfigOutside
skips = skips_lines config_format nothing_read later_config ConfigOutside moves (record {
  step = λ number line s e o. skipped_changes_nothing number line s.stage s e o;
  fixed = start_is_fixed;
  header = λ o. o;
})
