-- The file of a message to be cut only counts its lines.
use Rattle.std.proofs.Common.{◌≡◌, ℕ, true, List, Ok, Err, refl}
use Rattle.std.specs.Prelude.{codes}
use Rattle.line_reader.specs.declared.fault.LineReason.TheVariants.{BadWord}
use Rattle.line_reader.specs.Counting.{moved_line, moved_by, CountsOnly}
use Rattle.line_reader.specs.Files.{is_skipped}
use Rattle.command_files.specs.declared.cut.CutReading.{CutReading}
use Rattle.command_files.specs.declared.cut.CutStage.{CutStage}
use Rattle.command_files.specs.declared.cut.CutStage.TheVariants as stages
use Rattle.command_files.specs.declared.cut.CutWord.TheVariants as word
use Rattle.command_files.specs.Cuts.{wanted_line, cut_step_at, cut_end, cut_format, nothing_read}
use Rattle.top_laws.specs.Outside.{IsCutOutside, CutOutside}
use Rattle.top_laws.specs.Later.{unmoved_reading}
use Rattle.top_laws.specs.Skipping.{SkipsLines}
use Rattle.top_laws.proofs.MovedCounts.{Moves, moves_count, skips_lines}
use Rattle.top_laws.proofs.LinesMoved.{identity_changes_nothing, header_moved, usual_moved, usual_skips}

step_moved : (first number : ℕ) (line : List ℕ) (stage : CutStage) (s : CutReading) → cut_step_at stage (moved_line first number) line s ≡ moved_by first (λ x. x) (cut_step_at stage number line s)
unfolding cut_step_at
step_moved first number line stages.Header s =
    let begun : CutReading = record s { stage = stages.Wants word.Dest } in
    header_moved (codes "planet cut 1") first number line (λ x. x) begun begun refl
step_moved first number line (stages.Wants w) s = usual_moved first number line (λ x. x) s s (λ ws. wanted_line w ws s) (λ ws. wanted_line w ws s) refl (λ ws. identity_changes_nothing (wanted_line w ws s))
step_moved first number line stages.Behind s = usual_moved first number line (λ x. x) s s (λ ws. Err BadWord) (λ ws. Err BadWord) refl (λ ws. refl)

end_moved : (first number : ℕ) (stage : CutStage) (s : CutReading) → cut_end stage (moved_line first number) s ≡ moved_by first (λ x. x) (cut_end stage number s)
end_moved first number stages.Header s = refl
end_moved first number (stages.Wants w) s = refl
end_moved first number stages.Behind s = refl

moves : Moves cut_format unmoved_reading
moves = record {
  step = λ first number line s. step_moved first number line s.stage s;
  finish = λ first number s. end_moved first number s.stage s;
}

pub counts : CountsOnly cut_format unmoved_reading
counts = moves_count cut_format unmoved_reading moves

skipped_changes_nothing : (number : ℕ) (line : List ℕ) (stage : CutStage) (s : CutReading) → is_skipped line ≡ true → IsCutOutside stage → cut_step_at stage number line s ≡ Ok s
unfolding cut_step_at
skipped_changes_nothing number line stages.Header s e o = absurd o
skipped_changes_nothing number line (stages.Wants w) s e o = usual_skips number line s (λ ws. wanted_line w ws s) e
skipped_changes_nothing number line stages.Behind s e o = usual_skips number line s (λ ws. Err BadWord) e

pub skips : SkipsLines cut_format nothing_read CutOutside
skips = skips_lines cut_format nothing_read unmoved_reading CutOutside moves (record {
  step = λ number line s e o. skipped_changes_nothing number line s.stage s e o;
  fixed = λ first low. refl;
  header = λ o. o;
})
