-- A schedule's lines before a refusal are inside the format, and a line that says nothing only counts.
use Rattle.std.proofs.Common.{◌≡◌, ℕ, ◌+◌, ◌<◌, Bool, true, false, cond, not, ltb, List, ◌∷◌, ◌++◌, length, take, Option, Some, None, Result, Ok, Err, refl, sym, ap, ◌∙◌}
use Rattle.std.specs.List.{list_any}
use Rattle.std.specs.Option.{ok_or}
use Rattle.std.specs.Str.{bytes_eq}
use lib.Chars.{codes}
use Rattle.plan_base.specs.declared.name.Name.{Name}
use Rattle.plan_base.specs.declared.stamp.Version.{Version}
use Rattle.line_reader.specs.declared.fault.LineReason.{LineReason}
use Rattle.line_reader.specs.declared.fault.LineReason.TheVariants.{BadHeader, BadWord, TwiceNamed, TooMany}
use Rattle.line_reader.specs.declared.fault.LineFault.{LineFault}
use Rattle.line_reader.specs.declared.fault.LineFault.TheVariants as faults
use Rattle.line_reader.specs.Lines.{lines, words}
use Rattle.line_reader.specs.Reads.{◌>>=◌, word_at, end_at, allowed_or_reason}
use Rattle.line_reader.specs.Files.{is_skipped, at_line}
use Rattle.line_reader.specs.Inside.{AreInside}
use Rattle.line_reader.specs.Counting.{moved_line, moved_by, CountsOnly}
use Rattle.line_reader.specs.Headers.{version_in, next_by_version}
use Rattle.line_reader.specs.Programs.{named_word}
use Rattle.line_reader.proofs.LineLaws as every
use Rattle.line_reader.proofs.CountLaws.{changed_read, then_changed, moved_more, line_counts}
use Rattle.schedule_text.specs.declared.keyword.NetworkWord.{NetworkWord}
use Rattle.schedule_text.specs.declared.keyword.NetworkWord.TheVariants as network
use Rattle.schedule_text.specs.declared.reading.BegunProgram.{BegunProgram}
use Rattle.schedule_text.specs.declared.reading.Reading.{Reading}
use Rattle.schedule_text.specs.declared.reading.Stage.{Stage}
use Rattle.schedule_text.specs.declared.reading.Stage.TheVariants as stages
use Rattle.schedule_text.specs.Answers.{IsRefused}
use Rattle.schedule_text.specs.Parts.{is_called}
use Rattle.schedule_text.specs.Schedules.{network_word, frames_line, host_line, link_line, begun_at, program_line, close_program, network_rest, network_line, event_line, staying, begun_by, step}
use Rattle.schedule_text.specs.Schedules.{finish, file_after, schedule_format, nothing_read, schedule_of}
use Rattle.schedule_text.proofs.AnswerLaws.{refuses}
use Rattle.schedule_text.specs.Lines.{IsOutside, EndOutside, later_program, later_stage, later_file}

-- ---- before a refusal

-- every line before the refused one is inside the format
pub before_inside : (bytes : List ℕ) (n k : ℕ) (reason : LineReason) → IsRefused bytes n reason → k < n → AreInside schedule_format nothing_read (take k (lines bytes))
unfolding schedule_of
before_inside bytes n k reason e lt = every.before_inside schedule_format nothing_read bytes n k reason refuses e lt

-- ---- parts of lines, with one line more in front

changed_then : {A B : Type 0} (f : A → A) (h : B → B) (r : Result A LineReason) (g k : A → Result B LineReason) → ((x : A) → g (f x) ≡ changed_read h (k x)) → (changed_read f r >>= g) ≡ changed_read h (r >>= k)
changed_then f h (Ok x) g k e = e x
changed_then f h (Err d) g k e = refl

abbrev later_next : ℕ → Stage × Reading → Stage × Reading
later_next first x = (later_stage first x.0, x.1)

begun_later : (first number : ℕ) (name : Name) → first < number → begun_at (number + 1) name ≡ later_program first (begun_at number name)
begun_later first number name lt = ap (λ (n : ℕ). begun_at n name) (sym (moved_more first number lt))

program_later : (first number : ℕ) (ws : List (List ℕ)) (s : Reading) → first < number → program_line (number + 1) ws s ≡ changed_read (later_program first) (program_line number ws s)
unfolding program_line
program_later first number ws s lt =
    then_changed (later_program first) (allowed_or_reason (ltb (length s.programs) 64) TooMany) _ _ (λ u.
    then_changed (later_program first) (word_at ws) _ _ (λ w.
    then_changed (later_program first) (named_word w.0 BadWord) _ _ (λ name.
    then_changed (later_program first) (allowed_or_reason (not (list_any (is_called w.0) s.programs)) TwiceNamed) _ _ (λ v.
    then_changed (later_program first) (end_at w.1) _ _ (λ x. ap (λ b. Ok b) (begun_later first number name lt))))))

rest_later : (first number : ℕ) (kind : NetworkWord) (ws : List (List ℕ)) (s : Reading) → first < number → network_rest kind (number + 1) ws s ≡ changed_read (later_next first) (network_rest kind number ws s)
unfolding network_rest
rest_later first number network.Frames ws s lt = then_changed (later_next first) (frames_line ws s) _ _ (λ t. refl)
rest_later first number network.Host ws s lt = then_changed (later_next first) (host_line ws s) _ _ (λ t. refl)
rest_later first number network.Link ws s lt = then_changed (later_next first) (link_line ws s) _ _ (λ t. refl)
rest_later first number network.Program ws s lt =
    ap (λ r. r >>= λ begun. Ok (stages.Inside begun, s)) (program_later first number ws s lt)
    ∙ changed_then (later_program first) (later_next first) (program_line number ws s) _ _ (λ begun. refl)
rest_later first number network.Events ws s lt = then_changed (later_next first) (end_at ws) _ _ (λ u. refl)

network_later : (first number : ℕ) (ws : List (List ℕ)) (s : Reading) → first < number → network_line (number + 1) ws s ≡ changed_read (later_next first) (network_line number ws s)
unfolding network_line
network_later first number ws s lt =
    then_changed (later_next first) (word_at ws) _ _ (λ w.
    then_changed (later_next first) (ok_or (network_word w.0) BadWord) _ _ (λ kind. rest_later first number kind w.1 s lt))

staying_later : (first : ℕ) (stage : Stage) (r : Result Reading LineReason) → later_stage first stage ≡ stage → staying stage r ≡ changed_read (later_next first) (staying stage r)
staying_later first stage (Ok s) e = ap (λ t. Ok (t, s)) (sym e)
staying_later first stage (Err d) e = refl

-- ---- whole lines

-- what a line leaves with one line more in front
abbrev Later : ℕ → Result (Stage × Reading) LineFault → Result (Stage × Reading) LineFault → Type 0
Later first r q = file_after q ≡ moved_by first (later_file first) (file_after r)

at_moved : (first n : ℕ) (r q : Result (Stage × Reading) LineReason) → q ≡ changed_read (later_next first) r → Later first (at_line n r) (at_line (moved_line first n) q)
at_moved first n (Ok x) q e = ap (λ z. file_after (at_line (moved_line first n) z)) e
at_moved first n (Err d) q e = ap (λ z. file_after (at_line (moved_line first n) z)) e

at_later : (first n : ℕ) (r q : Result (Stage × Reading) LineReason) → first < n → q ≡ changed_read (later_next first) r → Later first (at_line n r) (at_line (n + 1) q)
at_later first n r q lt e = ap (λ (m : ℕ). file_after (at_line m q)) (sym (moved_more first n lt)) ∙ at_moved first n r q e

either_later : (first : ℕ) (t : Bool) (a b c d : Result (Stage × Reading) LineFault) → Later first a c → Later first b d → Later first (cond t a b) (cond t c d)
either_later first true a b c d h k = h
either_later first false a b c d h k = k

header_later : (first number : ℕ) (v : Option Version) (s : Reading) → first < number → Later first (next_by_version number (begun_by s) v) (next_by_version (number + 1) (begun_by s) v)
header_later first number (Some v) s lt = refl
header_later first number None s lt = ap (λ (n : ℕ). Err (faults.Line n BadHeader)) (sym (moved_more first number lt))

close_same : (first : ℕ) (begun : BegunProgram) (s : Reading) → close_program (later_program first begun) s ≡ close_program begun s
unfolding close_program
close_same first begun s = refl

stage_later : (first number : ℕ) (line : List ℕ) (stage : Stage) (s : Reading) → first < number → Later first (step number line stage s) (step (number + 1) line (later_stage first stage) s)
unfolding step
stage_later first number line stages.Header s lt = header_later first number (version_in (codes "planet schedule ") line) s lt
stage_later first number line stages.Network s lt =
    either_later first (is_skipped line) _ _ _ _ refl (at_later first number (network_line number (words line) s) (network_line (number + 1) (words line) s) lt (network_later first number (words line) s lt))
stage_later first number line (stages.Inside begun) s lt =
    either_later first (bytes_eq line (codes "end program")) _ _ _ _
    (at_moved first begun.source.line (staying stages.Network (close_program begun s)) (staying stages.Network (close_program (later_program first begun) s))
    (ap (λ r. staying stages.Network r) (close_same first begun s) ∙ staying_later first stages.Network (close_program begun s) refl))
    refl
stage_later first number line stages.Events s lt =
    either_later first (is_skipped line) _ _ _ _ refl
    (at_later first number (staying stages.Events (event_line (words line) s)) (staying stages.Events (event_line (words line) s)) lt
    (staying_later first stages.Events (event_line (words line) s) refl))

end_later : (first number : ℕ) (stage : Stage) (s : Reading) → first < number → finish (number + 1) (later_stage first stage) s ≡ moved_by first (λ t. t) (finish number stage s)
end_later first number stages.Header s lt = ap (λ (n : ℕ). Err (faults.Line n BadHeader)) (sym (moved_more first number lt))
end_later first number stages.Network s lt = ap (λ (n : ℕ). Err (faults.Line n BadWord)) (sym (moved_more first number lt))
end_later first number (stages.Inside begun) s lt = ap (λ (n : ℕ). Err (faults.Line n BadWord)) (sym (moved_more first number lt))
end_later first number stages.Events s lt = refl

-- schedules only count their lines
pub counts : CountsOnly schedule_format later_file
counts = record {
  step = λ first number line f lt. stage_later first number line f.stage f.reading lt;
  finish = λ first number f lt. end_later first number f.stage f.reading lt;
}

-- ---- a line more

skipped_step : (number : ℕ) (line : List ℕ) (stage : Stage) (s : Reading) → is_skipped line ≡ true → IsOutside stage → file_after (step number line stage s) ≡ Ok (record { stage = stage; reading = s })
unfolding step
skipped_step number line stages.Header s e h = absurd h
skipped_step number line stages.Network s e h = rw e refl
skipped_step number line (stages.Inside b) s e h = absurd h
skipped_step number line stages.Events s e h = rw e refl

stage_fixed : (first : ℕ) (stage : Stage) → IsOutside stage → later_stage first stage ≡ stage
stage_fixed first stages.Header h = absurd h
stage_fixed first stages.Network h = refl
stage_fixed first (stages.Inside b) h = absurd h
stage_fixed first stages.Events h = refl

-- a line that says nothing only moves the lines behind it
pub skipped_moves : (bytes more : List ℕ) (before after : List (List ℕ)) (line : List ℕ) → lines bytes ≡ before ++ after → lines more ≡ before ++ line ∷ after → is_skipped line ≡ true → EndOutside before
    → schedule_of more ≡ moved_by (length before) (λ s. s) (schedule_of bytes)
unfolding schedule_of
skipped_moves bytes more before after line is longer skipped end =
    let f = end.inside.state in
    line_counts schedule_format later_file nothing_read f bytes more before after line counts end.inside.said
    (skipped_step (1 + length before) line f.stage f.reading skipped end.outside)
    (ap (λ stage. record f { stage = stage }) (stage_fixed (length before) f.stage end.outside)) is longer
