-- Each file has a schedule or a first refusal, and only one of them.
use Rattle.std.proofs.Common.{◌≡◌, ◌⊎◌, inl, inr, ℕ, ◌+◌, ◌≤◌, not, ltb, List, length, Result, Ok, Err, refl, sym, ap, ◌∙◌, arith}
use Rattle.std.specs.List.{list_any}
use Rattle.std.specs.Option.{ok_or}
use Rattle.std.specs.Str.{bytes_eq}
use lib.Chars.{codes}
use Rattle.network_config.specs.declared.schedule.Schedule.{Schedule}
use Rattle.line_reader.specs.declared.fault.LineReason.{LineReason}
use Rattle.line_reader.specs.declared.fault.LineReason.TheVariants.{BadHeader, BadWord, TwiceNamed, TooMany}
use Rattle.line_reader.specs.declared.fault.LineFault.{LineFault}
use Rattle.line_reader.specs.declared.fault.LineFault.TheVariants as faults
use Rattle.line_reader.specs.Lines.{lines, words}
use Rattle.line_reader.specs.Reads.{word_at, end_at, allowed_or_reason}
use Rattle.line_reader.specs.Files.{is_skipped}
use Rattle.line_reader.specs.Headers.{version_in}
use Rattle.line_reader.specs.Programs.{named_word}
use Rattle.line_reader.proofs.Keeping.{IfRead, then_keeps, done_keeps, IfStep, step_done, step_is, at_line_keeps, either_keeps, version_keeps}
use Rattle.line_reader.specs.Inside.{OnFault, RefusesRead}
use Rattle.line_reader.proofs.LineLaws.{err_is, refused_placed}
use Rattle.line_reader.proofs.Placing.{fault_done, fault_here, at_line_placed, either_placed, version_placed, Places, refuses_read}
use Rattle.schedule_text.specs.declared.keyword.NetworkWord.{NetworkWord}
use Rattle.schedule_text.specs.declared.keyword.NetworkWord.TheVariants as network
use Rattle.schedule_text.specs.declared.reading.BegunProgram.{BegunProgram}
use Rattle.schedule_text.specs.declared.reading.Reading.{Reading}
use Rattle.schedule_text.specs.declared.reading.Stage.{Stage}
use Rattle.schedule_text.specs.declared.reading.Stage.TheVariants as stages
use Rattle.schedule_text.specs.declared.reading.ScheduleFile.{ScheduleFile}
use Rattle.schedule_text.specs.Answers.{Says, IsRefused, Accepted, Refused}
use Rattle.schedule_text.specs.Parts.{is_called}
use Rattle.schedule_text.specs.Schedules.{network_word, frames_line, host_line, link_line, begun_at, program_line, close_program, network_rest, network_line, event_line, with_more, staying, begun_by}
use Rattle.schedule_text.specs.Schedules.{step, schedule_of_reading, finish, file_after, schedule_format, nothing_read, schedule_of}

-- a stage's program began at a line up to one
abbrev pub Begun : ℕ → Stage → Type 0
Begun number stages.Header = Unit {0}
Begun number stages.Network = Unit {0}
Begun number (stages.Inside begun) = (1 ≤ begun.source.line) × (begun.source.line ≤ number)
Begun number stages.Events = Unit {0}

begun_later : (number : ℕ) (stage : Stage) → Begun number stage → Begun (number + 1) stage
begun_later number stages.Header b = tt
begun_later number stages.Network b = tt
begun_later number (stages.Inside begun) b = (b.0, omega (arith, b.1))
begun_later number stages.Events b = tt

-- ---- where a line is refused

step_placed : (number : ℕ) (line : List ℕ) (stage : Stage) (s : Reading) → 1 ≤ number → Begun number stage → OnFault number (step number line stage s)
unfolding step
step_placed number line stages.Header s low b = version_placed number (begun_by s) (version_in (codes "planet schedule ") line) low
step_placed number line stages.Network s low b = either_placed number (is_skipped line) _ _ (fault_done number (stages.Network, s)) (at_line_placed number number (network_line number (words line) s) low (omega arith))
step_placed number line (stages.Inside begun) s low b =
    either_placed number (bytes_eq line (codes "end program")) _ _
    (at_line_placed number begun.source.line (staying stages.Network (close_program begun s)) b.0 b.1)
    (fault_done number _)
step_placed number line stages.Events s low b = either_placed number (is_skipped line) _ _ (fault_done number (stages.Events, s)) (at_line_placed number number (staying stages.Events (event_line (words line) s)) low (omega arith))

after_placed : (number : ℕ) (r : Result (Stage × Reading) LineFault) → OnFault number r → OnFault number (file_after r)
after_placed number (Ok next) h e q = absurd cc
after_placed number (Err d) h e q = h e (ap (λ z. Err z) (err_is {B = ScheduleFile} d e q))

finish_placed : (number : ℕ) (stage : Stage) (s : Reading) → 1 ≤ number → OnFault number (finish number stage s)
finish_placed number stages.Header s low = fault_here {B = Schedule} number number BadHeader low (omega arith)
finish_placed number stages.Network s low = fault_here {B = Schedule} number number BadWord low (omega arith)
finish_placed number (stages.Inside begun) s low = fault_here {B = Schedule} number number BadWord low (omega arith)
finish_placed number stages.Events s low = fault_done number (schedule_of_reading s)

-- ---- where a program began

abbrev BegunNext : ℕ → Stage × Reading → Type 0
BegunNext number x = Begun number x.0

abbrev OpensAt : ℕ → BegunProgram → Type 0
OpensAt number begun = begun.source.line ≡ number

opens : (number : ℕ) (ws : List (List ℕ)) (s : Reading) → IfRead (OpensAt number) (program_line number ws s)
unfolding program_line
opens number ws s =
    then_keeps (OpensAt number) (allowed_or_reason (ltb (length s.programs) 64) TooMany) _ (λ u hu.
    then_keeps (OpensAt number) (word_at ws) _ (λ w hw.
    then_keeps (OpensAt number) (named_word w.0 BadWord) _ (λ name hn.
    then_keeps (OpensAt number) (allowed_or_reason (not (list_any (is_called w.0) s.programs)) TwiceNamed) _ (λ v hv.
    then_keeps (OpensAt number) (end_at w.1) _ (λ x hx.
    done_keeps (OpensAt number) (begun_at number name) refl)))))

rest_begun : (kind : NetworkWord) (number : ℕ) (ws : List (List ℕ)) (s : Reading) → 1 ≤ number → IfRead (BegunNext number) (network_rest kind number ws s)
unfolding network_rest
rest_begun network.Frames number ws s low = then_keeps (BegunNext number) (frames_line ws s) _ (λ t ht. done_keeps (BegunNext number) (stages.Network, t) tt)
rest_begun network.Host number ws s low = then_keeps (BegunNext number) (host_line ws s) _ (λ t ht. done_keeps (BegunNext number) (stages.Network, t) tt)
rest_begun network.Link number ws s low = then_keeps (BegunNext number) (link_line ws s) _ (λ t ht. done_keeps (BegunNext number) (stages.Network, t) tt)
rest_begun network.Program number ws s low =
    then_keeps (BegunNext number) (program_line number ws s) _ (λ begun hb.
    done_keeps (BegunNext number) (stages.Inside begun, s) (omega (arith, opens number ws s begun hb, low), omega (arith, opens number ws s begun hb)))
rest_begun network.Events number ws s low = then_keeps (BegunNext number) (end_at ws) _ (λ u hu. done_keeps (BegunNext number) (stages.Events, s) tt)

line_begun : (number : ℕ) (ws : List (List ℕ)) (s : Reading) → 1 ≤ number → IfRead (BegunNext number) (network_line number ws s)
unfolding network_line
line_begun number ws s low =
    then_keeps (BegunNext number) (word_at ws) _ (λ w hw.
    then_keeps (BegunNext number) (ok_or (network_word w.0) BadWord) _ (λ kind hk.
    rest_begun kind number w.1 s low))

staying_begun : (number : ℕ) (stage : Stage) (r : Result Reading LineReason) → Begun number stage → IfRead (BegunNext number) (staying stage r)
staying_begun number stage (Ok s) b y e = done_keeps (BegunNext number) (stage, s) b y e
staying_begun number stage (Err r) b y e = absurd cc

step_begun : (number : ℕ) (line : List ℕ) (stage : Stage) (s : Reading) → 1 ≤ number → Begun number stage → IfStep (BegunNext number) (step number line stage s)
unfolding step
step_begun number line stages.Header s low b = version_keeps (BegunNext number) number (begun_by s) (version_in (codes "planet schedule ") line) (λ version. tt)
step_begun number line stages.Network s low b =
    either_keeps (BegunNext number) (is_skipped line) _ _ (step_done (BegunNext number) (stages.Network, s) tt)
    (at_line_keeps (BegunNext number) number (network_line number (words line) s) (line_begun number (words line) s low))
step_begun number line (stages.Inside begun) s low b =
    either_keeps (BegunNext number) (bytes_eq line (codes "end program")) _ _
    (at_line_keeps (BegunNext number) begun.source.line (staying stages.Network (close_program begun s)) (staying_begun number stages.Network (close_program begun s) tt))
    (step_done (BegunNext number) (stages.Inside (with_more begun line), s) b)
step_begun number line stages.Events s low b =
    either_keeps (BegunNext number) (is_skipped line) _ _ (step_done (BegunNext number) (stages.Events, s) tt)
    (at_line_keeps (BegunNext number) number (staying stages.Events (event_line (words line) s)) (staying_begun number stages.Events (event_line (words line) s) tt))

-- ---- a whole file

abbrev pub FileBegun : ℕ → ScheduleFile → Type 0
FileBegun number f = Begun number f.stage

after_begun : (number : ℕ) (r : Result (Stage × Reading) LineFault) → IfStep (BegunNext number) r → IfStep (FileBegun number) (file_after r)
after_begun number (Ok next) h y e = step_done (FileBegun number) _ (h next refl) y e
after_begun number (Err d) h y e = absurd cc

pub places : Places schedule_format FileBegun
places = record {
  later = λ number f b. begun_later number f.stage b;
  kept = λ number line f low b. after_begun number (step number line f.stage f.reading) (step_begun number line f.stage f.reading low b);
  step = λ number line f low b. after_placed number (step number line f.stage f.reading) (step_placed number line f.stage f.reading low b);
  finish = λ number f low b. finish_placed number f.stage f.reading low;
}

-- schedules refuse lines that were read
pub refuses : RefusesRead schedule_format nothing_read
refuses = refuses_read schedule_format nothing_read FileBegun places tt

bytes_placed : (bytes : List ℕ) → OnFault (1 + length (lines bytes)) (schedule_of bytes)
unfolding schedule_of
bytes_placed bytes e h = refused_placed schedule_format nothing_read bytes e refuses h

schedule_or_refusal : (bytes : List ℕ) (r : Result Schedule LineFault) → schedule_of bytes ≡ r → OnFault (1 + length (lines bytes)) r → Accepted bytes ⊎ Refused bytes
schedule_or_refusal bytes (Ok s) e h = inl (record { schedule = s; says = e })
schedule_or_refusal bytes (Err (faults.Line n r)) e h =
    let p = h (faults.Line n r) refl in
    inr (record { line = n; reason = r; refused = e; from = p.0; to = omega (arith, p.1) })
schedule_or_refusal bytes (Err faults.NoMemory) e h = absurd (h faults.NoMemory refl)

-- each file has a schedule or a first refusal
pub has_answer : (bytes : List ℕ) → Accepted bytes ⊎ Refused bytes
has_answer bytes = schedule_or_refusal bytes (schedule_of bytes) refl (bytes_placed bytes)

pub not_both : (bytes : List ℕ) (s : Schedule) (n : ℕ) (r : LineReason) → Says bytes s → IsRefused bytes n r → ⊥
not_both bytes s n r e f = let both = sym e ∙ f in cc

pub one_schedule : (bytes : List ℕ) (s t : Schedule) → Says bytes s → Says bytes t → s ≡ t
one_schedule bytes s t e f = step_is s t (sym e ∙ f)

pub one_refusal : (bytes : List ℕ) (n m : ℕ) (r q : LineReason) → IsRefused bytes n r → IsRefused bytes m q → (n ≡ m) × (r ≡ q)
one_refusal bytes n m r q e f =
    let both : faults.Line n r ≡ faults.Line m q = err_is {B = Schedule} (faults.Line n r) (faults.Line m q) (sym e ∙ f) in
    (cc, cc)
