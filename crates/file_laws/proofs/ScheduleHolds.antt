-- A schedule is refused for no `NoMemory`.
use Rattle.std.proofs.Common.{◌≡◌, ℕ, true, not, List, [], ◌∷◌, ◌++◌, length, Result, Ok, Err, refl}
use Rattle.std.specs.Prelude.{nat_lt, ◌==◌}
use Rattle.file_laws.proofs.FileHolds.{OnRefusal, version_holds, either_refuses, done_refuses, none_refuses, at_line_refuses, file_holds}
use Rattle.file_laws.proofs.LineHolds.{Holds, then_holds, done_holds, none_holds, allowed_holds, ok_or_holds, word_at_holds, end_at_holds, named_word_holds, number_at_holds, hex_at_holds}
use Rattle.file_laws.proofs.LineHolds.{packages_at_holds, program_in_holds, weighed_holds, injection_at_holds}
use Rattle.file_laws.specs.Refusals.{FaultHolds}
use Rattle.line_reader.specs.Files.{is_skipped}
use Rattle.line_reader.specs.Headers.{version_in}
use Rattle.line_reader.specs.HexWords.{hex_at}
use Rattle.line_reader.specs.Injections.{injection_at}
use Rattle.line_reader.specs.Lines.{words}
use Rattle.line_reader.specs.Numbers.{number_at}
use Rattle.line_reader.specs.Packages.{packages_at}
use Rattle.line_reader.specs.Programs.{program_in, named_word, weighed_sum}
use Rattle.line_reader.specs.Reads.{word_at, allowed_or_reason, end_at}
use Rattle.line_reader.specs.declared.fault.LineFault.{LineFault}
use Rattle.line_reader.specs.declared.fault.LineReason.{LineReason}
use Rattle.line_reader.specs.declared.fault.LineReason.TheVariants.{UnknownHost, UnknownProgram, TwiceNamed, BadHeader, BadWord, TooMany, BadArgument}
use Rattle.network_config.specs.declared.schedule.Link.{Link}
use Rattle.network_config.specs.Hosts.{host_of, dev_of, has_host, has_link}
use Rattle.network_config.specs.declared.schedule.HostSpec.{HostSpec}
use Rattle.plan_base.specs.declared.ids.Host.{Host}
use Rattle.schedule_text.specs.Parts.{host_at, device_at, free_device_at, is_called, program_at}
use Rattle.schedule_text.specs.Schedules.{network_word, event_word, is_first, frames_line, host_spec, host_line, link_line, begun_at, program_line, named_program, close_program, network_rest}
use Rattle.schedule_text.specs.Schedules.{network_line, with_event, injected_at, inject_line, send_line, frame_at, deliver_line, repeat_line, lose_line, tick_line, raw_line, event_rest, event_line}
use Rattle.schedule_text.specs.Schedules.{staying, begun_by, step, schedule_of_reading, finish, file_after, schedule_format, nothing_read, schedule_of}
use Rattle.schedule_text.specs.declared.keyword.EventWord.{EventWord}
use Rattle.schedule_text.specs.declared.keyword.NetworkWord.{NetworkWord}
use Rattle.schedule_text.specs.declared.reading.BegunProgram.{BegunProgram}
use Rattle.schedule_text.specs.declared.reading.NamedProgram.{NamedProgram}
use Rattle.schedule_text.specs.declared.reading.Reading.{Reading}
use Rattle.schedule_text.specs.declared.reading.Stage.{Stage}
use Rattle.std.specs.List.{find, list_any}
use Rattle.std.specs.Option.{ok_or}
use Rattle.std.specs.Str.{bytes_eq}
use lib.Chars.{codes}
use Rattle.line_reader.specs.declared.fault.LineFault.TheVariants as faults
use Rattle.network_config.specs.declared.event.WorldEvent.TheVariants as happens
use Rattle.schedule_text.specs.declared.keyword.EventWord.TheVariants as event
use Rattle.schedule_text.specs.declared.keyword.NetworkWord.TheVariants as network
use Rattle.schedule_text.specs.declared.reading.Stage.TheVariants as stages

host_at_holds : (hosts : List HostSpec) (ws : List (List ℕ)) → Holds (host_at hosts ws)
unfolding host_at
host_at_holds hosts ws =
    then_holds (number_at 0 4294967295 ws) _ (number_at_holds 0 4294967295 ws) (λ n.
    then_holds (allowed_or_reason (has_host (host_of n.0) hosts) UnknownHost) _ (allowed_holds (has_host (host_of n.0) hosts) UnknownHost tt) (λ u1.
    done_holds (host_of n.0, n.1)))

device_at_holds : (ws : List (List ℕ)) → Holds (device_at ws)
unfolding device_at
device_at_holds ws =
    then_holds (number_at 0 8 ws) _ (number_at_holds 0 8 ws) (λ d.
    done_holds (dev_of d.0, d.1))

free_device_at_holds : (links : List Link) (h : Host) (ws : List (List ℕ)) → Holds (free_device_at links h ws)
unfolding free_device_at
free_device_at_holds links h ws =
    then_holds (number_at 1 8 ws) _ (number_at_holds 1 8 ws) (λ d.
    then_holds (allowed_or_reason (not (has_link h (dev_of d.0) links)) TwiceNamed) _ (allowed_holds (not (has_link h (dev_of d.0) links)) TwiceNamed tt) (λ u1.
    done_holds (dev_of d.0, d.1)))

program_at_holds : (programs : List NamedProgram) (ws : List (List ℕ)) → Holds (program_at programs ws)
unfolding program_at
program_at_holds programs ws =
    then_holds (word_at ws) _ (word_at_holds ws) (λ w.
    then_holds (ok_or (find (is_called w.0) programs) UnknownProgram) _ (ok_or_holds (find (is_called w.0) programs) UnknownProgram tt) (λ p.
    done_holds (p, w.1)))

frames_line_holds : (ws : List (List ℕ)) (s : Reading) → Holds (frames_line ws s)
unfolding frames_line
frames_line_holds ws s =
    then_holds (allowed_or_reason (is_first s) BadWord) _ (allowed_holds (is_first s) BadWord tt) (λ u0.
    then_holds (end_at ws) _ (end_at_holds ws) (λ u1.
    done_holds (record s { frames = true })))

host_line_holds : (ws : List (List ℕ)) (s : Reading) → Holds (host_line ws s)
unfolding host_line
host_line_holds ws s =
    then_holds (allowed_or_reason (nat_lt (length s.hosts) 32) TooMany) _ (allowed_holds (nat_lt (length s.hosts) 32) TooMany tt) (λ u0.
    then_holds (number_at 0 4294967295 ws) _ (number_at_holds 0 4294967295 ws) (λ n.
    then_holds (allowed_or_reason (not (has_host (host_of n.0) s.hosts)) TwiceNamed) _ (allowed_holds (not (has_host (host_of n.0) s.hosts)) TwiceNamed tt) (λ u2.
    then_holds (packages_at [] n.1) _ (packages_at_holds [] n.1) (λ missing.
    done_holds (record s { hosts = s.hosts ++ host_spec n.0 missing ∷ [] })))))

link_line_holds : (ws : List (List ℕ)) (s : Reading) → Holds (link_line ws s)
unfolding link_line
link_line_holds ws s =
    then_holds (host_at s.hosts ws) _ (host_at_holds s.hosts ws) (λ n.
    then_holds (free_device_at s.links n.0 n.1) _ (free_device_at_holds s.links n.0 n.1) (λ d.
    then_holds (host_at s.hosts d.1) _ (host_at_holds s.hosts d.1) (λ m.
    then_holds (allowed_or_reason (not (m.0.0 == n.0.0)) BadArgument) _ (allowed_holds (not (m.0.0 == n.0.0)) BadArgument tt) (λ u3.
    then_holds (free_device_at s.links m.0 m.1) _ (free_device_at_holds s.links m.0 m.1) (λ e.
    then_holds (end_at e.1) _ (end_at_holds e.1) (λ u5.
    done_holds (record s { links = s.links ++ (record { from = n.0; from_dev = d.0; to = m.0; to_dev = e.0 }) ∷ [] })))))))

program_line_holds : (number : ℕ) (ws : List (List ℕ)) (s : Reading) → Holds (program_line number ws s)
unfolding program_line
program_line_holds number ws s =
    then_holds (allowed_or_reason (nat_lt (length s.programs) 64) TooMany) _ (allowed_holds (nat_lt (length s.programs) 64) TooMany tt) (λ u0.
    then_holds (word_at ws) _ (word_at_holds ws) (λ w.
    then_holds (named_word w.0 BadWord) _ (named_word_holds w.0 BadWord tt) (λ name.
    then_holds (allowed_or_reason (not (list_any (is_called w.0) s.programs)) TwiceNamed) _ (allowed_holds (not (list_any (is_called w.0) s.programs)) TwiceNamed tt) (λ u3.
    then_holds (end_at w.1) _ (end_at_holds w.1) (λ u4.
    done_holds (begun_at number name))))))

close_program_holds : (begun : BegunProgram) (s : Reading) → Holds (close_program begun s)
unfolding close_program
close_program_holds begun s =
    then_holds (program_in begun.source.text) _ (program_in_holds begun.source.text) (λ program.
    done_holds (record s { programs = s.programs ++ named_program begun.name program ∷ [] }))

network_rest_holds : (x0 : NetworkWord) (number : ℕ) (ws : List (List ℕ)) (s : Reading) → Holds (network_rest x0 number ws s)
unfolding network_rest
network_rest_holds network.Frames number ws s =
    then_holds (frames_line ws s) _ (frames_line_holds ws s) (λ t.
    done_holds (stages.Network, t))
network_rest_holds network.Host number ws s =
    then_holds (host_line ws s) _ (host_line_holds ws s) (λ t.
    done_holds (stages.Network, t))
network_rest_holds network.Link number ws s =
    then_holds (link_line ws s) _ (link_line_holds ws s) (λ t.
    done_holds (stages.Network, t))
network_rest_holds network.Program number ws s =
    then_holds (program_line number ws s) _ (program_line_holds number ws s) (λ begun.
    done_holds (stages.Inside begun, s))
network_rest_holds network.Events number ws s =
    then_holds (end_at ws) _ (end_at_holds ws) (λ u0.
    done_holds (stages.Events, s))

network_line_holds : (number : ℕ) (ws : List (List ℕ)) (s : Reading) → Holds (network_line number ws s)
unfolding network_line
network_line_holds number ws s =
    then_holds (word_at ws) _ (word_at_holds ws) (λ w.
    then_holds (ok_or (network_word w.0) BadWord) _ (ok_or_holds (network_word w.0) BadWord tt) (λ k.
    network_rest_holds k number w.1 s))

injected_at_holds : (s : Reading) (ws : List (List ℕ)) → Holds (injected_at s ws)
unfolding injected_at
injected_at_holds s ws =
    then_holds (host_at s.hosts ws) _ (host_at_holds s.hosts ws) (λ h.
    then_holds (program_at s.programs h.1) _ (program_at_holds s.programs h.1) (λ p.
    then_holds (injection_at s.version p.0.program p.1) _ (injection_at_holds s.version p.0.program p.1) (λ i.
    done_holds (h.0, i.0, i.1, i.2))))

inject_line_holds : (ws : List (List ℕ)) (s : Reading) → Holds (inject_line ws s)
unfolding inject_line
inject_line_holds ws s =
    then_holds (injected_at s ws) _ (injected_at_holds s ws) (λ i.
    then_holds (weighed_sum s.weight i.1) _ (weighed_holds s.weight i.1) (λ total.
    done_holds (record (with_event s (happens.Inject i.0 i.1 i.2 i.3)) { weight = total })))

send_line_holds : (ws : List (List ℕ)) (s : Reading) → Holds (send_line ws s)
unfolding send_line
send_line_holds ws s =
    then_holds (host_at s.hosts ws) _ (host_at_holds s.hosts ws) (λ h.
    then_holds (device_at h.1) _ (device_at_holds h.1) (λ d.
    then_holds (end_at d.1) _ (end_at_holds d.1) (λ u2.
    done_holds (with_event s (happens.Send h.0 d.0)))))

pub frame_at_holds : (ws : List (List ℕ)) → Holds (frame_at ws)
unfolding frame_at
frame_at_holds ws =
    then_holds (number_at 0 4294967295 ws) _ (number_at_holds 0 4294967295 ws) (λ k.
    then_holds (end_at k.1) _ (end_at_holds k.1) (λ u1.
    done_holds k.0))

deliver_line_holds : (ws : List (List ℕ)) (s : Reading) → Holds (deliver_line ws s)
unfolding deliver_line
deliver_line_holds ws s =
    then_holds (frame_at ws) _ (frame_at_holds ws) (λ k.
    done_holds (with_event s (happens.Deliver k)))

repeat_line_holds : (ws : List (List ℕ)) (s : Reading) → Holds (repeat_line ws s)
unfolding repeat_line
repeat_line_holds ws s =
    then_holds (frame_at ws) _ (frame_at_holds ws) (λ k.
    done_holds (with_event s (happens.Repeat k)))

lose_line_holds : (ws : List (List ℕ)) (s : Reading) → Holds (lose_line ws s)
unfolding lose_line
lose_line_holds ws s =
    then_holds (frame_at ws) _ (frame_at_holds ws) (λ k.
    done_holds (with_event s (happens.Lose k)))

tick_line_holds : (ws : List (List ℕ)) (s : Reading) → Holds (tick_line ws s)
unfolding tick_line
tick_line_holds ws s =
    then_holds (host_at s.hosts ws) _ (host_at_holds s.hosts ws) (λ h.
    then_holds (end_at h.1) _ (end_at_holds h.1) (λ u1.
    done_holds (with_event s (happens.Tick h.0))))

raw_line_holds : (ws : List (List ℕ)) (s : Reading) → Holds (raw_line ws s)
unfolding raw_line
raw_line_holds ws s =
    then_holds (host_at s.hosts ws) _ (host_at_holds s.hosts ws) (λ h.
    then_holds (device_at h.1) _ (device_at_holds h.1) (λ d.
    then_holds (hex_at 1 16513 d.1) _ (hex_at_holds 1 16513 d.1) (λ bytes.
    then_holds (end_at bytes.1) _ (end_at_holds bytes.1) (λ u3.
    done_holds (with_event s (happens.Raw h.0 d.0 bytes.0))))))

event_rest_holds : (x0 : EventWord) (ws : List (List ℕ)) (s : Reading) → Holds (event_rest x0 ws s)
unfolding event_rest
event_rest_holds event.Inject ws s = inject_line_holds ws s
event_rest_holds event.Send ws s = send_line_holds ws s
event_rest_holds event.Deliver ws s = deliver_line_holds ws s
event_rest_holds event.Repeat ws s = repeat_line_holds ws s
event_rest_holds event.Lose ws s = lose_line_holds ws s
event_rest_holds event.Tick ws s = tick_line_holds ws s
event_rest_holds event.Raw ws s = raw_line_holds ws s

event_line_holds : (ws : List (List ℕ)) (s : Reading) → Holds (event_line ws s)
unfolding event_line
event_line_holds ws s =
    then_holds (word_at ws) _ (word_at_holds ws) (λ w.
    then_holds (ok_or (event_word s.version w.0) BadWord) _ (ok_or_holds (event_word s.version w.0) BadWord tt) (λ k.
    then_holds (allowed_or_reason (nat_lt (length s.events) 50000) TooMany) _ (allowed_holds (nat_lt (length s.events) 50000) TooMany tt) (λ u2.
    event_rest_holds k w.1 s)))

-- ---- whole lines

staying_holds : (stage : Stage) (r : Result Reading LineReason) → Holds r → Holds (staying stage r)
staying_holds stage (Ok s) h = done_holds (stage, s)
staying_holds stage (Err d) h = none_holds d (h d refl)

step_holds : (number : ℕ) (line : List ℕ) (stage : Stage) (s : Reading) → OnRefusal (step number line stage s)
unfolding step
step_holds number line stages.Header s = version_holds number (begun_by s) (version_in (codes "planet schedule ") line)
step_holds number line stages.Network s = either_refuses (is_skipped line) _ _ (done_refuses (stages.Network, s)) (at_line_refuses number (network_line number (words line) s) (network_line_holds number (words line) s))
step_holds number line (stages.Inside begun) s =
    either_refuses (bytes_eq line (codes "end program")) _ _
    (at_line_refuses begun.source.line (staying stages.Network (close_program begun s)) (staying_holds stages.Network (close_program begun s) (close_program_holds begun s)))
    (done_refuses _)
step_holds number line stages.Events s =
    either_refuses (is_skipped line) _ _ (done_refuses (stages.Events, s))
    (at_line_refuses number (staying stages.Events (event_line (words line) s)) (staying_holds stages.Events (event_line (words line) s) (event_line_holds (words line) s)))

after_holds : (r : Result (Stage × Reading) LineFault) → OnRefusal r → OnRefusal (file_after r)
after_holds (Ok next) h = done_refuses _
after_holds (Err d) h = none_refuses d (h d refl)

finish_holds : (number : ℕ) (stage : Stage) (s : Reading) → OnRefusal (finish number stage s)
finish_holds number stages.Header s = none_refuses (faults.Line number BadHeader) tt
finish_holds number stages.Network s = none_refuses (faults.Line number BadWord) tt
finish_holds number (stages.Inside begun) s = none_refuses (faults.Line number BadWord) tt
finish_holds number stages.Events s = done_refuses (schedule_of_reading s)

-- no first refusal of a schedule is or holds `NoMemory`
pub schedule_holds : (bytes : List ℕ) (e : LineFault) → schedule_of bytes ≡ Err e → FaultHolds e
unfolding schedule_of
schedule_holds bytes e h =
    file_holds schedule_format nothing_read (λ number line f. after_holds (step number line f.stage f.reading) (step_holds number line f.stage f.reading)) (λ number f. finish_holds number f.stage f.reading) bytes e h
