-- A file of two ends of a port is refused for no `NoMemory`.
use Rattle.std.proofs.Common.{◌≡◌, ℕ, List, length, Err}
use Rattle.std.specs.Prelude.{nat_lt}
use Rattle.std.specs.Option.{ok_or}
use Rattle.file_laws.proofs.FileHolds.{OnRefusal, done_refuses, none_refuses, file_holds}
use Rattle.file_laws.proofs.LineHolds.{Holds, then_holds, done_holds, allowed_holds, ok_or_holds, word_at_holds, end_at_holds, number_at_holds, hex_at_holds}
use Rattle.file_laws.proofs.NodeHolds.{behind_word_holds, header_holds, usual_holds}
use Rattle.file_laws.proofs.ScheduleHolds as schedule
use Rattle.file_laws.specs.Refusals.{FaultHolds}
use Rattle.line_reader.specs.HexWords.{hex_at}
use Rattle.line_reader.specs.Numbers.{number_at}
use Rattle.line_reader.specs.Reads.{word_at, end_at, allowed_or_reason}
use Rattle.line_reader.specs.declared.fault.LineFault.{LineFault}
use Rattle.line_reader.specs.declared.fault.LineFault.TheVariants as faults
use Rattle.line_reader.specs.declared.fault.LineReason.TheVariants.{BadHeader, BadWord, UnknownHost, TooMany}
use Rattle.network_config.specs.Hosts.{host_of, dev_of}
use Rattle.node_files.specs.Parts.{behind_word}
use Rattle.command_files.specs.PortFiles.{event_word, is_end, end_host, frame_at, with_event, offer_line, transmit_line, send_line, deliver_line, lose_line, repeat_line, event_rest, event_line}
use Rattle.command_files.specs.PortFiles.{purses_line, begin_line, port_step_at, port_end, port_format, nothing_read, port_of}
use Rattle.command_files.specs.declared.port.PortEvent.TheVariants as event
use Rattle.command_files.specs.declared.port.PortReading.{PortReading}
use Rattle.command_files.specs.declared.port.PortStage.{PortStage}
use Rattle.command_files.specs.declared.port.PortStage.TheVariants as stages
use Rattle.command_files.specs.declared.port.PortWord.{PortWord}
use Rattle.command_files.specs.declared.port.PortWord.TheVariants as word
use Rattle.schedule_text.specs.Schedules as schedules
use lib.Chars.{codes}

end_host_holds : (ws : List (List ℕ)) → Holds (end_host ws)
unfolding end_host
end_host_holds ws =
    then_holds (number_at 0 4294967295 ws) _ (number_at_holds 0 4294967295 ws) (λ n.
    then_holds (allowed_or_reason (is_end n.0) UnknownHost) _ (allowed_holds (is_end n.0) UnknownHost tt) (λ u1.
    done_holds (host_of n.0, n.1)))

frame_at_holds : (ws : List (List ℕ)) → Holds (frame_at ws)
unfolding frame_at schedules.frame_at
frame_at_holds ws = schedule.frame_at_holds ws

offer_line_holds : (ws : List (List ℕ)) (s : PortReading) → Holds (offer_line ws s)
unfolding offer_line
offer_line_holds ws s =
    then_holds (hex_at 1 4096 ws) _ (hex_at_holds 1 4096 ws) (λ body.
    then_holds (end_at body.1) _ (end_at_holds body.1) (λ u1.
    done_holds (with_event s (event.Offer body.0))))

transmit_line_holds : (ws : List (List ℕ)) (s : PortReading) → Holds (transmit_line ws s)
unfolding transmit_line
transmit_line_holds ws s =
    then_holds (number_at 0 18446744073709551615 ws) _ (number_at_holds 0 18446744073709551615 ws) (λ seq.
    then_holds (end_at seq.1) _ (end_at_holds seq.1) (λ u1.
    done_holds (with_event s (event.Transmit seq.0))))

send_line_holds : (ws : List (List ℕ)) (s : PortReading) → Holds (send_line ws s)
unfolding send_line
send_line_holds ws s =
    then_holds (end_host ws) _ (end_host_holds ws) (λ h.
    then_holds (number_at 0 8 h.1) _ (number_at_holds 0 8 h.1) (λ d.
    then_holds (end_at d.1) _ (end_at_holds d.1) (λ u2.
    done_holds (with_event s (event.Send h.0 (dev_of d.0))))))

deliver_line_holds : (ws : List (List ℕ)) (s : PortReading) → Holds (deliver_line ws s)
unfolding deliver_line
deliver_line_holds ws s =
    then_holds (frame_at ws) _ (frame_at_holds ws) (λ k.
    done_holds (with_event s (event.Deliver k)))

lose_line_holds : (ws : List (List ℕ)) (s : PortReading) → Holds (lose_line ws s)
unfolding lose_line
lose_line_holds ws s =
    then_holds (frame_at ws) _ (frame_at_holds ws) (λ k.
    done_holds (with_event s (event.Lose k)))

repeat_line_holds : (ws : List (List ℕ)) (s : PortReading) → Holds (repeat_line ws s)
unfolding repeat_line
repeat_line_holds ws s =
    then_holds (frame_at ws) _ (frame_at_holds ws) (λ k.
    done_holds (with_event s (event.Repeat k)))

event_rest_holds : (w : PortWord) (ws : List (List ℕ)) (s : PortReading) → Holds (event_rest w ws s)
unfolding event_rest
event_rest_holds word.Offer ws s = offer_line_holds ws s
event_rest_holds word.Transmit ws s = transmit_line_holds ws s
event_rest_holds word.Send ws s = send_line_holds ws s
event_rest_holds word.Deliver ws s = deliver_line_holds ws s
event_rest_holds word.Lose ws s = lose_line_holds ws s
event_rest_holds word.Repeat ws s = repeat_line_holds ws s

event_line_holds : (ws : List (List ℕ)) (s : PortReading) → Holds (event_line ws s)
unfolding event_line
event_line_holds ws s =
    then_holds (word_at ws) _ (word_at_holds ws) (λ w.
    then_holds (ok_or (event_word w.0) BadWord) _ (ok_or_holds (event_word w.0) BadWord tt) (λ k.
    then_holds (allowed_or_reason (nat_lt (length s.events) 50000) TooMany) _ (allowed_holds (nat_lt (length s.events) 50000) TooMany tt) (λ u2.
    event_rest_holds k w.1 s)))

purses_line_holds : (ws : List (List ℕ)) (s : PortReading) → Holds (purses_line ws s)
unfolding purses_line
purses_line_holds ws s =
    then_holds (behind_word (codes "bound") ws) _ (behind_word_holds (codes "bound") ws) (λ more.
    then_holds (number_at 0 65535 more) _ (number_at_holds 0 65535 more) (λ b.
    then_holds (number_at 0 65535 b.1) _ (number_at_holds 0 65535 b.1) (λ c.
    then_holds (end_at c.1) _ (end_at_holds c.1) (λ u3.
    done_holds (record s { stage = stages.Begin; first = b.0; second = c.0 })))))

begin_line_holds : (ws : List (List ℕ)) (s : PortReading) → Holds (begin_line ws s)
unfolding begin_line
begin_line_holds ws s =
    then_holds (behind_word (codes "events") ws) _ (behind_word_holds (codes "events") ws) (λ more.
    then_holds (end_at more) _ (end_at_holds more) (λ u1.
    done_holds (record s { stage = stages.Events })))

step_holds : (stage : PortStage) (number : ℕ) (line : List ℕ) (s : PortReading) → OnRefusal (port_step_at stage number line s)
unfolding port_step_at
step_holds stages.Header number line s = header_holds (codes "planet port 1") number line (record s { stage = stages.Purses })
step_holds stages.Purses number line s = usual_holds number line s (λ ws. purses_line ws s) (λ ws. purses_line_holds ws s)
step_holds stages.Begin number line s = usual_holds number line s (λ ws. begin_line ws s) (λ ws. begin_line_holds ws s)
step_holds stages.Events number line s = usual_holds number line s (λ ws. event_line ws s) (λ ws. event_line_holds ws s)

end_holds : (stage : PortStage) (number : ℕ) (s : PortReading) → OnRefusal (port_end stage number s)
end_holds stages.Header number s = none_refuses (faults.Line number BadHeader) tt
end_holds stages.Purses number s = none_refuses (faults.Line number BadWord) tt
end_holds stages.Begin number s = none_refuses (faults.Line number BadWord) tt
end_holds stages.Events number s = done_refuses (record { first = s.first; second = s.second; events = s.events })

-- no first refusal of a file of two ends is or holds `NoMemory`
pub port_holds : (bytes : List ℕ) (e : LineFault) → port_of bytes ≡ Err e → FaultHolds e
port_holds bytes e h = file_holds port_format nothing_read (λ number line s. step_holds s.stage number line s) (λ number s. end_holds s.stage number s) bytes e h
