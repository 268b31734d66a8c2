-- A log is refused for no `NoMemory`.
use Rattle.std.proofs.Common.{◌≡◌, ℕ, Bool, true, false, List, [], ◌∷◌, ◌++◌, length, Err}
use Rattle.std.specs.Prelude.{nat_lt}
use Rattle.file_laws.proofs.FileHolds.{OnRefusal, version_holds, done_refuses, none_refuses, file_holds}
use Rattle.file_laws.proofs.LineHolds.{Holds, then_holds, done_holds, allowed_holds, ok_or_holds, word_at_holds, end_at_holds, number_at_holds, hex_at_holds, package_at_holds, handler_at_holds}
use Rattle.file_laws.proofs.NodeHolds.{behind_word_holds, last_number_holds, host_line_holds, hosts_line_holds, neighbour_at_holds, chunk_at_holds, usual_holds}
use Rattle.file_laws.specs.Refusals.{FaultHolds}
use Rattle.line_reader.specs.Handlers.{handler_at}
use Rattle.line_reader.specs.Headers.{version_in}
use Rattle.line_reader.specs.HexWords.{hex_at}
use Rattle.line_reader.specs.Numbers.{number_at}
use Rattle.line_reader.specs.Packages.{package_at}
use Rattle.line_reader.specs.Reads.{word_at, end_at, allowed_or_reason}
use Rattle.line_reader.specs.declared.fault.LineFault.{LineFault}
use Rattle.line_reader.specs.declared.fault.LineReason.TheVariants.{BadHeader, BadWord, TooMany}
use Rattle.plan_base.specs.declared.stamp.Version.{Version}
use Rattle.network_config.specs.Hosts.{dev_of}
use Rattle.node_files.specs.ChunkWords.{chunk_at}
use Rattle.node_files.specs.Logs.{behind_host, own_line, boot_line, network_line, node_word, may_come, device_line, missing_line, events_line, node_rest, node_line, entry_word, inject_entry}
use Rattle.node_files.specs.Logs.{frame_entry, control_entry, take_entry, entry_rest, entry_line, begun_by, log_step_at, log_said, log_end, log_format, nothing_logged, log_of}
use Rattle.node_files.specs.Nodes.{host_line, hosts_line, neighbour_at, placed_items, device_of}
use Rattle.node_files.specs.Parts.{behind_word, last_number}
use Rattle.node_files.specs.declared.log.EntryWord.{EntryWord}
use Rattle.node_files.specs.declared.log.LogReading.{LogReading}
use Rattle.node_files.specs.declared.log.LogStage.{LogStage}
use Rattle.node_files.specs.declared.log.NodeWord.{NodeWord}
use Rattle.std.specs.Option.{ok_or}
use lib.Chars.{codes}
use Rattle.line_reader.specs.declared.fault.LineFault.TheVariants as faults
use Rattle.network_config.specs.declared.event.Event.TheVariants as events
use Rattle.network_config.specs.declared.event.LogEvent.TheVariants as logged
use Rattle.node_files.specs.declared.log.EntryWord.TheVariants as entry
use Rattle.node_files.specs.declared.log.LogStage.TheVariants as stages
use Rattle.node_files.specs.declared.log.NodeWord.TheVariants as node

own_line_holds : (ws : List (List ℕ)) (s : LogReading) → Holds (own_line ws s)
unfolding own_line
own_line_holds ws s =
    then_holds (host_line ws) _ (host_line_holds ws) (λ here.
    done_holds (record s { stage = behind_host s.version; here = here }))

boot_line_holds : (ws : List (List ℕ)) (s : LogReading) → Holds (boot_line ws s)
unfolding boot_line
boot_line_holds ws s =
    then_holds (behind_word (codes "boot") ws) _ (behind_word_holds (codes "boot") ws) (λ more.
    then_holds (last_number 0 18446744073709551615 more) _ (last_number_holds 0 18446744073709551615 more) (λ boot.
    done_holds (record s { stage = stages.Hosts; boot = boot })))

network_line_holds : (ws : List (List ℕ)) (s : LogReading) → Holds (network_line ws s)
unfolding network_line
network_line_holds ws s =
    then_holds (hosts_line s.here ws) _ (hosts_line_holds s.here ws) (λ hosts.
    done_holds (record s { stage = stages.Node false; hosts = hosts }))

device_line_holds : (ws : List (List ℕ)) (s : LogReading) → Holds (device_line ws s)
unfolding device_line
device_line_holds ws s =
    then_holds (neighbour_at s.here s.hosts s.neighbours ws) _ (neighbour_at_holds s.here s.hosts s.neighbours ws) (λ n.
    then_holds (end_at n.1) _ (end_at_holds n.1) (λ u1.
    done_holds (record s { neighbours = placed_items device_of n.0 s.neighbours })))

missing_line_holds : (ws : List (List ℕ)) (s : LogReading) → Holds (missing_line ws s)
unfolding missing_line
missing_line_holds ws s =
    then_holds (package_at s.missing ws) _ (package_at_holds s.missing ws) (λ missing.
    then_holds (end_at missing.1) _ (end_at_holds missing.1) (λ u1.
    done_holds (record s { stage = stages.Node true; missing = missing.0 })))

events_line_holds : (ws : List (List ℕ)) (s : LogReading) → Holds (events_line ws s)
unfolding events_line
events_line_holds ws s =
    then_holds (end_at ws) _ (end_at_holds ws) (λ u0.
    done_holds (record s { stage = stages.Events }))

node_rest_holds : (x0 : NodeWord) (ws : List (List ℕ)) (s : LogReading) → Holds (node_rest x0 ws s)
unfolding node_rest
node_rest_holds node.Dev ws s = device_line_holds ws s
node_rest_holds node.Without ws s = missing_line_holds ws s
node_rest_holds node.Events ws s = events_line_holds ws s

node_line_holds : (lacks : Bool) (ws : List (List ℕ)) (s : LogReading) → Holds (node_line lacks ws s)
unfolding node_line
node_line_holds lacks ws s =
    then_holds (word_at ws) _ (word_at_holds ws) (λ w.
    then_holds (ok_or (node_word w.0) BadWord) _ (ok_or_holds (node_word w.0) BadWord tt) (λ k.
    then_holds (allowed_or_reason (may_come lacks k) BadWord) _ (allowed_holds (may_come lacks k) BadWord tt) (λ u2.
    node_rest_holds k w.1 s)))

inject_entry_holds : (version : Version) (ws : List (List ℕ)) → Holds (inject_entry version ws)
unfolding inject_entry
inject_entry_holds version ws =
    then_holds (number_at 0 65535 ws) _ (number_at_holds 0 65535 ws) (λ bound.
    then_holds (chunk_at bound.1) _ (chunk_at_holds bound.1) (λ chunk.
    then_holds (handler_at version chunk.0.code chunk.1) _ (handler_at_holds version chunk.0.code chunk.1) (λ handler.
    then_holds (end_at handler.1) _ (end_at_holds handler.1) (λ u3.
    done_holds (logged.Step (events.Inject chunk.0 bound.0 handler.0))))))

frame_entry_holds : (ws : List (List ℕ)) → Holds (frame_entry ws)
unfolding frame_entry
frame_entry_holds ws =
    then_holds (number_at 0 8 ws) _ (number_at_holds 0 8 ws) (λ d.
    then_holds (hex_at 1 16513 d.1) _ (hex_at_holds 1 16513 d.1) (λ bytes.
    then_holds (end_at bytes.1) _ (end_at_holds bytes.1) (λ u2.
    done_holds (logged.Step (events.Frame (dev_of d.0) bytes.0)))))

control_entry_holds : (ws : List (List ℕ)) → Holds (control_entry ws)
unfolding control_entry
control_entry_holds ws =
    then_holds (hex_at 1 16513 ws) _ (hex_at_holds 1 16513 ws) (λ bytes.
    then_holds (end_at bytes.1) _ (end_at_holds bytes.1) (λ u1.
    done_holds (logged.Step (events.Control bytes.0))))

take_entry_holds : (ws : List (List ℕ)) → Holds (take_entry ws)
unfolding take_entry
take_entry_holds ws =
    then_holds (last_number 0 8 ws) _ (last_number_holds 0 8 ws) (λ d.
    done_holds (logged.Step (events.Take (dev_of d))))

entry_rest_holds : (version : Version) (word : EntryWord) (ws : List (List ℕ)) → Holds (entry_rest version word ws)
unfolding entry_rest
entry_rest_holds version entry.Inject ws = inject_entry_holds version ws
entry_rest_holds version entry.Frame ws = frame_entry_holds ws
entry_rest_holds version entry.Control ws = control_entry_holds ws
entry_rest_holds version entry.Tick ws = then_holds (end_at ws) _ (end_at_holds ws) (λ u. done_holds (logged.Step events.Tick))
entry_rest_holds version entry.Take ws = take_entry_holds ws
entry_rest_holds version entry.Lost ws = then_holds (end_at ws) _ (end_at_holds ws) (λ u. done_holds logged.Lost)

entry_line_holds : (ws : List (List ℕ)) (s : LogReading) → Holds (entry_line ws s)
unfolding entry_line
entry_line_holds ws s =
    then_holds (word_at ws) _ (word_at_holds ws) (λ w.
    then_holds (ok_or (entry_word w.0) BadWord) _ (ok_or_holds (entry_word w.0) BadWord tt) (λ k.
    then_holds (allowed_or_reason (nat_lt (length s.events) 50000) TooMany) _ (allowed_holds (nat_lt (length s.events) 50000) TooMany tt) (λ u.
    then_holds (entry_rest s.version k w.1) _ (entry_rest_holds s.version k w.1) (λ e. done_holds (record s { events = s.events ++ e ∷ [] })))))

step_holds : (stage : LogStage) (number : ℕ) (line : List ℕ) (s : LogReading) → OnRefusal (log_step_at stage number line s)
unfolding log_step_at
step_holds stages.Header number line s = version_holds number (begun_by s) (version_in (codes "planet log ") line)
step_holds stages.Host number line s = usual_holds number line s (λ ws. own_line ws s) (λ ws. own_line_holds ws s)
step_holds stages.Boot number line s = usual_holds number line s (λ ws. boot_line ws s) (λ ws. boot_line_holds ws s)
step_holds stages.Hosts number line s = usual_holds number line s (λ ws. network_line ws s) (λ ws. network_line_holds ws s)
step_holds (stages.Node lacks) number line s = usual_holds number line s (λ ws. node_line lacks ws s) (λ ws. node_line_holds lacks ws s)
step_holds stages.Events number line s = usual_holds number line s (λ ws. entry_line ws s) (λ ws. entry_line_holds ws s)

end_holds : (stage : LogStage) (number : ℕ) (s : LogReading) → OnRefusal (log_end stage number s)
end_holds stages.Header number s = none_refuses (faults.Line number BadHeader) tt
end_holds stages.Host number s = none_refuses (faults.Line number BadWord) tt
end_holds stages.Boot number s = none_refuses (faults.Line number BadWord) tt
end_holds stages.Hosts number s = none_refuses (faults.Line number BadWord) tt
end_holds (stages.Node lacks) number s = none_refuses (faults.Line number BadWord) tt
end_holds stages.Events number s = done_refuses (log_said s)

-- no first refusal of a log is or holds `NoMemory`
pub log_holds : (bytes : List ℕ) (e : LineFault) → log_of bytes ≡ Err e → FaultHolds e
log_holds bytes e h = file_holds log_format nothing_logged (λ number line s. step_holds s.stage number line s) (λ number s. end_holds s.stage number s) bytes e h
