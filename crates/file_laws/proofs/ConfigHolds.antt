-- A configuration is refused for no `NoMemory`.
use Rattle.std.proofs.Common.{◌≡◌, ℕ, not, List, [], ◌∷◌, ◌++◌, Some, Err}
use Rattle.file_laws.proofs.FileHolds.{OnRefusal, version_holds, either_refuses, done_refuses, none_refuses, at_line_refuses, file_holds}
use Rattle.file_laws.proofs.LineHolds.{Holds, then_holds, done_holds, allowed_holds, ok_or_holds, word_at_holds, end_at_holds, number_at_holds, package_at_holds, file_name_at_holds, program_in_holds, weighed_holds, injection_at_holds}
use Rattle.file_laws.proofs.NodeHolds.{behind_word_holds, last_number_holds, host_line_holds, hosts_line_holds, neighbour_at_holds, usual_holds}
use Rattle.file_laws.specs.Refusals.{FaultHolds}
use Rattle.line_reader.specs.FileNames.{file_name_at}
use Rattle.line_reader.specs.Headers.{version_in}
use Rattle.line_reader.specs.Injections.{injection_at}
use Rattle.line_reader.specs.Numbers.{number_at}
use Rattle.line_reader.specs.Packages.{package_at}
use Rattle.line_reader.specs.Programs.{opened_program, program_in, weighed_sum}
use Rattle.line_reader.specs.Reads.{word_at, end_at, allowed_or_reason}
use Rattle.line_reader.specs.declared.fault.LineFault.{LineFault}
use Rattle.line_reader.specs.declared.fault.LineReason.TheVariants.{BadHeader, BadWord, UnknownProgram, TwiceNamed}
use Rattle.node_files.specs.Configs.{port_line, is_used, free_port, control_line, period_line, log_line, wanted_line, tail_word, may_come, with_device, device_line, missing_line, program_line}
use Rattle.node_files.specs.Configs.{inject_line, tail_rest, tail_line, close_program, begun_by, config_step_at, config_said, config_end, config_format, nothing_read, config_of}
use Rattle.node_files.specs.Nodes.{host_line, hosts_line, neighbour_at}
use Rattle.node_files.specs.Parts.{behind_word, last_number}
use Rattle.node_files.specs.declared.config.ConfigReading.{ConfigReading}
use Rattle.node_files.specs.declared.config.ConfigStage.{ConfigStage}
use Rattle.node_files.specs.declared.config.HeadWord.{HeadWord}
use Rattle.node_files.specs.declared.config.TailPart.{TailPart}
use Rattle.node_files.specs.declared.config.TailWord.{TailWord}
use Rattle.std.specs.Option.{ok_or}
use Rattle.std.specs.Str.{bytes_eq}
use lib.Chars.{codes}
use Rattle.line_reader.specs.declared.fault.LineFault.TheVariants as faults
use Rattle.node_files.specs.declared.config.ConfigStage.TheVariants as stages
use Rattle.node_files.specs.declared.config.HeadWord.TheVariants as head
use Rattle.node_files.specs.declared.config.TailPart.TheVariants as parts
use Rattle.node_files.specs.declared.config.TailWord.TheVariants as tail

port_line_holds : (ws : List (List ℕ)) (s : ConfigReading) → Holds (port_line ws s)
unfolding port_line
port_line_holds ws s =
    then_holds (behind_word (codes "port") ws) _ (behind_word_holds (codes "port") ws) (λ more.
    then_holds (last_number 1 65535 more) _ (last_number_holds 1 65535 more) (λ p.
    done_holds (record s { stage = stages.Wants head.Control; port = p })))

free_port_holds : (s : ConfigReading) (ws : List (List ℕ)) → Holds (free_port s ws)
unfolding free_port
free_port_holds s ws =
    then_holds (number_at 1 65535 ws) _ (number_at_holds 1 65535 ws) (λ p.
    then_holds (allowed_or_reason (not (is_used s p.0)) TwiceNamed) _ (allowed_holds (not (is_used s p.0)) TwiceNamed tt) (λ u1.
    done_holds p))

control_line_holds : (ws : List (List ℕ)) (s : ConfigReading) → Holds (control_line ws s)
unfolding control_line
control_line_holds ws s =
    then_holds (behind_word (codes "control") ws) _ (behind_word_holds (codes "control") ws) (λ more.
    then_holds (free_port s more) _ (free_port_holds s more) (λ p.
    then_holds (end_at p.1) _ (end_at_holds p.1) (λ u2.
    done_holds (record s { stage = stages.Wants head.Period; control = p.0 }))))

period_line_holds : (ws : List (List ℕ)) (s : ConfigReading) → Holds (period_line ws s)
unfolding period_line
period_line_holds ws s =
    then_holds (behind_word (codes "period") ws) _ (behind_word_holds (codes "period") ws) (λ more.
    then_holds (last_number 1 60000 more) _ (last_number_holds 1 60000 more) (λ n.
    done_holds (record s { stage = stages.Wants head.Log; period = n })))

log_line_holds : (ws : List (List ℕ)) (s : ConfigReading) → Holds (log_line ws s)
unfolding log_line
log_line_holds ws s =
    then_holds (behind_word (codes "log") ws) _ (behind_word_holds (codes "log") ws) (λ more.
    then_holds (file_name_at more) _ (file_name_at_holds more) (λ file.
    then_holds (end_at file.1) _ (end_at_holds file.1) (λ u2.
    done_holds (record s { stage = stages.Tail parts.Devices; log = file.0 }))))

wanted_line_holds : (x0 : HeadWord) (ws : List (List ℕ)) (s : ConfigReading) → Holds (wanted_line x0 ws s)
unfolding wanted_line
wanted_line_holds head.Host ws s =
    then_holds (host_line ws) _ (host_line_holds ws) (λ here.
    done_holds (record s { stage = stages.Wants head.Hosts; here = here }))
wanted_line_holds head.Hosts ws s =
    then_holds (hosts_line s.here ws) _ (hosts_line_holds s.here ws) (λ hosts.
    done_holds (record s { stage = stages.Wants head.Port; hosts = hosts }))
wanted_line_holds head.Port ws s = port_line_holds ws s
wanted_line_holds head.Control ws s = control_line_holds ws s
wanted_line_holds head.Period ws s = period_line_holds ws s
wanted_line_holds head.Log ws s = log_line_holds ws s

device_line_holds : (ws : List (List ℕ)) (s : ConfigReading) → Holds (device_line ws s)
unfolding device_line
device_line_holds ws s =
    then_holds (neighbour_at s.here s.hosts s.neighbours ws) _ (neighbour_at_holds s.here s.hosts s.neighbours ws) (λ n.
    then_holds (free_port s n.1) _ (free_port_holds s n.1) (λ p.
    then_holds (end_at p.1) _ (end_at_holds p.1) (λ u2.
    done_holds (with_device s n.0 p.0))))

missing_line_holds : (ws : List (List ℕ)) (s : ConfigReading) → Holds (missing_line ws s)
unfolding missing_line
missing_line_holds ws s =
    then_holds (package_at s.missing ws) _ (package_at_holds s.missing ws) (λ missing.
    then_holds (end_at missing.1) _ (end_at_holds missing.1) (λ u1.
    done_holds (record s { stage = stages.Tail parts.Missing; missing = missing.0 })))

program_line_holds : (number : ℕ) (ws : List (List ℕ)) (s : ConfigReading) → Holds (program_line number ws s)
unfolding program_line
program_line_holds number ws s =
    then_holds (end_at ws) _ (end_at_holds ws) (λ u0.
    done_holds (record s { stage = stages.Inside; program = opened_program number }))

inject_line_holds : (ws : List (List ℕ)) (s : ConfigReading) → Holds (inject_line ws s)
unfolding inject_line
inject_line_holds ws s =
    then_holds (ok_or s.checked UnknownProgram) _ (ok_or_holds s.checked UnknownProgram tt) (λ program.
    then_holds (number_at 1 1000000 ws) _ (number_at_holds 1 1000000 ws) (λ turn.
    then_holds (behind_word (codes "inject") turn.1) _ (behind_word_holds (codes "inject") turn.1) (λ more.
    then_holds (injection_at s.version program more) _ (injection_at_holds s.version program more) (λ i.
    then_holds (weighed_sum s.weight i.0) _ (weighed_holds s.weight i.0) (λ total.
    done_holds (record s { at = s.at ++ record { turn = turn.0; bound = i.1; chunk = i.0; handler = i.2 } ∷ []; weight = total }))))))

tail_rest_holds : (x0 : TailWord) (number : ℕ) (ws : List (List ℕ)) (s : ConfigReading) → Holds (tail_rest x0 number ws s)
unfolding tail_rest
tail_rest_holds tail.Dev number ws s = device_line_holds ws s
tail_rest_holds tail.Without number ws s = missing_line_holds ws s
tail_rest_holds tail.Program number ws s = program_line_holds number ws s
tail_rest_holds tail.At number ws s = inject_line_holds ws s

tail_line_holds : (part : TailPart) (number : ℕ) (ws : List (List ℕ)) (s : ConfigReading) → Holds (tail_line part number ws s)
unfolding tail_line
tail_line_holds part number ws s =
    then_holds (word_at ws) _ (word_at_holds ws) (λ w.
    then_holds (ok_or (tail_word w.0) BadWord) _ (ok_or_holds (tail_word w.0) BadWord tt) (λ k.
    then_holds (allowed_or_reason (may_come part k) BadWord) _ (allowed_holds (may_come part k) BadWord tt) (λ u2.
    tail_rest_holds k number w.1 s)))

close_program_holds : (s : ConfigReading) → Holds (close_program s)
unfolding close_program
close_program_holds s =
    then_holds (program_in s.program.text) _ (program_in_holds s.program.text) (λ p.
    done_holds (record s { stage = stages.Tail parts.Behind; checked = Some p }))

step_holds : (stage : ConfigStage) (number : ℕ) (line : List ℕ) (s : ConfigReading) → OnRefusal (config_step_at stage number line s)
unfolding config_step_at
step_holds stages.Header number line s = version_holds number (begun_by s) (version_in (codes "planet node ") line)
step_holds (stages.Wants w) number line s = usual_holds number line s (λ ws. wanted_line w ws s) (λ ws. wanted_line_holds w ws s)
step_holds (stages.Tail part) number line s = usual_holds number line s (λ ws. tail_line part number ws s) (λ ws. tail_line_holds part number ws s)
step_holds stages.Inside number line s = either_refuses (bytes_eq line (codes "end program")) _ _ (at_line_refuses s.program.line (close_program s) (close_program_holds s)) (done_refuses _)

end_holds : (stage : ConfigStage) (number : ℕ) (s : ConfigReading) → OnRefusal (config_end stage number s)
end_holds stages.Header number s = none_refuses (faults.Line number BadHeader) tt
end_holds (stages.Wants w) number s = none_refuses (faults.Line number BadWord) tt
end_holds (stages.Tail part) number s = done_refuses (config_said s)
end_holds stages.Inside number s = none_refuses (faults.Line number BadWord) tt

-- no first refusal of a configuration is or holds `NoMemory`
pub config_holds : (bytes : List ℕ) (e : LineFault) → config_of bytes ≡ Err e → FaultHolds e
config_holds bytes e h = file_holds config_format nothing_read (λ number line s. step_holds s.stage number line s) (λ number s. end_holds s.stage number s) bytes e h
