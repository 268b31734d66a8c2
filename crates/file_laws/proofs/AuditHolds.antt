-- A file of an audit is refused for no `NoMemory`.
use Rattle.std.proofs.Common.{◌≡◌, ℕ, Bool, true, false, not, List, [], ◌∷◌, ◌++◌, length, Err}
use Rattle.std.specs.Prelude.{nat_lt, ◌==◌}
use Rattle.std.specs.Option.{ok_or}
use Rattle.file_laws.proofs.FileHolds.{OnRefusal, done_refuses, none_refuses, file_holds}
use Rattle.file_laws.proofs.LineHolds.{Holds, then_holds, done_holds, allowed_holds, ok_or_holds, word_at_holds, end_at_holds, number_at_holds, file_name_at_holds}
use Rattle.file_laws.proofs.NodeHolds.{header_holds, usual_holds}
use Rattle.file_laws.specs.Refusals.{FaultHolds}
use Rattle.line_reader.specs.FileNames.{file_name_at}
use Rattle.line_reader.specs.Numbers.{number_at}
use Rattle.line_reader.specs.Reads.{word_at, end_at, allowed_or_reason}
use Rattle.line_reader.specs.declared.fault.LineFault.{LineFault}
use Rattle.line_reader.specs.declared.fault.LineFault.TheVariants as faults
use Rattle.line_reader.specs.declared.fault.LineReason.TheVariants.{BadHeader, BadWord, BadArgument, TwiceNamed, TooMany}
use Rattle.network_config.specs.declared.schedule.Link.{Link}
use Rattle.network_config.specs.Hosts.{host_of, dev_of, has_link}
use Rattle.plan_base.specs.declared.ids.Host.{Host}
use Rattle.command_files.specs.AuditFiles.{audit_word, log_line, host_end, device_end, link_line, audit_rest, audit_line, audit_step_at, audit_end, audit_format, nothing_read, audit_of}
use Rattle.command_files.specs.AuditRules.{is_named}
use Rattle.command_files.specs.declared.audit.AuditReading.{AuditReading}
use Rattle.command_files.specs.declared.audit.AuditWord.{AuditWord}
use Rattle.command_files.specs.declared.audit.AuditWord.TheVariants as word
use lib.Chars.{codes}

log_line_holds : (ws : List (List ℕ)) (s : AuditReading) → Holds (log_line ws s)
unfolding log_line
log_line_holds ws s =
    then_holds (allowed_or_reason (nat_lt (length s.logs) 16) TooMany) _ (allowed_holds (nat_lt (length s.logs) 16) TooMany tt) (λ u0.
    then_holds (file_name_at ws) _ (file_name_at_holds ws) (λ file.
    then_holds (allowed_or_reason (not (is_named file.0 s.logs)) TwiceNamed) _ (allowed_holds (not (is_named file.0 s.logs)) TwiceNamed tt) (λ u2.
    then_holds (end_at file.1) _ (end_at_holds file.1) (λ u3.
    done_holds (record s { logs = s.logs ++ file.0 ∷ [] })))))

host_end_holds : (ws : List (List ℕ)) → Holds (host_end ws)
unfolding host_end
host_end_holds ws =
    then_holds (number_at 0 4294967295 ws) _ (number_at_holds 0 4294967295 ws) (λ n.
    done_holds (host_of n.0, n.1))

device_end_holds : (links : List Link) (h : Host) (ws : List (List ℕ)) → Holds (device_end links h ws)
unfolding device_end
device_end_holds links h ws =
    then_holds (number_at 1 8 ws) _ (number_at_holds 1 8 ws) (λ d.
    then_holds (allowed_or_reason (not (has_link h (dev_of d.0) links)) TwiceNamed) _ (allowed_holds (not (has_link h (dev_of d.0) links)) TwiceNamed tt) (λ u1.
    done_holds (dev_of d.0, d.1)))

link_line_holds : (ws : List (List ℕ)) (s : AuditReading) → Holds (link_line ws s)
unfolding link_line
link_line_holds ws s =
    then_holds (host_end ws) _ (host_end_holds ws) (λ n.
    then_holds (device_end s.links n.0 n.1) _ (device_end_holds s.links n.0 n.1) (λ d.
    then_holds (host_end d.1) _ (host_end_holds d.1) (λ m.
    then_holds (allowed_or_reason (not (m.0.0 == n.0.0)) BadArgument) _ (allowed_holds (not (m.0.0 == n.0.0)) BadArgument tt) (λ u3.
    then_holds (device_end s.links m.0 m.1) _ (device_end_holds s.links m.0 m.1) (λ e.
    then_holds (end_at e.1) _ (end_at_holds e.1) (λ u5.
    done_holds (record s { links = s.links ++ (record { from = n.0; from_dev = d.0; to = m.0; to_dev = e.0 }) ∷ [] })))))))

audit_rest_holds : (w : AuditWord) (ws : List (List ℕ)) (s : AuditReading) → Holds (audit_rest w ws s)
unfolding audit_rest
audit_rest_holds word.Log ws s = log_line_holds ws s
audit_rest_holds word.Link ws s = link_line_holds ws s

audit_line_holds : (ws : List (List ℕ)) (s : AuditReading) → Holds (audit_line ws s)
unfolding audit_line
audit_line_holds ws s =
    then_holds (word_at ws) _ (word_at_holds ws) (λ w.
    then_holds (ok_or (audit_word w.0) BadWord) _ (ok_or_holds (audit_word w.0) BadWord tt) (λ k.
    audit_rest_holds k w.1 s))

step_holds : (begun : Bool) (number : ℕ) (line : List ℕ) (s : AuditReading) → OnRefusal (audit_step_at begun number line s)
unfolding audit_step_at
step_holds false number line s = header_holds (codes "planet audit 1") number line (record s { begun = true })
step_holds true number line s = usual_holds number line s (λ ws. audit_line ws s) (λ ws. audit_line_holds ws s)

end_holds : (begun some : Bool) (number : ℕ) (s : AuditReading) → OnRefusal (audit_end begun some number s)
end_holds false some number s = none_refuses (faults.Line number BadHeader) tt
end_holds true false number s = none_refuses (faults.Line number BadWord) tt
end_holds true true number s = done_refuses (record { logs = s.logs; links = s.links })

-- no first refusal of a file of an audit is or holds `NoMemory`
pub audit_holds : (bytes : List ℕ) (e : LineFault) → audit_of bytes ≡ Err e → FaultHolds e
audit_holds bytes e h = file_holds audit_format nothing_read (λ number line s. step_holds s.begun number line s) (λ number s. end_holds s.begun (nat_lt 0 (length s.logs)) number s) bytes e h
