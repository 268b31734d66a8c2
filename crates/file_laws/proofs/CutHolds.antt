-- A message to be cut is refused for no `NoMemory`.
use Rattle.std.proofs.Common.{◌≡◌, ℕ, List, Err}
use Rattle.file_laws.proofs.FileHolds.{OnRefusal, done_refuses, none_refuses, file_holds}
use Rattle.file_laws.proofs.LineHolds.{Holds, then_holds, done_holds, none_holds, end_at_holds, number_at_holds, hex_at_holds}
use Rattle.file_laws.proofs.NodeHolds.{behind_word_holds, header_holds, usual_holds}
use Rattle.file_laws.specs.Refusals.{FaultHolds}
use Rattle.line_reader.specs.HexWords.{hex_at}
use Rattle.line_reader.specs.Numbers.{number_at}
use Rattle.line_reader.specs.Reads.{end_at}
use Rattle.line_reader.specs.declared.fault.LineFault.{LineFault}
use Rattle.line_reader.specs.declared.fault.LineFault.TheVariants as faults
use Rattle.line_reader.specs.declared.fault.LineReason.TheVariants.{BadHeader, BadWord}
use Rattle.network_config.specs.Hosts.{host_of}
use Rattle.node_files.specs.Parts.{behind_word}
use Rattle.command_files.specs.Cuts.{first_word, dest_line, port_line, key_line, bound_line, data_line, value_line, wanted_line, cut_step_at, cut_end, cut_format, nothing_read, cut_of}
use Rattle.command_files.specs.declared.cut.CutReading.{CutReading}
use Rattle.command_files.specs.declared.cut.CutStage.{CutStage}
use Rattle.command_files.specs.declared.cut.CutStage.TheVariants as stages
use Rattle.command_files.specs.declared.cut.CutWord.{CutWord}
use Rattle.command_files.specs.declared.cut.CutWord.TheVariants as word
use lib.Chars.{codes}

dest_line_holds : (ws : List (List ℕ)) (s : CutReading) → Holds (dest_line ws s)
unfolding dest_line
dest_line_holds ws s =
    then_holds (number_at 0 4294967295 ws) _ (number_at_holds 0 4294967295 ws) (λ h.
    then_holds (end_at h.1) _ (end_at_holds h.1) (λ u1.
    done_holds (record s { stage = stages.Wants word.Port; dest = host_of h.0 })))

port_line_holds : (ws : List (List ℕ)) (s : CutReading) → Holds (port_line ws s)
unfolding port_line
port_line_holds ws s =
    then_holds (number_at 0 65535 ws) _ (number_at_holds 0 65535 ws) (λ p.
    then_holds (end_at p.1) _ (end_at_holds p.1) (λ u1.
    done_holds (record s { stage = stages.Wants word.Key; port = p.0 })))

key_line_holds : (ws : List (List ℕ)) (s : CutReading) → Holds (key_line ws s)
unfolding key_line
key_line_holds ws s =
    then_holds (number_at 0 9223372036854775807 ws) _ (number_at_holds 0 9223372036854775807 ws) (λ k.
    then_holds (end_at k.1) _ (end_at_holds k.1) (λ u1.
    done_holds (record s { stage = stages.Wants word.Bound; key = k.0 })))

bound_line_holds : (ws : List (List ℕ)) (s : CutReading) → Holds (bound_line ws s)
unfolding bound_line
bound_line_holds ws s =
    then_holds (number_at 1 65535 ws) _ (number_at_holds 1 65535 ws) (λ n.
    then_holds (end_at n.1) _ (end_at_holds n.1) (λ u1.
    done_holds (record s { stage = stages.Wants word.Data; bound = n.0 })))

data_line_holds : (ws : List (List ℕ)) (s : CutReading) → Holds (data_line ws s)
unfolding data_line
data_line_holds ws s =
    then_holds (hex_at 1 262144 ws) _ (hex_at_holds 1 262144 ws) (λ bytes.
    then_holds (end_at bytes.1) _ (end_at_holds bytes.1) (λ u1.
    done_holds (record s { stage = stages.Behind; bytes = bytes.0 })))

value_line_holds : (w : CutWord) (ws : List (List ℕ)) (s : CutReading) → Holds (value_line w ws s)
value_line_holds word.Dest ws s = dest_line_holds ws s
value_line_holds word.Port ws s = port_line_holds ws s
value_line_holds word.Key ws s = key_line_holds ws s
value_line_holds word.Bound ws s = bound_line_holds ws s
value_line_holds word.Data ws s = data_line_holds ws s

wanted_line_holds : (w : CutWord) (ws : List (List ℕ)) (s : CutReading) → Holds (wanted_line w ws s)
unfolding wanted_line
wanted_line_holds w ws s =
    then_holds (behind_word (first_word w) ws) _ (behind_word_holds (first_word w) ws) (λ more.
    value_line_holds w more s)

step_holds : (stage : CutStage) (number : ℕ) (line : List ℕ) (s : CutReading) → OnRefusal (cut_step_at stage number line s)
unfolding cut_step_at
step_holds stages.Header number line s = header_holds (codes "planet cut 1") number line (record s { stage = stages.Wants word.Dest })
step_holds (stages.Wants w) number line s = usual_holds number line s (λ ws. wanted_line w ws s) (λ ws. wanted_line_holds w ws s)
step_holds stages.Behind number line s = usual_holds number line s (λ ws. Err BadWord) (λ ws. none_holds BadWord tt)

end_holds : (stage : CutStage) (number : ℕ) (s : CutReading) → OnRefusal (cut_end stage number s)
end_holds stages.Header number s = none_refuses (faults.Line number BadHeader) tt
end_holds (stages.Wants w) number s = none_refuses (faults.Line number BadWord) tt
end_holds stages.Behind number s = done_refuses (record { dest = s.dest; port = s.port; key = s.key; bound = s.bound; bytes = s.bytes })

-- no first refusal of a message to be cut is or holds `NoMemory`
pub cut_holds : (bytes : List ℕ) (e : LineFault) → cut_of bytes ≡ Err e → FaultHolds e
cut_holds bytes e h = file_holds cut_format nothing_read (λ number line s. step_holds s.stage number line s) (λ number s. end_holds s.stage number s) bytes e h
