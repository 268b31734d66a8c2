-- The lines that files of nodes share are refused for no `NoMemory`.
use Rattle.std.proofs.Common.{ℕ, not, List, Result}
use Rattle.std.specs.Prelude.{◌==◌}
use Rattle.file_laws.proofs.FileHolds.{OnRefusal, either_refuses, done_refuses, none_refuses, at_line_refuses}
use Rattle.file_laws.proofs.LineHolds.{Holds, then_holds, done_holds, allowed_holds, ok_or_holds, word_at_holds, end_at_holds, number_at_holds, hex_at_holds, hosts_with_holds}
use Rattle.line_reader.specs.Files.{is_skipped}
use Rattle.line_reader.specs.HexWords.{hex_at}
use Rattle.line_reader.specs.Lines.{words}
use Rattle.line_reader.specs.Numbers.{number_at}
use Rattle.line_reader.specs.Reads.{word_at, end_at, allowed_or_reason}
use Rattle.line_reader.specs.declared.fault.LineReason.{LineReason}
use Rattle.line_reader.specs.declared.fault.LineReason.TheVariants.{BadHeader, BadWord, UnknownHost, TwiceNamed, BadArgument}
use Rattle.network_config.specs.Hosts.{host_of, dev_of, is_listed}
use Rattle.node_files.specs.ChunkWords.{typed_chunk, chunk_at}
use Rattle.node_files.specs.Nodes.{host_line, hosts_line, has_device, neighbour_at}
use Rattle.node_files.specs.Parts.{behind_word, last_number, header_line, usual_line}
use Rattle.plan_base.specs.declared.ids.Dev.{Dev}
use Rattle.plan_base.specs.declared.ids.Host.{Host}
use Rattle.std.specs.Option.{ok_or}
use Rattle.std.specs.Str.{bytes_eq}
use lib.Chars.{codes}
use Rattle.line_reader.specs.declared.fault.LineFault.TheVariants as faults

pub behind_word_holds : (word : List ℕ) (ws : List (List ℕ)) → Holds (behind_word word ws)
unfolding behind_word
behind_word_holds word ws =
    then_holds (word_at ws) _ (word_at_holds ws) (λ w.
    then_holds (allowed_or_reason (bytes_eq w.0 word) BadWord) _ (allowed_holds (bytes_eq w.0 word) BadWord tt) (λ u1.
    done_holds w.1))

pub last_number_holds : (low : ℕ) (high : ℕ) (ws : List (List ℕ)) → Holds (last_number low high ws)
unfolding last_number
last_number_holds low high ws =
    then_holds (number_at low high ws) _ (number_at_holds low high ws) (λ n.
    then_holds (end_at n.1) _ (end_at_holds n.1) (λ u1.
    done_holds n.0))

pub host_line_holds : (ws : List (List ℕ)) → Holds (host_line ws)
unfolding host_line
host_line_holds ws =
    then_holds (behind_word (codes "host") ws) _ (behind_word_holds (codes "host") ws) (λ more.
    then_holds (last_number 0 4294967295 more) _ (last_number_holds 0 4294967295 more) (λ n.
    done_holds (host_of n)))

pub hosts_line_holds : (here : Host) (ws : List (List ℕ)) → Holds (hosts_line here ws)
unfolding hosts_line
hosts_line_holds here ws =
    then_holds (behind_word (codes "hosts") ws) _ (behind_word_holds (codes "hosts") ws) (λ more.
    hosts_with_holds here more)

pub neighbour_at_holds : (here : Host) (hosts : List Host) (seen : List (Host × Dev)) (ws : List (List ℕ)) → Holds (neighbour_at here hosts seen ws)
unfolding neighbour_at
neighbour_at_holds here hosts seen ws =
    then_holds (number_at 1 8 ws) _ (number_at_holds 1 8 ws) (λ d.
    then_holds (allowed_or_reason (not (has_device d.0 seen)) TwiceNamed) _ (allowed_holds (not (has_device d.0 seen)) TwiceNamed tt) (λ u1.
    then_holds (number_at 0 4294967295 d.1) _ (number_at_holds 0 4294967295 d.1) (λ h.
    then_holds (allowed_or_reason (is_listed (host_of h.0) hosts) UnknownHost) _ (allowed_holds (is_listed (host_of h.0) hosts) UnknownHost tt) (λ u3.
    then_holds (allowed_or_reason (not (h.0 == here.0)) BadArgument) _ (allowed_holds (not (h.0 == here.0)) BadArgument tt) (λ u4.
    done_holds ((host_of h.0, dev_of d.0), h.1))))))

pub chunk_at_holds : (ws : List (List ℕ)) → Holds (chunk_at ws)
unfolding chunk_at
chunk_at_holds ws =
    then_holds (hex_at 1 16383 ws) _ (hex_at_holds 1 16383 ws) (λ bytes.
    then_holds (ok_or (typed_chunk bytes.0) BadArgument) _ (ok_or_holds (typed_chunk bytes.0) BadArgument tt) (λ c.
    done_holds (c, bytes.1)))

-- ---- whole lines

pub header_holds : {A : Type 0} (header : List ℕ) (number : ℕ) (line : List ℕ) (s : A) → OnRefusal (header_line header number line s)
header_holds header number line s = either_refuses (bytes_eq line header) _ _ (done_refuses s) (none_refuses (faults.Line number BadHeader) tt)

pub usual_holds : {A : Type 0} (number : ℕ) (line : List ℕ) (s : A) (read : List (List ℕ) → Result A LineReason) → ((ws : List (List ℕ)) → Holds (read ws)) → OnRefusal (usual_line number line s read)
usual_holds number line s read h = either_refuses (is_skipped line) _ _ (done_refuses s) (at_line_refuses number (read (words line)) (h (words line)))
