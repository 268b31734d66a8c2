-- A fleet is refused for no `NoMemory`.
use Rattle.std.proofs.Common.{◌≡◌, ℕ, Bool, true, false, List, [], ◌∷◌, ◌++◌, length, Err}
use Rattle.std.specs.Prelude.{nat_lt}
use Rattle.file_laws.proofs.FileHolds.{OnRefusal, done_refuses, none_refuses, file_holds}
use Rattle.file_laws.proofs.LineHolds.{Holds, then_holds, done_holds, allowed_holds, ok_or_holds, word_at_holds, end_at_holds, number_at_holds, file_name_at_holds}
use Rattle.file_laws.proofs.NodeHolds.{last_number_holds, header_holds, usual_holds}
use Rattle.file_laws.specs.Refusals.{FaultHolds}
use Rattle.line_reader.specs.FileNames.{file_name_at}
use Rattle.line_reader.specs.Numbers.{number_at}
use Rattle.line_reader.specs.Reads.{word_at, end_at, allowed_or_reason}
use Rattle.line_reader.specs.declared.fault.LineFault.{LineFault}
use Rattle.line_reader.specs.declared.fault.LineReason.TheVariants.{BadHeader, BadWord, TooMany}
use Rattle.network_config.specs.Hosts.{host_of}
use Rattle.node_files.specs.Fleets.{kid_word, node_kid, ask_kid, kid_rest, kid_line, fleet_step_at, fleet_end, fleet_format, no_children, fleet_of}
use Rattle.node_files.specs.Parts.{last_number}
use Rattle.node_files.specs.declared.fleet.FleetReading.{FleetReading}
use Rattle.node_files.specs.declared.fleet.KidWord.{KidWord}
use Rattle.std.specs.Option.{ok_or}
use lib.Chars.{codes}
use Rattle.line_reader.specs.declared.fault.LineFault.TheVariants as faults
use Rattle.network_config.specs.declared.fleet.Kid.TheVariants as kids
use Rattle.node_files.specs.declared.fleet.KidWord.TheVariants as word

node_kid_holds : (ws : List (List ℕ)) → Holds (node_kid ws)
unfolding node_kid
node_kid_holds ws =
    then_holds (number_at 0 4294967295 ws) _ (number_at_holds 0 4294967295 ws) (λ h.
    then_holds (file_name_at h.1) _ (file_name_at_holds h.1) (λ file.
    then_holds (last_number 1 1000000 file.1) _ (last_number_holds 1 1000000 file.1) (λ turns.
    done_holds (kids.Node (host_of h.0) file.0 turns))))

ask_kid_holds : (ws : List (List ℕ)) → Holds (ask_kid ws)
unfolding ask_kid
ask_kid_holds ws =
    then_holds (number_at 0 4294967295 ws) _ (number_at_holds 0 4294967295 ws) (λ h.
    then_holds (file_name_at h.1) _ (file_name_at_holds h.1) (λ file.
    then_holds (end_at file.1) _ (end_at_holds file.1) (λ u2.
    done_holds (kids.Ask (host_of h.0) file.0))))

kid_rest_holds : (x0 : KidWord) (ws : List (List ℕ)) → Holds (kid_rest x0 ws)
unfolding kid_rest
kid_rest_holds word.Node ws = node_kid_holds ws
kid_rest_holds word.Ask ws = ask_kid_holds ws

kid_line_holds : (ws : List (List ℕ)) (s : FleetReading) → Holds (kid_line ws s)
unfolding kid_line
kid_line_holds ws s =
    then_holds (word_at ws) _ (word_at_holds ws) (λ w.
    then_holds (ok_or (kid_word w.0) BadWord) _ (ok_or_holds (kid_word w.0) BadWord tt) (λ k.
    then_holds (allowed_or_reason (nat_lt (length s.children) 64) TooMany) _ (allowed_holds (nat_lt (length s.children) 64) TooMany tt) (λ u2.
    then_holds (kid_rest k w.1) _ (kid_rest_holds k w.1) (λ kid.
    done_holds (record s { children = s.children ++ kid ∷ [] })))))

step_holds : (begun : Bool) (number : ℕ) (line : List ℕ) (s : FleetReading) → OnRefusal (fleet_step_at begun number line s)
unfolding fleet_step_at
step_holds false number line s = header_holds (codes "planet fleet 1") number line (record s { begun = true })
step_holds true number line s = usual_holds number line s (λ ws. kid_line ws s) (λ ws. kid_line_holds ws s)

end_holds : (begun some : Bool) (number : ℕ) (s : FleetReading) → OnRefusal (fleet_end begun some number s)
end_holds false some number s = none_refuses (faults.Line number BadHeader) tt
end_holds true false number s = none_refuses (faults.Line number BadWord) tt
end_holds true true number s = done_refuses (record { children = s.children })

-- no first refusal of a fleet is or holds `NoMemory`
pub fleet_holds : (bytes : List ℕ) (e : LineFault) → fleet_of bytes ≡ Err e → FaultHolds e
fleet_holds bytes e h = file_holds fleet_format no_children (λ number line s. step_holds s.begun number line s) (λ number s. end_holds s.begun (nat_lt 0 (length s.children)) number s) bytes e h
