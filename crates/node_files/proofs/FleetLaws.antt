-- A fleet that a file says keeps its rules, and each file has one answer.
use Rattle.std.proofs.Common.{◌≡◌, ◌⊎◌, ℕ, ◌≤◌, Bool, true, false, ltb, List, [], ◌∷◌, length, Result, refl, arith, length-append}
use Rattle.std.specs.Prelude.{IfOk}
use Rattle.std.specs.List.{All}
use Rattle.std.specs.Option.{ok_or}
use Rattle.std.proofs.lemmas.Bool.{ltb-true}
use Rattle.std.proofs.lemmas.List.Elements.{All-nil, All-push}
use lib.Chars.{codes}
use Rattle.network_config.specs.declared.fleet.Fleet.{Fleet}
use Rattle.network_config.specs.declared.fleet.Kid.TheVariants as kids
use Rattle.network_config.specs.Hosts.{host_of}
use Rattle.network_config.specs.NodeRules.{KeepsKid, KeepsFleet}
use Rattle.line_reader.specs.declared.fault.LineReason.TheVariants.{BadHeader, BadWord, TooMany}
use Rattle.line_reader.specs.declared.fault.LineFault.{LineFault}
use Rattle.line_reader.specs.Lines.{lines}
use Rattle.line_reader.specs.Reads.{word_at, end_at, allowed_or_reason, FileGives}
use Rattle.line_reader.specs.Numbers.{number_at}
use Rattle.line_reader.specs.FileNames.{file_name_at}
use Rattle.line_reader.proofs.FileLaws.{is_keeping}
use Rattle.line_reader.proofs.Keeping.{IfRead, then_keeps, done_keeps, allowed_below, number_is, file_name_is, IfStep, step_done, read_keeps}
use Rattle.line_reader.specs.Inside.{OnFault, RefusesRead}
use Rattle.line_reader.proofs.Placing.{fault_done, fault_here, Places, refuses_read}
use Rattle.node_files.specs.declared.fleet.KidWord.{KidWord}
use Rattle.node_files.specs.declared.fleet.KidWord.TheVariants as word
use Rattle.node_files.specs.declared.fleet.FleetReading.{FleetReading}
use Rattle.node_files.specs.Parts.{last_number}
use Rattle.node_files.specs.Fleets.{kid_word, node_kid, ask_kid, kid_rest, kid_line, fleet_step_at, fleet_end, fleet_format, no_children, fleet_of}
use Rattle.node_files.specs.Answers.{Accepted, Refused}
use Rattle.node_files.proofs.PartLaws.{last_number_is, header_keeps, usual_keeps, header_placed, usual_placed, value_or_refusal}

-- ---- the rules

node_is : (ws : List (List ℕ)) → IfRead KeepsKid (node_kid ws)
unfolding node_kid
node_is ws =
    then_keeps KeepsKid (number_at 0 4294967295 ws) _ (λ h hh.
    then_keeps KeepsKid (file_name_at h.1) _ (λ file hf.
    then_keeps KeepsKid (last_number 1 1000000 file.1) _ (λ turns ht.
    let t = last_number_is 1 1000000 file.1 turns ht in
    done_keeps KeepsKid (kids.Node (host_of h.0) file.0 turns) (omega (arith, (number_is 0 4294967295 ws h hh).1), file_name_is h.1 file hf, t.0, t.1))))

ask_is : (ws : List (List ℕ)) → IfRead KeepsKid (ask_kid ws)
unfolding ask_kid
ask_is ws =
    then_keeps KeepsKid (number_at 0 4294967295 ws) _ (λ h hh.
    then_keeps KeepsKid (file_name_at h.1) _ (λ file hf.
    then_keeps KeepsKid (end_at file.1) _ (λ u hu.
    done_keeps KeepsKid (kids.Ask (host_of h.0) file.0) (omega (arith, (number_is 0 4294967295 ws h hh).1), file_name_is h.1 file hf))))

rest_is : (w : KidWord) (ws : List (List ℕ)) → IfRead KeepsKid (kid_rest w ws)
unfolding kid_rest
rest_is word.Node ws = node_is ws
rest_is word.Ask ws = ask_is ws

record Keeps (s : FleetReading) : Type 0 where
  few : length s.children ≤ 64
  children : All KeepsKid s.children

kid_keeps : (ws : List (List ℕ)) (s : FleetReading) → Keeps s → IfRead Keeps (kid_line ws s)
unfolding kid_line
kid_keeps ws s k =
    then_keeps Keeps (word_at ws) _ (λ w hw.
    then_keeps Keeps (ok_or (kid_word w.0) BadWord) _ (λ kind hk.
    then_keeps Keeps (allowed_or_reason (ltb (length s.children) 64) TooMany) _ (λ u hu.
    then_keeps Keeps (kid_rest kind w.1) _ (λ kid hd.
    done_keeps Keeps _ (record {
      few = omega (arith, length-append s.children (kid ∷ []), allowed_below (length s.children) 64 TooMany u hu);
      children = All-push KeepsKid s.children kid k.children (rest_is kind w.1 kid hd);
    })))))

begun_keeps : (s : FleetReading) → Keeps s → Keeps (record s { begun = true })
begun_keeps s k = record { few = k.few; children = k.children }

step_keeps : (begun : Bool) (number : ℕ) (line : List ℕ) (s : FleetReading) → Keeps s → IfStep Keeps (fleet_step_at begun number line s)
unfolding fleet_step_at
step_keeps false number line s k = header_keeps Keeps (codes "planet fleet 1") number line (record s { begun = true }) (begun_keeps s k)
step_keeps true number line s k = usual_keeps Keeps number line s (λ ws. kid_line ws s) k (λ ws. kid_keeps ws s k)

end_keeps : (begun some : Bool) (number : ℕ) (s : FleetReading) → ltb 0 (length s.children) ≡ some → Keeps s → IfStep KeepsFleet (fleet_end begun some number s)
end_keeps false some number s h k y e = absurd cc
end_keeps true false number s h k y e = absurd cc
end_keeps true true number s h k y e = step_done KeepsFleet (record { children = s.children }) (record { some = omega (arith, ltb-true 0 (length s.children) h); few = k.few; children = k.children }) y e

fleet_keeps : (bytes : List ℕ) → IfStep KeepsFleet (fleet_of bytes)
fleet_keeps bytes =
    read_keeps fleet_format Keeps KeepsFleet
    (λ number line s k. step_keeps s.begun number line s k)
    (λ number s k. end_keeps s.begun (ltb 0 (length s.children)) number s refl k)
    (lines bytes) 1 no_children (record { few = omega arith; children = All-nil KeepsKid })

pub fleet_rules : (bytes : List ℕ) (r : Result Fleet LineFault) → FileGives (λ s. s) r (fleet_of bytes) → IfOk r KeepsFleet
fleet_rules bytes r h = is_keeping KeepsFleet r (fleet_of bytes) h (fleet_keeps bytes)

-- ---- where refusals stand

abbrev Anywhere : ℕ → FleetReading → Type 0
Anywhere number s = Unit {0}

step_placed : (begun : Bool) (number : ℕ) (line : List ℕ) (s : FleetReading) → 1 ≤ number → OnFault number (fleet_step_at begun number line s)
unfolding fleet_step_at
step_placed false number line s low = header_placed (codes "planet fleet 1") number line (record s { begun = true }) low
step_placed true number line s low = usual_placed number line s (λ ws. kid_line ws s) low

end_placed : (begun some : Bool) (number : ℕ) (s : FleetReading) → 1 ≤ number → OnFault number (fleet_end begun some number s)
end_placed false some number s low = fault_here {B = Fleet} number number BadHeader low (omega arith)
end_placed true false number s low = fault_here {B = Fleet} number number BadWord low (omega arith)
end_placed true true number s low = fault_done number (record { children = s.children })

fleet_places : Places fleet_format Anywhere
fleet_places = record {
  later = λ number s b. tt;
  kept = λ number line s low b t e. tt;
  step = λ number line s low b. step_placed s.begun number line s low;
  finish = λ number s low b. end_placed s.begun (ltb 0 (length s.children)) number s low;
}

-- they refuse lines that were read
pub fleet_refuses : RefusesRead fleet_format no_children
fleet_refuses = refuses_read fleet_format no_children Anywhere fleet_places tt

pub fleet_answered : (bytes : List ℕ) → Accepted fleet_of bytes ⊎ Refused fleet_of bytes
fleet_answered bytes = value_or_refusal fleet_format no_children fleet_refuses bytes
