-- A log that a file says keeps its rules, and each file has one answer.
use Rattle.std.proofs.Common.{◌≡◌, ◌⊎◌, ℕ, ◌≤◌, ◌<◌, ◌^◌, Bool, true, false, ltb, List, [], ◌∷◌, ◌++◌, length, length-append, Result, refl, sym, subst, arith}
use Rattle.std.specs.Prelude.{IfOk}
use Rattle.std.specs.List.{All}
use Rattle.std.specs.Option.{ok_or}
use lib.Chars.{codes}
use Rattle.std.proofs.lemmas.List.Elements.{All-nil, All-push}
use Rattle.plan_base.specs.declared.ids.Host.{Host}
use Rattle.plan_base.specs.declared.ids.Dev.{Dev}
use Rattle.plan_base.specs.declared.tree.Chunk.{Chunk}
use Rattle.service_api.specs.declared.package.PackageName.{PackageName}
use Rattle.plan_base.specs.declared.stamp.Version.{Version}
use Rattle.plan_base.specs.declared.stamp.Version.TheVariants.{One, Two}
use Rattle.network_config.specs.declared.event.Event.TheVariants as events
use Rattle.network_config.specs.declared.event.LogEvent.{LogEvent}
use Rattle.network_config.specs.declared.event.LogEvent.TheVariants as logged
use Rattle.network_config.specs.declared.node.Log.{Log}
use Rattle.network_config.specs.Hosts.{dev_of}
use Rattle.network_config.specs.Rules.{PackagesDiffer, MayArrive}
use Rattle.network_config.specs.NodeRules.{IsNeighbour, DevicesAscend, KeepsBoot, KeepsEntry, KeepsLog}
use Rattle.line_reader.specs.declared.fault.LineReason.TheVariants.{BadHeader, BadWord, TooMany, BadArgument}
use Rattle.line_reader.specs.declared.fault.LineFault.{LineFault}
use Rattle.line_reader.specs.Lines.{lines}
use Rattle.line_reader.specs.Reads.{word_at, end_at, allowed_or_reason, FileGives}
use Rattle.line_reader.specs.Numbers.{number_at}
use Rattle.line_reader.specs.Packages.{package_at}
use Rattle.line_reader.specs.HexWords.{hex_at}
use Rattle.line_reader.proofs.FileLaws.{is_keeping}
use Rattle.line_reader.proofs.Keeping.{IfRead, then_keeps, done_keeps, allowed_below, ok_or_is, number_is, AreSized, hex_is, package_is, AreHosts, IfStep, step_done, version_keeps, read_keeps}
use Rattle.line_reader.specs.Inside.{OnFault, RefusesRead}
use Rattle.line_reader.specs.Headers.{version_in}
use Rattle.line_reader.specs.Handlers.{handler_at}
use Rattle.line_reader.proofs.KeptInjections.{handler_is}
use Rattle.line_reader.proofs.Placing.{fault_done, fault_here, version_placed, Places, refuses_read}
use Rattle.checked_chunks.specs.Kept.{IsCheckedChunk}
use Rattle.node_files.specs.declared.log.NodeWord.{NodeWord}
use Rattle.node_files.specs.declared.log.NodeWord.TheVariants as node
use Rattle.node_files.specs.declared.log.EntryWord.{EntryWord}
use Rattle.node_files.specs.declared.log.EntryWord.TheVariants as entry
use Rattle.node_files.specs.declared.log.LogStage.{LogStage}
use Rattle.node_files.specs.declared.log.LogStage.TheVariants as stages
use Rattle.node_files.specs.declared.log.LogReading.{LogReading}
use Rattle.node_files.specs.Parts.{behind_word, last_number}
use Rattle.node_files.specs.Nodes.{host_line, hosts_line, neighbour_at, placed_items, device_of}
use Rattle.node_files.specs.ChunkWords.{typed_chunk, chunk_at}
use Rattle.node_files.specs.Logs.{behind_host, own_line, boot_line, network_line, node_word, may_come, device_line, missing_line, events_line, node_rest, node_line, entry_word, inject_entry}
use Rattle.node_files.specs.Logs.{frame_entry, control_entry, take_entry, entry_rest, entry_line, begun_by, log_step_at, log_said, log_end, log_format, nothing_logged, log_of}
use Rattle.node_files.specs.Answers.{Accepted, Refused}
use Rattle.node_files.proofs.PartLaws.{last_number_is, link_small, usual_keeps, usual_placed, value_or_refusal}
use Rattle.node_files.proofs.Placed.{all_placed, ascend_placed}
use Rattle.node_files.proofs.NodeLaws.{hosts_line_is, neighbour_is}
use Rattle.node_files.proofs.ChunkLaws.{typed_read}

-- ---- entries

abbrev CheckedFront : Chunk × List (List ℕ) → Type 0
CheckedFront x = IsCheckedChunk x.0

chunk_is : (ws : List (List ℕ)) → IfRead CheckedFront (chunk_at ws)
unfolding chunk_at
chunk_is ws =
    then_keeps CheckedFront (hex_at 1 16383 ws) _ (λ bytes hb.
    then_keeps CheckedFront (ok_or (typed_chunk bytes.0) BadArgument) _ (λ c hc.
    done_keeps CheckedFront (c, bytes.1) (typed_read bytes.0 c (hex_is 1 16383 ws bytes hb).are_bytes (ok_or_is (typed_chunk bytes.0) BadArgument c hc)).checked))

inject_is : (version : Version) (ws : List (List ℕ)) → IfRead (KeepsEntry version) (inject_entry version ws)
unfolding inject_entry
inject_is version ws =
    then_keeps (KeepsEntry version) (number_at 0 65535 ws) _ (λ bound hb.
    then_keeps (KeepsEntry version) (chunk_at bound.1) _ (λ chunk hc.
    then_keeps (KeepsEntry version) (handler_at version chunk.0.code chunk.1) _ (λ handler hh.
    then_keeps (KeepsEntry version) (end_at handler.1) _ (λ u hu.
    done_keeps (KeepsEntry version) (logged.Step (events.Inject chunk.0 bound.0 handler.0))
    (((number_is 0 65535 ws bound hb).1, chunk_is bound.1 chunk hc), handler_is version chunk.0.code chunk.1 handler hh chunk.0 refl)))))

may_arrive : (bytes : List ℕ) → AreSized 1 16513 bytes → MayArrive bytes
may_arrive bytes s = record { some = s.from; few = s.to; are_bytes = λ i. s.are_bytes i }

frame_is : (version : Version) (ws : List (List ℕ)) → IfRead (KeepsEntry version) (frame_entry ws)
unfolding frame_entry
frame_is version ws =
    then_keeps (KeepsEntry version) (number_at 0 8 ws) _ (λ d hd.
    then_keeps (KeepsEntry version) (hex_at 1 16513 d.1) _ (λ bytes hb.
    then_keeps (KeepsEntry version) (end_at bytes.1) _ (λ u hu.
    done_keeps (KeepsEntry version) (logged.Step (events.Frame (dev_of d.0) bytes.0)) ((number_is 0 8 ws d hd).1, may_arrive bytes.0 (hex_is 1 16513 d.1 bytes hb)))))

control_is : (version : Version) (ws : List (List ℕ)) → IfRead (KeepsEntry version) (control_entry ws)
unfolding control_entry
control_is version ws =
    then_keeps (KeepsEntry version) (hex_at 1 16513 ws) _ (λ bytes hb.
    then_keeps (KeepsEntry version) (end_at bytes.1) _ (λ u hu.
    done_keeps (KeepsEntry version) (logged.Step (events.Control bytes.0)) (may_arrive bytes.0 (hex_is 1 16513 ws bytes hb))))

take_is : (version : Version) (ws : List (List ℕ)) → IfRead (KeepsEntry version) (take_entry ws)
unfolding take_entry
take_is version ws =
    then_keeps (KeepsEntry version) (last_number 0 8 ws) _ (λ d hd.
    done_keeps (KeepsEntry version) (logged.Step (events.Take (dev_of d))) (last_number_is 0 8 ws d hd).1)

rest_is : (version : Version) (w : EntryWord) (ws : List (List ℕ)) → IfRead (KeepsEntry version) (entry_rest version w ws)
unfolding entry_rest
rest_is version entry.Inject ws = inject_is version ws
rest_is version entry.Frame ws = frame_is version ws
rest_is version entry.Control ws = control_is version ws
rest_is version entry.Tick ws = then_keeps (KeepsEntry version) (end_at ws) _ (λ u hu. done_keeps (KeepsEntry version) (logged.Step events.Tick) tt)
rest_is version entry.Take ws = take_is version ws
rest_is version entry.Lost ws = then_keeps (KeepsEntry version) (end_at ws) _ (λ u hu. done_keeps (KeepsEntry version) logged.Lost tt)

-- ---- what the lines so far keep

record KeepsRest (version : Version) (moment : ℕ) (lacks : List PackageName) (es : List LogEvent) : Type 0 where
  boot : KeepsBoot version moment
  missing : PackagesDiffer lacks
  few : length es ≤ 50000
  events : All (KeepsEntry version) es

abbrev Rest : LogReading → Type 0
Rest s = KeepsRest s.version s.boot s.missing s.events

-- nothing was read behind the hosts
record Fresh (s : LogReading) : Type 0 where
  neighbours : s.neighbours ≡ []
  missing : PackagesDiffer s.missing
  events : s.events ≡ []

record KeepsDevices (here : Host) (hosts : List Host) (ns : List (Host × Dev)) : Type 0 where
  neighbours : All (IsNeighbour here hosts) ns
  ascend : DevicesAscend ns

abbrev Whole : LogReading → Type 0
Whole s = AreHosts s.here s.hosts × KeepsDevices s.here s.hosts s.neighbours × Rest s

abbrev KeptAt : LogStage → LogReading → Type 0
KeptAt stages.Header s = Fresh s × (s.boot ≡ 0)
KeptAt stages.Host s = Fresh s × (s.boot ≡ 0)
KeptAt stages.Boot s = Fresh s × (s.version ≡ Two)
KeptAt stages.Hosts s = Fresh s × KeepsBoot s.version s.boot
KeptAt (stages.Node lacks) s = Whole s
KeptAt stages.Events s = Whole s

abbrev Kept : LogReading → Type 0
Kept s = KeptAt s.stage s

abbrev IsLate : LogStage → Type 0
IsLate stages.Header = ⊥
IsLate stages.Host = ⊥
IsLate stages.Boot = ⊥
IsLate stages.Hosts = ⊥
IsLate (stages.Node lacks) = Unit {0}
IsLate stages.Events = Unit {0}

late_is : (stage : LogStage) (s : LogReading) → IsLate stage → Whole s → KeptAt stage s
late_is stages.Header s l k = absurd l
late_is stages.Host s l k = absurd l
late_is stages.Boot s l k = absurd l
late_is stages.Hosts s l k = absurd l
late_is (stages.Node lacks) s l k = k
late_is stages.Events s l k = k

-- the same with other fields
fresh_as : (stage : LogStage) (version : Version) (boot : ℕ) (here : Host) (s : LogReading) → Fresh s → Fresh (record s { stage = stage; version = version; boot = boot; here = here })
fresh_as stage version boot here s k = record { neighbours = k.neighbours; missing = k.missing; events = k.events }

behind_kept : (version : Version) (here : Host) (s : LogReading) → s.version ≡ version → Fresh s → s.boot ≡ 0 → KeptAt (behind_host version) (record s { stage = behind_host version; here = here })
behind_kept One here s e k none = (fresh_as stages.Hosts s.version s.boot here s k, subst (λ v. KeepsBoot v s.boot) (sym e) none)
behind_kept Two here s e k none = (fresh_as stages.Boot s.version s.boot here s k, e)

own_keeps : (ws : List (List ℕ)) (s : LogReading) → Fresh s → s.boot ≡ 0 → IfRead Kept (own_line ws s)
unfolding own_line
own_keeps ws s k none = then_keeps Kept (host_line ws) _ (λ here hh. done_keeps Kept (record s { stage = behind_host s.version; here = here }) (behind_kept s.version here s refl k none))

boot_keeps : (ws : List (List ℕ)) (s : LogReading) → Fresh s → s.version ≡ Two → IfRead Kept (boot_line ws s)
unfolding boot_line
boot_keeps ws s k two =
    then_keeps Kept (behind_word (codes "boot") ws) _ (λ more hm.
    then_keeps Kept (last_number 0 18446744073709551615 more) _ (λ boot hb.
    let small : boot < 2 ^ 64 = omega (arith, (last_number_is 0 18446744073709551615 more boot hb).1) in
    done_keeps Kept (record s { stage = stages.Hosts; boot = boot }) (fresh_as stages.Hosts s.version boot s.here s k, subst (λ v. KeepsBoot v boot) (sym two) small)))

no_devices : (here : Host) (hosts : List Host) (ns : List (Host × Dev)) → ns ≡ [] → KeepsDevices here hosts ns
no_devices here hosts [] e = record { neighbours = All-nil (IsNeighbour here hosts); ascend = tt }
no_devices here hosts (n ∷ ns) e = absurd cc

no_events : (version : Version) (es : List LogEvent) → es ≡ [] → (length es ≤ 50000) × All (KeepsEntry version) es
no_events version [] e = (omega arith, All-nil (KeepsEntry version))
no_events version (x ∷ xs) e = absurd cc

network_keeps : (ws : List (List ℕ)) (s : LogReading) → Fresh s → KeepsBoot s.version s.boot → IfRead Kept (network_line ws s)
unfolding network_line
network_keeps ws s k b =
    then_keeps Kept (hosts_line s.here ws) _ (λ hosts hh.
    let none = no_events s.version s.events k.events in
    done_keeps Kept (record s { stage = stages.Node false; hosts = hosts })
    (hosts_line_is s.here ws hosts hh, no_devices s.here hosts s.neighbours k.neighbours, record { boot = b; missing = k.missing; few = none.0; events = none.1 }))

device_keeps : (ws : List (List ℕ)) (s : LogReading) → IsLate s.stage → Whole s → IfRead Kept (device_line ws s)
unfolding device_line
device_keeps ws s l k =
    then_keeps Kept (neighbour_at s.here s.hosts s.neighbours ws) _ (λ n hn.
    then_keeps Kept (end_at n.1) _ (λ u hu.
    let new = neighbour_is s.here s.hosts s.neighbours ws n hn in
    let next : LogReading = record s { neighbours = placed_items device_of n.0 s.neighbours } in
    done_keeps Kept next (late_is s.stage next l (
      k.0,
      record {
        neighbours = all_placed (IsNeighbour s.here s.hosts) device_of n.0 s.neighbours new.neighbour k.1.neighbours;
        ascend = ascend_placed n.0 s.neighbours new.free k.1.ascend;
      },
      k.2,
    ))))

missing_keeps : (ws : List (List ℕ)) (s : LogReading) → Whole s → IfRead Kept (missing_line ws s)
unfolding missing_line
missing_keeps ws s k =
    then_keeps Kept (package_at s.missing ws) _ (λ missing hm.
    then_keeps Kept (end_at missing.1) _ (λ u hu.
    let r = k.2 in
    done_keeps Kept (record s { stage = stages.Node true; missing = missing.0 })
    (k.0, k.1, record { boot = r.boot; missing = package_is s.missing ws r.missing missing hm; few = r.few; events = r.events })))

events_keeps : (ws : List (List ℕ)) (s : LogReading) → Whole s → IfRead Kept (events_line ws s)
unfolding events_line
events_keeps ws s k = then_keeps Kept (end_at ws) _ (λ u hu. done_keeps Kept (record s { stage = stages.Events }) k)

node_rest_keeps : (w : NodeWord) (ws : List (List ℕ)) (s : LogReading) → IsLate s.stage → Whole s → IfRead Kept (node_rest w ws s)
unfolding node_rest
node_rest_keeps node.Dev ws s l k = device_keeps ws s l k
node_rest_keeps node.Without ws s l k = missing_keeps ws s k
node_rest_keeps node.Events ws s l k = events_keeps ws s k

node_keeps : (lacks : Bool) (ws : List (List ℕ)) (s : LogReading) → IsLate s.stage → Whole s → IfRead Kept (node_line lacks ws s)
unfolding node_line
node_keeps lacks ws s l k =
    then_keeps Kept (word_at ws) _ (λ w hw.
    then_keeps Kept (ok_or (node_word w.0) BadWord) _ (λ kind hk.
    then_keeps Kept (allowed_or_reason (may_come lacks kind) BadWord) _ (λ u hu.
    node_rest_keeps kind w.1 s l k)))

entry_keeps : (ws : List (List ℕ)) (s : LogReading) → IsLate s.stage → Whole s → IfRead Kept (entry_line ws s)
unfolding entry_line
entry_keeps ws s l k =
    then_keeps Kept (word_at ws) _ (λ w hw.
    then_keeps Kept (ok_or (entry_word w.0) BadWord) _ (λ kind hk.
    then_keeps Kept (allowed_or_reason (ltb (length s.events) 50000) TooMany) _ (λ u hu.
    then_keeps Kept (entry_rest s.version kind w.1) _ (λ e he.
    let r = k.2 in
    let next : LogReading = record s { events = s.events ++ e ∷ [] } in
    done_keeps Kept next (late_is s.stage next l (
      k.0,
      k.1,
      record {
        boot = r.boot;
        missing = r.missing;
        few = omega (arith, length-append s.events (e ∷ []), allowed_below (length s.events) 50000 TooMany u hu);
        events = All-push (KeepsEntry s.version) s.events e r.events (rest_is s.version kind w.1 e he);
      },
    ))))))

step_keeps : (stage : LogStage) (number : ℕ) (line : List ℕ) (s : LogReading) → s.stage ≡ stage → Kept s → IfStep Kept (log_step_at stage number line s)
unfolding log_step_at
step_keeps stages.Header number line s e k =
    let here : KeptAt stages.Header s = subst (λ t. KeptAt t s) e k in
    version_keeps Kept number (begun_by s) (version_in (codes "planet log ") line) (λ version. (fresh_as stages.Host version s.boot s.here s here.0, here.1))
step_keeps stages.Host number line s e k =
    let here : KeptAt stages.Host s = subst (λ t. KeptAt t s) e k in
    usual_keeps Kept number line s (λ ws. own_line ws s) k (λ ws. own_keeps ws s here.0 here.1)
step_keeps stages.Boot number line s e k =
    let here : KeptAt stages.Boot s = subst (λ t. KeptAt t s) e k in
    usual_keeps Kept number line s (λ ws. boot_line ws s) k (λ ws. boot_keeps ws s here.0 here.1)
step_keeps stages.Hosts number line s e k =
    let here : KeptAt stages.Hosts s = subst (λ t. KeptAt t s) e k in
    usual_keeps Kept number line s (λ ws. network_line ws s) k (λ ws. network_keeps ws s here.0 here.1)
step_keeps (stages.Node lacks) number line s e k =
    let here : Whole s = subst (λ t. KeptAt t s) e k in
    usual_keeps Kept number line s (λ ws. node_line lacks ws s) k (λ ws. node_keeps lacks ws s (subst IsLate (sym e) tt) here)
step_keeps stages.Events number line s e k =
    let here : Whole s = subst (λ t. KeptAt t s) e k in
    usual_keeps Kept number line s (λ ws. entry_line ws s) k (λ ws. entry_keeps ws s (subst IsLate (sym e) tt) here)

said_keeps : (s : LogReading) → Whole s → KeepsLog (log_said s)
said_keeps s k =
    let h = k.0 in
    let d = k.1 in
    let r = k.2 in
    record {
      node = record { few = h.rises.few; ascend = h.rises.ascend; numbers = h.rises.numbers; here = h.listed; neighbours = d.neighbours; devices = d.ascend; serial = omega arith; boot = r.boot; link = link_small s.version };
      serial = refl;
      link = refl;
      missing = r.missing;
      few = r.few;
      events = r.events;
    }

end_keeps : (stage : LogStage) (number : ℕ) (s : LogReading) → s.stage ≡ stage → Kept s → IfStep KeepsLog (log_end stage number s)
end_keeps stages.Header number s e k y h = absurd cc
end_keeps stages.Host number s e k y h = absurd cc
end_keeps stages.Boot number s e k y h = absurd cc
end_keeps stages.Hosts number s e k y h = absurd cc
end_keeps (stages.Node lacks) number s e k y h = absurd cc
end_keeps stages.Events number s e k y h = step_done KeepsLog (log_said s) (said_keeps s (subst (λ t. KeptAt t s) e k)) y h

nothing_keeps : Kept nothing_logged
nothing_keeps = (record { neighbours = refl; missing = tt; events = refl }, refl)

log_keeps : (bytes : List ℕ) → IfStep KeepsLog (log_of bytes)
log_keeps bytes =
    read_keeps log_format Kept KeepsLog
    (λ number line s k. step_keeps s.stage number line s refl k)
    (λ number s k. end_keeps s.stage number s refl k)
    (lines bytes) 1 nothing_logged nothing_keeps

pub log_rules : (bytes : List ℕ) (r : Result Log LineFault) → FileGives (λ s. s) r (log_of bytes) → IfOk r KeepsLog
log_rules bytes r h = is_keeping KeepsLog r (log_of bytes) h (log_keeps bytes)

-- ---- where refusals stand

abbrev Anywhere : ℕ → LogReading → Type 0
Anywhere number s = Unit {0}

step_placed : (stage : LogStage) (number : ℕ) (line : List ℕ) (s : LogReading) → 1 ≤ number → OnFault number (log_step_at stage number line s)
unfolding log_step_at
step_placed stages.Header number line s low = version_placed number (begun_by s) (version_in (codes "planet log ") line) low
step_placed stages.Host number line s low = usual_placed number line s (λ ws. own_line ws s) low
step_placed stages.Boot number line s low = usual_placed number line s (λ ws. boot_line ws s) low
step_placed stages.Hosts number line s low = usual_placed number line s (λ ws. network_line ws s) low
step_placed (stages.Node lacks) number line s low = usual_placed number line s (λ ws. node_line lacks ws s) low
step_placed stages.Events number line s low = usual_placed number line s (λ ws. entry_line ws s) low

end_placed : (stage : LogStage) (number : ℕ) (s : LogReading) → 1 ≤ number → OnFault number (log_end stage number s)
end_placed stages.Header number s low = fault_here {B = Log} number number BadHeader low (omega arith)
end_placed stages.Host number s low = fault_here {B = Log} number number BadWord low (omega arith)
end_placed stages.Boot number s low = fault_here {B = Log} number number BadWord low (omega arith)
end_placed stages.Hosts number s low = fault_here {B = Log} number number BadWord low (omega arith)
end_placed (stages.Node lacks) number s low = fault_here {B = Log} number number BadWord low (omega arith)
end_placed stages.Events number s low = fault_done number (log_said s)

log_places : Places log_format Anywhere
log_places = record {
  later = λ number s b. tt;
  kept = λ number line s low b t e. tt;
  step = λ number line s low b. step_placed s.stage number line s low;
  finish = λ number s low b. end_placed s.stage number s low;
}

-- logs refuse lines that were read
pub log_refuses : RefusesRead log_format nothing_logged
log_refuses = refuses_read log_format nothing_logged Anywhere log_places tt

pub log_answered : (bytes : List ℕ) → Accepted log_of bytes ⊎ Refused log_of bytes
log_answered bytes = value_or_refusal log_format nothing_logged log_refuses bytes
