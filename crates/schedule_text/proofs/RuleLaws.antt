-- Each line keeps the rules of a schedule, so a file's schedule keeps them.
use Rattle.std.proofs.Common.{◌≡◌, ℕ, ◌+◌, ◌<◌, ◌≤◌, ◌^◌, Bool, true, false, cond, not, eqb, ltb, List, [], ◌∷◌, ◌++◌, length, Option, Some, None, Result, Ok, Err, refl, sym, subst, arith, length-append}
use Rattle.std.specs.Prelude.{IfOk}
use Rattle.std.specs.List.{All, find}
use Rattle.std.specs.Option.{ok_or}
use Rattle.std.specs.Str.{bytes_eq}
use lib.Chars.{codes}
use Rattle.std.proofs.lemmas.Bool.{eqb-false}
use Rattle.std.proofs.lemmas.Option.{same_Some}
use Rattle.std.proofs.lemmas.List.Elements.{All-nil, All-head, All-tail, All-push, All-weaker}
use Rattle.plan_base.specs.declared.ids.Host.{Host}
use Rattle.plan_base.specs.declared.ids.Dev.{Dev}
use Rattle.plan_base.specs.declared.name.Name.{Name}
use Rattle.plan_base.specs.declared.tree.Chunk.{Chunk}
use Rattle.checked_chunks.specs.Kept.{IsChecked}
use Rattle.service_api.specs.declared.package.PackageName.{PackageName}
use Rattle.plan_base.specs.declared.stamp.Version.{Version}
use Rattle.plan_base.specs.declared.stamp.Version.TheVariants.{One, Two}
use Rattle.network_config.specs.declared.schedule.HostSpec.{HostSpec}
use Rattle.network_config.specs.declared.schedule.Schedule.{Schedule}
use Rattle.network_config.specs.declared.schedule.Topology.{Topology}
use Rattle.network_config.specs.declared.event.WorldEvent.{WorldEvent}
use Rattle.network_config.specs.declared.event.WorldEvent.TheVariants as happens
use Rattle.network_config.specs.declared.schedule.Link.{Link}
use Rattle.network_config.specs.Hosts.{host_of, dev_of, has_host, has_link}
use Rattle.network_config.specs.Rules.{IsLinkDevice, PackagesDiffer, KeepsLink, KeepsNetwork, KeepsInjection, MayArrive, KeepsEvent, weights, KeepsRules}
use Rattle.line_reader.specs.declared.fault.LineReason.{LineReason}
use Rattle.line_reader.specs.declared.fault.LineReason.TheVariants.{BadWord, UnknownHost, UnknownProgram, TwiceNamed, TooMany, BadArgument}
use Rattle.line_reader.specs.declared.fault.LineFault.{LineFault}
use Rattle.line_reader.specs.Lines.{lines, words}
use Rattle.line_reader.specs.Reads.{FileGives, word_at, end_at, allowed_or_reason}
use Rattle.line_reader.specs.Files.{is_skipped}
use Rattle.line_reader.specs.Numbers.{number_at}
use Rattle.line_reader.specs.Packages.{packages_at}
use Rattle.line_reader.specs.HexWords.{hex_at}
use Rattle.line_reader.specs.Headers.{version_in, next_by_version}
use Rattle.line_reader.specs.Programs.{program_in, weighed_sum}
use Rattle.line_reader.specs.Injections.{injection_at}
use Rattle.line_reader.proofs.Keeping.{IfRead, then_keeps, done_keeps, allowed_true, allowed_not, allowed_below, ok_or_is, number_is, AreSized, hex_is, packages_are, IfStep, step_done, at_line_keeps, either_keeps, version_keeps, read_keeps}
use Rattle.line_reader.proofs.KeptPrograms as kept
use Rattle.line_reader.proofs.KeptInjections.{injection_is}
use Rattle.line_reader.proofs.FileLaws as whole
use Rattle.schedule_text.specs.declared.keyword.NetworkWord.{NetworkWord}
use Rattle.schedule_text.specs.declared.keyword.NetworkWord.TheVariants as network
use Rattle.schedule_text.specs.declared.keyword.EventWord.{EventWord}
use Rattle.schedule_text.specs.declared.keyword.EventWord.TheVariants as event
use Rattle.schedule_text.specs.declared.reading.NamedProgram.{NamedProgram}
use Rattle.schedule_text.specs.declared.reading.BegunProgram.{BegunProgram}
use Rattle.schedule_text.specs.declared.reading.Reading.{Reading}
use Rattle.schedule_text.specs.declared.reading.Stage.{Stage}
use Rattle.schedule_text.specs.declared.reading.Stage.TheVariants as stages
use Rattle.schedule_text.specs.declared.reading.ScheduleFile.{ScheduleFile}
use Rattle.schedule_text.specs.Parts.{host_at, device_at, free_device_at, is_called, program_at}
use Rattle.schedule_text.specs.Schedules.{network_word, event_word, is_first, frames_line, host_spec, host_line, link_line, program_line, named_program, close_program, network_rest, network_line}
use Rattle.schedule_text.specs.Schedules.{with_event, injected_at, inject_line, send_line, frame_at, deliver_line, repeat_line, lose_line, tick_line, raw_line, event_rest, event_line, staying}
use Rattle.schedule_text.specs.Schedules.{begun_by, step, schedule_of_reading, finish, file_after, schedule_format, nothing_read, schedule_of}
use Rattle.schedule_text.proofs.FormatLaws.{same}
use Rattle.line_reader.proofs.NetworkRules.{differ_push, link_stays, event_stays, apart_push}

-- ---- what a line names

abbrev IsHost : List HostSpec → Host × List (List ℕ) → Type 0
IsHost hosts x = has_host x.0 hosts ≡ true

host_is : (hosts : List HostSpec) (ws : List (List ℕ)) → IfRead (IsHost hosts) (host_at hosts ws)
unfolding host_at
host_is hosts ws =
    then_keeps (IsHost hosts) (number_at 0 4294967295 ws) _ (λ n hn.
    then_keeps (IsHost hosts) (allowed_or_reason (has_host (host_of n.0) hosts) UnknownHost) _ (λ u hu.
    done_keeps (IsHost hosts) (host_of n.0, n.1) (allowed_true (has_host (host_of n.0) hosts) UnknownHost u hu)))

abbrev IsDevice : Dev × List (List ℕ) → Type 0
IsDevice x = x.0.0 ≤ 8

any_device_is : (ws : List (List ℕ)) → IfRead IsDevice (device_at ws)
unfolding device_at
any_device_is ws =
    then_keeps IsDevice (number_at 0 8 ws) _ (λ d hd.
    done_keeps IsDevice (dev_of d.0, d.1) (number_is 0 8 ws d hd).1)

abbrev IsFree : List Link → Host → Dev × List (List ℕ) → Type 0
IsFree links h x = IsLinkDevice x.0 × (has_link h x.0 links ≡ false)

device_is : (links : List Link) (h : Host) (ws : List (List ℕ)) → IfRead (IsFree links h) (free_device_at links h ws)
unfolding free_device_at
device_is links h ws =
    then_keeps (IsFree links h) (number_at 1 8 ws) _ (λ d hd.
    then_keeps (IsFree links h) (allowed_or_reason (not (has_link h (dev_of d.0) links)) TwiceNamed) _ (λ u hu.
    done_keeps (IsFree links h) (dev_of d.0, d.1) (number_is 1 8 ws d hd, allowed_not (has_link h (dev_of d.0) links) TwiceNamed u hu)))

either_found : {X : Type 0} (P : X → Type 0) (t : Bool) (y x : X) (o : Option X) → P y → (o ≡ Some x → P x) → cond t (Some y) o ≡ Some x → P x
either_found P true y x o q k e = subst P (same_Some y x e) q
either_found P false y x o q k e = k e

found_all : {X : Type 0} (P : X → Type 0) (p : X → Bool) (xs : List X) (x : X) → All P xs → find p xs ≡ Some x → P x
found_all P p [] x h e = absurd cc
found_all P p (y ∷ ys) x h e = either_found P (p y) y x (find p ys) (All-head P y ys h) (λ f. found_all P p ys x (All-tail P y ys h) f) e

abbrev IsNamed : NamedProgram → Type 0
IsNamed p = IsChecked p.program

abbrev IsKnown : NamedProgram × List (List ℕ) → Type 0
IsKnown x = IsNamed x.0

named_is : (programs : List NamedProgram) (ws : List (List ℕ)) → All IsNamed programs → IfRead IsKnown (program_at programs ws)
unfolding program_at
named_is programs ws all =
    then_keeps IsKnown (word_at ws) _ (λ w hw.
    then_keeps IsKnown (ok_or (find (is_called w.0) programs) UnknownProgram) _ (λ p hp.
    done_keeps IsKnown (p, w.1) (found_all IsNamed (is_called w.0) programs p all (ok_or_is (find (is_called w.0) programs) UnknownProgram p hp))))

-- ---- what was read so far keeps the rules

abbrev network_of : Reading → Topology
network_of s = record { hosts = s.hosts; links = s.links; version = s.version }

-- the weights in sum, which are within the limit
abbrev IsWeight : List WorldEvent → ℕ → Type 0
IsWeight es n = (weights es ≡ n) × (n ≤ 16777216)

weights_push : (es : List WorldEvent) (e : WorldEvent) → weights (es ++ e ∷ []) ≡ weights es + weights (e ∷ [])
weights_push [] e = omega arith
weights_push (happens.Inject h c n handler ∷ es) e = let k = weights_push es e in omega (arith, k)
weights_push (_ ∷ es) e = weights_push es e

record Keeps (s : Reading) : Type 0 where
  network : KeepsNetwork (network_of s)
  programs : All IsNamed s.programs
  few : length s.events ≤ 50000
  events : All (KeepsEvent s.version s.hosts) s.events
  weight : IsWeight s.events s.weight

add_host : (s : Reading) (n : ℕ) (missing : List PackageName) → Keeps s → length s.hosts < 32 → n < 2 ^ 32 → has_host (host_of n) s.hosts ≡ false → PackagesDiffer missing → Keeps (record s { hosts = s.hosts ++ host_spec n missing ∷ [] })
add_host s n missing k room small new lacks = record {
  network = record {
    few = omega (arith, length-append s.hosts (host_spec n missing ∷ []), room);
    hosts = differ_push s.hosts (host_spec n missing) k.network.hosts new;
    numbers = All-push (λ h. h.host.0 < 2 ^ 32) s.hosts (host_spec n missing) k.network.numbers small;
    missing = All-push (λ h. PackagesDiffer h.missing) s.hosts (host_spec n missing) k.network.missing lacks;
    links = All-weaker (KeepsLink s.hosts) (KeepsLink (s.hosts ++ host_spec n missing ∷ [])) (link_stays s.hosts (host_spec n missing)) s.links k.network.links;
    apart = k.network.apart;
  };
  programs = k.programs;
  few = k.few;
  events = All-weaker (KeepsEvent s.version s.hosts) (KeepsEvent s.version (s.hosts ++ host_spec n missing ∷ [])) (event_stays s.version s.hosts (host_spec n missing)) s.events k.events;
  weight = k.weight;
}

host_line_keeps : (ws : List (List ℕ)) (s : Reading) → Keeps s → IfRead Keeps (host_line ws s)
unfolding host_line
host_line_keeps ws s k =
    then_keeps Keeps (allowed_or_reason (ltb (length s.hosts) 32) TooMany) _ (λ u room.
    then_keeps Keeps (number_at 0 4294967295 ws) _ (λ n hn.
    then_keeps Keeps (allowed_or_reason (not (has_host (host_of n.0) s.hosts)) TwiceNamed) _ (λ v new.
    then_keeps Keeps (packages_at [] n.1) _ (λ missing hm.
    done_keeps Keeps (record s { hosts = s.hosts ++ host_spec n.0 missing ∷ [] })
    (add_host s n.0 missing k (allowed_below (length s.hosts) 32 TooMany u room) (omega (arith, (number_is 0 4294967295 ws n hn).1)) (allowed_not (has_host (host_of n.0) s.hosts) TwiceNamed v new) (packages_are [] n.1 tt missing hm))))))

add_link : (s : Reading) (l : Link) → Keeps s → KeepsLink s.hosts l → has_link l.from l.from_dev s.links ≡ false → has_link l.to l.to_dev s.links ≡ false → Keeps (record s { links = s.links ++ l ∷ [] })
add_link s l k h from to = record {
  network = record {
    few = k.network.few;
    hosts = k.network.hosts;
    numbers = k.network.numbers;
    missing = k.network.missing;
    links = All-push (KeepsLink s.hosts) s.links l k.network.links h;
    apart = apart_push s.links l k.network.apart from to;
  };
  programs = k.programs;
  few = k.few;
  events = k.events;
  weight = k.weight;
}

link_line_keeps : (ws : List (List ℕ)) (s : Reading) → Keeps s → IfRead Keeps (link_line ws s)
unfolding link_line
link_line_keeps ws s k =
    then_keeps Keeps (host_at s.hosts ws) _ (λ n hn.
    then_keeps Keeps (free_device_at s.links n.0 n.1) _ (λ d hd.
    then_keeps Keeps (host_at s.hosts d.1) _ (λ m hm.
    then_keeps Keeps (allowed_or_reason (not (eqb m.0.0 n.0.0)) BadArgument) _ (λ u apart.
    then_keeps Keeps (free_device_at s.links m.0 m.1) _ (λ e he.
    then_keeps Keeps (end_at e.1) _ (λ v hv.
    done_keeps Keeps (record s { links = s.links ++ (record { from = n.0; from_dev = d.0; to = m.0; to_dev = e.0 }) ∷ [] })
    (add_link s (record { from = n.0; from_dev = d.0; to = m.0; to_dev = e.0 }) k (record {
      from = host_is s.hosts ws n hn;
      to = host_is s.hosts d.1 m hm;
      apart = eqb-false m.0.0 n.0.0 (allowed_not (eqb m.0.0 n.0.0) BadArgument u apart);
      from_device = (device_is s.links n.0 n.1 d hd).0;
      to_device = (device_is s.links m.0 m.1 e he).0;
    }) (device_is s.links n.0 n.1 d hd).1 (device_is s.links m.0 m.1 e he).1)))))))

-- what was read says that frames are shown
shown_keeps : (s : Reading) → Keeps s → Keeps (record s { frames = true })
shown_keeps s k = record { network = k.network; programs = k.programs; few = k.few; events = k.events; weight = k.weight }

frames_keeps : (ws : List (List ℕ)) (s : Reading) → Keeps s → IfRead Keeps (frames_line ws s)
unfolding frames_line
frames_keeps ws s k =
    then_keeps Keeps (allowed_or_reason (is_first s) BadWord) _ (λ u hu.
    then_keeps Keeps (end_at ws) _ (λ v hv.
    done_keeps Keeps (record s { frames = true }) (shown_keeps s k)))

close_keeps : (begun : BegunProgram) (s : Reading) → Keeps s → IfRead Keeps (close_program begun s)
unfolding close_program
close_keeps begun s k =
    then_keeps Keeps (program_in begun.source.text) _ (λ program hp.
    done_keeps Keeps _ (record {
      network = k.network;
      programs = All-push IsNamed s.programs (named_program begun.name program) k.programs (kept.program_is begun.source.text program hp);
      few = k.few;
      events = k.events;
      weight = k.weight;
    }))

-- no event is read in front of the header
abbrev Begins : Stage → Reading → Type 0
Begins stages.Header s = s.events ≡ []
Begins stages.Network s = Unit {0}
Begins (stages.Inside begun) s = Unit {0}
Begins stages.Events s = Unit {0}

abbrev KeepsNext : Stage × Reading → Type 0
KeepsNext x = Keeps x.1 × Begins x.0 x.1

network_rest_keeps : (kind : NetworkWord) (number : ℕ) (ws : List (List ℕ)) (s : Reading) → Keeps s → IfRead KeepsNext (network_rest kind number ws s)
unfolding network_rest
network_rest_keeps network.Frames number ws s k = then_keeps KeepsNext (frames_line ws s) _ (λ t ht. done_keeps KeepsNext (stages.Network, t) (frames_keeps ws s k t ht, tt))
network_rest_keeps network.Host number ws s k = then_keeps KeepsNext (host_line ws s) _ (λ t ht. done_keeps KeepsNext (stages.Network, t) (host_line_keeps ws s k t ht, tt))
network_rest_keeps network.Link number ws s k = then_keeps KeepsNext (link_line ws s) _ (λ t ht. done_keeps KeepsNext (stages.Network, t) (link_line_keeps ws s k t ht, tt))
network_rest_keeps network.Program number ws s k = then_keeps KeepsNext (program_line number ws s) _ (λ begun hb. done_keeps KeepsNext (stages.Inside begun, s) (k, tt))
network_rest_keeps network.Events number ws s k = then_keeps KeepsNext (end_at ws) _ (λ u hu. done_keeps KeepsNext (stages.Events, s) (k, tt))

network_keeps : (number : ℕ) (ws : List (List ℕ)) (s : Reading) → Keeps s → IfRead KeepsNext (network_line number ws s)
unfolding network_line
network_keeps number ws s k =
    then_keeps KeepsNext (word_at ws) _ (λ w hw.
    then_keeps KeepsNext (ok_or (network_word w.0) BadWord) _ (λ kind hk.
    network_rest_keeps kind number w.1 s k))

-- ---- events

add_event : (s : Reading) (e : WorldEvent) (weight : ℕ) → Keeps s → length s.events < 50000 → KeepsEvent s.version s.hosts e → weight ≡ s.weight + weights (e ∷ []) → weight ≤ 16777216
    → Keeps (record (with_event s e) { weight = weight })
add_event s e weight k room h sum light = record {
  network = k.network;
  programs = k.programs;
  few = omega (arith, length-append s.events (e ∷ []), room);
  events = All-push (KeepsEvent s.version s.hosts) s.events e k.events h;
  weight = ((let p = weights_push s.events e in let w = k.weight.0 in omega (arith, p, w, sum)), light);
}

-- one that injects nothing
add_light : (s : Reading) (e : WorldEvent) → Keeps s → length s.events < 50000 → KeepsEvent s.version s.hosts e → weights (e ∷ []) ≡ 0 → Keeps (record (with_event s e) { weight = s.weight })
add_light s e k room h none = add_event s e s.weight k room h (omega (arith, none)) k.weight.1

abbrev IsInjected : Version → List HostSpec → Host × Chunk × ℕ × Option Name → Type 0
IsInjected version hosts i = (has_host i.0 hosts ≡ true) × KeepsInjection version i.1 i.2 i.3

injected_is : (ws : List (List ℕ)) (s : Reading) → Keeps s → IfRead (IsInjected s.version s.hosts) (injected_at s ws)
unfolding injected_at
injected_is ws s k =
    then_keeps (IsInjected s.version s.hosts) (host_at s.hosts ws) _ (λ h hh.
    then_keeps (IsInjected s.version s.hosts) (program_at s.programs h.1) _ (λ p hp.
    then_keeps (IsInjected s.version s.hosts) (injection_at s.version p.0.program p.1) _ (λ i hi.
    done_keeps (IsInjected s.version s.hosts) (h.0, i.0, i.1, i.2) (host_is s.hosts ws h hh, injection_is s.version p.0.program p.1 (named_is s.programs h.1 k.programs p hp) i hi))))

inject_keeps : (ws : List (List ℕ)) (s : Reading) → Keeps s → length s.events < 50000 → IfRead Keeps (inject_line ws s)
unfolding inject_line
inject_keeps ws s k room =
    then_keeps Keeps (injected_at s ws) _ (λ i hi.
    then_keeps Keeps (weighed_sum s.weight i.1) _ (λ total ht.
    let w = kept.weighed_is s.weight i.1 total ht in
    done_keeps Keeps _ (add_event s (happens.Inject i.0 i.1 i.2 i.3) total k room (injected_is ws s k i hi) (let e = w.0 in omega (arith, e)) w.1)))

send_keeps : (ws : List (List ℕ)) (s : Reading) → Keeps s → length s.events < 50000 → IfRead Keeps (send_line ws s)
unfolding send_line
send_keeps ws s k room =
    then_keeps Keeps (host_at s.hosts ws) _ (λ h hh.
    then_keeps Keeps (device_at h.1) _ (λ d hd.
    then_keeps Keeps (end_at d.1) _ (λ u hu.
    done_keeps Keeps _ (add_light s (happens.Send h.0 d.0) k room (host_is s.hosts ws h hh, any_device_is h.1 d hd) refl))))

abbrev IsFrame : ℕ → Type 0
IsFrame n = n < 2 ^ 32

frame_is : (ws : List (List ℕ)) → IfRead IsFrame (frame_at ws)
unfolding frame_at
frame_is ws =
    then_keeps IsFrame (number_at 0 4294967295 ws) _ (λ n hn.
    then_keeps IsFrame (end_at n.1) _ (λ u hu.
    done_keeps IsFrame n.0 (omega (arith, (number_is 0 4294967295 ws n hn).1))))

deliver_keeps : (ws : List (List ℕ)) (s : Reading) → Keeps s → length s.events < 50000 → IfRead Keeps (deliver_line ws s)
unfolding deliver_line
deliver_keeps ws s k room = then_keeps Keeps (frame_at ws) _ (λ n hn. done_keeps Keeps _ (add_light s (happens.Deliver n) k room (frame_is ws n hn) refl))

repeat_keeps : (ws : List (List ℕ)) (s : Reading) → Keeps s → length s.events < 50000 → s.version ≡ Two → IfRead Keeps (repeat_line ws s)
unfolding repeat_line
repeat_keeps ws s k room two = then_keeps Keeps (frame_at ws) _ (λ n hn. done_keeps Keeps _ (add_light s (happens.Repeat n) k room (two, frame_is ws n hn) refl))

lose_keeps : (ws : List (List ℕ)) (s : Reading) → Keeps s → length s.events < 50000 → IfRead Keeps (lose_line ws s)
unfolding lose_line
lose_keeps ws s k room = then_keeps Keeps (frame_at ws) _ (λ n hn. done_keeps Keeps _ (add_light s (happens.Lose n) k room (frame_is ws n hn) refl))

tick_keeps : (ws : List (List ℕ)) (s : Reading) → Keeps s → length s.events < 50000 → IfRead Keeps (tick_line ws s)
unfolding tick_line
tick_keeps ws s k room =
    then_keeps Keeps (host_at s.hosts ws) _ (λ h hh.
    then_keeps Keeps (end_at h.1) _ (λ u hu.
    done_keeps Keeps _ (add_light s (happens.Tick h.0) k room (host_is s.hosts ws h hh) refl)))

arrives : (bytes : List ℕ) → AreSized 1 16513 bytes → MayArrive bytes
arrives bytes a = record { some = a.from; few = a.to; are_bytes = a.are_bytes }

raw_keeps : (ws : List (List ℕ)) (s : Reading) → Keeps s → length s.events < 50000 → IfRead Keeps (raw_line ws s)
unfolding raw_line
raw_keeps ws s k room =
    then_keeps Keeps (host_at s.hosts ws) _ (λ h hh.
    then_keeps Keeps (device_at h.1) _ (λ d hd.
    then_keeps Keeps (hex_at 1 16513 d.1) _ (λ bytes hb.
    then_keeps Keeps (end_at bytes.1) _ (λ u hu.
    done_keeps Keeps _ (add_light s (happens.Raw h.0 d.0 bytes.0) k room (host_is s.hosts ws h hh, any_device_is h.1 d hd, arrives bytes.0 (hex_is 1 16513 d.1 bytes hb)) refl)))))

-- a word that version 1 knows
none_known : (a b c d e f : Bool)
    → cond a (Some event.Inject) (cond b (Some event.Send) (cond c (Some event.Deliver) (cond d (Some event.Lose) (cond e (Some event.Tick) (cond f (Some event.Raw) None))))) ≡ Some event.Repeat → ⊥
none_known true b c d e f h = cc
none_known false true c d e f h = cc
none_known false false true d e f h = cc
none_known false false false true e f h = cc
none_known false false false false true f h = cc
none_known false false false false false true h = cc
none_known false false false false false false h = cc

-- `repeat` is known under version 2 alone
two_repeats : (version : Version) (w : List ℕ) → event_word version w ≡ Some event.Repeat → version ≡ Two
two_repeats One w e = absurd (none_known _ _ _ _ _ _ e)
two_repeats Two w e = refl

event_rest_keeps : (kind : EventWord) (ws : List (List ℕ)) (s : Reading) → Keeps s → length s.events < 50000 → (kind ≡ event.Repeat → s.version ≡ Two) → IfRead Keeps (event_rest kind ws s)
unfolding event_rest
event_rest_keeps event.Inject ws s k room two = inject_keeps ws s k room
event_rest_keeps event.Send ws s k room two = send_keeps ws s k room
event_rest_keeps event.Deliver ws s k room two = deliver_keeps ws s k room
event_rest_keeps event.Repeat ws s k room two = repeat_keeps ws s k room (two refl)
event_rest_keeps event.Lose ws s k room two = lose_keeps ws s k room
event_rest_keeps event.Tick ws s k room two = tick_keeps ws s k room
event_rest_keeps event.Raw ws s k room two = raw_keeps ws s k room

event_keeps : (ws : List (List ℕ)) (s : Reading) → Keeps s → IfRead Keeps (event_line ws s)
unfolding event_line
event_keeps ws s k =
    then_keeps Keeps (word_at ws) _ (λ w hw.
    then_keeps Keeps (ok_or (event_word s.version w.0) BadWord) _ (λ kind hk.
    then_keeps Keeps (allowed_or_reason (ltb (length s.events) 50000) TooMany) _ (λ u room.
    event_rest_keeps kind w.1 s k (allowed_below (length s.events) 50000 TooMany u room)
    (λ is. two_repeats s.version w.0 (subst (λ x. event_word s.version w.0 ≡ Some x) is (ok_or_is (event_word s.version w.0) BadWord kind hk))))))

-- ---- a whole file

staying_keeps : (stage : Stage) (r : Result Reading LineReason) → ((s : Reading) → Begins stage s) → IfRead Keeps r → IfRead KeepsNext (staying stage r)
staying_keeps stage (Ok s) b h y e = done_keeps KeepsNext (stage, s) (h s refl, b s) y e
staying_keeps stage (Err r) b h y e = absurd cc

-- what was read so far under another version
as_version : (v : Version) (s : Reading) → Keeps s → s.events ≡ [] → Keeps (record s { version = v })
as_version v s k none = record {
  network = record { few = k.network.few; hosts = k.network.hosts; numbers = k.network.numbers; missing = k.network.missing; links = k.network.links; apart = k.network.apart };
  programs = k.programs;
  few = k.few;
  events = subst (λ es. All (KeepsEvent v s.hosts) es) (sym none) (All-nil (KeepsEvent v s.hosts));
  weight = k.weight;
}

header_keeps : (number : ℕ) (v : Option Version) (s : Reading) → Keeps s → s.events ≡ [] → IfStep KeepsNext (next_by_version number (begun_by s) v)
header_keeps number v s k none = version_keeps KeepsNext number (begun_by s) v (λ version. (as_version version s k none, tt))

step_keeps : (number : ℕ) (line : List ℕ) (stage : Stage) (s : Reading) → Keeps s → Begins stage s → IfStep KeepsNext (step number line stage s)
unfolding step
step_keeps number line stages.Header s k b = header_keeps number (version_in (codes "planet schedule ") line) s k b
step_keeps number line stages.Network s k b =
    either_keeps KeepsNext (is_skipped line) _ _ (step_done KeepsNext (stages.Network, s) (k, tt))
    (at_line_keeps KeepsNext number (network_line number (words line) s) (network_keeps number (words line) s k))
step_keeps number line (stages.Inside begun) s k b =
    either_keeps KeepsNext (bytes_eq line (codes "end program")) _ _
    (at_line_keeps KeepsNext begun.source.line (staying stages.Network (close_program begun s)) (staying_keeps stages.Network (close_program begun s) (λ t. tt) (close_keeps begun s k)))
    (step_done KeepsNext _ (k, tt))
step_keeps number line stages.Events s k b =
    either_keeps KeepsNext (is_skipped line) _ _ (step_done KeepsNext (stages.Events, s) (k, tt))
    (at_line_keeps KeepsNext number (staying stages.Events (event_line (words line) s)) (staying_keeps stages.Events (event_line (words line) s) (λ t. tt) (event_keeps (words line) s k)))

abbrev KeepsFile : ScheduleFile → Type 0
KeepsFile f = Keeps f.reading × Begins f.stage f.reading

after_keeps : (r : Result (Stage × Reading) LineFault) → IfStep KeepsNext r → IfStep KeepsFile (file_after r)
after_keeps (Ok next) h y e = step_done KeepsFile _ (h next refl) y e
after_keeps (Err d) h y e = absurd cc

line_keeps : (number : ℕ) (line : List ℕ) (f : ScheduleFile) → KeepsFile f → IfStep KeepsFile (file_after (step number line f.stage f.reading))
line_keeps number line f k = after_keeps (step number line f.stage f.reading) (step_keeps number line f.stage f.reading k.0 k.1)

whole_keeps : (s : Reading) → Keeps s → KeepsRules (schedule_of_reading s)
whole_keeps s k = record { network = k.network; few = k.few; events = k.events; weight = (let e = k.weight.0 in let l = k.weight.1 in omega (arith, e, l)) }

finish_keeps : (number : ℕ) (stage : Stage) (s : Reading) → Keeps s → IfStep KeepsRules (finish number stage s)
finish_keeps number stages.Header s k y e = absurd cc
finish_keeps number stages.Network s k y e = absurd cc
finish_keeps number (stages.Inside begun) s k y e = absurd cc
finish_keeps number stages.Events s k y e = step_done KeepsRules (schedule_of_reading s) (whole_keeps s k) y e

nothing_keeps : Keeps nothing_read.reading
nothing_keeps = record {
  network = record {
    few = omega arith;
    hosts = tt;
    numbers = All-nil (λ h. h.host.0 < 2 ^ 32);
    missing = All-nil (λ h. PackagesDiffer h.missing);
    links = All-nil (KeepsLink []);
    apart = tt;
  };
  programs = All-nil IsNamed;
  few = omega arith;
  events = All-nil (KeepsEvent One []);
  weight = (refl, omega arith);
}

-- a file's schedule keeps the rules
pub schedule_keeps : (bytes : List ℕ) (s : Schedule) → schedule_of bytes ≡ Ok s → KeepsRules s
unfolding schedule_of
schedule_keeps bytes s e = read_keeps schedule_format KeepsFile KeepsRules line_keeps (λ number f k. finish_keeps number f.stage f.reading k.0) (lines bytes) 1 nothing_read (nothing_keeps, refl) s e

pub is_keeping : (bytes : List ℕ) (r : Result Schedule LineFault) → FileGives same r (schedule_of bytes) → IfOk r KeepsRules
is_keeping bytes r h = whole.is_keeping KeepsRules r (schedule_of bytes) h (schedule_keeps bytes)
