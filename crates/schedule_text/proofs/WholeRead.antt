-- A schedule that is written says itself.
use Rattle.std.proofs.Common.{◌≡◌, ℕ, ◌+◌, ◌^◌, ◌<◌, Bool, true, false, eqb, ◌||◌, List, [], ◌∷◌, length, map, Ok, refl, sym, ap, subst, ◌∙◌, arith, append-nil}
use Rattle.std.specs.List.{All, flat_map}
use lib.Chars.{codes}
use Rattle.std.proofs.lemmas.Bool.{eqb-true}
use Rattle.std.proofs.lemmas.List.Elements.{All-head, All-tail}
use Rattle.plan_base.specs.declared.ids.Host.{Host}
use Rattle.plan_base.specs.declared.tree.Chunk.{Chunk}
use Rattle.plan_base.specs.declared.stamp.Version.{Version}
use Rattle.plan_base.specs.declared.stamp.Version.TheVariants.{One, Two}
use Rattle.network_config.specs.declared.schedule.HostSpec.{HostSpec}
use Rattle.network_config.specs.declared.schedule.Schedule.{Schedule}
use Rattle.network_config.specs.declared.event.WorldEvent.{WorldEvent}
use Rattle.network_config.specs.declared.schedule.Link.{Link}
use Rattle.network_config.specs.Hosts.{has_host}
use Rattle.network_config.specs.Rules.{KeepsLink, KeepsEvent, weights}
use Rattle.line_reader.specs.Lines.{spaced_words}
use Rattle.line_reader.specs.Files.{read_on}
use Rattle.line_reader.proofs.Again.{without}
use Rattle.schedule_text.specs.declared.reading.Reading.{Reading}
use Rattle.schedule_text.specs.declared.reading.Stage.TheVariants as stages
use Rattle.schedule_text.specs.Answers.{Says}
use Rattle.schedule_text.specs.Schedules.{frames_line, network_rest, network_line, step, schedule_format, nothing_read, schedule_of}
use Rattle.schedule_text.specs.Written.{NamedText, Written, host_words, link_words, event_words, program_lines, header_line, frames_lines, schedule_lines, schedule_text, IsTextLine, IsNamedText, EventIsWritten, IsSchedule}
use Rattle.schedule_text.proofs.WordLaws.{Free, free-append, spread_lines, line_is, name_free}
use Rattle.schedule_text.proofs.ReadSteps.{Leads, leads-nil, leads-cons, leads-one, leads-append}
use Rattle.schedule_text.proofs.NetworkRead.{file_at, network_step_ok, host_words_free, hosts_read, link_words_free, links_read}
use Rattle.schedule_text.proofs.ProgramsRead.{titled_program, programs_read}
use Rattle.schedule_text.proofs.EventsRead.{SmallHosts, event_line_free, events_read}
use Rattle.line_reader.proofs.CountLaws.{read_behind}

-- ---- hosts that are named have small numbers

or_true : (a b : Bool) (P : Type 0) → (a ≡ true → P) → (b ≡ true → P) → (a || b) ≡ true → P
or_true true b P f g e = f refl
or_true false b P f g e = g e

small_by : (h g : Host) → eqb g.0 h.0 ≡ true → g.0 < 2 ^ 32 → h.0 < 2 ^ 32
small_by h g e k = subst (λ (n : ℕ). n < 2 ^ 32) (eqb-true g.0 h.0 e) k

small_hosts : (hosts : List HostSpec) → All (λ s. s.host.0 < 2 ^ 32) hosts → SmallHosts hosts
small_hosts [] k h e = absurd cc
small_hosts (g ∷ gs) k h e =
    or_true (eqb g.host.0 h.0) (has_host h gs) (h.0 < 2 ^ 32)
    (λ t. small_by h g.host t (All-head (λ s. s.host.0 < 2 ^ 32) g gs k))
    (λ t. small_hosts gs (All-tail (λ s. s.host.0 < 2 ^ 32) g gs k) h t) e

small_links : (hosts : List HostSpec) (links : List Link) → SmallHosts hosts → All (KeepsLink hosts) links → All (λ l. (l.from.0 < 2 ^ 32) × (l.to.0 < 2 ^ 32)) links
small_links hosts links small keeps k d h = (small _ (keeps k d h).from, small _ (keeps k d h).to)

-- ---- the lines of a schedule

pub all_free : {X : Type 0} (line : X → List ℕ) (P : X → Type 0) → ((x : X) → P x → without 10 (line x) ≡ true) → (xs : List X) → All P xs → Free 10 (map line xs)
all_free line P f [] k = tt
all_free line P f (x ∷ xs) k = (f x (All-head P x xs k), all_free line P f xs (All-tail P x xs k))

pub text_free : (text : List (List ℕ)) → All IsTextLine text → Free 10 text
text_free [] k = tt
text_free (line ∷ text) k = ((All-head IsTextLine line text k).0, text_free text (All-tail IsTextLine line text k))

program_free : (p : NamedText) → IsNamedText p → Free 10 (program_lines p)
program_free p k = (line_is (codes "program" ∷ p.name ∷ []) (refl, ((name_free p.name k.name).1, tt)), free-append 10 p.text (codes "end program" ∷ []) (text_free p.text k.lines) (refl, tt))

programs_free : (ps : List NamedText) → All IsNamedText ps → Free 10 (flat_map program_lines ps)
programs_free [] k = tt
programs_free (p ∷ ps) k = free-append 10 (program_lines p) (flat_map program_lines ps) (program_free p (All-head IsNamedText p ps k)) (programs_free ps (All-tail IsNamedText p ps k))

header_free : (version : Version) → without 10 (header_line version) ≡ true
header_free One = refl
header_free Two = refl

frames_free : (frames : Bool) → Free 10 (frames_lines frames)
frames_free true = (refl, tt)
frames_free false = tt

-- what the lines of an event keep
abbrev Both : List NamedText → (Chunk → Written) → Version → List HostSpec → WorldEvent → Type 0
Both ps by version hosts e = KeepsEvent version hosts e × EventIsWritten ps by e

abbrev BothLink : List HostSpec → Link → Type 0
BothLink hosts l = KeepsLink hosts l × ((l.from.0 < 2 ^ 32) × (l.to.0 < 2 ^ 32))

module _ (ps : List NamedText) (by : Chunk → Written) (s : Schedule) (is : IsSchedule ps by s) where
  small : SmallHosts s.topology.hosts
  small = small_hosts s.topology.hosts is.rules.network.numbers

  hosts_free : Free 10 (map (λ h. spaced_words (host_words h)) s.topology.hosts)
  hosts_free = all_free (λ h. spaced_words (host_words h)) (λ h. h.host.0 < 2 ^ 32) (λ h k. line_is (host_words h) (host_words_free h k).1) s.topology.hosts is.rules.network.numbers

  links_small : All (λ l. (l.from.0 < 2 ^ 32) × (l.to.0 < 2 ^ 32)) s.topology.links
  links_small = small_links s.topology.hosts s.topology.links small is.rules.network.links

  links_free : Free 10 (map (λ l. spaced_words (link_words l)) s.topology.links)
  links_free = all_free (λ l. spaced_words (link_words l)) (BothLink s.topology.hosts) (λ l k.
      line_is (link_words l) (link_words_free s.topology.hosts l k.0 k.1).1) s.topology.links (λ k d h. (is.rules.network.links k d h, links_small k d h))

  events_free : Free 10 (map (λ e. spaced_words (event_words by e)) s.events)
  events_free = all_free (λ e. spaced_words (event_words by e)) (Both ps by s.topology.version s.topology.hosts) (λ e k.
      line_is (event_words by e) (event_line_free ps by s.topology.version s.topology.hosts e small k.0 k.1)) s.events (λ k d h. (is.rules.events k d h, is.injected k d h))

  lines_free : Free 10 (schedule_lines ps by s)
  unfolding schedule_lines
  lines_free = (
    header_free s.topology.version,
    free-append 10 (frames_lines s.frames) _ (frames_free s.frames)
        (free-append 10 (map (λ h. spaced_words (host_words h)) s.topology.hosts) _ hosts_free
        (free-append 10 (map (λ l. spaced_words (link_words l)) s.topology.links) _ links_free
        (free-append 10 (flat_map program_lines ps) _ (programs_free ps is.programs) (refl, events_free)))),
  )

  -- ---- what they say

  abbrev begun_reading : Reading
  begun_reading = record { version = s.topology.version; frames = s.frames; hosts = []; links = []; programs = []; events = []; weight = 0 }

  abbrev hosted_reading : Reading
  hosted_reading = record { version = s.topology.version; frames = s.frames; hosts = s.topology.hosts; links = []; programs = []; events = []; weight = 0 }

  abbrev linked_reading : Reading
  linked_reading = record { version = s.topology.version; frames = s.frames; hosts = s.topology.hosts; links = s.topology.links; programs = []; events = []; weight = 0 }

  abbrev carried_reading : Reading
  carried_reading = record { version = s.topology.version; frames = s.frames; hosts = s.topology.hosts; links = s.topology.links; programs = map titled_program ps; events = []; weight = 0 }

  abbrev whole : Reading
  whole = record { version = s.topology.version; frames = s.frames; hosts = s.topology.hosts; links = s.topology.links; programs = map titled_program ps; events = s.events; weight = 0 + weights s.events }

  hosts_lead : Leads (map (λ h. spaced_words (host_words h)) s.topology.hosts) (file_at stages.Network begun_reading) (file_at stages.Network hosted_reading)
  hosts_lead = hosts_read s.topology.hosts [] begun_reading is.rules.network.few is.rules.network.hosts is.rules.network.numbers is.rules.network.missing

  links_lead : Leads (map (λ l. spaced_words (link_words l)) s.topology.links) (file_at stages.Network hosted_reading) (file_at stages.Network linked_reading)
  links_lead = links_read s.topology.links [] hosted_reading is.rules.network.apart is.rules.network.links links_small

  programs_lead : Leads (flat_map program_lines ps) (file_at stages.Network linked_reading) (file_at stages.Network carried_reading)
  programs_lead = programs_read ps [] linked_reading is.few is.differ is.programs

  events_begin : (number : ℕ) → schedule_format.step number (codes "events") (file_at stages.Network carried_reading) ≡ Ok (file_at stages.Events carried_reading)
  unfolding network_line network_rest
  events_begin number = network_step_ok (codes "events") [] carried_reading carried_reading stages.Events number (refl, tt) refl refl

  events_lead : Leads (map (λ e. spaced_words (event_words by e)) s.events) (file_at stages.Events carried_reading) (file_at stages.Events whole)
  events_lead = events_read ps by s.events [] carried_reading 0 (record { programs = refl; small = small }) is.rules.few is.rules.events is.injected (omega (arith, is.rules.weight))

abbrev shown_reading : Version → Bool → Reading
shown_reading version frames = record { version = version; frames = frames; hosts = []; links = []; programs = []; events = []; weight = 0 }

header_step : (version : Version) (number : ℕ) → schedule_format.step number (header_line version) nothing_read ≡ Ok (file_at stages.Network (shown_reading version false))
unfolding step
header_step One number = refl
header_step Two number = refl

frames_said : (version : Version) (number : ℕ) → network_line number (codes "frames" ∷ []) (shown_reading version false) ≡ Ok (stages.Network, shown_reading version true)
unfolding network_line network_rest frames_line
frames_said version number = refl

frames_lead : (version : Version) (frames : Bool) → Leads (frames_lines frames) (file_at stages.Network (shown_reading version false)) (file_at stages.Network (shown_reading version frames))
frames_lead version true =
    leads-one (codes "frames") (file_at stages.Network (shown_reading version false)) (file_at stages.Network (shown_reading version true))
    (λ number. network_step_ok (codes "frames") [] (shown_reading version false) (shown_reading version true) stages.Network number (refl, tt) refl (frames_said version number))
frames_lead version false = leads-nil (file_at stages.Network (shown_reading version false))

module _ (ps : List NamedText) (by : Chunk → Written) (s : Schedule) (is : IsSchedule ps by s) where
  all_lead : Leads (schedule_lines ps by s) nothing_read (file_at stages.Events (whole ps by s is))
  unfolding schedule_lines
  all_lead =
      leads-cons (header_line s.topology.version) _ nothing_read (file_at stages.Network (shown_reading s.topology.version false)) _ (header_step s.topology.version)
      (leads-append (frames_lines s.frames) _ (file_at stages.Network (shown_reading s.topology.version false)) (file_at stages.Network (begun_reading ps by s is)) _ (frames_lead s.topology.version s.frames)
      (leads-append (map (λ h. spaced_words (host_words h)) s.topology.hosts) _ (file_at stages.Network (begun_reading ps by s is)) (file_at stages.Network (hosted_reading ps by s is)) _ (hosts_lead ps by s is)
      (leads-append (map (λ l. spaced_words (link_words l)) s.topology.links) _ (file_at stages.Network (hosted_reading ps by s is)) (file_at stages.Network (linked_reading ps by s is)) _ (links_lead ps by s is)
      (leads-append (flat_map program_lines ps) _ (file_at stages.Network (linked_reading ps by s is)) (file_at stages.Network (carried_reading ps by s is)) _ (programs_lead ps by s is)
      (leads-cons (codes "events") _ (file_at stages.Network (carried_reading ps by s is)) (file_at stages.Events (carried_reading ps by s is)) _ (events_begin ps by s is) (events_lead ps by s is))))))

  end_is : (number : ℕ) → read_on schedule_format number [] (file_at stages.Events (whole ps by s is)) ≡ Ok s
  unfolding read_on
  end_is number = refl

  -- a schedule that is written says itself
  pub written_says : Says (schedule_text ps by s) s
  unfolding schedule_of
  written_says =
      let are = spread_lines (schedule_lines ps by s) (lines_free ps by s is) in
      ap (λ ls. read_on schedule_format 1 ls nothing_read) (are ∙ sym (append-nil (schedule_lines ps by s)))
      ∙ (read_behind schedule_format (schedule_lines ps by s) [] 1 nothing_read (file_at stages.Events (whole ps by s is)) (all_lead 1) ∙ end_is (1 + length (schedule_lines ps by s)))
