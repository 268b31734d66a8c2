-- The text of a log reads as that log.
use Rattle.std.proofs.Common.{◌≡◌, ℕ, ◌+◌, ◌<◌, ◌≤◌, ◌^◌, Bool, true, false, List, [], ◌∷◌, ◌++◌, length, append_assoc, append-nil, map, Option, Some, None, Ok, refl, sym, ap, subst, ◌∙◌, arith}
use Rattle.std.specs.List.{All, list_any, flat_map}
use Rattle.std.specs.Fmt.{decimal}
use lib.Chars.{codes}
use Rattle.std.proofs.lemmas.Bool.{lt-ltb, le-leb}
use Rattle.std.proofs.lemmas.List.Concat.{flat_map-cons}
use Rattle.std.proofs.lemmas.List.Elements.{All-head, All-tail}
use Rattle.plan_base.specs.declared.ids.Host.{Host}
use Rattle.plan_base.specs.declared.ids.Dev.{Dev}
use Rattle.service_api.specs.declared.package.PackageName.{PackageName}
use Rattle.plan_base.specs.declared.name.Name.{Name}
use Rattle.plan_base.specs.Words.{is_name}
use Rattle.plan_base.specs.declared.tree.Chunk.{Chunk}
use Rattle.checked_chunks.specs.Kept.{IsCheckedChunk}
use Rattle.chunk_codec_spec.proofs.LengthLaws.{chunk_length}
use Rattle.packet_frame.proofs.Sizes.{chunk_small}
use Rattle.hex.specs.Hex.{encode_lower, IsBytes}
use Rattle.hex.proofs.HexLemmas.{decode_of-encode_lower}
use Rattle.chunk_codec_spec.specs.Values.{chunk_bytes}
use Rattle.chunk_codec_spec.specs.Spelling.{a_whole_chunk}
use Rattle.plan_base.specs.declared.stamp.Version.{Version}
use Rattle.plan_base.specs.declared.stamp.Version.TheVariants.{One, Two}
use Rattle.network_config.specs.declared.event.Event.TheVariants as events
use Rattle.network_config.specs.declared.event.LogEvent.{LogEvent}
use Rattle.network_config.specs.declared.event.LogEvent.TheVariants as logged
use Rattle.network_config.specs.declared.node.NodeConfig.{NodeConfig}
use Rattle.network_config.specs.declared.node.Log.{Log}
use Rattle.network_config.specs.Hosts.{host_of, is_listed}
use Rattle.network_config.specs.Rules.{PackagesDiffer, MayName, KeepsInjection, MayArrive}
use Rattle.network_config.specs.NodeRules.{Ascend, DevicesAscend, IsNeighbour, first_link, KeepsBoot, KeepsNode, KeepsEntry, KeepsLog}
use Rattle.line_reader.specs.Lines.{lines, spaced_words, behind}
use Rattle.line_reader.specs.Files.{is_skipped, read_on}
use Rattle.line_reader.specs.Packages.{same_package}
use Rattle.line_reader.specs.HexWords.{within_size, hex_at}
use Rattle.line_reader.specs.Handlers.{named_handler, handler_at}
use Rattle.line_reader.proofs.Again.{line_first}
use Rattle.schedule_text.specs.Written.{package_word, handler_words, IsNamed}
use Rattle.schedule_text.proofs.WordLaws.{line_is, name_free, hex_free}
use Rattle.schedule_text.proofs.ReadSteps.{number_ok}
use Rattle.schedule_text.proofs.NetworkRead.{fresh_package}
use Rattle.node_files.specs.declared.log.LogStage.{LogStage}
use Rattle.node_files.specs.declared.log.LogStage.TheVariants as stages
use Rattle.node_files.specs.declared.log.LogReading.{LogReading}
use Rattle.node_files.specs.Parts.{behind_word}
use Rattle.node_files.specs.Nodes.{device_of}
use Rattle.node_files.specs.ChunkWords.{chunk_at}
use Rattle.node_files.specs.Logs.{behind_host, own_line, boot_line, network_line, device_line, missing_line, events_line, node_rest, node_line, inject_entry, frame_entry, control_entry, take_entry}
use Rattle.node_files.specs.Logs.{entry_rest, entry_line, log_step_at, log_said, log_format, nothing_logged, log_of}
use Rattle.node_files.specs.LogTexts as text
use Rattle.node_files.specs.LogTexts.{closing, line_text, entry_words, entry_text, host_words, hosts_words, spaced_host, device_words, missing_words, header_text, boot_words, boot_text, head_text, log_text, CanSpell, IsSpellable}
use Rattle.node_files.proofs.NodeLines.{Clean, clean_more, usual_again, clean_number, last_reads, host_reads, host_clean, more_to, room_for, hosts_read, hosts_clean, listed_small, before, free_there}
use Rattle.node_files.proofs.NodeLines.{placed_last, neighbour_reads, hosts_of_neighbours, package_clean, package_reads}
use Rattle.node_files.proofs.ChunkLaws.{typed_again, chunk_weighs}

-- ---- lines of words

closing_is : (ws : List (List ℕ)) → closing ws ≡ behind ws ++ (10 ∷ [])
closing_is [] = refl
closing_is (w ∷ ws) = ap (λ (l : List ℕ). (32 ∷ w) ++ l) (closing_is ws) ∙ sym (append_assoc (32 ∷ w) (behind ws) (10 ∷ []))

line_ends : (w : List ℕ) (ws : List (List ℕ)) → line_text (w ∷ ws) ≡ spaced_words (w ∷ ws) ++ (10 ∷ [])
line_ends w ws = ap (λ (l : List ℕ). w ++ l) (closing_is ws) ∙ sym (append_assoc w (behind ws) (10 ∷ []))

lines_again : (w : List ℕ) (ws : List (List ℕ)) (more : List ℕ) → Clean (w ∷ ws) → lines (line_text (w ∷ ws) ++ more) ≡ spaced_words (w ∷ ws) ∷ lines more
lines_again w ws more c =
    ap (λ (l : List ℕ). lines (l ++ more)) (line_ends w ws)
    ∙ ap lines (append_assoc (spaced_words (w ∷ ws)) (10 ∷ []) more)
    ∙ line_first (spaced_words (w ∷ ws)) more (line_is (w ∷ ws) c.1)

-- ---- a text that takes a reading from one state to another

record Leads (t : List ℕ) (s u : LogReading) (n : ℕ) (more : List ℕ) : Type 0 where
  last : ℕ
  is : read_on log_format n (lines (t ++ more)) s ≡ read_on log_format last (lines more) u

abbrev LeadsTo : List ℕ → LogReading → LogReading → Type 0
LeadsTo t s u = (n : ℕ) (more : List ℕ) → Leads t s u n more

leads_none : (s : LogReading) → LeadsTo [] s s
leads_none s n more = record { last = n; is = refl }

leads_then : (a b : List ℕ) (s t u : LogReading) → LeadsTo a s t → LeadsTo b t u → LeadsTo (a ++ b) s u
leads_then a b s t u f g n more =
    let x = f n (b ++ more) in
    let y = g x.last more in
    record { last = y.last; is = ap (λ (l : List ℕ). read_on log_format n (lines l) s) (append_assoc a b more) ∙ x.is ∙ y.is }

leads_as : (a b : List ℕ) (s u : LogReading) → a ≡ b → LeadsTo b s u → LeadsTo a s u
leads_as a b s u e h = subst (λ (l : List ℕ). LeadsTo l s u) (sym e) h

leads_to : (a : List ℕ) (s t u : LogReading) → t ≡ u → LeadsTo a s t → LeadsTo a s u
leads_to a s t u e h = subst (λ (v : LogReading). LeadsTo a s v) e h

step_on : (n : ℕ) (line : List ℕ) (more : List (List ℕ)) (s u : LogReading) → log_step_at s.stage n line s ≡ Ok u → read_on log_format n (line ∷ more) s ≡ read_on log_format (n + 1) more u
unfolding read_on
step_on n line more s u e = rw e refl

leads_line : (w : List ℕ) (ws : List (List ℕ)) (s u : LogReading) → Clean (w ∷ ws) → ((n : ℕ) → log_step_at s.stage n (spaced_words (w ∷ ws)) s ≡ Ok u) → LeadsTo (line_text (w ∷ ws)) s u
leads_line w ws s u c step n more = record {
  last = n + 1;
  is = ap (λ (l : List (List ℕ)). read_on log_format n l s) (lines_again w ws more c) ∙ step_on n (spaced_words (w ∷ ws)) (lines more) s u (step n);
}

-- ---- the node's own host

-- a state behind some lines
abbrev state : Version → ℕ → LogStage → Host → List Host → List (Host × Dev) → List PackageName → List LogEvent → LogReading
state v b stage here hosts ns missing es = record { stage = stage; version = v; boot = b; here = here; hosts = hosts; neighbours = ns; missing = missing; events = es }

-- a state behind the lines in front of the hosts
abbrev front : Version → ℕ → LogStage → Host → LogReading
front v b stage here = state v b stage here [] [] [] []

host_leads : (v : Version) (h : Host) → h.0 < 2 ^ 32 → LeadsTo (line_text (host_words h)) (front v 0 stages.Host (host_of 0)) (front v 0 (behind_host v) h)
unfolding log_step_at own_line
host_leads v h small =
    let s = front v 0 stages.Host (host_of 0) in
    let u = front v 0 (behind_host v) h in
    leads_line (codes "host") (decimal h.0 ∷ []) s u (host_clean h small)
    (λ n. usual_again n (codes "host") (decimal h.0 ∷ []) s u (λ ws. own_line ws s) refl (host_clean h small) (rw (host_reads h small) refl))

-- ---- the moment at which it began

boot_clean : (boot : ℕ) → boot < 2 ^ 64 → Clean (boot_words boot)
boot_clean boot small = clean_more (codes "boot") (decimal boot ∷ []) (refl, refl) (clean_number boot small [] (tt, tt))

boot_reads : (boot : ℕ) (h : Host) → boot < 2 ^ 64 → boot_line (boot_words boot) (front Two 0 stages.Boot h) ≡ Ok (front Two boot stages.Hosts h)
unfolding boot_line behind_word
boot_reads boot h small = rw (last_reads 0 18446744073709551615 boot small (omega arith) (omega (arith, small))) refl

boot_leads : (v : Version) (boot : ℕ) (h : Host) → KeepsBoot v boot → LeadsTo (boot_text v boot) (front v 0 (behind_host v) h) (front v boot stages.Hosts h)
unfolding log_step_at
boot_leads One boot h none = leads_to [] (front One 0 stages.Hosts h) (front One 0 stages.Hosts h) (front One boot stages.Hosts h) (ap (λ (n : ℕ). front One n stages.Hosts h) (sym none)) (leads_none (front One 0 stages.Hosts h))
boot_leads Two boot h small =
    let s = front Two 0 stages.Boot h in
    let u = front Two boot stages.Hosts h in
    leads_line (codes "boot") (decimal boot ∷ []) s u (boot_clean boot small)
    (λ n. usual_again n (codes "boot") (decimal boot ∷ []) s u (λ ws. boot_line ws s) refl (boot_clean boot small) (boot_reads boot h small))

-- ---- handlers

no_handler : (v : Version) (c : Chunk) → handler_at v c.code [] ≡ Ok (None, [])
unfolding handler_at
no_handler One c = refl
no_handler Two c = refl

one_handler : (v : Version) (c : Chunk) (name : Name) → MayName v c (Some name) → is_name name ≡ true → handler_at v c.code (codes "handler" ∷ name ∷ []) ≡ Ok (Some name, [])
unfolding handler_at named_handler
one_handler One c name may named = absurd cc
one_handler Two c name may named = rw (named, may) refl

handler_clean : (handler : Option Name) → IsNamed handler → Clean (handler_words handler)
handler_clean None named = (tt, tt)
handler_clean (Some name) named = clean_more (codes "handler") (name ∷ []) (refl, refl) (clean_more name [] (name_free name named) (tt, tt))

-- a version and a moment
module _ (v : Version) (b : ℕ) where
  -- ---- the hosts of the network

  says_hosts : (ws : List (List ℕ)) → is_skipped (spaced_words (codes "hosts" ∷ ws)) ≡ false
  says_hosts ws = refl

  hosts_lead : (here : Host) (hosts : List Host) → length hosts ≤ 32 → Ascend hosts → All (λ h. h.0 < 2 ^ 32) hosts → is_listed here hosts ≡ true
      → LeadsTo (line_text (hosts_words hosts)) (state v b stages.Hosts here [] [] [] []) (state v b (stages.Node false) here hosts [] [] [])
  unfolding log_step_at network_line
  hosts_lead here hosts few a small listed =
      let ws = map (λ (g : Host). decimal g.0) hosts in
      let clean = clean_more (codes "hosts") ws (refl, refl) (hosts_clean hosts small) in
      leads_line (codes "hosts") ws (state v b stages.Hosts here [] [] [] []) (state v b (stages.Node false) here hosts [] [] []) clean
      (λ n.
      usual_again n (codes "hosts") ws (state v b stages.Hosts here [] [] [] []) (state v b (stages.Node false) here hosts [] [] []) (λ vs.
      network_line vs (state v b stages.Hosts here [] [] [] [])) (says_hosts ws) clean (rw (hosts_read here hosts few a small listed) refl))

  -- ---- neighbours

  device_clean : (n : Host × Dev) → n.0.0 < 2 ^ 32 → n.1.0 ≤ 8 → Clean (device_words n)
  device_clean n small few = clean_more (codes "dev") (decimal n.1.0 ∷ decimal n.0.0 ∷ []) (refl, refl) (clean_number n.1.0 (omega (arith, few)) (decimal n.0.0 ∷ []) (clean_number n.0.0 (omega (arith, small)) [] (tt, tt)))

  device_reads : (here : Host) (hosts : List Host) (seen : List (Host × Dev)) (n : Host × Dev) → n.0.0 < 2 ^ 32 → IsNeighbour here hosts n → All (λ m. m.1.0 < n.1.0) seen
      → device_line (decimal n.1.0 ∷ decimal n.0.0 ∷ []) (state v b (stages.Node false) here hosts seen [] []) ≡ Ok (state v b (stages.Node false) here hosts (seen ++ (n ∷ [])) [] [])
  unfolding device_line
  device_reads here hosts seen n small k lower = rw (neighbour_reads here hosts seen n [] small k (free_there seen n lower), placed_last device_of seen n lower) refl

  device_leads : (here : Host) (hosts : List Host) (seen : List (Host × Dev)) (n : Host × Dev) → n.0.0 < 2 ^ 32 → IsNeighbour here hosts n → All (λ m. m.1.0 < n.1.0) seen
      → LeadsTo (text.device_line n) (state v b (stages.Node false) here hosts seen [] []) (state v b (stages.Node false) here hosts (seen ++ (n ∷ [])) [] [])
  unfolding log_step_at node_line node_rest
  device_leads here hosts seen n small k lower =
      let ws = decimal n.1.0 ∷ decimal n.0.0 ∷ [] in
      let s = state v b (stages.Node false) here hosts seen [] [] in
      let u = state v b (stages.Node false) here hosts (seen ++ (n ∷ [])) [] [] in
      leads_line (codes "dev") ws s u (device_clean n small k.device.1)
      (λ i. usual_again i (codes "dev") ws s u (λ vs. node_line false vs s) refl (device_clean n small k.device.1) (device_reads here hosts seen n small k lower))

  devices_lead : (here : Host) (hosts : List Host) (all seen ns : List (Host × Dev)) → seen ++ ns ≡ all → All (λ h. h.0 < 2 ^ 32) hosts → All (IsNeighbour here hosts) ns → DevicesAscend all
      → LeadsTo (flat_map text.device_line ns) (state v b (stages.Node false) here hosts seen [] []) (state v b (stages.Node false) here hosts all [] [])
  devices_lead here hosts all seen [] e small k a =
      leads_to [] (state v b (stages.Node false) here hosts seen [] []) (state v b (stages.Node false) here hosts seen [] []) (state v b (stages.Node false) here hosts all [] [])
      (ap (λ (l : List (Host × Dev)). state v b (stages.Node false) here hosts l [] []) (sym (append-nil seen) ∙ e)) (leads_none (state v b (stages.Node false) here hosts seen [] []))
  devices_lead here hosts all seen (n ∷ ns) e small k a =
      let ascends : DevicesAscend (seen ++ (n ∷ ns)) = subst DevicesAscend (sym e) a in
      let first = All-head (IsNeighbour here hosts) n ns k in
      leads_as (flat_map text.device_line (n ∷ ns)) (text.device_line n ++ flat_map text.device_line ns) (state v b (stages.Node false) here hosts seen [] [])
      (state v b (stages.Node false) here hosts all [] []) (flat_map-cons text.device_line n ns)
      (
      leads_then (text.device_line n) (flat_map text.device_line ns) (state v b (stages.Node false) here hosts seen [] [])
      (state v b (stages.Node false) here hosts (seen ++ (n ∷ [])) [] []) (state v b (stages.Node false) here hosts all [] [])
      (device_leads here hosts seen n (hosts_of_neighbours here hosts n first small) first (before seen n ns ascends))
      (devices_lead here hosts all (seen ++ (n ∷ [])) ns (more_to all seen n ns e) small (All-tail (IsNeighbour here hosts) n ns k) a))

  -- ---- missing packages

  missing_reads : (lacks : Bool) (here : Host) (hosts : List Host) (ns : List (Host × Dev)) (seen : List PackageName) (p : PackageName) → list_any (same_package p) seen ≡ false
      → node_line lacks (missing_words p) (state v b (stages.Node lacks) here hosts ns seen []) ≡ Ok (state v b (stages.Node true) here hosts ns (seen ++ (p ∷ [])) [])
  unfolding node_line node_rest missing_line
  missing_reads true here hosts ns seen p new = rw (package_reads seen p new) refl
  missing_reads false here hosts ns seen p new = rw (package_reads seen p new) refl

  missing_leads : (lacks : Bool) (here : Host) (hosts : List Host) (ns : List (Host × Dev)) (seen : List PackageName) (p : PackageName) → list_any (same_package p) seen ≡ false
      → LeadsTo (text.missing_line p) (state v b (stages.Node lacks) here hosts ns seen []) (state v b (stages.Node true) here hosts ns (seen ++ (p ∷ [])) [])
  unfolding log_step_at
  missing_leads lacks here hosts ns seen p new =
      let s = state v b (stages.Node lacks) here hosts ns seen [] in
      let u = state v b (stages.Node true) here hosts ns (seen ++ (p ∷ [])) [] in
      let clean = clean_more (codes "without") (package_word p ∷ []) (refl, refl) (package_clean p) in
      leads_line (codes "without") (package_word p ∷ []) s u clean
      (λ n. usual_again n (codes "without") (package_word p ∷ []) s u (λ ws. node_line lacks ws s) refl clean (missing_reads lacks here hosts ns seen p new))

  events_reads : (lacks : Bool) (here : Host) (hosts : List Host) (ns : List (Host × Dev)) (missing : List PackageName)
      → node_line lacks (codes "events" ∷ []) (state v b (stages.Node lacks) here hosts ns missing []) ≡ Ok (state v b stages.Events here hosts ns missing [])
  unfolding node_line node_rest events_line
  events_reads true here hosts ns missing = refl
  events_reads false here hosts ns missing = refl

  events_lead : (lacks : Bool) (here : Host) (hosts : List Host) (ns : List (Host × Dev)) (missing : List PackageName)
      → LeadsTo (line_text (codes "events" ∷ [])) (state v b (stages.Node lacks) here hosts ns missing []) (state v b stages.Events here hosts ns missing [])
  unfolding log_step_at
  events_lead lacks here hosts ns missing =
      let s = state v b (stages.Node lacks) here hosts ns missing [] in
      let u = state v b stages.Events here hosts ns missing [] in
      leads_line (codes "events") [] s u ((refl, tt), (refl, tt))
      (λ n. usual_again n (codes "events") [] s u (λ ws. node_line lacks ws s) refl ((refl, tt), (refl, tt)) (events_reads lacks here hosts ns missing))

  tail_leads : (lacks : Bool) (here : Host) (hosts : List Host) (ns : List (Host × Dev)) (all seen ps : List PackageName) → seen ++ ps ≡ all → PackagesDiffer all
      → LeadsTo (flat_map text.missing_line ps ++ line_text (codes "events" ∷ [])) (state v b (stages.Node lacks) here hosts ns seen []) (state v b stages.Events here hosts ns all [])
  tail_leads lacks here hosts ns all seen [] e d =
      leads_to (line_text (codes "events" ∷ [])) (state v b (stages.Node lacks) here hosts ns seen []) (state v b stages.Events here hosts ns seen []) (state v b stages.Events here hosts ns all [])
      (ap (λ (l : List PackageName). state v b stages.Events here hosts ns l []) (sym (append-nil seen) ∙ e)) (events_lead lacks here hosts ns seen)
  tail_leads lacks here hosts ns all seen (p ∷ ps) e d =
      let end = line_text (codes "events" ∷ []) in
      let differ : PackagesDiffer (seen ++ (p ∷ ps)) = subst PackagesDiffer (sym e) d in
      leads_as (flat_map text.missing_line (p ∷ ps) ++ end) (text.missing_line p ++ (flat_map text.missing_line ps ++ end)) (state v b (stages.Node lacks) here hosts ns seen []) (state v b stages.Events here hosts ns all [])
      (ap (λ (l : List ℕ). l ++ end) (flat_map-cons text.missing_line p ps) ∙ append_assoc (text.missing_line p) (flat_map text.missing_line ps) end)
      (
      leads_then (text.missing_line p) (flat_map text.missing_line ps ++ end) (state v b (stages.Node lacks) here hosts ns seen [])
      (state v b (stages.Node true) here hosts ns (seen ++ (p ∷ [])) []) (state v b stages.Events here hosts ns all [])
      (missing_leads lacks here hosts ns seen p (fresh_package seen p ps differ))
      (tail_leads true here hosts ns all (seen ++ (p ∷ [])) ps (more_to all seen p ps e) d))

  -- ---- bytes in hex

  hex_clean : (bytes : List ℕ) (ws : List (List ℕ)) → IsBytes bytes → Clean ws → Clean (encode_lower bytes ∷ ws)
  hex_clean bytes ws h c = clean_more (encode_lower bytes) ws (hex_free bytes h) c

  sized_again : (low high : ℕ) (bytes : List ℕ) → low ≤ length bytes → length bytes ≤ high → within_size low high (Some bytes) ≡ Some bytes
  sized_again low high bytes a b = rw (le-leb low (length bytes) a, le-leb (length bytes) high b) refl

  hex_reads : (low high : ℕ) (bytes : List ℕ) (ws : List (List ℕ)) → IsBytes bytes → low ≤ length bytes → length bytes ≤ high → hex_at low high (encode_lower bytes ∷ ws) ≡ Ok (bytes, ws)
  unfolding hex_at
  hex_reads low high bytes ws h a b = rw (decode_of-encode_lower bytes h, sized_again low high bytes a b) refl

  -- ---- entries

  abbrev EntryReads : LogEvent → Type 0
  EntryReads e = (here : Host) (hosts : List Host) (ns : List (Host × Dev)) (missing : List PackageName) (seen : List LogEvent) → length seen < 50000
      → entry_line (entry_words e) (state v b stages.Events here hosts ns missing seen) ≡ Ok (state v b stages.Events here hosts ns missing (seen ++ (e ∷ [])))

  chunk_sized : (c : Chunk) → a_whole_chunk.Fits c → (1 ≤ length (chunk_bytes c)) × (length (chunk_bytes c) ≤ 16383)
  chunk_sized c fits =
      let n = chunk_length c in
      (omega (arith, n, chunk_weighs c), omega (arith, n, chunk_small c fits))

  chunk_reads : (c : Chunk) (ws : List (List ℕ)) → a_whole_chunk.Fits c → IsCheckedChunk c → IsBytes (chunk_bytes c) → chunk_at (encode_lower (chunk_bytes c) ∷ ws) ≡ Ok (c, ws)
  unfolding chunk_at
  chunk_reads c ws fits k h =
      let size = chunk_sized c fits in
      rw (hex_reads 1 16383 (chunk_bytes c) ws h size.0 size.1, typed_again c fits k) refl

  handler_reads : (c : Chunk) (handler : Option Name) → MayName v c handler → IsNamed handler → handler_at v c.code (handler_words handler) ≡ Ok (handler, [])
  handler_reads c None may named = no_handler v c
  handler_reads c (Some name) may named = one_handler v c name may named

  inject_reads : (c : Chunk) (bound : ℕ) (handler : Option Name) → KeepsInjection v c bound handler → CanSpell c → IsNamed handler → EntryReads (logged.Step (events.Inject c bound handler))
  unfolding entry_line entry_rest inject_entry
  inject_reads c bound handler k can named here hosts ns missing seen room =
      let ws = handler_words handler in
      rw (
        lt-ltb (length seen) 50000 room,
        number_ok 0 65535 bound (encode_lower (chunk_bytes c) ∷ ws) (omega (arith, k.0.0)) (omega arith) k.0.0,
        chunk_reads c ws can.fits k.0.1 can.are_bytes,
        handler_reads c handler k.1 named,
      ) refl

  frame_reads : (d : Dev) (bytes : List ℕ) → d.0 ≤ 8 → MayArrive bytes → EntryReads (logged.Step (events.Frame d bytes))
  unfolding entry_line entry_rest frame_entry
  frame_reads d bytes few m here hosts ns missing seen room =
      rw (lt-ltb (length seen) 50000 room, number_ok 0 8 d.0 (encode_lower bytes ∷ []) (omega (arith, few)) (omega arith) few, hex_reads 1 16513 bytes [] (λ i. m.are_bytes i) m.some m.few) refl

  control_reads : (bytes : List ℕ) → MayArrive bytes → EntryReads (logged.Step (events.Control bytes))
  unfolding entry_line entry_rest control_entry
  control_reads bytes m here hosts ns missing seen room = rw (lt-ltb (length seen) 50000 room, hex_reads 1 16513 bytes [] (λ i. m.are_bytes i) m.some m.few) refl

  take_reads : (d : Dev) → d.0 ≤ 8 → EntryReads (logged.Step (events.Take d))
  unfolding entry_line entry_rest take_entry
  take_reads d few here hosts ns missing seen room = rw (lt-ltb (length seen) 50000 room, last_reads 0 8 d.0 (omega (arith, few)) (omega arith) few) refl

  tick_reads : EntryReads (logged.Step events.Tick)
  unfolding entry_line entry_rest
  tick_reads here hosts ns missing seen room = rw (lt-ltb (length seen) 50000 room) refl

  lost_reads : EntryReads logged.Lost
  unfolding entry_line entry_rest
  lost_reads here hosts ns missing seen room = rw (lt-ltb (length seen) 50000 room) refl

  entry_reads : (e : LogEvent) → KeepsEntry v e → IsSpellable e → EntryReads e
  entry_reads (logged.Step (events.Inject c bound handler)) k s = inject_reads c bound handler k s.0 s.1
  entry_reads (logged.Step (events.Frame d bytes)) k s = frame_reads d bytes k.0 k.1
  entry_reads (logged.Step (events.Control bytes)) k s = control_reads bytes k
  entry_reads (logged.Step events.Tick) k s = tick_reads
  entry_reads (logged.Step (events.Take d)) k s = take_reads d k
  entry_reads logged.Lost k s = lost_reads

  entry_clean : (e : LogEvent) → KeepsEntry v e → IsSpellable e → Clean (entry_words e)
  entry_clean (logged.Step (events.Inject c bound handler)) k s =
      let ws = handler_words handler in
      clean_more (codes "inject") (decimal bound ∷ encode_lower (chunk_bytes c) ∷ ws) (refl, refl)
      (clean_number bound (omega (arith, k.0.0)) (encode_lower (chunk_bytes c) ∷ ws) (hex_clean (chunk_bytes c) ws s.0.are_bytes (handler_clean handler s.1)))
  entry_clean (logged.Step (events.Frame d bytes)) k s =
      clean_more (codes "frame") (decimal d.0 ∷ encode_lower bytes ∷ []) (refl, refl)
      (clean_number d.0 (omega (arith, k.0)) (encode_lower bytes ∷ []) (hex_clean bytes [] (λ i. k.1.are_bytes i) (tt, tt)))
  entry_clean (logged.Step (events.Control bytes)) k s = clean_more (codes "control") (encode_lower bytes ∷ []) (refl, refl) (hex_clean bytes [] (λ i. k.are_bytes i) (tt, tt))
  entry_clean (logged.Step events.Tick) k s = ((refl, tt), (refl, tt))
  entry_clean (logged.Step (events.Take d)) k s = clean_more (codes "take") (decimal d.0 ∷ []) (refl, refl) (clean_number d.0 (omega (arith, k)) [] (tt, tt))
  entry_clean logged.Lost k s = ((refl, tt), (refl, tt))

  -- the first word of an entry, and the others
  abbrev first_of : LogEvent → List ℕ
  first_of (logged.Step (events.Inject c bound handler)) = codes "inject"
  first_of (logged.Step (events.Frame d bytes)) = codes "frame"
  first_of (logged.Step (events.Control bytes)) = codes "control"
  first_of (logged.Step events.Tick) = codes "tick"
  first_of (logged.Step (events.Take d)) = codes "take"
  first_of logged.Lost = codes "lost"

  abbrev others_of : LogEvent → List (List ℕ)
  others_of (logged.Step (events.Inject c bound handler)) = decimal bound ∷ encode_lower (chunk_bytes c) ∷ handler_words handler
  others_of (logged.Step (events.Frame d bytes)) = decimal d.0 ∷ encode_lower bytes ∷ []
  others_of (logged.Step (events.Control bytes)) = encode_lower bytes ∷ []
  others_of (logged.Step events.Tick) = []
  others_of (logged.Step (events.Take d)) = decimal d.0 ∷ []
  others_of logged.Lost = []

  words_of : (e : LogEvent) → entry_words e ≡ first_of e ∷ others_of e
  words_of (logged.Step (events.Inject c bound handler)) = refl
  words_of (logged.Step (events.Frame d bytes)) = refl
  words_of (logged.Step (events.Control bytes)) = refl
  words_of (logged.Step events.Tick) = refl
  words_of (logged.Step (events.Take d)) = refl
  words_of logged.Lost = refl

  entry_says : (e : LogEvent) → is_skipped (spaced_words (first_of e ∷ others_of e)) ≡ false
  entry_says (logged.Step (events.Inject c bound handler)) = refl
  entry_says (logged.Step (events.Frame d bytes)) = refl
  entry_says (logged.Step (events.Control bytes)) = refl
  entry_says (logged.Step events.Tick) = refl
  entry_says (logged.Step (events.Take d)) = refl
  entry_says logged.Lost = refl

  entry_leads : (e : LogEvent) → KeepsEntry v e → IsSpellable e → (here : Host) (hosts : List Host) (ns : List (Host × Dev)) (missing : List PackageName) (seen : List LogEvent) → length seen < 50000
      → LeadsTo (entry_text e) (state v b stages.Events here hosts ns missing seen) (state v b stages.Events here hosts ns missing (seen ++ (e ∷ [])))
  unfolding log_step_at
  entry_leads e k sp here hosts ns missing seen room =
      let s = state v b stages.Events here hosts ns missing seen in
      let u = state v b stages.Events here hosts ns missing (seen ++ (e ∷ [])) in
      let w = first_of e in
      let ws = others_of e in
      let clean : Clean (w ∷ ws) = subst Clean (words_of e) (entry_clean e k sp) in
      let reads : entry_line (w ∷ ws) s ≡ Ok u = subst (λ (vs : List (List ℕ)). entry_line vs s ≡ Ok u) (words_of e) (entry_reads e k sp here hosts ns missing seen room) in
      leads_as (entry_text e) (line_text (w ∷ ws)) s u (ap line_text (words_of e))
      (leads_line w ws s u clean (λ n. usual_again n w ws s u (λ vs. entry_line vs s) (entry_says e) clean reads))

  entries_lead : (all seen es : List LogEvent) → seen ++ es ≡ all → length all ≤ 50000 → All (KeepsEntry v) es → All IsSpellable es → (here : Host) (hosts : List Host) (ns : List (Host × Dev)) (missing : List PackageName)
      → LeadsTo (flat_map entry_text es) (state v b stages.Events here hosts ns missing seen) (state v b stages.Events here hosts ns missing all)
  entries_lead all seen [] e few k sp here hosts ns missing =
      leads_to [] (state v b stages.Events here hosts ns missing seen) (state v b stages.Events here hosts ns missing seen) (state v b stages.Events here hosts ns missing all)
      (ap (λ (l : List LogEvent). state v b stages.Events here hosts ns missing l) (sym (append-nil seen) ∙ e)) (leads_none (state v b stages.Events here hosts ns missing seen))
  entries_lead all seen (x ∷ xs) e few k sp here hosts ns missing =
      leads_as (flat_map entry_text (x ∷ xs)) (entry_text x ++ flat_map entry_text xs) (state v b stages.Events here hosts ns missing seen) (state v b stages.Events here hosts ns missing all) (flat_map-cons entry_text x xs)
      (leads_then (entry_text x) (flat_map entry_text xs) (state v b stages.Events here hosts ns missing seen) (state v b stages.Events here hosts ns missing (seen ++ (x ∷ []))) (state v b stages.Events here hosts ns missing all)
      (entry_leads x (All-head (KeepsEntry v) x xs k) (All-head IsSpellable x xs sp) here hosts ns missing seen (room_for all seen x xs 50000 e few))
      (entries_lead all (seen ++ (x ∷ [])) xs (more_to all seen x xs e) few (All-tail (KeepsEntry v) x xs k) (All-tail IsSpellable x xs sp) here hosts ns missing))

-- ---- the whole

header_leads : (v : Version) → LeadsTo (header_text v) (front One 0 stages.Header (host_of 0)) (front v 0 stages.Host (host_of 0))
unfolding log_step_at
header_leads One n more = record {
  last = n + 1;
  is = ap (λ (l : List (List ℕ)). read_on log_format n l (front One 0 stages.Header (host_of 0))) (line_first (codes "planet log 1") more refl)
      ∙ step_on n (codes "planet log 1") (lines more) (front One 0 stages.Header (host_of 0)) (front One 0 stages.Host (host_of 0)) refl;
}
header_leads Two n more = record {
  last = n + 1;
  is = ap (λ (l : List (List ℕ)). read_on log_format n l (front One 0 stages.Header (host_of 0))) (line_first (codes "planet log 2") more refl)
      ∙ step_on n (codes "planet log 2") (lines more) (front One 0 stages.Header (host_of 0)) (front Two 0 stages.Host (host_of 0)) refl;
}

head_leads : (n : NodeConfig) (missing : List PackageName) → KeepsNode n → PackagesDiffer missing
    → LeadsTo (head_text n missing) (front One 0 stages.Header (host_of 0)) (state n.version n.boot stages.Events n.here n.hosts n.neighbours missing [])
unfolding head_text
head_leads n missing k d =
    let v = n.version in
    let b = n.boot in
    let tail = flat_map text.missing_line missing ++ line_text (codes "events" ∷ []) in
    let devices = flat_map text.device_line n.neighbours in
    let rest = line_text (hosts_words n.hosts) ++ (devices ++ tail) in
    let last = state v b stages.Events n.here n.hosts n.neighbours missing [] in
    leads_then (header_text v) (line_text (host_words n.here) ++ (boot_text v b ++ rest)) (front One 0 stages.Header (host_of 0)) (front v 0 stages.Host (host_of 0)) last (header_leads v)
    (leads_then (line_text (host_words n.here)) (boot_text v b ++ rest) (front v 0 stages.Host (host_of 0)) (front v 0 (behind_host v) n.here) last (host_leads v n.here (listed_small n.here n.hosts k.here k.numbers))
    (leads_then (boot_text v b) rest (front v 0 (behind_host v) n.here) (front v b stages.Hosts n.here) last (boot_leads v b n.here k.boot)
    (leads_then (line_text (hosts_words n.hosts)) (devices ++ tail) (front v b stages.Hosts n.here) (state v b (stages.Node false) n.here n.hosts [] [] []) last (hosts_lead v b n.here n.hosts k.few k.ascend k.numbers k.here)
    (
    leads_then devices tail (state v b (stages.Node false) n.here n.hosts [] [] []) (state v b (stages.Node false) n.here n.hosts n.neighbours [] []) last
    (devices_lead v b n.here n.hosts n.neighbours [] n.neighbours refl k.numbers k.neighbours k.devices)
    (tail_leads v b false n.here n.hosts n.neighbours missing [] missing refl d)))))

-- a log's last state
abbrev whole : Log → LogReading
whole l = state l.node.version l.node.boot stages.Events l.node.here l.node.hosts l.node.neighbours l.missing l.events

log_leads : (l : Log) → KeepsLog l → All IsSpellable l.events → LeadsTo (log_text l) (front One 0 stages.Header (host_of 0)) (whole l)
log_leads l k sp =
    leads_then (head_text l.node l.missing) (flat_map entry_text l.events) (front One 0 stages.Header (host_of 0)) (state l.node.version l.node.boot stages.Events l.node.here l.node.hosts l.node.neighbours l.missing []) (whole l)
    (head_leads l.node l.missing k.node k.missing)
    (entries_lead l.node.version l.node.boot l.events [] l.events refl k.few k.events sp l.node.here l.node.hosts l.node.neighbours l.missing)

ends_there : (number : ℕ) (s : LogReading) → read_on log_format number (lines []) s ≡ log_format.finish number s
unfolding read_on lines
ends_there number s = refl

same_log : (l : Log) → l.node.serial ≡ 1 → l.node.link ≡ first_link l.node.version → log_said (whole l) ≡ l
same_log l serial link =
    ap (λ (n : ℕ). record l { node = record l.node { serial = n; link = first_link l.node.version } }) (sym serial)
    ∙ ap (λ (n : ℕ). record l { node = record l.node { link = n } }) (sym link)

-- what is written of a log reads as that log
pub log_again : (l : Log) → KeepsLog l → All IsSpellable l.events → log_of (log_text l) ≡ Ok l
log_again l k sp =
    let x = log_leads l k sp 1 [] in
    ap (λ (t : List ℕ). read_on log_format 1 (lines t) nothing_logged) (sym (append-nil (log_text l)))
    ∙ x.is ∙ ends_there x.last (whole l) ∙ ap (λ (m : Log). Ok m) (same_log l k.serial k.link)

-- ---- the line of hosts as it is put

hosts_text : (hosts : List Host) → flat_map spaced_host hosts ++ (10 ∷ []) ≡ closing (map (λ h. decimal h.0) hosts)
hosts_text [] = refl
hosts_text (h ∷ hs) =
    ap (λ (l : List ℕ). l ++ (10 ∷ [])) (flat_map-cons spaced_host h hs)
    ∙ append_assoc (spaced_host h) (flat_map spaced_host hs) (10 ∷ [])
    ∙ ap (λ (l : List ℕ). spaced_host h ++ l) (hosts_text hs)

-- three pieces put behind one another are the line
pub hosts_put : (a b c d : List ℕ) (hosts : List Host) → b ≡ a ++ codes "hosts" → c ≡ b ++ flat_map spaced_host hosts → d ≡ c ++ (10 ∷ []) → d ≡ a ++ line_text (hosts_words hosts)
hosts_put a b c d hosts e f g =
    g ∙ ap (λ (l : List ℕ). l ++ (10 ∷ [])) (f ∙ ap (λ (l : List ℕ). l ++ flat_map spaced_host hosts) e)
    ∙ append_assoc (a ++ codes "hosts") (flat_map spaced_host hosts) (10 ∷ [])
    ∙ append_assoc a (codes "hosts") (flat_map spaced_host hosts ++ (10 ∷ []))
    ∙ ap (λ (l : List ℕ). a ++ (codes "hosts" ++ l)) (hosts_text hosts)
