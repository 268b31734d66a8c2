-- However a script goes, few bodies are offered, and no more are delivered.
use Rattle.std.proofs.Common.{◌≡◌, ℕ, zero, suc, ◌+◌, ◌<◌, ◌≤◌, Bool, true, false, cond, List, [], ◌∷◌, ◌++◌, length, take, get_or, Option, Some, None, refl, sym, ap, ◌∙◌, subst, arith, length-append}
use Rattle.std.specs.Prelude.{◌==◌, nat_lt, ℤ, map}
use Rattle.std.specs.List.{AllByRecursion}
use Rattle.std.proofs.lemmas.List.{length-take, length-drop, length-map}
use Rattle.plan_base.specs.declared.ids.Host.{Host}
use Rattle.service_api.specs.declared.answer.Note.{Note}
use Rattle.service_registry_spec.specs.Beginning.{present_without}
use Rattle.service_registry_spec.specs.Serving.{offer}
use Rattle.network_config.specs.declared.event.WorldEvent.{WorldEvent}
use Rattle.network_config.specs.declared.event.WorldEvent.TheVariants as event
use Rattle.node_core_spec.specs.declared.acts.Act.TheVariants as act
use Rattle.net_world_spec.specs.declared.lines.Line.{Line}
use Rattle.net_world_spec.specs.declared.lines.Line.TheVariants as line
use Rattle.net_world_spec.specs.World.{happens, opening}
use Rattle.reliable_ports.specs.Ends.{Body, number_of, Sending, offered_count, is_full, with_offer, held_at, next_of, with_message}
use Rattle.reliable_ports.proofs.Scripts.{prefix_length}
use Rattle.reliable_ports.proofs.Steps.{message, Sends, held_message}
use Rattle.reliable_ports_world.specs.Known.{LineKnown, ComesKnown}
use Rattle.reliable_ports_world.proofs.Worlds.{all_take, event_known}
use Rattle.reliable_ports_world.specs.Ports.{PortState, PortEvent, Offer, Transmit, Wire, price, said_to, heard_by, makes, first_pays, second_pays, ack_event, message_event, acks, hears_message}
use Rattle.reliable_ports_world.specs.Ports.{hears_ack, hears_note, hears_line, hears, after, offers_one, transmits, happens_at, port_run}
use Rattle.reliable_ports_world.specs.Allowed.{body_numbered, PortChunk, port_allowed, IsWire}
use Rattle.reliable_ports_world.proofs.Running.{Together, port_closed, hears_on, run_on, begun_on}
use Rattle.reliable_ports_world.proofs.Opening.{opening_known}
use Rattle.reliable_ports_world.proofs.Serving.{registry_serves}
use Rattle.command_files.specs.declared.port.PortEvent.{PortEvent as Said}
use Rattle.command_files.specs.declared.port.PortEvent.TheVariants as says
use Rattle.command_files.specs.declared.port.PortFile.{PortFile}
use Rattle.reliable_ports_world.specs.Networks.{two_hosts}
use Rattle.reliable_ports_world.specs.Scripts.{happening, script_of, begun_ports, state_at}
use Rattle.reliable_ports_world.specs.Limits.{HearsFew, WireFew, EventFew}

-- ---- the offers change at offers alone

acks_offers : (s : PortState) → (acks s).offers ≡ s.offers
acks_offers s = by (nat_lt s.second price)
  where
    by : (t : Bool) → (cond t s (makes (ack_event s.receiver) (second_pays s))).offers ≡ s.offers
    by true = refl
    by false = refl

message_offers : (o : Option (ℤ × Body)) (s : PortState) → (hears_message o s).offers ≡ s.offers
message_offers None s = refl
message_offers (Some m) s = acks_offers (heard_by (with_message (number_of m.0) m.1 s.receiver) s)

ack_offers : (o : Option (ℤ × Body)) (s : PortState) → (hears_ack o s).offers ≡ s.offers
ack_offers None s = refl
ack_offers (Some m) s = refl

note_offers : (g : Host) (x : Note) (s : PortState) → (hears_note g x s).offers ≡ s.offers
note_offers g x s = by (g.0 == 2) (g.0 == 1)
  where
    by : (t u : Bool) → (cond t (hears_message (said_to 1 x) s) (cond u (hears_ack (said_to 2 x) s) s)).offers ≡ s.offers
    by true u = message_offers (said_to 1 x) s
    by false true = ack_offers (said_to 2 x) s
    by false false = refl

line_offers : (l : Line) (s : PortState) → (hears_line l s).offers ≡ s.offers
line_offers (line.At g (act.Noted x)) s = note_offers g x s
line_offers (line.At g _) s = refl
line_offers _ s = refl

hears_offers : (ls : List Line) (s : PortState) → (hears ls s).offers ≡ s.offers
hears_offers [] s = refl
hears_offers (l ∷ ls) s = hears_offers ls (hears_line l s) ∙ line_offers l s

after_offers : (e : WorldEvent) (s : PortState) → (after e s).offers ≡ s.offers
after_offers e s = hears_offers (happens s.world e).lines (makes e s)

one_more : (b : Body) (s : PortState) → length (offers_one b s).offers ≤ length s.offers + 1
one_more b s = by (is_full s.sender)
  where
    by : (t : Bool) → length (cond t s (record { offers = s.offers ++ b ∷ []; sender = with_offer b s.sender; receiver = s.receiver; world = s.world; first = s.first; second = s.second; events = s.events })).offers ≤ length s.offers + 1
    by true = omega arith
    by false = omega (arith, length-append s.offers (b ∷ []))

transmit_offers : (seq : ℕ) (o : Option Body) (s : PortState) → (transmits seq o s).offers ≡ s.offers
transmit_offers seq None s = refl
transmit_offers seq (Some b) s = by (nat_lt s.first price)
  where
    by : (t : Bool) → (cond t s (after (message_event seq b) (first_pays s))).offers ≡ s.offers
    by true = refl
    by false = after_offers (message_event seq b) (first_pays s)

event_offers : (e : PortEvent) (s : PortState) → length (happens_at e s).offers ≤ length s.offers + 1
event_offers (Offer b) s = one_more b s
event_offers (Transmit seq) s = omega (arith, ap length (transmit_offers seq (held_at seq s.sender) s))
event_offers (Wire e) s = omega (arith, ap length (after_offers e s))

run_offers : (es : List PortEvent) (s : PortState) → length (port_run es s).offers ≤ length s.offers + length es
run_offers [] s = omega arith
run_offers (e ∷ es) s = omega (arith, run_offers es (happens_at e s), event_offers e s)

pub offers_few : (p : PortFile) (k : ℕ) → length p.events ≤ 50000 → length (state_at p k).offers ≤ 50000
offers_few p k few = let none : length (begun_ports p).offers ≡ 0 = refl in omega (arith, none, run_offers (take k (script_of p)) (begun_ports p), length-take k (script_of p), length-map p.events happening, few)

-- ---- what the ends and the network keep

abbrev pub Keep : PortState → Type 0
Keep s = Together (offer (present_without [])) (registry_serves (present_without [])) s

pub all_at : {X : Type 0} (P : X → Type 0) (xs : List X) (i : ℕ) (x : X) → AllByRecursion P xs → i < length xs → x ≡ get_or xs i x → P x
all_at P [] i x h l e = absurd (omega (arith, l))
all_at P (y ∷ xs) zero x h l e = subst P (sym e) h.0
all_at P (y ∷ xs) (suc i) x h l e = all_at P xs i x h.1 (omega (arith, l)) e

-- what a file says is of the network's own
wires : (es : List Said) → AllByRecursion IsWire (map happening es)
wires [] = tt
wires (says.Offer b ∷ es) = (tt, wires es)
wires (says.Transmit seq ∷ es) = (tt, wires es)
wires (says.Send h d ∷ es) = (tt, wires es)
wires (says.Deliver k ∷ es) = (tt, wires es)
wires (says.Lose k ∷ es) = (tt, wires es)
wires (says.Repeat k ∷ es) = (tt, wires es)

pub wires_at : (p : PortFile) (k : ℕ) → AllByRecursion IsWire (take k (script_of p))
wires_at p k = all_take IsWire k (script_of p) (wires p.events)

pub kept_at : (p : PortFile) (k : ℕ) → Keep (state_at p k)
kept_at p k =
    run_on (offer (present_without [])) (registry_serves (present_without [])) (take k (script_of p)) (begun_ports p) (wires_at p k)
    (begun_on (offer (present_without [])) (registry_serves (present_without [])) (opening two_hosts) p.first p.second (opening_known two_hosts (refl, (refl, tt))))

-- ---- what is heard

hears_few : (ls : List Line) (s : PortState) → AllByRecursion (LineKnown (port_allowed (offer (present_without [])) s.offers (next_of s.receiver))) ls → Keep s → length s.offers ≤ 50000 → HearsFew ls s
hears_few ls s known t few = λ k.
    let u = hears_on (offer (present_without [])) (registry_serves (present_without [])) (take k ls) s (all_take (LineKnown (port_allowed (offer (present_without [])) s.offers (next_of s.receiver))) k ls known) t in
    omega (arith, prefix_length (hears (take k ls) s).offers (hears (take k ls) s).receiver u.receives, ap length (hears_offers (take k ls) s), few)

wire_few : (e : WorldEvent) (s : PortState) → ComesKnown (port_allowed (offer (present_without [])) s.offers (next_of s.receiver)) e → Keep s → length s.offers ≤ 50000 → WireFew e s
wire_few e s c t few =
    let k = event_known (port_allowed (offer (present_without [])) s.offers (next_of s.receiver)) (port_closed (offer (present_without [])) s.offers (next_of s.receiver) (registry_serves (present_without []))) s.world e c t.world in
    hears_few (happens s.world e).lines (makes e s) k.lines (record { receives = t.receives; sends = t.sends; acked = t.acked; world = k.world }) few

same_message : (seq : ℕ) (os : List Body) → body_numbered seq os ≡ message seq os
same_message zero os = refl
same_message (suc i) os = refl

sent_length : (os : List Body) (s : Sending) → Sends os s → offered_count s ≡ length os
sent_length os s h = omega (arith, ap length h.held, length-drop s.acked os, h.within)

pub event_few : (e : Said) (s : PortState) → Keep s → length s.offers ≤ 50000 → EventFew (happening e) s
event_few (says.Offer b) s t few = omega (arith, sent_length s.offers s.sender t.sends, few)
event_few (says.Transmit seq) s t few =
    λ b e. wire_few (message_event seq b) (first_pays s) (PortChunk.message seq b (same_message seq s.offers ∙ held_message seq b s.offers s.sender t.sends e) refl, refl)
    (record { receives = t.receives; sends = t.sends; acked = t.acked; world = t.world }) few
event_few (says.Send h d) s t few = wire_few (event.Send h d) s tt t few
event_few (says.Deliver k) s t few = wire_few (event.Deliver k) s tt t few
event_few (says.Lose k) s t few = wire_few (event.Lose k) s tt t few
event_few (says.Repeat k) s t few = wire_few (event.Repeat k) s tt t few
