-- What a file of two ends says keeps its rules, and each file has one answer.
use Rattle.std.proofs.Common.{◌≡◌, ◌⊎◌, inl, inr, ℕ, ◌≤◌, ◌<◌, ◌^◌, Bool, true, false, eqb, ltb, ◌||◌, List, [], ◌∷◌, ◌++◌, length, Result, refl, arith, length-append}
use Rattle.std.specs.Prelude.{IfOk}
use Rattle.std.specs.List.{AllByRecursion}
use Rattle.std.specs.Option.{ok_or}
use Rattle.std.proofs.lemmas.Bool.{eqb-true}
use lib.Chars.{codes}
use Rattle.plan_base.specs.declared.ids.Host.{Host}
use Rattle.network_config.specs.Hosts.{host_of, dev_of}
use Rattle.line_reader.specs.declared.fault.LineReason.TheVariants.{BadHeader, BadWord, UnknownHost, TooMany}
use Rattle.line_reader.specs.declared.fault.LineFault.{LineFault}
use Rattle.line_reader.specs.Lines.{lines}
use Rattle.line_reader.specs.Reads.{word_at, end_at, allowed_or_reason, FileGives}
use Rattle.line_reader.specs.Numbers.{number_at}
use Rattle.line_reader.specs.HexWords.{hex_at}
use Rattle.line_reader.specs.Inside.{OnFault}
use Rattle.line_reader.proofs.FileLaws.{is_keeping}
use Rattle.line_reader.proofs.Keeping.{IfRead, then_keeps, done_keeps, allowed_true, allowed_below, number_is, hex_is, IfStep, step_done, read_keeps}
use Rattle.line_reader.proofs.Placing.{fault_done, fault_here, Places, refuses_read}
use Rattle.node_files.specs.Parts.{behind_word}
use Rattle.node_files.specs.Answers.{Accepted, Refused}
use Rattle.node_files.proofs.PartLaws.{header_keeps, usual_keeps, header_placed, usual_placed, value_or_refusal}
use Rattle.command_files.specs.declared.port.PortEvent.{PortEvent}
use Rattle.command_files.specs.declared.port.PortEvent.TheVariants as event
use Rattle.command_files.specs.declared.port.PortFile.{PortFile}
use Rattle.command_files.specs.declared.port.PortWord.{PortWord}
use Rattle.command_files.specs.declared.port.PortWord.TheVariants as word
use Rattle.command_files.specs.declared.port.PortStage.{PortStage}
use Rattle.command_files.specs.declared.port.PortStage.TheVariants as stages
use Rattle.command_files.specs.declared.port.PortReading.{PortReading}
use Rattle.command_files.specs.PortRules.{IsEnd, KeepsEvent, KeepsPort}
use Rattle.command_files.specs.PortFiles.{event_word, is_end, end_host, frame_at, with_event, offer_line, transmit_line, send_line, deliver_line, lose_line, repeat_line, event_rest, event_line}
use Rattle.command_files.specs.PortFiles.{purses_line, begin_line, port_step_at, port_end, port_format, nothing_read, port_of}

-- ---- the rules

record Keeps (s : PortReading) : Type 0 where
  first : s.first ≤ 65535
  second : s.second ≤ 65535
  few : length s.events ≤ 50000
  events : AllByRecursion KeepsEvent s.events

all_push : {X : Type 0} (P : X → Type 0) (xs : List X) (x : X) → AllByRecursion P xs → P x → AllByRecursion P (xs ++ x ∷ [])
all_push P [] x h p = (p, tt)
all_push P (y ∷ xs) x h p = (h.0, all_push P xs x h.1 p)

-- one event more where there is room
add_event : (s : PortReading) (e : PortEvent) → Keeps s → length s.events < 50000 → KeepsEvent e → Keeps (with_event s e)
add_event s e k room h = record {
  first = k.first;
  second = k.second;
  few = omega (arith, length-append s.events (e ∷ []), room);
  events = all_push KeepsEvent s.events e k.events h;
}

end_is : (n : ℕ) → is_end n ≡ true → IsEnd (host_of n)
end_is n e = by (eqb n 1) (eqb n 2) refl refl e
  where
    by : (a b : Bool) → eqb n 1 ≡ a → eqb n 2 ≡ b → (a || b) ≡ true → IsEnd (host_of n)
    by true b p q h = inl (eqb-true n 1 p)
    by false true p q h = inr (eqb-true n 2 q)
    by false false p q h = absurd cc

abbrev IsEndAt : Host × List (List ℕ) → Type 0
IsEndAt x = IsEnd x.0

host_is : (ws : List (List ℕ)) → IfRead IsEndAt (end_host ws)
unfolding end_host
host_is ws =
    then_keeps IsEndAt (number_at 0 4294967295 ws) _ (λ n hn.
    then_keeps IsEndAt (allowed_or_reason (is_end n.0) UnknownHost) _ (λ u hu.
    done_keeps IsEndAt (host_of n.0, n.1) (end_is n.0 (allowed_true (is_end n.0) UnknownHost u hu))))

abbrev IsSmall : ℕ → Type 0
IsSmall k = k < 2 ^ 32

frame_is : (ws : List (List ℕ)) → IfRead IsSmall (frame_at ws)
unfolding frame_at
frame_is ws =
    then_keeps IsSmall (number_at 0 4294967295 ws) _ (λ k hk.
    then_keeps IsSmall (end_at k.1) _ (λ u hu.
    done_keeps IsSmall k.0 (omega (arith, (number_is 0 4294967295 ws k hk).1))))

offer_keeps : (ws : List (List ℕ)) (s : PortReading) → Keeps s → length s.events < 50000 → IfRead Keeps (offer_line ws s)
unfolding offer_line
offer_keeps ws s k room =
    then_keeps Keeps (hex_at 1 4096 ws) _ (λ body hb.
    then_keeps Keeps (end_at body.1) _ (λ u hu.
    let sized = hex_is 1 4096 ws body hb in
    done_keeps Keeps (with_event s (event.Offer body.0)) (add_event s (event.Offer body.0) k room (sized.from, sized.to))))

transmit_keeps : (ws : List (List ℕ)) (s : PortReading) → Keeps s → length s.events < 50000 → IfRead Keeps (transmit_line ws s)
unfolding transmit_line
transmit_keeps ws s k room =
    then_keeps Keeps (number_at 0 18446744073709551615 ws) _ (λ seq hs.
    then_keeps Keeps (end_at seq.1) _ (λ u hu.
    let small : seq.0 < 2 ^ 64 = omega (arith, (number_is 0 18446744073709551615 ws seq hs).1) in
    done_keeps Keeps (with_event s (event.Transmit seq.0)) (add_event s (event.Transmit seq.0) k room small)))

send_keeps : (ws : List (List ℕ)) (s : PortReading) → Keeps s → length s.events < 50000 → IfRead Keeps (send_line ws s)
unfolding send_line
send_keeps ws s k room =
    then_keeps Keeps (end_host ws) _ (λ h hh.
    then_keeps Keeps (number_at 0 8 h.1) _ (λ d hd.
    then_keeps Keeps (end_at d.1) _ (λ u hu.
    done_keeps Keeps (with_event s (event.Send h.0 (dev_of d.0))) (add_event s (event.Send h.0 (dev_of d.0)) k room (host_is ws h hh, (number_is 0 8 h.1 d hd).1)))))

deliver_keeps : (ws : List (List ℕ)) (s : PortReading) → Keeps s → length s.events < 50000 → IfRead Keeps (deliver_line ws s)
unfolding deliver_line
deliver_keeps ws s k room = then_keeps Keeps (frame_at ws) _ (λ n hn. done_keeps Keeps (with_event s (event.Deliver n)) (add_event s (event.Deliver n) k room (frame_is ws n hn)))

lose_keeps : (ws : List (List ℕ)) (s : PortReading) → Keeps s → length s.events < 50000 → IfRead Keeps (lose_line ws s)
unfolding lose_line
lose_keeps ws s k room = then_keeps Keeps (frame_at ws) _ (λ n hn. done_keeps Keeps (with_event s (event.Lose n)) (add_event s (event.Lose n) k room (frame_is ws n hn)))

repeat_keeps : (ws : List (List ℕ)) (s : PortReading) → Keeps s → length s.events < 50000 → IfRead Keeps (repeat_line ws s)
unfolding repeat_line
repeat_keeps ws s k room = then_keeps Keeps (frame_at ws) _ (λ n hn. done_keeps Keeps (with_event s (event.Repeat n)) (add_event s (event.Repeat n) k room (frame_is ws n hn)))

rest_keeps : (w : PortWord) (ws : List (List ℕ)) (s : PortReading) → Keeps s → length s.events < 50000 → IfRead Keeps (event_rest w ws s)
unfolding event_rest
rest_keeps word.Offer ws s k room = offer_keeps ws s k room
rest_keeps word.Transmit ws s k room = transmit_keeps ws s k room
rest_keeps word.Send ws s k room = send_keeps ws s k room
rest_keeps word.Deliver ws s k room = deliver_keeps ws s k room
rest_keeps word.Lose ws s k room = lose_keeps ws s k room
rest_keeps word.Repeat ws s k room = repeat_keeps ws s k room

event_keeps : (ws : List (List ℕ)) (s : PortReading) → Keeps s → IfRead Keeps (event_line ws s)
unfolding event_line
event_keeps ws s k =
    then_keeps Keeps (word_at ws) _ (λ w hw.
    then_keeps Keeps (ok_or (event_word w.0) BadWord) _ (λ kind hk.
    then_keeps Keeps (allowed_or_reason (ltb (length s.events) 50000) TooMany) _ (λ u room.
    rest_keeps kind w.1 s k (allowed_below (length s.events) 50000 TooMany u room))))

purses_keep : (ws : List (List ℕ)) (s : PortReading) → Keeps s → IfRead Keeps (purses_line ws s)
unfolding purses_line
purses_keep ws s k =
    then_keeps Keeps (behind_word (codes "bound") ws) _ (λ more hm.
    then_keeps Keeps (number_at 0 65535 more) _ (λ b hb.
    then_keeps Keeps (number_at 0 65535 b.1) _ (λ c hc.
    then_keeps Keeps (end_at c.1) _ (λ u hu.
    done_keeps Keeps _ (record { first = (number_is 0 65535 more b hb).1; second = (number_is 0 65535 b.1 c hc).1; few = k.few; events = k.events })))))

begin_keeps : (ws : List (List ℕ)) (s : PortReading) → Keeps s → IfRead Keeps (begin_line ws s)
unfolding begin_line
begin_keeps ws s k =
    then_keeps Keeps (behind_word (codes "events") ws) _ (λ more hm.
    then_keeps Keeps (end_at more) _ (λ u hu.
    done_keeps Keeps _ (record { first = k.first; second = k.second; few = k.few; events = k.events })))

begun_keeps : (s : PortReading) → Keeps s → Keeps (record s { stage = stages.Purses })
begun_keeps s k = record { first = k.first; second = k.second; few = k.few; events = k.events }

step_keeps : (stage : PortStage) (number : ℕ) (line : List ℕ) (s : PortReading) → Keeps s → IfStep Keeps (port_step_at stage number line s)
unfolding port_step_at
step_keeps stages.Header number line s k = header_keeps Keeps (codes "planet port 1") number line (record s { stage = stages.Purses }) (begun_keeps s k)
step_keeps stages.Purses number line s k = usual_keeps Keeps number line s (λ ws. purses_line ws s) k (λ ws. purses_keep ws s k)
step_keeps stages.Begin number line s k = usual_keeps Keeps number line s (λ ws. begin_line ws s) k (λ ws. begin_keeps ws s k)
step_keeps stages.Events number line s k = usual_keeps Keeps number line s (λ ws. event_line ws s) k (λ ws. event_keeps ws s k)

end_keeps : (stage : PortStage) (number : ℕ) (s : PortReading) → Keeps s → IfStep KeepsPort (port_end stage number s)
end_keeps stages.Header number s k y e = absurd cc
end_keeps stages.Purses number s k y e = absurd cc
end_keeps stages.Begin number s k y e = absurd cc
end_keeps stages.Events number s k y e =
    step_done KeepsPort (record { first = s.first; second = s.second; events = s.events })
    (record { first = k.first; second = k.second; few = k.few; events = k.events }) y e

nothing_keeps : Keeps nothing_read
nothing_keeps = record { first = omega arith; second = omega arith; few = omega arith; events = tt }

pub port_keeps : (bytes : List ℕ) → IfStep KeepsPort (port_of bytes)
port_keeps bytes =
    read_keeps port_format Keeps KeepsPort
    (λ number line s k. step_keeps s.stage number line s k)
    (λ number s k. end_keeps s.stage number s k)
    (lines bytes) 1 nothing_read nothing_keeps

pub port_rules : (bytes : List ℕ) (r : Result PortFile LineFault) → FileGives (λ s. s) r (port_of bytes) → IfOk r KeepsPort
port_rules bytes r h = is_keeping KeepsPort r (port_of bytes) h (port_keeps bytes)

-- ---- where refusals stand

abbrev Anywhere : ℕ → PortReading → Type 0
Anywhere number s = Unit {0}

step_placed : (stage : PortStage) (number : ℕ) (line : List ℕ) (s : PortReading) → 1 ≤ number → OnFault number (port_step_at stage number line s)
unfolding port_step_at
step_placed stages.Header number line s low = header_placed (codes "planet port 1") number line (record s { stage = stages.Purses }) low
step_placed stages.Purses number line s low = usual_placed number line s (λ ws. purses_line ws s) low
step_placed stages.Begin number line s low = usual_placed number line s (λ ws. begin_line ws s) low
step_placed stages.Events number line s low = usual_placed number line s (λ ws. event_line ws s) low

end_placed : (stage : PortStage) (number : ℕ) (s : PortReading) → 1 ≤ number → OnFault number (port_end stage number s)
end_placed stages.Header number s low = fault_here {B = PortFile} number number BadHeader low (omega arith)
end_placed stages.Purses number s low = fault_here {B = PortFile} number number BadWord low (omega arith)
end_placed stages.Begin number s low = fault_here {B = PortFile} number number BadWord low (omega arith)
end_placed stages.Events number s low = fault_done number (record { first = s.first; second = s.second; events = s.events })

port_places : Places port_format Anywhere
port_places = record {
  later = λ number s b. tt;
  kept = λ number line s low b t e. tt;
  step = λ number line s low b. step_placed s.stage number line s low;
  finish = λ number s low b. end_placed s.stage number s low;
}

pub port_answered : (bytes : List ℕ) → Accepted port_of bytes ⊎ Refused port_of bytes
port_answered bytes = value_or_refusal port_format nothing_read (refuses_read port_format nothing_read Anywhere port_places tt) bytes
