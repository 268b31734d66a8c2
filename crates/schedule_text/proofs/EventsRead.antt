-- The events of a schedule are read as they are written.
use Rattle.std.proofs.Common.{◌≡◌, ℕ, ◌+◌, ◌^◌, ◌<◌, ◌≤◌, Bool, true, false, cond, not, leb, ◌&&◌, List, [], ◌∷◌, ◌++◌, length, map, Option, Some, None, Result, Ok, Err, refl, sym, ap, subst, ◌∙◌}
use Rattle.std.proofs.Common.{arith, append-nil, append_assoc, length-append}
use Rattle.std.specs.Prelude.{is_some}
use Rattle.std.specs.List.{All, find}
use Rattle.std.specs.Fmt.{decimal}
use Rattle.std.specs.Option.{ok_or}
use Rattle.std.specs.Str.{bytes_eq}
use lib.Chars.{codes}
use Rattle.std.proofs.lemmas.Bool.{le-leb}
use Rattle.std.proofs.lemmas.List.Elements.{All-head, All-tail}
use Rattle.containers.proofs.Bools.{and_both}
use Rattle.std.proofs.lemmas.Slice.Eq.{bytes_eq-Decides}
use Rattle.hex.specs.Hex.{decode_of, encode_lower}
use Rattle.hex.proofs.HexLemmas.{decode_of-encode_lower}
use Rattle.plan_base.specs.declared.ids.Host.{Host}
use Rattle.plan_base.specs.declared.ids.Dev.{Dev}
use Rattle.plan_base.specs.declared.name.Name.{Name}
use Rattle.plan_base.specs.Words.{is_name}
use Rattle.plan_base.specs.declared.tree.Chunk.{Chunk}
use Rattle.plan_base.specs.declared.tree.Fun.{Fun}
use Rattle.plan_base.specs.Sizes.{chunk_weight}
use Rattle.plan_types_spec.specs.Handlers.{is_handler}
use Rattle.checked_chunks.specs.Kept.{IsCheckedChunk}
use Rattle.plan_types_chunks.specs.Chunks.{refusal_of}
use Rattle.program_text.specs.Texts.{args_of_text}
use Rattle.plan_base.specs.declared.stamp.Version.{Version}
use Rattle.plan_base.specs.declared.stamp.Version.TheVariants.{One, Two}
use Rattle.network_config.specs.declared.event.WorldEvent.{WorldEvent}
use Rattle.network_config.specs.declared.event.WorldEvent.TheVariants as happens
use Rattle.network_config.specs.declared.schedule.HostSpec.{HostSpec}
use Rattle.network_config.specs.Hosts.{has_host}
use Rattle.network_config.specs.Rules.{KeepsEvent, MayName, KeepsInjection, MayArrive, weights}
use Rattle.line_reader.specs.declared.fault.LineReason.{LineReason}
use Rattle.line_reader.specs.declared.fault.LineReason.TheVariants.{BadWord, UnknownProgram, TooMany, BadArgument}
use Rattle.line_reader.specs.Lines.{words, spaced_words}
use Rattle.line_reader.specs.Reads.{rest_at}
use Rattle.line_reader.specs.Files.{is_skipped, at_line}
use Rattle.line_reader.specs.HexWords.{hex_of, within_size, hex_at}
use Rattle.line_reader.specs.Programs.{has_name, entry_at, args_at, chunk_with, typed_chunk, weighed_sum}
use Rattle.line_reader.specs.Handlers.{named_handler, handler_at}
use Rattle.line_reader.specs.Injections.{injection_at}
use Rattle.line_reader.proofs.Again.{without}
use Rattle.line_reader.proofs.Splits.{rest_all}
use Rattle.line_reader.proofs.TextLaws.{args_formed, not_refused}
use Rattle.schedule_text.specs.declared.reading.Reading.{Reading}
use Rattle.schedule_text.specs.declared.reading.Stage.TheVariants as stages
use Rattle.schedule_text.specs.Parts.{is_called, program_at}
use Rattle.schedule_text.specs.declared.keyword.EventWord.{EventWord}
use Rattle.schedule_text.specs.declared.keyword.EventWord.TheVariants as event
use Rattle.schedule_text.specs.Schedules.{event_word, with_event, injected_at, inject_line, send_line, frame_at, deliver_line, repeat_line, lose_line, tick_line, raw_line, event_rest, event_line, staying, step, file_after, schedule_format}
use Rattle.schedule_text.specs.Written.{NamedText, Written, handler_words, event_words, IsCall, IsWritten, IsNamed, EventIsWritten}
use Rattle.schedule_text.proofs.WordLaws.{Free, words_are, words_rest, number_free, name_free, hex_free}
use Rattle.schedule_text.proofs.ReadSteps.{then_ok, allowed_ok, below_ok, within_ok, number_ok, host_ok, device_ok, Leads, leads-nil, leads-cons}
use Rattle.schedule_text.proofs.NetworkRead.{file_at}
use Rattle.schedule_text.proofs.ProgramsRead.{titled_program}
use Rattle.schedule_text.proofs.HandlerWords.{not_handler}

abbrev pub with_events : Reading → List WorldEvent → ℕ → Reading
with_events s es weight = record s { events = es; weight = weight }

-- a host that is named has a number below 2^32
abbrev pub SmallHosts : List HostSpec → Type 0
SmallHosts hosts = (h : Host) → has_host h hosts ≡ true → h.0 < 2 ^ 32

-- ---- injections

found_same : (name : List ℕ) (ps : List NamedText) (p : NamedText) → find (λ q. bytes_eq q.name name) ps ≡ Some p → find (is_called name) (map titled_program ps) ≡ Some (titled_program p)
found_same name [] p e = absurd cc
found_same name (q ∷ qs) p e = by (bytes_eq q.name name) (λ h. found_same name qs p h) e
  where
    by : (t : Bool) → (find (λ r. bytes_eq r.name name) qs ≡ Some p → find (is_called name) (map titled_program qs) ≡ Some (titled_program p))
        → cond t (Some q) (find (λ r. bytes_eq r.name name) qs) ≡ Some p → cond t (Some (titled_program q)) (find (is_called name) (map titled_program qs)) ≡ Some (titled_program p)
    by true more h = let same : q ≡ p = cc in ap (λ r. Some (titled_program r)) same
    by false more h = more h

program_ok : (ps : List NamedText) (w : Written) (c : Chunk) (ws : List (List ℕ)) (k : IsWritten ps w c) → program_at (map titled_program ps) (w.program ∷ ws) ≡ Ok (titled_program k.program, ws)
unfolding program_at
program_ok ps w c ws k = then_ok _ (titled_program k.program) _ _ (ap (λ o. ok_or o UnknownProgram) (found_same w.program ps k.program k.listed)) refl

name_found : (name : List ℕ) (fs : List Fun) (f : Fun) → find (has_name name) fs ≡ Some f → f.name ≡ name
name_found name [] f e = absurd cc
name_found name (g ∷ gs) f e = by (bytes_eq g.name name) refl (λ h. name_found name gs f h) e
  where
    by : (t : Bool) → bytes_eq g.name name ≡ t → (find (has_name name) gs ≡ Some f → f.name ≡ name) → cond t (Some g) (find (has_name name) gs) ≡ Some f → f.name ≡ name
    by true is more h = let same : g ≡ f = cc in subst (λ x. x.name ≡ name) same ((bytes_eq-Decides g.name name).0 is)
    by false is more h = more h

pub entry_ok : (c : Chunk) (f : Fun) (ws : List (List ℕ)) → find (has_name c.entry) c.code.funs ≡ Some f → entry_at c.code.funs (c.entry ∷ ws) ≡ Ok (f, ws)
unfolding entry_at
entry_ok c f ws e = then_ok _ f _ _ (ap (λ o. ok_or o BadArgument) e) refl

pub args_ok : (c : Chunk) (text : List ℕ) → length text ≤ 65536 → args_of_text text ≡ Some c.args → args_at (words text) ≡ Ok c.args
unfolding args_at
args_ok c text short e =
    then_ok (rest_at (words text)) text _ _ (rest_all text)
    (then_ok _ tt _ _ (within_ok (length text) 65536 BadArgument short) (ap (λ o. ok_or o BadArgument) e))

chunk_ok : (c : Chunk) → not (is_some (refusal_of c)) ≡ true → typed_chunk c ≡ Ok c
unfolding typed_chunk
chunk_ok c e = then_ok _ tt _ _ (allowed_ok (not (is_some (refusal_of c))) BadArgument e) refl

handler_ok : (version : Version) (c : Chunk) (handler : Option Name) (text : List ℕ) → MayName version c handler → IsNamed handler → args_of_text text ≡ Some c.args
    → handler_at version c.code (handler_words handler ++ words text) ≡ Ok (handler, words text)
unfolding handler_at named_handler
handler_ok One c None text may named e = refl
handler_ok One c (Some name) text may named e = absurd cc
handler_ok Two c None text may named e = rw (not_handler text c.args e) refl
handler_ok Two c (Some name) text may named e =
    then_ok _ name _ _ (ap (λ b. cond b (Ok name) (Err BadArgument)) named)
    (then_ok _ tt _ _ (allowed_ok (is_handler c.code name) BadArgument may) refl)

-- a function with a text of arguments that are called is the chunk
pub call_is : (args : List ℕ) (c : Chunk) (k : IsCall args c) → IsCheckedChunk c → typed_chunk (chunk_with c.code k.function.name c.args) ≡ Ok c
call_is args c k checked =
    let same : chunk_with c.code k.function.name c.args ≡ c = ap (λ name. chunk_with c.code name c.args) (name_found c.entry c.code.funs k.function k.found) in
    ap typed_chunk same ∙ chunk_ok c (not_refused c (args_formed args c.args k.short k.says) checked)

-- what is injected is read as it is written
pub injection_ok : (version : Version) (args : List ℕ) (c : Chunk) (bound : ℕ) (handler : Option Name) → IsCall args c → IsNamed handler → KeepsInjection version c bound handler
    → injection_at version c.code (c.entry ∷ decimal bound ∷ (handler_words handler ++ words args)) ≡ Ok (c, bound, handler)
unfolding injection_at
injection_ok version args c bound handler k named keeps =
    let ws = handler_words handler ++ words args in
    then_ok _ (k.function, decimal bound ∷ ws) _ _ (entry_ok c k.function (decimal bound ∷ ws) k.found)
    (then_ok _ (bound, ws) _ _ (number_ok 0 65535 bound ws (omega (arith, keeps.0.0)) (omega arith) keeps.0.0)
    (then_ok _ (handler, words args) _ _ (handler_ok version c handler args keeps.1 named k.says)
    (then_ok _ c.args _ _ (args_ok c args k.short k.says)
    (then_ok _ c _ _ (call_is args c k keeps.0.1) refl))))

pub weighed_ok : (sum : ℕ) (c : Chunk) → sum + (1 + chunk_weight c) ≤ 16777216 → weighed_sum sum c ≡ Ok (sum + (1 + chunk_weight c))
unfolding weighed_sum
weighed_ok sum c few = then_ok _ tt _ _ (within_ok (sum + (1 + chunk_weight c)) 16777216 TooMany few) refl

-- ---- events

-- what is asked of an event that is written behind a network
pub record IsReady (ps : List NamedText) (by : Chunk → Written) (s : Reading) : Type 0 where
  pub programs : s.programs ≡ map titled_program ps
  pub small : SmallHosts s.hosts

-- the words behind the program of what is injected
abbrev call_words : Written → Chunk → ℕ → Option Name → List (List ℕ)
call_words w c bound handler = c.entry ∷ decimal bound ∷ (handler_words handler ++ words w.args)

injected_ok : (ps : List NamedText) (by : Chunk → Written) (s : Reading) (h : Host) (c : Chunk) (bound : ℕ) (handler : Option Name) → IsReady ps by s → has_host h s.hosts ≡ true
    → KeepsInjection s.version c bound handler → IsWritten ps (by c) c → IsNamed handler
    → injected_at s (decimal h.0 ∷ (by c).program ∷ call_words (by c) c bound handler) ≡ Ok (h, c, bound, handler)
unfolding injected_at
injected_ok ps by s h c bound handler ready known keeps k named =
    let ws = call_words (by c) c bound handler in
    then_ok _ (h, (by c).program ∷ ws) _ _ (host_ok s.hosts h _ (ready.small h known) known)
    (then_ok _ (titled_program k.program, ws) _ _ (ap (λ q. program_at q ((by c).program ∷ ws)) ready.programs ∙ program_ok ps (by c) c _ k)
    (then_ok _ (c, bound, handler) _ _ (ap (λ code. injection_at s.version code ws) k.code ∙ injection_ok s.version (by c).args c bound handler k.call named keeps) refl))

-- the words of an event's line, as they are read
abbrev read_words : (Chunk → Written) → WorldEvent → List (List ℕ)
read_words by (happens.Inject h chunk bound handler) = codes "inject" ∷ decimal h.0 ∷ (by chunk).program ∷ call_words (by chunk) chunk bound handler
read_words by (happens.Send h d) = event_words by (happens.Send h d)
read_words by (happens.Deliver k) = event_words by (happens.Deliver k)
read_words by (happens.Repeat k) = event_words by (happens.Repeat k)
read_words by (happens.Lose k) = event_words by (happens.Lose k)
read_words by (happens.Tick h) = event_words by (happens.Tick h)
read_words by (happens.Raw h d bytes) = event_words by (happens.Raw h d bytes)

abbrev weight_of : WorldEvent → ℕ
weight_of e = weights (e ∷ [])

-- a reading behind an event
abbrev pub behind_event : Reading → WorldEvent → Reading
behind_event s e = record (with_event s e) { weight = s.weight + weight_of e }

inject_ok : (ps : List NamedText) (by : Chunk → Written) (s : Reading) (h : Host) (c : Chunk) (bound : ℕ) (handler : Option Name) → IsReady ps by s → has_host h s.hosts ≡ true
    → KeepsInjection s.version c bound handler → IsWritten ps (by c) c → IsNamed handler
    → s.weight + (1 + chunk_weight c) ≤ 16777216 → inject_line (decimal h.0 ∷ (by c).program ∷ call_words (by c) c bound handler) s ≡ Ok (behind_event s (happens.Inject h c bound handler))
unfolding inject_line
inject_ok ps by s h c bound handler ready known keeps k named few =
    let none : 1 + chunk_weight c ≡ 1 + chunk_weight c + 0 = omega arith in
    then_ok _ (h, c, bound, handler) _ _ (injected_ok ps by s h c bound handler ready known keeps k named)
    (then_ok _ (s.weight + (1 + chunk_weight c)) _ _ (weighed_ok s.weight c few) (ap (λ (n : ℕ). Ok (record (with_event s (happens.Inject h c bound handler)) { weight = s.weight + n })) none))

abbrev said_reading : Reading → Result Reading LineReason
said_reading s = Ok s

-- what weighs nothing
weightless_is_behind : (s : Reading) (e : WorldEvent) → weight_of e ≡ 0 → said_reading (with_event s e) ≡ said_reading (behind_event s e)
weightless_is_behind s e h = let n : s.weight ≡ s.weight + weight_of e = omega (arith, h) in ap (λ (w : ℕ). said_reading (record (with_event s e) { weight = w })) n

send_ok : (s : Reading) (h : Host) (d : Dev) → SmallHosts s.hosts → has_host h s.hosts ≡ true → d.0 ≤ 8 → send_line (decimal h.0 ∷ decimal d.0 ∷ []) s ≡ said_reading (behind_event s (happens.Send h d))
unfolding send_line
send_ok s h d small known few =
    then_ok _ (h, decimal d.0 ∷ []) _ _ (host_ok s.hosts h _ (small h known) known)
    (then_ok _ (d, []) _ _ (device_ok d [] few) (weightless_is_behind s (happens.Send h d) refl))

frame_ok : (k : ℕ) → k < 2 ^ 32 → frame_at (decimal k ∷ []) ≡ Ok k
unfolding frame_at
frame_ok k small = then_ok _ (k, []) _ _ (number_ok 0 4294967295 k [] (omega (arith, small)) (omega arith) (omega (arith, small))) refl

deliver_ok : (s : Reading) (k : ℕ) → k < 2 ^ 32 → deliver_line (decimal k ∷ []) s ≡ said_reading (behind_event s (happens.Deliver k))
unfolding deliver_line
deliver_ok s k small = then_ok _ k _ _ (frame_ok k small) (weightless_is_behind s (happens.Deliver k) refl)

repeat_ok : (s : Reading) (k : ℕ) → k < 2 ^ 32 → repeat_line (decimal k ∷ []) s ≡ said_reading (behind_event s (happens.Repeat k))
unfolding repeat_line
repeat_ok s k small = then_ok _ k _ _ (frame_ok k small) (weightless_is_behind s (happens.Repeat k) refl)

lose_ok : (s : Reading) (k : ℕ) → k < 2 ^ 32 → lose_line (decimal k ∷ []) s ≡ said_reading (behind_event s (happens.Lose k))
unfolding lose_line
lose_ok s k small = then_ok _ k _ _ (frame_ok k small) (weightless_is_behind s (happens.Lose k) refl)

tick_ok : (s : Reading) (h : Host) → SmallHosts s.hosts → has_host h s.hosts ≡ true → tick_line (decimal h.0 ∷ []) s ≡ said_reading (behind_event s (happens.Tick h))
unfolding tick_line
tick_ok s h small known = then_ok _ (h, []) _ _ (host_ok s.hosts h _ (small h known) known) (weightless_is_behind s (happens.Tick h) refl)

hex_ok : (bytes : List ℕ) → MayArrive bytes → hex_at 1 16513 (encode_lower bytes ∷ []) ≡ Ok (bytes, [])
unfolding hex_at
hex_ok bytes m =
    let few : (leb 1 (length bytes) && leb (length bytes) 16513) ≡ true = and_both (leb 1 (length bytes)) (leb (length bytes) 16513) (le-leb 1 (length bytes) m.some) (le-leb (length bytes) 16513 m.few) in
    let is : within_size 1 16513 (hex_of (decode_of (encode_lower bytes))) ≡ Some bytes =
    ap (λ r. within_size 1 16513 (hex_of r)) (decode_of-encode_lower bytes m.are_bytes) ∙ ap (λ b. cond b (Some bytes) None) few in
    then_ok _ bytes _ _ (ap (λ o. ok_or o BadArgument) is) refl

raw_ok : (s : Reading) (h : Host) (d : Dev) (bytes : List ℕ) → SmallHosts s.hosts → has_host h s.hosts ≡ true → d.0 ≤ 8 → MayArrive bytes
    → raw_line (decimal h.0 ∷ decimal d.0 ∷ encode_lower bytes ∷ []) s ≡ said_reading (behind_event s (happens.Raw h d bytes))
unfolding raw_line
raw_ok s h d bytes small known few m =
    then_ok _ (h, decimal d.0 ∷ encode_lower bytes ∷ []) _ _ (host_ok s.hosts h _ (small h known) known)
    (then_ok _ (d, encode_lower bytes ∷ []) _ _ (device_ok d _ few)
    (then_ok _ (bytes, []) _ _ (hex_ok bytes m) (weightless_is_behind s (happens.Raw h d bytes) refl)))

-- a line whose first word is known
event_known : (s t : Reading) (w : List ℕ) (ws : List (List ℕ)) (kind : EventWord) → event_word s.version w ≡ Some kind → length s.events < 50000 → event_rest kind ws s ≡ said_reading t → event_line (w ∷ ws) s ≡ said_reading t
unfolding event_line
event_known s t w ws kind known room e =
    then_ok _ kind _ _ (ap (λ o. ok_or o BadWord) known)
    (then_ok _ tt _ _ (below_ok (length s.events) 50000 TooMany room) e)

two_knows : (version : Version) → version ≡ Two → event_word version (codes "repeat") ≡ Some event.Repeat
two_knows One e = absurd cc
two_knows Two e = refl

event_said : (ps : List NamedText) (by : Chunk → Written) (s : Reading) (e : WorldEvent) → IsReady ps by s → length s.events < 50000 → KeepsEvent s.version s.hosts e → EventIsWritten ps by e → s.weight + weight_of e ≤ 16777216
    → event_line (read_words by e) s ≡ said_reading (behind_event s e)
unfolding event_rest
event_said ps by s (happens.Inject h c bound handler) ready room keeps k few = event_known s _ (codes "inject") _ event.Inject refl room (inject_ok ps by s h c bound handler ready keeps.0 keeps.1 k.1 k.2 (omega (arith, few)))
event_said ps by s (happens.Send h d) ready room keeps k few = event_known s _ (codes "send") _ event.Send refl room (send_ok s h d ready.small keeps.0 keeps.1)
event_said ps by s (happens.Deliver n) ready room keeps k few = event_known s _ (codes "deliver") _ event.Deliver refl room (deliver_ok s n keeps)
event_said ps by s (happens.Repeat n) ready room keeps k few = event_known s _ (codes "repeat") _ event.Repeat (two_knows s.version keeps.0) room (repeat_ok s n keeps.1)
event_said ps by s (happens.Lose n) ready room keeps k few = event_known s _ (codes "lose") _ event.Lose refl room (lose_ok s n keeps)
event_said ps by s (happens.Tick h) ready room keeps k few = event_known s _ (codes "tick") _ event.Tick refl room (tick_ok s h ready.small keeps)
event_said ps by s (happens.Raw h d bytes) ready room keeps k few = event_known s _ (codes "raw") _ event.Raw refl room (raw_ok s h d bytes ready.small keeps.0 keeps.1 keeps.2)

-- ---- lines of events

host_free : (hosts : List HostSpec) (h : Host) → SmallHosts hosts → has_host h hosts ≡ true → (without 32 (decimal h.0) ≡ true) × (without 10 (decimal h.0) ≡ true)
host_free hosts h small known = number_free h.0 (let n = small h known in omega (arith, n))

pub handler_free : (sep : ℕ) (handler : Option Name) → IsNamed handler → ((w : List ℕ) → is_name w ≡ true → without sep w ≡ true) → without sep (codes "handler") ≡ true → (rest : List (List ℕ))
    → Free sep rest → Free sep (handler_words handler ++ rest)
handler_free sep None named free word rest k = k
handler_free sep (Some name) named free word rest k = (word, (free name named, k))

-- an event's line has no line feed
pub event_line_free : (ps : List NamedText) (by : Chunk → Written) (version : Version) (hosts : List HostSpec) (e : WorldEvent) → SmallHosts hosts → KeepsEvent version hosts e → EventIsWritten ps by e → Free 10 (event_words by e)
event_line_free ps by version hosts (happens.Inject h c bound handler) small keeps k = (
  refl,
  (
    (host_free hosts h small keeps.0).1,
    (
      (name_free (by c).program k.0).1,
      (
        (name_free c.entry k.1.call.entry).1,
        (
          (number_free bound (omega (arith, keeps.1.0.0))).1,
          handler_free 10 handler k.2 (λ w n. (name_free w n).1) refl ((by c).args ∷ []) (k.1.call.line, tt),
        ),
      ),
    ),
  ),
)
event_line_free ps by version hosts (happens.Send h d) small keeps k = (refl, ((host_free hosts h small keeps.0).1, ((number_free d.0 (omega (arith, keeps.1))).1, tt)))
event_line_free ps by version hosts (happens.Deliver n) small keeps k = (refl, ((number_free n (omega (arith, keeps))).1, tt))
event_line_free ps by version hosts (happens.Repeat n) small keeps k = (refl, ((number_free n (omega (arith, keeps.1))).1, tt))
event_line_free ps by version hosts (happens.Lose n) small keeps k = (refl, ((number_free n (omega (arith, keeps))).1, tt))
event_line_free ps by version hosts (happens.Tick h) small keeps k = (refl, ((host_free hosts h small keeps).1, tt))
event_line_free ps by version hosts (happens.Raw h d bytes) small keeps k = (refl, ((host_free hosts h small keeps.0).1, ((number_free d.0 (omega (arith, keeps.1))).1, ((hex_free bytes keeps.2.are_bytes).1, tt))))

-- the words in front of the arguments
abbrev front_words : Written → Host → Chunk → ℕ → Option Name → List (List ℕ)
front_words w h c bound handler = decimal h.0 ∷ w.program ∷ c.entry ∷ decimal bound ∷ handler_words handler

event_words_are : (ps : List NamedText) (by : Chunk → Written) (version : Version) (hosts : List HostSpec) (e : WorldEvent) → SmallHosts hosts → KeepsEvent version hosts e → EventIsWritten ps by e
    → words (spaced_words (event_words by e)) ≡ read_words by e
event_words_are ps by version hosts (happens.Inject h c bound handler) small keeps k =
    words_rest (codes "inject") (front_words (by c) h c bound handler) (by c).args (
      refl,
      (
        (host_free hosts h small keeps.0).0,
        (
          (name_free (by c).program k.0).0,
          (
            (name_free c.entry k.1.call.entry).0,
            (
              (number_free bound (omega (arith, keeps.1.0.0))).0,
              subst (λ ws. Free 32 ws) (append-nil (handler_words handler)) (handler_free 32 handler k.2 (λ w n. (name_free w n).0) refl [] tt),
            ),
          ),
        ),
      ),
    )
event_words_are ps by version hosts (happens.Send h d) small keeps k = words_are (codes "send") _ (refl, ((host_free hosts h small keeps.0).0, ((number_free d.0 (omega (arith, keeps.1))).0, tt)))
event_words_are ps by version hosts (happens.Deliver n) small keeps k = words_are (codes "deliver") _ (refl, ((number_free n (omega (arith, keeps))).0, tt))
event_words_are ps by version hosts (happens.Repeat n) small keeps k = words_are (codes "repeat") _ (refl, ((number_free n (omega (arith, keeps.1))).0, tt))
event_words_are ps by version hosts (happens.Lose n) small keeps k = words_are (codes "lose") _ (refl, ((number_free n (omega (arith, keeps))).0, tt))
event_words_are ps by version hosts (happens.Tick h) small keeps k = words_are (codes "tick") _ (refl, ((host_free hosts h small keeps).0, tt))
event_words_are ps by version hosts (happens.Raw h d bytes) small keeps k = words_are (codes "raw") _ (refl, ((host_free hosts h small keeps.0).0, ((number_free d.0 (omega (arith, keeps.1))).0, ((hex_free bytes keeps.2.are_bytes).0, tt))))

says_something : (by : Chunk → Written) (e : WorldEvent) → is_skipped (spaced_words (event_words by e)) ≡ false
says_something by (happens.Inject h c bound handler) = refl
says_something by (happens.Send h d) = refl
says_something by (happens.Deliver n) = refl
says_something by (happens.Repeat n) = refl
says_something by (happens.Lose n) = refl
says_something by (happens.Tick h) = refl
says_something by (happens.Raw h d bytes) = refl

event_step_ok : (line : List ℕ) (ws : List (List ℕ)) (s t : Reading) (number : ℕ) → is_skipped line ≡ false → words line ≡ ws → event_line ws s ≡ said_reading t
    → schedule_format.step number line (file_at stages.Events s) ≡ Ok (file_at stages.Events t)
unfolding step
event_step_ok line ws s t number some are is =
    ap (λ b. file_after (cond b (Ok (stages.Events, s)) (at_line number (staying stages.Events (event_line (words line) s))))) some
    ∙ (ap (λ v. file_after (at_line number (staying stages.Events (event_line v s)))) are ∙ ap (λ r. file_after (at_line number (staying stages.Events r))) is)

nothing_more : (e : WorldEvent) (es : List WorldEvent) → weight_of e ≡ 0 → weights es ≡ weight_of e + weights es
nothing_more e es z = omega (arith, z)

more_weight : (e : WorldEvent) (es : List WorldEvent) → weights (e ∷ es) ≡ weight_of e + weights es
more_weight (happens.Inject h c bound handler) es = omega arith
more_weight (happens.Send h d) es = nothing_more (happens.Send h d) es refl
more_weight (happens.Deliver n) es = nothing_more (happens.Deliver n) es refl
more_weight (happens.Repeat n) es = nothing_more (happens.Repeat n) es refl
more_weight (happens.Lose n) es = nothing_more (happens.Lose n) es refl
more_weight (happens.Tick h) es = nothing_more (happens.Tick h) es refl
more_weight (happens.Raw h d bytes) es = nothing_more (happens.Raw h d bytes) es refl

-- events are read behind others
pub events_read : (ps : List NamedText) (by : Chunk → Written) (rest seen : List WorldEvent) (s : Reading) (weight : ℕ) → IsReady ps by s → length (seen ++ rest) ≤ 50000
    → All (KeepsEvent s.version s.hosts) rest → All (EventIsWritten ps by) rest → weight + weights rest ≤ 16777216
    → Leads (map (λ e. spaced_words (event_words by e)) rest) (file_at stages.Events (with_events s seen weight)) (file_at stages.Events (with_events s (seen ++ rest) (weight + weights rest)))
events_read ps by [] seen s weight ready few keeps written light =
    let n : weight ≡ weight + weights [] = omega arith in
    subst (λ (w : ℕ). Leads [] (file_at stages.Events (with_events s seen weight)) (file_at stages.Events (with_events s (seen ++ []) w))) n
    (subst (λ es. Leads [] (file_at stages.Events (with_events s seen weight)) (file_at stages.Events (with_events s es weight))) (sym (append-nil seen)) (leads-nil (file_at stages.Events (with_events s seen weight))))
events_read ps by (e ∷ rest) seen s weight ready few keeps written light =
    let join : (seen ++ e ∷ []) ++ rest ≡ seen ++ e ∷ rest = append_assoc seen (e ∷ []) rest in
    let total = more_weight e rest in
    let sum : weight + weight_of e + weights rest ≡ weight + weights (e ∷ rest) = omega (arith, total) in
    let room : length seen < 50000 = omega (arith, few, length-append seen (e ∷ rest)) in
    let k = All-head (KeepsEvent s.version s.hosts) e rest keeps in
    let w = All-head (EventIsWritten ps by) e rest written in
    let is_ready : IsReady ps by (with_events s seen weight) = record { programs = ready.programs; small = ready.small } in
    let one = event_said ps by (with_events s seen weight) e is_ready room k w (omega (arith, light, sum)) in
    let most : weight + weight_of e + weights rest ≤ 16777216 = omega (arith, light, sum) in
    let last = events_read ps by rest (seen ++ e ∷ []) s (weight + weight_of e) ready (subst (λ es. length es ≤ 50000) (sym join) few) (All-tail (KeepsEvent s.version s.hosts) e rest keeps)
    (All-tail (EventIsWritten ps by) e rest written) most in
    let moved = subst (λ es.
    Leads (map (λ x. spaced_words (event_words by x)) rest)
    (file_at stages.Events (with_events s (seen ++ e ∷ []) (weight + weight_of e))) (file_at stages.Events (with_events s es (weight + weights (e ∷ rest))))) join
    (subst
    (λ (n : ℕ).
    Leads (map (λ x. spaced_words (event_words by x)) rest)
    (file_at stages.Events (with_events s (seen ++ e ∷ []) (weight + weight_of e))) (file_at stages.Events (with_events s ((seen ++ e ∷ []) ++ rest) n))) sum last) in
    leads-cons (spaced_words (event_words by e)) (map (λ x. spaced_words (event_words by x)) rest) (file_at stages.Events (with_events s seen weight))
    (file_at stages.Events (with_events s (seen ++ e ∷ []) (weight + weight_of e)))
    (file_at stages.Events (with_events s (seen ++ e ∷ rest) (weight + weights (e ∷ rest))))
    (λ number.
    event_step_ok (spaced_words (event_words by e)) (read_words by e) (with_events s seen weight) (with_events s (seen ++ e ∷ []) (weight + weight_of e)) number (says_something by e)
    (event_words_are ps by s.version s.hosts e ready.small k w) one) moved
