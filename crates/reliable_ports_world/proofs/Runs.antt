-- Lines and events one after the other.
use Rattle.std.proofs.Common.{◌≡◌, ℕ, ◌+◌, ◌<◌, ◌≤◌, List, [], ◌∷◌, ◌++◌, length, take, get_or, refl, sym, ap, ◌∙◌, append_assoc, append-nil, arith}
use Rattle.std.proofs.lemmas.Grind.{take_at_read}
use Rattle.std.proofs.lemmas.List.{take_all, length-take-le, length-map, get_or-map}
use Rattle.net_world_spec.specs.declared.lines.Line.{Line}
use Rattle.reliable_ports.specs.Ends.{Body}
use Rattle.command_files.specs.declared.port.PortEvent.{PortEvent as Said}
use Rattle.command_files.specs.declared.port.PortFile.{PortFile}
use Rattle.reliable_ports_world.specs.Ports.{PortState, PortEvent, hears_line, hears, happens_at, port_run}
use Rattle.reliable_ports_world.specs.Told.{heard_told, lines_told, event_told}
use Rattle.reliable_ports_world.specs.Scripts.{happening, script_of, begun_ports, state_at}
use Rattle.reliable_ports_world.specs.Texts.{script_told, body_line, body_lines}

-- ---- lines

hears-append : (ls ms : List Line) (s : PortState) → hears (ls ++ ms) s ≡ hears ms (hears ls s)
hears-append [] ms s = refl
hears-append (l ∷ ls) ms s = hears-append ls ms (hears_line l s)

told-append : (n : ℕ) (ls ms : List Line) (s : PortState) → lines_told n (ls ++ ms) s ≡ lines_told n ls s ++ lines_told n ms (hears ls s)
told-append n [] ms s = refl
told-append n (l ∷ ls) ms s = ap (λ x. heard_told n l s ++ x) (told-append n ls ms (hears_line l s)) ∙ sym (append_assoc (heard_told n l s) (lines_told n ls (hears_line l s)) (lines_told n ms (hears ls (hears_line l s))))

module _ (ls : List Line) (i : ℕ) (l : Line) (within : i < length ls) (is : l ≡ get_or ls i l) where
  next_lines : take (i + 1) ls ≡ take i ls ++ l ∷ []
  next_lines = (take_at_read ls i l within).1 ∙ ap (λ x. take i ls ++ x ∷ []) (sym is)

  pub heard_next : (s : PortState) → hears (take (i + 1) ls) s ≡ hears_line l (hears (take i ls) s)
  heard_next s = ap (λ x. hears x s) next_lines ∙ hears-append (take i ls) (l ∷ []) s

  pub told_next : (n : ℕ) (s : PortState) → lines_told n (take (i + 1) ls) s ≡ lines_told n (take i ls) s ++ heard_told n l (hears (take i ls) s)
  told_next n s =
      ap (λ x. lines_told n x s) next_lines ∙ told-append n (take i ls) (l ∷ []) s
      ∙ ap (λ x. lines_told n (take i ls) s ++ x) (append-nil (heard_told n l (hears (take i ls) s)))

-- ---- events

run-append : (es fs : List PortEvent) (s : PortState) → port_run (es ++ fs) s ≡ port_run fs (port_run es s)
run-append [] fs s = refl
run-append (e ∷ es) fs s = run-append es fs (happens_at e s)

script-append : (n m : ℕ) (es fs : List PortEvent) (s : PortState) → m ≡ n + length es → script_told n (es ++ fs) s ≡ script_told n es s ++ script_told m fs (port_run es s)
script-append n m [] fs s e = let same : n ≡ m = omega (arith, e) in ap (λ k. script_told k fs s) same
script-append n m (x ∷ es) fs s e =
    ap (λ t. event_told n x s ++ t) (script-append (n + 1) m es fs (happens_at x s) (omega (arith, e)))
    ∙ sym (append_assoc (event_told n x s) (script_told (n + 1) es (happens_at x s)) (script_told m fs (port_run es (happens_at x s))))

module _ (p : PortFile) (i : ℕ) (e : Said) (within : i < length p.events) (is : e ≡ get_or p.events i e) where
  next_script : take (i + 1) (script_of p) ≡ take i (script_of p) ++ happening e ∷ []
  next_script =
      let long : i < length (script_of p) = omega (arith, within, length-map p.events happening) in
      (take_at_read (script_of p) i (happening e) long).1
      ∙ ap (λ x. take i (script_of p) ++ x ∷ []) (get_or-map happening p.events i e (happening e) within ∙ ap happening (sym is))

  pub state_next : state_at p (i + 1) ≡ happens_at (happening e) (state_at p i)
  state_next = ap (λ x. port_run x (begun_ports p)) next_script ∙ run-append (take i (script_of p)) (happening e ∷ []) (begun_ports p)

  pub script_next : (n : ℕ) (old mid new : List ℕ) → n ≡ 1 + length (take i (script_of p)) → mid ≡ old ++ script_told 1 (take i (script_of p)) (begun_ports p)
      → new ≡ mid ++ event_told n (happening e) (state_at p i) → new ≡ old ++ script_told 1 (take (i + 1) (script_of p)) (begun_ports p)
  script_next n old mid new number before x =
      let last = event_told n (happening e) (state_at p i) in
      let prefix = script_told 1 (take i (script_of p)) (begun_ports p) in
      let all = script-append 1 n (take i (script_of p)) (happening e ∷ []) (begun_ports p) number in
      x ∙ ap (λ t. t ++ last) before ∙ append_assoc old prefix last
      ∙ ap (λ t. old ++ t) (ap (λ t. prefix ++ t) (sym (append-nil last)) ∙ sym all ∙ ap (λ y. script_told 1 y (begun_ports p)) (sym next_script))

-- the whole script
pub state_all : (p : PortFile) (i : ℕ) → length p.events ≤ i → state_at p i ≡ port_run (script_of p) (begun_ports p)
state_all p i done = let long : length (script_of p) ≤ i = omega (arith, done, length-map p.events happening) in ap (λ x. port_run x (begun_ports p)) (take_all i (script_of p) long)

pub script_all : (p : PortFile) (i : ℕ) (old new : List ℕ) → length p.events ≤ i → new ≡ old ++ script_told 1 (take i (script_of p)) (begun_ports p) → new ≡ old ++ script_told 1 (script_of p) (begun_ports p)
script_all p i old new done e = let long : length (script_of p) ≤ i = omega (arith, done, length-map p.events happening) in e ∙ ap (λ x. old ++ script_told 1 x (begun_ports p)) (take_all i (script_of p) long)

-- ---- bodies

bodies-append : (n m : ℕ) (xs ys : List Body) → m ≡ n + length xs → body_lines n (xs ++ ys) ≡ body_lines n xs ++ body_lines m ys
bodies-append n m [] ys e = let same : n ≡ m = omega (arith, e) in ap (λ k. body_lines k ys) same
bodies-append n m (x ∷ xs) ys e =
    ap (λ t. body_line n x ++ t) (bodies-append (n + 1) m xs ys (omega (arith, e)))
    ∙ sym (append_assoc (body_line n x) (body_lines (n + 1) xs) (body_lines m ys))

-- a body more
pub body_put : (bs : List Body) (i n : ℕ) (b : Body) (old mid new : List ℕ) → i < length bs → b ≡ get_or bs i b → n ≡ i + 1
    → mid ≡ old ++ body_lines 1 (take i bs) → new ≡ mid ++ body_line n b → new ≡ old ++ body_lines 1 (take (i + 1) bs)
body_put bs i n b old mid new within is number e x =
    let more = (take_at_read bs i b within).1 ∙ ap (λ y. take i bs ++ y ∷ []) (sym is) in
    let long : n ≡ 1 + length (take i bs) = omega (arith, number, length-take-le i bs (omega (arith, within))) in
    let prefix = body_lines 1 (take i bs) in
    x ∙ ap (λ t. t ++ body_line n b) e ∙ append_assoc old prefix (body_line n b)
    ∙ ap (λ t. old ++ t) (ap (λ t. prefix ++ t) (sym (append-nil (body_line n b))) ∙ sym (bodies-append 1 n (take i bs) (b ∷ []) long) ∙ ap (body_lines 1) (sym more))

pub bodies_put : (bs : List Body) (i : ℕ) (old new : List ℕ) → length bs ≤ i → new ≡ old ++ body_lines 1 (take i bs) → new ≡ old ++ body_lines 1 bs
bodies_put bs i old new done e = e ∙ ap (λ x. old ++ body_lines 1 x) (take_all i bs done)
