-- The lines of a configuration up to its neighbours are read as they are written.
use Rattle.std.proofs.Common.{◌≡◌, ◌≢◌, ℕ, ◌^◌, ◌<◌, ◌≤◌, Bool, false, eqb, ◌||◌, List, [], ◌∷◌, ◌++◌, map, Option, None, Ok, refl, sym, ap, subst, ◌∙◌, arith, append-nil}
use Rattle.std.specs.List.{All}
use Rattle.std.specs.Fmt.{decimal}
use lib.Chars.{codes}
use Rattle.std.proofs.lemmas.Bool.{ne_eqb}
use Rattle.std.proofs.lemmas.List.Elements.{All-nil, All-cons, All-head, All-tail}
use Rattle.plan_base.specs.declared.ids.Host.{Host}
use Rattle.plan_base.specs.declared.ids.Dev.{Dev}
use Rattle.plan_base.specs.declared.tree.Program.{Program}
use Rattle.service_api.specs.declared.package.PackageName.{PackageName}
use Rattle.plan_base.specs.declared.stamp.Version.{Version}
use Rattle.plan_base.specs.declared.stamp.Version.TheVariants.{One, Two}
use Rattle.network_config.specs.declared.serve.Inject.{Inject as Injection}
use Rattle.network_config.specs.declared.serve.ServeConfig.{ServeConfig}
use Rattle.network_config.specs.Hosts.{host_of}
use Rattle.network_config.specs.NodeRules.{DevicesAscend, IsNeighbour, IsPort, PortsDiffer, KeepsServe}
use Rattle.line_reader.specs.declared.fault.LineReason.TheVariants.{TwiceNamed}
use Rattle.line_reader.specs.declared.programs.OpenProgram.{OpenProgram}
use Rattle.line_reader.specs.Lines.{spaced_words}
use Rattle.line_reader.specs.Files.{is_skipped}
use Rattle.line_reader.specs.Programs.{opened_program}
use Rattle.schedule_text.proofs.WordLaws.{Free, line_is}
use Rattle.schedule_text.proofs.ReadSteps.{then_ok, not_ok, number_ok}
use Rattle.schedule_text.proofs.NetworkRead.{all_middle}
use Rattle.schedule_text.proofs.ProgramsRead.{map-push}
use Rattle.node_files.specs.declared.config.HeadWord.TheVariants as head
use Rattle.node_files.specs.declared.config.TailPart.TheVariants as parts
use Rattle.node_files.specs.declared.config.ConfigStage.{ConfigStage}
use Rattle.node_files.specs.declared.config.ConfigStage.TheVariants as stages
use Rattle.node_files.specs.declared.config.ConfigReading.{ConfigReading}
use Rattle.node_files.specs.Parts.{behind_word}
use Rattle.node_files.specs.Nodes.{placed_items, device_of, port_device}
use Rattle.node_files.specs.LogTexts.{host_words, hosts_words}
use Rattle.node_files.specs.Configs.{port_line, has_port, is_used, free_port, control_line, period_line, log_line, wanted_line, device_line, tail_rest, tail_line, begun_by, config_step_at, config_format, nothing_read}
use Rattle.node_files.proofs.NodeLines.{Clean, clean_more, clean_number, usual_again, last_reads, host_reads, host_clean, more_to, hosts_read, hosts_clean, listed_small, before, free_there, placed_last, neighbour_reads, hosts_of_neighbours}
use Rattle.top_laws.specs.Words.{IsOneWord}
use Rattle.top_laws.specs.Configs.{header_line, port_words, control_words, period_words, log_words, device_words, device_lines, head_lines}
use Rattle.top_laws.proofs.Leading.{Leads, leads-nil, leads-cons}
use Rattle.top_laws.proofs.FleetRead.{file_ok}

-- the first line
header_step : (version : Version) (number : ℕ) → config_format.step number (header_line version) nothing_read ≡ Ok (begun_by nothing_read version)
unfolding config_step_at
header_step One number = refl
header_step Two number = refl

header_free : (version : Version) → Free 10 (header_line version ∷ [])
header_free One = (refl, tt)
header_free Two = (refl, tt)

-- ---- ports

-- what holds of the images of a list holds of one in its middle
map_middle : {X Y : Type 0} (P : Y → Type 0) (f : X → Y) (xs : List X) (y : X) (ys : List X) → All P (map f (xs ++ y ∷ ys)) → P (f y)
map_middle P f [] y ys h = All-head P (f y) (map f ys) h
map_middle P f (x ∷ xs) y ys h = map_middle P f xs y ys (All-tail P (f x) (map f (xs ++ y ∷ ys)) h)

abbrev port_of : Dev × ℕ → ℕ
port_of d = d.1

-- a port that differs from all others was not used in front
fresh_port : (seen : List (Dev × ℕ)) (d : Dev × ℕ) (ds : List (Dev × ℕ)) → PortsDiffer (map port_of (seen ++ d ∷ ds)) → has_port d.1 seen ≡ false
fresh_port [] d ds k = refl
fresh_port (e ∷ es) d ds k = rw (ne_eqb e.1 d.1 (λ h. map_middle (λ q. q ≢ e.1) port_of es d ds k.0 (sym h)), fresh_port es d ds k.1) refl

same_first : {A : Type 0} (x y : A) (xs ys : List A) → x ∷ xs ≡ y ∷ ys → x ≡ y
same_first x y xs ys e = cc

same_others : {A : Type 0} (x y : A) (xs ys : List A) → x ∷ xs ≡ y ∷ ys → xs ≡ ys
same_others x y xs ys e = cc

-- devices in front are as low as those of the neighbours
low_ports : (high : ℕ) (ports : List (Dev × ℕ)) (seen : List (Host × Dev)) → map (λ d. d.0) ports ≡ map (λ n. n.1) seen → All (λ m. m.1.0 < high) seen → All (λ e. e.0.0 < high) ports
low_ports high [] seen e h = All-nil (λ (p : Dev × ℕ). p.0.0 < high)
low_ports high (p ∷ ps) [] e h = absurd cc
low_ports high (p ∷ ps) (m ∷ ms) e h =
    let same = same_first p.0 m.1 (map (λ d. d.0) ps) (map (λ n. n.1) ms) e in
    let others = same_others p.0 m.1 (map (λ d. d.0) ps) (map (λ n. n.1) ms) e in
    All-cons (λ (q : Dev × ℕ). q.0.0 < high) p ps
    (subst (λ (d : Dev). d.0 < high) (sym same) (All-head (λ (n : Host × Dev). n.1.0 < high) m ms h))
    (low_ports high ps ms others (All-tail (λ (n : Host × Dev). n.1.0 < high) m ms h))

none_is : (a b c : Bool) → a ≡ false → b ≡ false → c ≡ false → ((a || b) || c) ≡ false
none_is a b c x y z = rw (x, y, z) refl

port_clean : (p : ℕ) (ws : List (List ℕ)) → p ≤ 65535 → Clean ws → Clean (decimal p ∷ ws)
port_clean p ws few c = clean_number p (omega (arith, few)) ws c

module _ (c : ServeConfig) (rules : KeepsServe c) (named : IsOneWord c.log) where
  abbrev here : Host
  here = c.node.here

  abbrev hosts : List Host
  hosts = c.node.hosts

  here_small : here.0 < 2 ^ 32
  here_small = listed_small here hosts rules.node.here rules.node.numbers

  own_port : IsPort c.port
  own_port = All-head IsPort c.port (c.control ∷ map port_of c.devs) rules.ports

  owners_port : IsPort c.control
  owners_port = All-head IsPort c.control (map port_of c.devs) (All-tail IsPort c.port (c.control ∷ map port_of c.devs) rules.ports)

  -- ---- the lines in front of the neighbours

  -- a state in front of them
  abbrev early : ConfigStage → Host → List Host → ℕ → ℕ → ℕ → List ℕ → ConfigReading
  early stage h hs port control period log =
      record {
        stage = stage;
        version = c.node.version;
        here = h;
        hosts = hs;
        port = port;
        control = control;
        period = period;
        log = log;
        neighbours = [];
        devs = [];
        missing = [];
        program = opened_program 1;
        checked = None;
        at = [];
        weight = 0;
      }

  hosts_are_clean : Clean (hosts_words hosts)
  hosts_are_clean = clean_more (codes "hosts") (map (λ h. decimal h.0) hosts) (refl, refl) (hosts_clean hosts rules.node.numbers)

  port_are_clean : Clean (port_words c.port)
  port_are_clean = clean_more (codes "port") (decimal c.port ∷ []) (refl, refl) (port_clean c.port [] own_port.1 (tt, tt))

  control_are_clean : Clean (control_words c.control)
  control_are_clean = clean_more (codes "control") (decimal c.control ∷ []) (refl, refl) (port_clean c.control [] owners_port.1 (tt, tt))

  period_are_clean : Clean (period_words c.period)
  period_are_clean = clean_more (codes "period") (decimal c.period ∷ []) (refl, refl) (clean_number c.period (let few = rules.period.1 in omega (arith, few)) [] (tt, tt))

  log_are_clean : Clean (log_words c.log)
  log_are_clean = clean_more (codes "log") (c.log ∷ []) (refl, refl) (clean_more c.log [] named (tt, tt))

  host_step : (number : ℕ) → config_format.step number (spaced_words (host_words here)) (early (stages.Wants head.Host) (host_of 0) [] 0 0 0 []) ≡ Ok (early (stages.Wants head.Hosts) here [] 0 0 0 [])
  unfolding config_step_at wanted_line
  host_step number =
      usual_again number (codes "host") (decimal here.0 ∷ []) (early (stages.Wants head.Host) (host_of 0) [] 0 0 0 []) (early (stages.Wants head.Hosts) here [] 0 0 0 []) (λ ws.
      wanted_line head.Host ws (early (stages.Wants head.Host) (host_of 0) [] 0 0 0 [])) refl (host_clean here here_small)
      (then_ok _ here _ _ (host_reads here here_small) refl)

  says_hosts : (ws : List (List ℕ)) → is_skipped (spaced_words (codes "hosts" ∷ ws)) ≡ false
  says_hosts ws = refl

  hosts_step : (number : ℕ) → config_format.step number (spaced_words (hosts_words hosts)) (early (stages.Wants head.Hosts) here [] 0 0 0 []) ≡ Ok (early (stages.Wants head.Port) here hosts 0 0 0 [])
  unfolding config_step_at wanted_line
  hosts_step number =
      usual_again number (codes "hosts") (map (λ h. decimal h.0) hosts) (early (stages.Wants head.Hosts) here [] 0 0 0 []) (early (stages.Wants head.Port) here hosts 0 0 0 []) (λ ws.
      wanted_line head.Hosts ws (early (stages.Wants head.Hosts) here [] 0 0 0 [])) (says_hosts (map (λ h. decimal h.0) hosts)) hosts_are_clean
      (then_ok _ hosts _ _ (hosts_read here hosts rules.node.few rules.node.ascend rules.node.numbers rules.node.here) refl)

  port_step : (number : ℕ) → config_format.step number (spaced_words (port_words c.port)) (early (stages.Wants head.Port) here hosts 0 0 0 []) ≡ Ok (early (stages.Wants head.Control) here hosts c.port 0 0 [])
  unfolding config_step_at wanted_line port_line behind_word
  port_step number =
      usual_again number (codes "port") (decimal c.port ∷ []) (early (stages.Wants head.Port) here hosts 0 0 0 []) (early (stages.Wants head.Control) here hosts c.port 0 0 []) (λ ws.
      wanted_line head.Port ws (early (stages.Wants head.Port) here hosts 0 0 0 [])) refl port_are_clean
      (then_ok _ c.port _ _ (last_reads 1 65535 c.port (let few = own_port.1 in omega (arith, few)) own_port.0 own_port.1) refl)

  free_ok : (s : ConfigReading) (p : ℕ) (ws : List (List ℕ)) → IsPort p → is_used s p ≡ false → free_port s (decimal p ∷ ws) ≡ Ok (p, ws)
  unfolding free_port
  free_ok s p ws is free =
      then_ok _ (p, ws) _ _ (number_ok 1 65535 p ws (let few = is.1 in omega (arith, few)) is.0 is.1)
      (then_ok _ tt _ _ (not_ok (is_used s p) TwiceNamed free) refl)

  control_free : is_used (early (stages.Wants head.Control) here hosts c.port 0 0 []) c.control ≡ false
  control_free =
      let some = owners_port.0 in
      none_is (eqb c.port c.control) (eqb 0 c.control) false (ne_eqb c.port c.control (λ e. All-head (λ q. q ≢ c.port) c.control (map port_of c.devs) rules.apart.0 (sym e))) (ne_eqb 0 c.control (λ e. omega (arith, e, some))) refl

  control_step : (number : ℕ) → config_format.step number (spaced_words (control_words c.control)) (early (stages.Wants head.Control) here hosts c.port 0 0 []) ≡ Ok (early (stages.Wants head.Period) here hosts c.port c.control 0 [])
  unfolding config_step_at wanted_line control_line behind_word
  control_step number =
      usual_again number (codes "control") (decimal c.control ∷ []) (early (stages.Wants head.Control) here hosts c.port 0 0 []) (early (stages.Wants head.Period) here hosts c.port c.control 0 [])
      (λ ws.
      wanted_line head.Control ws (early (stages.Wants head.Control) here hosts c.port 0 0 [])) refl control_are_clean
      (then_ok _ (c.control, []) _ _ (free_ok (early (stages.Wants head.Control) here hosts c.port 0 0 []) c.control [] owners_port control_free) refl)

  period_step : (number : ℕ) → config_format.step number (spaced_words (period_words c.period)) (early (stages.Wants head.Period) here hosts c.port c.control 0 []) ≡ Ok (early (stages.Wants head.Log) here hosts c.port c.control c.period [])
  unfolding config_step_at wanted_line period_line behind_word
  period_step number =
      usual_again number (codes "period") (decimal c.period ∷ []) (early (stages.Wants head.Period) here hosts c.port c.control 0 [])
      (early (stages.Wants head.Log) here hosts c.port c.control c.period [])
      (λ ws.
      wanted_line head.Period ws (early (stages.Wants head.Period) here hosts c.port c.control 0 [])) refl period_are_clean
      (then_ok _ c.period _ _ (last_reads 1 60000 c.period (let few = rules.period.1 in omega (arith, few)) rules.period.0 rules.period.1) refl)

  log_step : (number : ℕ)
      → config_format.step number (spaced_words (log_words c.log)) (early (stages.Wants head.Log) here hosts c.port c.control c.period [])
      ≡ Ok (early (stages.Tail parts.Devices) here hosts c.port c.control c.period c.log)
  unfolding config_step_at wanted_line log_line behind_word
  log_step number =
      usual_again number (codes "log") (c.log ∷ []) (early (stages.Wants head.Log) here hosts c.port c.control c.period [])
      (early (stages.Tail parts.Devices) here hosts c.port c.control c.period c.log)
      (λ ws.
      wanted_line head.Log ws (early (stages.Wants head.Log) here hosts c.port c.control c.period [])) refl log_are_clean
      (then_ok _ (c.log, []) _ _ (file_ok c.log [] rules.log) refl)

  -- a state behind them
  abbrev pub state : ConfigStage → List (Host × Dev) → List (Dev × ℕ) → List PackageName → OpenProgram → Option Program → List Injection → ℕ → ConfigReading
  state stage ns ds missing program checked at weight =
      record {
        stage = stage;
        version = c.node.version;
        here = here;
        hosts = hosts;
        port = c.port;
        control = c.control;
        period = c.period;
        log = c.log;
        neighbours = ns;
        devs = ds;
        missing = missing;
        program = program;
        checked = checked;
        at = at;
        weight = weight;
      }

  pub head_leads : Leads config_format (head_lines c) nothing_read (state (stages.Tail parts.Devices) [] [] [] (opened_program 1) None [] 0)
  head_leads =
      let last = state (stages.Tail parts.Devices) [] [] [] (opened_program 1) None [] 0 in
      leads-cons config_format (header_line c.node.version) _ nothing_read (early (stages.Wants head.Host) (host_of 0) [] 0 0 0 []) last (header_step c.node.version)
      (leads-cons config_format (spaced_words (host_words here)) _ (early (stages.Wants head.Host) (host_of 0) [] 0 0 0 []) (early (stages.Wants head.Hosts) here [] 0 0 0 []) last host_step
      (leads-cons config_format (spaced_words (hosts_words hosts)) _ (early (stages.Wants head.Hosts) here [] 0 0 0 []) (early (stages.Wants head.Port) here hosts 0 0 0 []) last hosts_step
      (leads-cons config_format (spaced_words (port_words c.port)) _ (early (stages.Wants head.Port) here hosts 0 0 0 []) (early (stages.Wants head.Control) here hosts c.port 0 0 []) last port_step
      (leads-cons config_format (spaced_words (control_words c.control)) _ (early (stages.Wants head.Control) here hosts c.port 0 0 []) (early (stages.Wants head.Period) here hosts c.port c.control 0 []) last control_step
      (leads-cons config_format (spaced_words (period_words c.period)) _ (early (stages.Wants head.Period) here hosts c.port c.control 0 []) (early (stages.Wants head.Log) here hosts c.port c.control c.period []) last period_step
      (leads-cons config_format (spaced_words (log_words c.log)) [] (early (stages.Wants head.Log) here hosts c.port c.control c.period []) last last log_step (leads-nil config_format last)))))))

  pub head_free : Free 10 (head_lines c)
  head_free = (
    (header_free c.node.version).0,
    (
      line_is (host_words here) (host_clean here here_small).1,
      (
        line_is (hosts_words hosts) hosts_are_clean.1,
        (
          line_is (port_words c.port) port_are_clean.1,
          (line_is (control_words c.control) control_are_clean.1, (line_is (period_words c.period) period_are_clean.1, (line_is (log_words c.log) log_are_clean.1, tt))),
        ),
      ),
    ),
  )

  -- ---- neighbours

  -- at the neighbours
  abbrev at_devices : List (Host × Dev) → List (Dev × ℕ) → ConfigReading
  at_devices seen ports = state (stages.Tail parts.Devices) seen ports [] (opened_program 1) None [] 0

  device_clean : (n : Host × Dev) (p : ℕ) → n.0.0 < 2 ^ 32 → n.1.0 ≤ 8 → p ≤ 65535 → Clean (device_words n p)
  device_clean n p small few low =
      clean_more (codes "dev") (decimal n.1.0 ∷ decimal n.0.0 ∷ decimal p ∷ []) (refl, refl)
      (clean_number n.1.0 (omega (arith, few)) (decimal n.0.0 ∷ decimal p ∷ []) (clean_number n.0.0 (omega (arith, small)) (decimal p ∷ []) (port_clean p [] low (tt, tt))))

  -- what a neighbour keeps behind others
  record Next (seen : List (Host × Dev)) (ports : List (Dev × ℕ)) (n : Host × Dev) (d : Dev × ℕ) : Type 0 where
    small : n.0.0 < 2 ^ 32
    is : IsNeighbour here hosts n
    lower : All (λ m. m.1.0 < n.1.0) seen
    below : All (λ e. e.0.0 < d.0.0) ports
    same : d.0 ≡ n.1
    port : IsPort d.1
    free : is_used (at_devices seen ports) d.1 ≡ false

  device_reads : (seen : List (Host × Dev)) (ports : List (Dev × ℕ)) (n : Host × Dev) (d : Dev × ℕ) → Next seen ports n d
      → device_line (decimal n.1.0 ∷ decimal n.0.0 ∷ decimal d.1 ∷ []) (at_devices seen ports) ≡ Ok (at_devices (seen ++ n ∷ []) (ports ++ d ∷ []))
  unfolding device_line
  device_reads seen ports n d k =
      let behind : placed_items port_device (n.1, d.1) ports ≡ ports ++ d ∷ [] = ap (λ (x : Dev). placed_items port_device (x, d.1) ports) (sym k.same) ∙ placed_last port_device ports d k.below in
      then_ok _ (n, decimal d.1 ∷ []) _ _ (neighbour_reads here hosts seen n (decimal d.1 ∷ []) k.small k.is (free_there seen n k.lower))
      (then_ok _ (d.1, []) _ _ (free_ok (at_devices seen ports) d.1 [] k.port k.free)
      (ap (λ (ns : List (Host × Dev)). Ok (at_devices ns (placed_items port_device (n.1, d.1) ports))) (placed_last device_of seen n k.lower)
      ∙ ap (λ (ds : List (Dev × ℕ)). Ok (at_devices (seen ++ n ∷ []) ds)) behind))

  device_step : (seen : List (Host × Dev)) (ports : List (Dev × ℕ)) (n : Host × Dev) (d : Dev × ℕ) → Next seen ports n d → (number : ℕ)
      → config_format.step number (spaced_words (device_words n d.1)) (at_devices seen ports) ≡ Ok (at_devices (seen ++ n ∷ []) (ports ++ d ∷ []))
  unfolding config_step_at tail_line tail_rest
  device_step seen ports n d k number =
      usual_again number (codes "dev") (decimal n.1.0 ∷ decimal n.0.0 ∷ decimal d.1 ∷ []) (at_devices seen ports) (at_devices (seen ++ n ∷ []) (ports ++ d ∷ [])) (λ ws.
      tail_line parts.Devices number ws (at_devices seen ports)) refl (device_clean n d.1 k.small k.is.device.1 k.port.1) (device_reads seen ports n d k)

  ports_apart : PortsDiffer (map port_of c.devs)
  ports_apart = rules.apart.1.1

  port_is_unused : (seen : List (Host × Dev)) (ports : List (Dev × ℕ)) (d : Dev × ℕ) (ds : List (Dev × ℕ)) → ports ++ d ∷ ds ≡ c.devs → is_used (at_devices seen ports) d.1 ≡ false
  port_is_unused seen ports d ds e =
      let own = All-tail (λ q. q ≢ c.port) c.control (map port_of c.devs) rules.apart.0 in
      let not_own = map_middle (λ q. q ≢ c.port) port_of ports d ds (subst (λ (l : List (Dev × ℕ)). All (λ q. q ≢ c.port) (map port_of l)) (sym e) own) in
      let not_owners = map_middle (λ q. q ≢ c.control) port_of ports d ds (subst (λ (l : List (Dev × ℕ)). All (λ q. q ≢ c.control) (map port_of l)) (sym e) rules.apart.1.0) in
      let fresh = fresh_port ports d ds (subst (λ (l : List (Dev × ℕ)). PortsDiffer (map port_of l)) (sym e) ports_apart) in
      none_is (eqb c.port d.1) (eqb c.control d.1) (has_port d.1 ports) (ne_eqb c.port d.1 (λ h. not_own (sym h))) (ne_eqb c.control d.1 (λ h. not_owners (sym h))) fresh

  neighbours_ports : All IsPort (map port_of c.devs)
  neighbours_ports = All-tail IsPort c.control (map port_of c.devs) (All-tail IsPort c.port (c.control ∷ map port_of c.devs) rules.ports)

  next_is : (seen : List (Host × Dev)) (ports : List (Dev × ℕ)) (n : Host × Dev) (ns : List (Host × Dev)) (d : Dev × ℕ) (ds : List (Dev × ℕ)) → seen ++ n ∷ ns ≡ c.node.neighbours → ports ++ d ∷ ds ≡ c.devs
      → map (λ e. e.0) ports ≡ map (λ m. m.1) seen → d.0 ≡ n.1 → Next seen ports n d
  next_is seen ports n ns d ds all_seen all_ports same_above same =
      let is = all_middle (IsNeighbour here hosts) seen n ns (subst (λ (l : List (Host × Dev)). All (IsNeighbour here hosts) l) (sym all_seen) rules.node.neighbours) in
      let lower = before seen n ns (subst DevicesAscend (sym all_seen) rules.node.devices) in
      record {
        small = hosts_of_neighbours here hosts n is rules.node.numbers;
        is = is;
        lower = lower;
        below = subst (λ (x : Dev). All (λ e. e.0.0 < x.0) ports) (sym same) (low_ports n.1.0 ports seen same_above lower);
        same = same;
        port = map_middle IsPort port_of ports d ds (subst (λ (l : List (Dev × ℕ)). All IsPort (map port_of l)) (sym all_ports) neighbours_ports);
        free = port_is_unused seen ports d ds all_ports;
      }

  both_more : (seen : List (Host × Dev)) (ports : List (Dev × ℕ)) (n : Host × Dev) (d : Dev × ℕ) → map (λ e. e.0) ports ≡ map (λ m. m.1) seen → d.0 ≡ n.1 → map (λ e. e.0) (ports ++ d ∷ []) ≡ map (λ m. m.1) (seen ++ n ∷ [])
  both_more seen ports n d same_above same =
      sym (map-push {X = Dev × ℕ} {Y = Dev} (λ e. e.0) ports d)
      ∙ (ap (λ (l : List Dev). l ++ d.0 ∷ []) same_above ∙ (ap (λ (x : Dev). map (λ m. m.1) seen ++ x ∷ []) same ∙ map-push {X = Host × Dev} {Y = Dev} (λ m. m.1) seen n))

  -- neighbours are read behind others
  devices_lead : (ns : List (Host × Dev)) (ds : List (Dev × ℕ)) (seen : List (Host × Dev)) (ports : List (Dev × ℕ)) → seen ++ ns ≡ c.node.neighbours → ports ++ ds ≡ c.devs
      → map (λ e. e.0) ports ≡ map (λ m. m.1) seen → map (λ e. e.0) ds ≡ map (λ m. m.1) ns
      → Leads config_format (device_lines ns ds) (at_devices seen ports) (at_devices c.node.neighbours c.devs)
  unfolding device_lines
  devices_lead [] [] seen ports all_seen all_ports same_above same =
      subst (λ (l : List (Host × Dev)). Leads config_format [] (at_devices seen ports) (at_devices l c.devs)) (sym (append-nil seen) ∙ all_seen)
      (subst (λ (l : List (Dev × ℕ)). Leads config_format [] (at_devices seen ports) (at_devices seen l)) (sym (append-nil ports) ∙ all_ports) (leads-nil config_format (at_devices seen ports)))
  devices_lead [] (d ∷ ds) seen ports all_seen all_ports same_above same = absurd cc
  devices_lead (n ∷ ns) [] seen ports all_seen all_ports same_above same = absurd cc
  devices_lead (n ∷ ns) (d ∷ ds) seen ports all_seen all_ports same_above same =
      let here_same = same_first d.0 n.1 (map (λ e. e.0) ds) (map (λ m. m.1) ns) same in
      let others = same_others d.0 n.1 (map (λ e. e.0) ds) (map (λ m. m.1) ns) same in
      leads-cons config_format (spaced_words (device_words n d.1)) (device_lines ns ds) (at_devices seen ports) (at_devices (seen ++ n ∷ []) (ports ++ d ∷ [])) (at_devices c.node.neighbours c.devs)
      (device_step seen ports n d (next_is seen ports n ns d ds all_seen all_ports same_above here_same))
      (devices_lead ns ds (seen ++ n ∷ []) (ports ++ d ∷ []) (more_to c.node.neighbours seen n ns all_seen) (more_to c.devs ports d ds all_ports) (both_more seen ports n d same_above here_same) others)

  pub neighbours_lead : Leads config_format (device_lines c.node.neighbours c.devs) (at_devices [] []) (at_devices c.node.neighbours c.devs)
  neighbours_lead = devices_lead c.node.neighbours c.devs [] [] refl refl refl rules.devices

  devices_free : (ns : List (Host × Dev)) (ds : List (Dev × ℕ)) → All (IsNeighbour here hosts) ns → All IsPort (map port_of ds) → Free 10 (device_lines ns ds)
  unfolding device_lines
  devices_free [] ds k p = tt
  devices_free (n ∷ ns) [] k p = tt
  devices_free (n ∷ ns) (d ∷ ds) k p =
      let is = All-head (IsNeighbour here hosts) n ns k in
      let low = All-head IsPort d.1 (map port_of ds) p in (
        line_is (device_words n d.1) (device_clean n d.1 (hosts_of_neighbours here hosts n is rules.node.numbers) is.device.1 low.1).1,
        devices_free ns ds (All-tail (IsNeighbour here hosts) n ns k) (All-tail IsPort d.1 (map port_of ds) p),
      )

  pub neighbours_free : Free 10 (device_lines c.node.neighbours c.devs)
  neighbours_free = devices_free c.node.neighbours c.devs rules.node.neighbours neighbours_ports
