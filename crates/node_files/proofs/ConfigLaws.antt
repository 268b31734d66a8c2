-- A configuration that a file says keeps its rules, and each file has one answer.
use Rattle.std.proofs.Common.{◌≡◌, ◌≢◌, ◌⊎◌, ℕ, ◌+◌, ◌≤◌, true, false, not, eqb, ◌||◌, List, [], ◌∷◌, ◌++◌, map, Option, Some, Result, refl, sym, subst, arith}
use Rattle.std.specs.Prelude.{IfOk}
use Rattle.std.specs.List.{All, list_any}
use Rattle.std.specs.Option.{ok_or}
use Rattle.std.specs.Str.{bytes_eq}
use lib.Chars.{codes}
use Rattle.std.proofs.lemmas.Bool.{eqb-false}
use Rattle.std.proofs.lemmas.List.Elements.{All-nil, All-cons, All-head, All-tail, All-push}
use Rattle.plan_base.specs.declared.ids.Host.{Host}
use Rattle.plan_base.specs.declared.ids.Dev.{Dev}
use Rattle.plan_base.specs.declared.tree.Program.{Program}
use Rattle.plan_base.specs.Sizes.{chunk_weight}
use Rattle.checked_chunks.specs.Kept.{IsChecked}
use Rattle.service_api.specs.declared.package.PackageName.{PackageName}
use Rattle.plan_base.specs.declared.stamp.Version.{Version}
use Rattle.plan_base.specs.declared.stamp.Version.TheVariants.{One, Two}
use Rattle.network_config.specs.declared.serve.Inject.{Inject as Injection}
use Rattle.network_config.specs.declared.serve.ServeConfig.{ServeConfig}
use Rattle.network_config.specs.FileNames.{is_file_name}
use Rattle.network_config.specs.Rules.{PackagesDiffer}
use Rattle.network_config.specs.NodeRules.{IsNeighbour, DevicesAscend, IsPort, PortsDiffer, KeepsBoot, KeepsInject, weights, KeepsServe}
use Rattle.line_reader.specs.declared.fault.LineReason.TheVariants.{BadHeader, BadWord, UnknownProgram, TwiceNamed}
use Rattle.line_reader.specs.declared.fault.LineFault.{LineFault}
use Rattle.line_reader.specs.Lines.{lines}
use Rattle.line_reader.specs.Reads.{word_at, end_at, allowed_or_reason, FileGives}
use Rattle.line_reader.specs.Numbers.{number_at}
use Rattle.line_reader.specs.Packages.{package_at}
use Rattle.line_reader.specs.FileNames.{file_name_at}
use Rattle.line_reader.specs.Headers.{version_in}
use Rattle.line_reader.specs.Programs.{opened_program, with_line, program_in, weighed_sum}
use Rattle.line_reader.specs.Injections.{injection_at}
use Rattle.line_reader.specs.Inside.{OnFault, RefusesRead}
use Rattle.line_reader.proofs.FileLaws.{is_keeping}
use Rattle.line_reader.proofs.Keeping.{IfRead, InRange, then_keeps, done_keeps, allowed_not, ok_or_is, number_is, file_name_is, package_is, either_false, AreHosts, IfStep, step_done, at_line_keeps, either_keeps, version_keeps, read_keeps}
use Rattle.line_reader.proofs.KeptPrograms.{program_is, weighed_is}
use Rattle.line_reader.proofs.KeptInjections.{injection_is}
use Rattle.line_reader.proofs.Placing.{fault_done, fault_here, at_line_placed, either_placed, version_placed, Places, refuses_read}
use Rattle.node_files.specs.declared.config.HeadWord.{HeadWord}
use Rattle.node_files.specs.declared.config.HeadWord.TheVariants as head
use Rattle.node_files.specs.declared.config.TailWord.{TailWord}
use Rattle.node_files.specs.declared.config.TailWord.TheVariants as tail
use Rattle.node_files.specs.declared.config.TailPart.{TailPart}
use Rattle.node_files.specs.declared.config.TailPart.TheVariants as parts
use Rattle.node_files.specs.declared.config.ConfigStage.{ConfigStage}
use Rattle.node_files.specs.declared.config.ConfigStage.TheVariants as stages
use Rattle.node_files.specs.declared.config.ConfigReading.{ConfigReading}
use Rattle.node_files.specs.Parts.{behind_word, last_number}
use Rattle.node_files.specs.Nodes.{host_line, hosts_line, neighbour_at, placed_items, device_of, port_device}
use Rattle.node_files.specs.Configs.{port_line, is_used, free_port, control_line, period_line, log_line, wanted_line, tail_word, may_come, with_device, device_line, missing_line, program_line}
use Rattle.node_files.specs.Configs.{inject_line, tail_rest, tail_line, close_program, begun_by, config_step_at, config_said, config_end, config_format, nothing_read, config_of}
use Rattle.node_files.specs.Answers.{Accepted, Refused}
use Rattle.node_files.proofs.PartLaws.{HasChecked, last_number_is, link_small, usual_keeps, usual_placed, value_or_refusal}
use Rattle.node_files.proofs.Placed.{all_placed, same_devices, ascend_placed, all_ports, ports_differ}
use Rattle.node_files.proofs.NodeLaws.{hosts_line_is, neighbour_is, IsNew}

-- ---- what the lines so far keep

-- packages, the program and what is injected
record KeepsTail (version : Version) (lacks : List PackageName) (program : Option Program) (at : List Injection) (weight : ℕ) : Type 0 where
  missing : PackagesDiffer lacks
  checked : HasChecked program
  injects : All (KeepsInject version) at
  sum : weight ≡ weights at
  few : weight ≤ 16777216

abbrev Tail : ConfigReading → Type 0
Tail s = KeepsTail s.version s.missing s.checked s.at s.weight

abbrev ports_of : ℕ → ℕ → List (Dev × ℕ) → List ℕ
ports_of port control devs = port ∷ control ∷ map (λ d. d.1) devs

-- neighbours with their ports
record KeepsDevices (here : Host) (hosts : List Host) (port control : ℕ) (ns : List (Host × Dev)) (devs : List (Dev × ℕ)) : Type 0 where
  neighbours : All (IsNeighbour here hosts) ns
  ascend : DevicesAscend ns
  same : map (λ d. d.0) devs ≡ map (λ n. n.1) ns
  ports : All IsPort (ports_of port control devs)
  apart : PortsDiffer (ports_of port control devs)

abbrev Devices : ConfigReading → Type 0
Devices s = KeepsDevices s.here s.hosts s.port s.control s.neighbours s.devs

-- no neighbour yet
abbrev Fresh : ConfigReading → Type 0
Fresh s = (s.neighbours ≡ []) × (s.devs ≡ []) × Tail s

abbrev Ports : ConfigReading → Type 0
Ports s = IsPort s.port × IsPort s.control × (s.control ≢ s.port)

abbrev Whole : ConfigReading → Type 0
Whole s = AreHosts s.here s.hosts × Devices s × Tail s × InRange 1 60000 s.period × (is_file_name s.log ≡ true)

abbrev KeptAt : ConfigStage → ConfigReading → Type 0
KeptAt stages.Header s = Fresh s × (s.at ≡ [])
KeptAt (stages.Wants head.Host) s = Fresh s
KeptAt (stages.Wants head.Hosts) s = Fresh s
KeptAt (stages.Wants head.Port) s = Fresh s × AreHosts s.here s.hosts
KeptAt (stages.Wants head.Control) s = Fresh s × AreHosts s.here s.hosts × IsPort s.port
KeptAt (stages.Wants head.Period) s = Fresh s × AreHosts s.here s.hosts × Ports s
KeptAt (stages.Wants head.Log) s = Fresh s × AreHosts s.here s.hosts × Ports s × InRange 1 60000 s.period
KeptAt (stages.Tail part) s = Whole s
KeptAt stages.Inside s = Whole s

abbrev Kept : ConfigReading → Type 0
Kept s = KeptAt s.stage s

-- ---- ports

none_used : (p : ℕ) (devs : List (Dev × ℕ)) → list_any (λ d. eqb d.1 p) devs ≡ false → All (λ q. q ≢ p) (map (λ d. d.1) devs)
none_used p [] e = All-nil (λ q. q ≢ p)
none_used p (d ∷ ds) e =
    let n = either_false (eqb d.1 p) (list_any (λ d. eqb d.1 p) ds) e in
    All-cons (λ q. q ≢ p) d.1 (map (λ d. d.1) ds) (eqb-false d.1 p n.0) (none_used p ds n.1)

-- a port that none of those read so far is
record IsFree (s : ConfigReading) (p : ℕ) : Type 0 where
  port : IsPort p
  other : s.port ≢ p
  owner : s.control ≢ p
  devs : All (λ q. q ≢ p) (map (λ d. d.1) s.devs)

abbrev FreeFront : ConfigReading → ℕ × List (List ℕ) → Type 0
FreeFront s x = IsFree s x.0

free_is : (s : ConfigReading) (p : ℕ) → IsPort p → is_used s p ≡ false → IsFree s p
free_is s p port e =
    let a = either_false (eqb s.port p || eqb s.control p) (list_any (λ d. eqb d.1 p) s.devs) e in
    let b = either_false (eqb s.port p) (eqb s.control p) a.0 in
    record { port = port; other = eqb-false s.port p b.0; owner = eqb-false s.control p b.1; devs = none_used p s.devs a.1 }

free_port_is : (s : ConfigReading) (ws : List (List ℕ)) → IfRead (FreeFront s) (free_port s ws)
unfolding free_port
free_port_is s ws =
    then_keeps (FreeFront s) (number_at 1 65535 ws) _ (λ p hp.
    then_keeps (FreeFront s) (allowed_or_reason (not (is_used s p.0)) TwiceNamed) _ (λ u hu.
    done_keeps (FreeFront s) p (free_is s p.0 (number_is 1 65535 ws p hp) (allowed_not (is_used s p.0) TwiceNamed u hu))))

-- ---- the lines up to the name of the log

port_keeps : (ws : List (List ℕ)) (s : ConfigReading) → KeptAt (stages.Wants head.Port) s → IfRead Kept (port_line ws s)
unfolding port_line
port_keeps ws s k =
    then_keeps Kept (behind_word (codes "port") ws) _ (λ more hm.
    then_keeps Kept (last_number 1 65535 more) _ (λ p hp.
    done_keeps Kept (record s { stage = stages.Wants head.Control; port = p }) (k.0, k.1, last_number_is 1 65535 more p hp)))

control_keeps : (ws : List (List ℕ)) (s : ConfigReading) → KeptAt (stages.Wants head.Control) s → IfRead Kept (control_line ws s)
unfolding control_line
control_keeps ws s k =
    then_keeps Kept (behind_word (codes "control") ws) _ (λ more hm.
    then_keeps Kept (free_port s more) _ (λ p hp.
    then_keeps Kept (end_at p.1) _ (λ u hu.
    let f = free_port_is s more p hp in
    done_keeps Kept (record s { stage = stages.Wants head.Period; control = p.0 }) (k.0, k.1, (k.2, f.port, λ e. f.other (sym e))))))

period_keeps : (ws : List (List ℕ)) (s : ConfigReading) → KeptAt (stages.Wants head.Period) s → IfRead Kept (period_line ws s)
unfolding period_line
period_keeps ws s k =
    then_keeps Kept (behind_word (codes "period") ws) _ (λ more hm.
    then_keeps Kept (last_number 1 60000 more) _ (λ n hn.
    done_keeps Kept (record s { stage = stages.Wants head.Log; period = n }) (k.0, k.1, k.2, last_number_is 1 60000 more n hn)))

no_devices : (here : Host) (hosts : List Host) (port control : ℕ) (ns : List (Host × Dev)) (ds : List (Dev × ℕ)) → ns ≡ [] → ds ≡ [] → IsPort port → IsPort control → control ≢ port → KeepsDevices here hosts port control ns ds
no_devices here hosts port control [] [] en ed p c apart = record {
  neighbours = All-nil (IsNeighbour here hosts);
  ascend = tt;
  same = refl;
  ports = All-cons IsPort port (control ∷ []) p (All-cons IsPort control [] c (All-nil IsPort));
  apart = (All-cons (λ q. q ≢ port) control [] apart (All-nil (λ q. q ≢ port)), (All-nil (λ q. q ≢ control), tt));
}
no_devices here hosts port control (n ∷ ns) ds en ed p c apart = absurd cc
no_devices here hosts port control [] (d ∷ ds) en ed p c apart = absurd cc

log_keeps : (ws : List (List ℕ)) (s : ConfigReading) → KeptAt (stages.Wants head.Log) s → IfRead Kept (log_line ws s)
unfolding log_line
log_keeps ws s k =
    then_keeps Kept (behind_word (codes "log") ws) _ (λ more hm.
    then_keeps Kept (file_name_at more) _ (λ file hf.
    then_keeps Kept (end_at file.1) _ (λ u hu.
    let p = k.2 in
    done_keeps Kept (record s { stage = stages.Tail parts.Devices; log = file.0 })
    (k.1, no_devices s.here s.hosts s.port s.control s.neighbours s.devs k.0.0 k.0.1 p.0 p.1 p.2, k.0.2, k.3, file_name_is more file hf))))

wanted_keeps : (w : HeadWord) (ws : List (List ℕ)) (s : ConfigReading) → KeptAt (stages.Wants w) s → IfRead Kept (wanted_line w ws s)
unfolding wanted_line
wanted_keeps head.Host ws s k = then_keeps Kept (host_line ws) _ (λ here hh. done_keeps Kept (record s { stage = stages.Wants head.Hosts; here = here }) k)
wanted_keeps head.Hosts ws s k = then_keeps Kept (hosts_line s.here ws) _ (λ hosts hh. done_keeps Kept (record s { stage = stages.Wants head.Port; hosts = hosts }) (k, hosts_line_is s.here ws hosts hh))
wanted_keeps head.Port ws s k = port_keeps ws s k
wanted_keeps head.Control ws s k = control_keeps ws s k
wanted_keeps head.Period ws s k = period_keeps ws s k
wanted_keeps head.Log ws s k = log_keeps ws s k

-- ---- the lines behind it

more_devices : (s : ConfigReading) (n : Host × Dev) (p : ℕ) → Devices s → IsNew s.here s.hosts s.neighbours n → IsFree s p
    → KeepsDevices s.here s.hosts s.port s.control (placed_items device_of n s.neighbours) (placed_items port_device (n.1, p) s.devs)
more_devices s n p k new free =
    let P = λ (d : Dev × ℕ). d.1 in
    let more = All-tail IsPort s.port (s.control ∷ map P s.devs) k.ports in
    record {
      neighbours = all_placed (IsNeighbour s.here s.hosts) device_of n s.neighbours new.neighbour k.neighbours;
      ascend = ascend_placed n s.neighbours new.free k.ascend;
      same = same_devices n p s.neighbours s.devs k.same;
      ports = All-cons IsPort s.port (s.control ∷ map P (placed_items port_device (n.1, p) s.devs)) (All-head IsPort s.port (s.control ∷ map P s.devs) k.ports)
          (All-cons IsPort s.control (map P (placed_items port_device (n.1, p) s.devs)) (All-head IsPort s.control (map P s.devs) more)
          (all_ports IsPort P port_device (n.1, p) s.devs free.port (All-tail IsPort s.control (map P s.devs) more)));
      apart = (
        All-cons (λ q. q ≢ s.port) s.control (map P (placed_items port_device (n.1, p) s.devs)) (All-head (λ q. q ≢ s.port) s.control (map P s.devs) k.apart.0)
            (all_ports (λ q. q ≢ s.port) P port_device (n.1, p) s.devs (λ e. free.other (sym e)) (All-tail (λ q. q ≢ s.port) s.control (map P s.devs) k.apart.0)),
        (
          all_ports (λ q. q ≢ s.control) P port_device (n.1, p) s.devs (λ e. free.owner (sym e)) k.apart.1.0,
          ports_differ P port_device (n.1, p) s.devs free.devs k.apart.1.1,
        ),
      );
    }

-- a stage behind the name of the log
abbrev IsLate : ConfigStage → Type 0
IsLate stages.Header = ⊥
IsLate (stages.Wants w) = ⊥
IsLate (stages.Tail part) = Unit {0}
IsLate stages.Inside = Unit {0}

late_is : (stage : ConfigStage) (s : ConfigReading) → IsLate stage → Whole s → KeptAt stage s
late_is stages.Header s l k = absurd l
late_is (stages.Wants w) s l k = absurd l
late_is (stages.Tail part) s l k = k
late_is stages.Inside s l k = k

device_keeps : (ws : List (List ℕ)) (s : ConfigReading) → IsLate s.stage → Whole s → IfRead Kept (device_line ws s)
unfolding device_line
device_keeps ws s l k =
    then_keeps Kept (neighbour_at s.here s.hosts s.neighbours ws) _ (λ n hn.
    then_keeps Kept (free_port s n.1) _ (λ p hp.
    then_keeps Kept (end_at p.1) _ (λ u hu.
    done_keeps Kept (with_device s n.0 p.0) (late_is s.stage (with_device s n.0 p.0) l
    (k.0, more_devices s n.0 p.0 k.1 (neighbour_is s.here s.hosts s.neighbours ws n hn) (free_port_is s n.1 p hp), k.2, k.3, k.4)))))

missing_keeps : (ws : List (List ℕ)) (s : ConfigReading) → Whole s → IfRead Kept (missing_line ws s)
unfolding missing_line
missing_keeps ws s k =
    then_keeps Kept (package_at s.missing ws) _ (λ missing hm.
    then_keeps Kept (end_at missing.1) _ (λ u hu.
    let t = k.2 in
    done_keeps Kept (record s { stage = stages.Tail parts.Missing; missing = missing.0 })
    (k.0, k.1, record { missing = package_is s.missing ws t.missing missing hm; checked = t.checked; injects = t.injects; sum = t.sum; few = t.few }, k.3, k.4)))

program_keeps : (number : ℕ) (ws : List (List ℕ)) (s : ConfigReading) → Whole s → IfRead Kept (program_line number ws s)
unfolding program_line
program_keeps number ws s k =
    then_keeps Kept (end_at ws) _ (λ u hu.
    done_keeps Kept (record s { stage = stages.Inside; program = opened_program number }) k)

weights_push : (is : List Injection) (i : Injection) → weights (is ++ i ∷ []) ≡ weights is + (1 + chunk_weight i.chunk)
weights_push [] i = omega arith
weights_push (j ∷ js) i = omega (arith, weights_push js i)

checked_is : (o : Option Program) (p : Program) → HasChecked o → o ≡ Some p → IsChecked p
checked_is o p h e = subst HasChecked e h

inject_keeps : (ws : List (List ℕ)) (s : ConfigReading) → IsLate s.stage → Whole s → IfRead Kept (inject_line ws s)
unfolding inject_line
inject_keeps ws s l k =
    then_keeps Kept (ok_or s.checked UnknownProgram) _ (λ program hp.
    then_keeps Kept (number_at 1 1000000 ws) _ (λ turn ht.
    then_keeps Kept (behind_word (codes "inject") turn.1) _ (λ more hm.
    then_keeps Kept (injection_at s.version program more) _ (λ i hi.
    then_keeps Kept (weighed_sum s.weight i.0) _ (λ total hw.
    let t = k.2 in
    let turns = number_is 1 1000000 ws turn ht in
    let in_all = weighed_is s.weight i.0 total hw in
    let program_is_checked = checked_is s.checked program t.checked (ok_or_is s.checked UnknownProgram program hp) in
    let next : ConfigReading = record s { at = s.at ++ (record { turn = turn.0; bound = i.1; chunk = i.0; handler = i.2 }) ∷ []; weight = total } in
    done_keeps Kept next (late_is s.stage next l (
      k.0,
      k.1,
      record {
        missing = t.missing;
        checked = t.checked;
        injects = All-push (KeepsInject s.version) s.at (record { turn = turn.0; bound = i.1; chunk = i.0; handler = i.2 }) t.injects (turns.0, turns.1, injection_is s.version program more program_is_checked i hi);
        sum = omega (arith, in_all.0, t.sum, weights_push s.at (record { turn = turn.0; bound = i.1; chunk = i.0; handler = i.2 }));
        few = in_all.1;
      },
      k.3,
      k.4,
    )))))))

rest_keeps : (w : TailWord) (number : ℕ) (ws : List (List ℕ)) (s : ConfigReading) → IsLate s.stage → Whole s → IfRead Kept (tail_rest w number ws s)
unfolding tail_rest
rest_keeps tail.Dev number ws s l k = device_keeps ws s l k
rest_keeps tail.Without number ws s l k = missing_keeps ws s k
rest_keeps tail.Program number ws s l k = program_keeps number ws s k
rest_keeps tail.At number ws s l k = inject_keeps ws s l k

tail_keeps : (part : TailPart) (number : ℕ) (ws : List (List ℕ)) (s : ConfigReading) → IsLate s.stage → Whole s → IfRead Kept (tail_line part number ws s)
unfolding tail_line
tail_keeps part number ws s l k =
    then_keeps Kept (word_at ws) _ (λ w hw.
    then_keeps Kept (ok_or (tail_word w.0) BadWord) _ (λ kind hk.
    then_keeps Kept (allowed_or_reason (may_come part kind) BadWord) _ (λ u hu.
    rest_keeps kind number w.1 s l k)))

close_keeps : (s : ConfigReading) → Whole s → IfRead Kept (close_program s)
unfolding close_program
close_keeps s k =
    then_keeps Kept (program_in s.program.text) _ (λ p hp.
    let t = k.2 in
    done_keeps Kept (record s { stage = stages.Tail parts.Behind; checked = Some p })
    (k.0, k.1, record { missing = t.missing; checked = program_is s.program.text p hp; injects = t.injects; sum = t.sum; few = t.few }, k.3, k.4))

-- behind the header nothing is injected yet
as_version : (version : Version) (s : ConfigReading) → KeptAt stages.Header s → Kept (begun_by s version)
as_version version s k =
    let t = k.0.2 in (
      k.0.0,
      k.0.1,
      record {
        missing = t.missing;
        checked = t.checked;
        injects = subst (λ at. All (KeepsInject version) at) (sym k.1) (All-nil (KeepsInject version));
        sum = t.sum;
        few = t.few;
      },
    )

step_keeps : (stage : ConfigStage) (number : ℕ) (line : List ℕ) (s : ConfigReading) → s.stage ≡ stage → Kept s → IfStep Kept (config_step_at stage number line s)
unfolding config_step_at
step_keeps stages.Header number line s e k =
    let here : KeptAt stages.Header s = subst (λ t. KeptAt t s) e k in
    version_keeps Kept number (begun_by s) (version_in (codes "planet node ") line) (λ version. as_version version s here)
step_keeps (stages.Wants w) number line s e k = usual_keeps Kept number line s (λ ws. wanted_line w ws s) k (λ ws. wanted_keeps w ws s (subst (λ t. KeptAt t s) e k))
step_keeps (stages.Tail part) number line s e k =
    let here : Whole s = subst (λ t. KeptAt t s) e k in
    usual_keeps Kept number line s (λ ws. tail_line part number ws s) k (λ ws. tail_keeps part number ws s (subst IsLate (sym e) tt) here)
step_keeps stages.Inside number line s e k =
    let here : Whole s = subst (λ t. KeptAt t s) e k in
    let next : ConfigReading = record s { program = with_line s.program line } in
    either_keeps Kept (bytes_eq line (codes "end program")) _ _
    (at_line_keeps Kept s.program.line (close_program s) (close_keeps s here))
    (step_done Kept next (late_is s.stage next (subst IsLate (sym e) tt) here))

no_boot : (version : Version) → KeepsBoot version 0
no_boot One = refl
no_boot Two = omega arith

said_keeps : (s : ConfigReading) → Whole s → KeepsServe (config_said s)
said_keeps s k =
    let h = k.0 in
    let d = k.1 in
    let t = k.2 in
    record {
      node = record { few = h.rises.few; ascend = h.rises.ascend; numbers = h.rises.numbers; here = h.listed; neighbours = d.neighbours; devices = d.ascend; serial = omega arith; boot = no_boot s.version; link = link_small s.version };
      serial = refl;
      link = refl;
      missing = t.missing;
      period = k.3;
      log = k.4;
      devices = d.same;
      ports = d.ports;
      apart = d.apart;
      injects = t.injects;
      weight = omega (arith, t.sum, t.few);
    }

end_keeps : (stage : ConfigStage) (number : ℕ) (s : ConfigReading) → s.stage ≡ stage → Kept s → IfStep KeepsServe (config_end stage number s)
end_keeps stages.Header number s e k y h = absurd cc
end_keeps (stages.Wants w) number s e k y h = absurd cc
end_keeps (stages.Tail part) number s e k y h = step_done KeepsServe (config_said s) (said_keeps s (subst (λ t. KeptAt t s) e k)) y h
end_keeps stages.Inside number s e k y h = absurd cc

nothing_keeps : Kept nothing_read
nothing_keeps = ((refl, refl, record { missing = tt; checked = tt; injects = All-nil (KeepsInject One); sum = refl; few = omega arith }), refl)

config_keeps : (bytes : List ℕ) → IfStep KeepsServe (config_of bytes)
config_keeps bytes =
    read_keeps config_format Kept KeepsServe
    (λ number line s k. step_keeps s.stage number line s refl k)
    (λ number s k. end_keeps s.stage number s refl k)
    (lines bytes) 1 nothing_read nothing_keeps

pub config_rules : (bytes : List ℕ) (r : Result ServeConfig LineFault) → FileGives (λ s. s) r (config_of bytes) → IfOk r KeepsServe
config_rules bytes r h = is_keeping KeepsServe r (config_of bytes) h (config_keeps bytes)

-- ---- where refusals stand

abbrev Begun : ℕ → ConfigReading → Type 0
Begun number s = (1 ≤ s.program.line) × (s.program.line ≤ number)

host_begun : (number : ℕ) (ws : List (List ℕ)) (s : ConfigReading) → Begun number s → (w : HeadWord) → IfRead (Begun number) (wanted_line w ws s)
unfolding wanted_line port_line control_line period_line log_line
host_begun number ws s b head.Host = then_keeps (Begun number) (host_line ws) _ (λ here hh. done_keeps (Begun number) (record s { stage = stages.Wants head.Hosts; here = here }) b)
host_begun number ws s b head.Hosts = then_keeps (Begun number) (hosts_line s.here ws) _ (λ hosts hh. done_keeps (Begun number) (record s { stage = stages.Wants head.Port; hosts = hosts }) b)
host_begun number ws s b head.Port =
    then_keeps (Begun number) (behind_word (codes "port") ws) _ (λ more hm.
    then_keeps (Begun number) (last_number 1 65535 more) _ (λ p hp.
    done_keeps (Begun number) (record s { stage = stages.Wants head.Control; port = p }) b))
host_begun number ws s b head.Control =
    then_keeps (Begun number) (behind_word (codes "control") ws) _ (λ more hm.
    then_keeps (Begun number) (free_port s more) _ (λ p hp.
    then_keeps (Begun number) (end_at p.1) _ (λ u hu.
    done_keeps (Begun number) (record s { stage = stages.Wants head.Period; control = p.0 }) b)))
host_begun number ws s b head.Period =
    then_keeps (Begun number) (behind_word (codes "period") ws) _ (λ more hm.
    then_keeps (Begun number) (last_number 1 60000 more) _ (λ n hn.
    done_keeps (Begun number) (record s { stage = stages.Wants head.Log; period = n }) b))
host_begun number ws s b head.Log =
    then_keeps (Begun number) (behind_word (codes "log") ws) _ (λ more hm.
    then_keeps (Begun number) (file_name_at more) _ (λ file hf.
    then_keeps (Begun number) (end_at file.1) _ (λ u hu.
    done_keeps (Begun number) (record s { stage = stages.Tail parts.Devices; log = file.0 }) b)))

rest_begun : (number : ℕ) (ws : List (List ℕ)) (s : ConfigReading) → 1 ≤ number → Begun number s → (w : TailWord) → IfRead (Begun number) (tail_rest w number ws s)
unfolding tail_rest device_line missing_line program_line inject_line
rest_begun number ws s low b tail.Dev =
    then_keeps (Begun number) (neighbour_at s.here s.hosts s.neighbours ws) _ (λ n hn.
    then_keeps (Begun number) (free_port s n.1) _ (λ p hp.
    then_keeps (Begun number) (end_at p.1) _ (λ u hu.
    done_keeps (Begun number) (with_device s n.0 p.0) b)))
rest_begun number ws s low b tail.Without =
    then_keeps (Begun number) (package_at s.missing ws) _ (λ missing hm.
    then_keeps (Begun number) (end_at missing.1) _ (λ u hu.
    done_keeps (Begun number) (record s { stage = stages.Tail parts.Missing; missing = missing.0 }) b))
rest_begun number ws s low b tail.Program =
    then_keeps (Begun number) (end_at ws) _ (λ u hu.
    done_keeps (Begun number) (record s { stage = stages.Inside; program = opened_program number }) (low, omega arith))
rest_begun number ws s low b tail.At =
    then_keeps (Begun number) (ok_or s.checked UnknownProgram) _ (λ program hp.
    then_keeps (Begun number) (number_at 1 1000000 ws) _ (λ turn ht.
    then_keeps (Begun number) (behind_word (codes "inject") turn.1) _ (λ more hm.
    then_keeps (Begun number) (injection_at s.version program more) _ (λ i hi.
    then_keeps (Begun number) (weighed_sum s.weight i.0) _ (λ total hw.
    done_keeps (Begun number) (record s { at = s.at ++ (record { turn = turn.0; bound = i.1; chunk = i.0; handler = i.2 }) ∷ []; weight = total }) b)))))

tail_begun : (part : TailPart) (number : ℕ) (ws : List (List ℕ)) (s : ConfigReading) → 1 ≤ number → Begun number s → IfRead (Begun number) (tail_line part number ws s)
unfolding tail_line
tail_begun part number ws s low b =
    then_keeps (Begun number) (word_at ws) _ (λ w hw.
    then_keeps (Begun number) (ok_or (tail_word w.0) BadWord) _ (λ kind hk.
    then_keeps (Begun number) (allowed_or_reason (may_come part kind) BadWord) _ (λ u hu.
    rest_begun number w.1 s low b kind)))

close_begun : (number : ℕ) (s : ConfigReading) → Begun number s → IfRead (Begun number) (close_program s)
unfolding close_program
close_begun number s b =
    then_keeps (Begun number) (program_in s.program.text) _ (λ p hp.
    done_keeps (Begun number) (record s { stage = stages.Tail parts.Behind; checked = Some p }) b)

step_begun : (stage : ConfigStage) (number : ℕ) (line : List ℕ) (s : ConfigReading) → 1 ≤ number → Begun number s → IfStep (Begun number) (config_step_at stage number line s)
unfolding config_step_at
step_begun stages.Header number line s low b = version_keeps (Begun number) number (begun_by s) (version_in (codes "planet node ") line) (λ version. b)
step_begun (stages.Wants w) number line s low b = usual_keeps (Begun number) number line s (λ ws. wanted_line w ws s) b (λ ws. host_begun number ws s b w)
step_begun (stages.Tail part) number line s low b = usual_keeps (Begun number) number line s (λ ws. tail_line part number ws s) b (λ ws. tail_begun part number ws s low b)
step_begun stages.Inside number line s low b =
    either_keeps (Begun number) (bytes_eq line (codes "end program")) _ _
    (at_line_keeps (Begun number) s.program.line (close_program s) (close_begun number s b))
    (step_done (Begun number) (record s { program = with_line s.program line }) b)

step_placed : (stage : ConfigStage) (number : ℕ) (line : List ℕ) (s : ConfigReading) → 1 ≤ number → Begun number s → OnFault number (config_step_at stage number line s)
unfolding config_step_at
step_placed stages.Header number line s low b = version_placed number (begun_by s) (version_in (codes "planet node ") line) low
step_placed (stages.Wants w) number line s low b = usual_placed number line s (λ ws. wanted_line w ws s) low
step_placed (stages.Tail part) number line s low b = usual_placed number line s (λ ws. tail_line part number ws s) low
step_placed stages.Inside number line s low b =
    either_placed number (bytes_eq line (codes "end program")) _ _
    (at_line_placed number s.program.line (close_program s) b.0 b.1)
    (fault_done number (record s { program = with_line s.program line }))

end_placed : (stage : ConfigStage) (number : ℕ) (s : ConfigReading) → 1 ≤ number → OnFault number (config_end stage number s)
end_placed stages.Header number s low = fault_here {B = ServeConfig} number number BadHeader low (omega arith)
end_placed (stages.Wants w) number s low = fault_here {B = ServeConfig} number number BadWord low (omega arith)
end_placed (stages.Tail part) number s low = fault_done number (config_said s)
end_placed stages.Inside number s low = fault_here {B = ServeConfig} number number BadWord low (omega arith)

config_places : Places config_format Begun
config_places = record {
  later = λ number s b. (b.0, omega (arith, b.1));
  kept = λ number line s low b. step_begun s.stage number line s low b;
  step = λ number line s low b. step_placed s.stage number line s low b;
  finish = λ number s low b. end_placed s.stage number s low;
}

-- configurations refuse lines that were read
pub config_refuses : RefusesRead config_format nothing_read
config_refuses = refuses_read config_format nothing_read Begun config_places (omega arith, omega arith)

pub config_answered : (bytes : List ℕ) → Accepted config_of bytes ⊎ Refused config_of bytes
config_answered bytes = value_or_refusal config_format nothing_read config_refuses bytes
