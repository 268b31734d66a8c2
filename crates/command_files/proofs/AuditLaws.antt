-- What a file of an audit names keeps its rules, and each file has one answer.
use Rattle.std.proofs.Common.{◌≡◌, ◌⊎◌, ℕ, ◌≤◌, ◌<◌, ◌^◌, Bool, true, false, not, eqb, ltb, List, [], ◌∷◌, ◌++◌, length, Result, refl, sym, arith, length-append}
use Rattle.std.specs.Prelude.{IfOk}
use Rattle.std.specs.List.{All}
use Rattle.std.specs.Option.{ok_or}
use Rattle.std.specs.Str.{bytes_eq}
use Rattle.std.proofs.lemmas.Bool.{eqb-false, ltb-true}
use Rattle.std.proofs.lemmas.Slice.Eq.{bytes_eq-Decides}
use Rattle.std.proofs.lemmas.List.Elements.{All-nil, All-push}
use Rattle.std.proofs.lemmas.List.Folds.{list_any-append}
use lib.Chars.{codes}
use Rattle.plan_base.specs.declared.ids.Host.{Host}
use Rattle.plan_base.specs.declared.ids.Dev.{Dev}
use Rattle.network_config.specs.declared.schedule.Link.{Link}
use Rattle.network_config.specs.Hosts.{host_of, dev_of, has_link}
use Rattle.network_config.specs.FileNames.{is_file_name}
use Rattle.network_config.specs.Rules.{IsLinkDevice, LinksApart}
use Rattle.line_reader.specs.declared.fault.LineReason.TheVariants.{BadHeader, BadWord, BadArgument, TwiceNamed, TooMany}
use Rattle.line_reader.specs.declared.fault.LineFault.{LineFault}
use Rattle.line_reader.specs.Lines.{lines}
use Rattle.line_reader.specs.Reads.{word_at, end_at, allowed_or_reason, FileGives}
use Rattle.line_reader.specs.Numbers.{number_at}
use Rattle.line_reader.specs.FileNames.{file_name_at}
use Rattle.line_reader.proofs.FileLaws.{is_keeping}
use Rattle.line_reader.proofs.Keeping.{IfRead, then_keeps, done_keeps, allowed_below, allowed_not, either_false, number_is, file_name_is, IfStep, step_done, read_keeps}
use Rattle.line_reader.proofs.Placing.{fault_done, fault_here, Places, refuses_read}
use Rattle.line_reader.specs.Inside.{OnFault, RefusesRead}
use Rattle.line_reader.proofs.NetworkRules.{apart_push}
use Rattle.node_files.specs.Answers.{Accepted, Refused}
use Rattle.node_files.proofs.PartLaws.{header_keeps, usual_keeps, header_placed, usual_placed, value_or_refusal}
use Rattle.command_files.specs.declared.audit.AuditFile.{AuditFile}
use Rattle.command_files.specs.declared.audit.AuditWord.{AuditWord}
use Rattle.command_files.specs.declared.audit.AuditWord.TheVariants as word
use Rattle.command_files.specs.declared.audit.AuditReading.{AuditReading}
use Rattle.command_files.specs.AuditRules.{is_named, NamesDiffer, JoinsHosts, KeepsAudit}
use Rattle.command_files.specs.AuditFiles.{audit_word, log_line, host_end, device_end, link_line, audit_rest, audit_line, audit_step_at, audit_end, audit_format, nothing_read, audit_of}

-- ---- names

same_bytes : (a b : List ℕ) (t : Bool) → bytes_eq a b ≡ t → bytes_eq b a ≡ t
same_bytes a b true e = (bytes_eq-Decides b a).1 (sym ((bytes_eq-Decides a b).0 e))
same_bytes a b false e = by (bytes_eq b a) refl
  where
    by : (t : Bool) → bytes_eq b a ≡ t → bytes_eq b a ≡ false
    by true q = absurd (let r = (bytes_eq-Decides a b).1 (sym ((bytes_eq-Decides b a).0 q)) in cc)
    by false q = q

-- a new name differs from those before it
differ_push : (names : List (List ℕ)) (file : List ℕ) → NamesDiffer names → is_named file names ≡ false → NamesDiffer (names ++ file ∷ [])
differ_push [] file d e = (refl, tt)
differ_push (n ∷ names) file d e =
    let f = either_false (bytes_eq n file) (is_named file names) e in
    let new : is_named n (names ++ file ∷ []) ≡ false = rw (list_any-append (λ m. bytes_eq m n) names (file ∷ []), d.0, same_bytes n file false f.0) refl in
    (new, differ_push names file d.1 f.1)

-- ---- the rules

record Keeps (s : AuditReading) : Type 0 where
  few : length s.logs ≤ 16
  names : All (λ n. is_file_name n ≡ true) s.logs
  differ : NamesDiffer s.logs
  links : All JoinsHosts s.links
  apart : LinksApart s.links

log_keeps : (ws : List (List ℕ)) (s : AuditReading) → Keeps s → IfRead Keeps (log_line ws s)
unfolding log_line
log_keeps ws s k =
    then_keeps Keeps (allowed_or_reason (ltb (length s.logs) 16) TooMany) _ (λ u hu.
    then_keeps Keeps (file_name_at ws) _ (λ file hf.
    then_keeps Keeps (allowed_or_reason (not (is_named file.0 s.logs)) TwiceNamed) _ (λ v hv.
    then_keeps Keeps (end_at file.1) _ (λ w hw.
    done_keeps Keeps _ (record {
      few = omega (arith, length-append s.logs (file.0 ∷ []), allowed_below (length s.logs) 16 TooMany u hu);
      names = All-push (λ n. is_file_name n ≡ true) s.logs file.0 k.names (file_name_is ws file hf);
      differ = differ_push s.logs file.0 k.differ (allowed_not (is_named file.0 s.logs) TwiceNamed v hv);
      links = k.links;
      apart = k.apart;
    })))))

abbrev IsHost : Host × List (List ℕ) → Type 0
IsHost x = x.0.0 < 2 ^ 32

host_is : (ws : List (List ℕ)) → IfRead IsHost (host_end ws)
unfolding host_end
host_is ws =
    then_keeps IsHost (number_at 0 4294967295 ws) _ (λ n hn.
    done_keeps IsHost (host_of n.0, n.1) (omega (arith, (number_is 0 4294967295 ws n hn).1)))

abbrev IsFree : List Link → Host → Dev × List (List ℕ) → Type 0
IsFree links h x = IsLinkDevice x.0 × (has_link h x.0 links ≡ false)

device_is : (links : List Link) (h : Host) (ws : List (List ℕ)) → IfRead (IsFree links h) (device_end links h ws)
unfolding device_end
device_is links h ws =
    then_keeps (IsFree links h) (number_at 1 8 ws) _ (λ d hd.
    then_keeps (IsFree links h) (allowed_or_reason (not (has_link h (dev_of d.0) links)) TwiceNamed) _ (λ u hu.
    done_keeps (IsFree links h) (dev_of d.0, d.1) (number_is 1 8 ws d hd, allowed_not (has_link h (dev_of d.0) links) TwiceNamed u hu)))

link_keeps : (ws : List (List ℕ)) (s : AuditReading) → Keeps s → IfRead Keeps (link_line ws s)
unfolding link_line
link_keeps ws s k =
    then_keeps Keeps (host_end ws) _ (λ n hn.
    then_keeps Keeps (device_end s.links n.0 n.1) _ (λ d hd.
    then_keeps Keeps (host_end d.1) _ (λ m hm.
    then_keeps Keeps (allowed_or_reason (not (eqb m.0.0 n.0.0)) BadArgument) _ (λ u apart.
    then_keeps Keeps (device_end s.links m.0 m.1) _ (λ e he.
    then_keeps Keeps (end_at e.1) _ (λ v hv.
    done_keeps Keeps (record s { links = s.links ++ (record { from = n.0; from_dev = d.0; to = m.0; to_dev = e.0 }) ∷ [] }) (record {
      few = k.few;
      names = k.names;
      differ = k.differ;
      links = All-push JoinsHosts s.links (record { from = n.0; from_dev = d.0; to = m.0; to_dev = e.0 }) k.links (record {
        from = host_is ws n hn;
        to = host_is d.1 m hm;
        apart = eqb-false m.0.0 n.0.0 (allowed_not (eqb m.0.0 n.0.0) BadArgument u apart);
        from_device = (device_is s.links n.0 n.1 d hd).0;
        to_device = (device_is s.links m.0 m.1 e he).0;
      });
      apart = apart_push s.links (record { from = n.0; from_dev = d.0; to = m.0; to_dev = e.0 }) k.apart (device_is s.links n.0 n.1 d hd).1 (device_is s.links m.0 m.1 e he).1;
    })))))))

rest_keeps : (w : AuditWord) (ws : List (List ℕ)) (s : AuditReading) → Keeps s → IfRead Keeps (audit_rest w ws s)
unfolding audit_rest
rest_keeps word.Log ws s k = log_keeps ws s k
rest_keeps word.Link ws s k = link_keeps ws s k

line_keeps : (ws : List (List ℕ)) (s : AuditReading) → Keeps s → IfRead Keeps (audit_line ws s)
unfolding audit_line
line_keeps ws s k =
    then_keeps Keeps (word_at ws) _ (λ w hw.
    then_keeps Keeps (ok_or (audit_word w.0) BadWord) _ (λ kind hk.
    rest_keeps kind w.1 s k))

begun_keeps : (s : AuditReading) → Keeps s → Keeps (record s { begun = true })
begun_keeps s k = record { few = k.few; names = k.names; differ = k.differ; links = k.links; apart = k.apart }

step_keeps : (begun : Bool) (number : ℕ) (line : List ℕ) (s : AuditReading) → Keeps s → IfStep Keeps (audit_step_at begun number line s)
unfolding audit_step_at
step_keeps false number line s k = header_keeps Keeps (codes "planet audit 1") number line (record s { begun = true }) (begun_keeps s k)
step_keeps true number line s k = usual_keeps Keeps number line s (λ ws. audit_line ws s) k (λ ws. line_keeps ws s k)

end_keeps : (begun some : Bool) (number : ℕ) (s : AuditReading) → ltb 0 (length s.logs) ≡ some → Keeps s → IfStep KeepsAudit (audit_end begun some number s)
end_keeps false some number s h k y e = absurd cc
end_keeps true false number s h k y e = absurd cc
end_keeps true true number s h k y e =
    step_done KeepsAudit (record { logs = s.logs; links = s.links })
    (record { some = omega (arith, ltb-true 0 (length s.logs) h); few = k.few; names = k.names; differ = k.differ; links = k.links; apart = k.apart }) y e

audit_keeps : (bytes : List ℕ) → IfStep KeepsAudit (audit_of bytes)
audit_keeps bytes =
    read_keeps audit_format Keeps KeepsAudit
    (λ number line s k. step_keeps s.begun number line s k)
    (λ number s k. end_keeps s.begun (ltb 0 (length s.logs)) number s refl k)
    (lines bytes) 1 nothing_read
    (record { few = omega arith; names = All-nil (λ n. is_file_name n ≡ true); differ = tt; links = All-nil JoinsHosts; apart = tt })

pub audit_rules : (bytes : List ℕ) (r : Result AuditFile LineFault) → FileGives (λ s. s) r (audit_of bytes) → IfOk r KeepsAudit
audit_rules bytes r h = is_keeping KeepsAudit r (audit_of bytes) h (audit_keeps bytes)

-- ---- where refusals stand

abbrev Anywhere : ℕ → AuditReading → Type 0
Anywhere number s = Unit {0}

step_placed : (begun : Bool) (number : ℕ) (line : List ℕ) (s : AuditReading) → 1 ≤ number → OnFault number (audit_step_at begun number line s)
unfolding audit_step_at
step_placed false number line s low = header_placed (codes "planet audit 1") number line (record s { begun = true }) low
step_placed true number line s low = usual_placed number line s (λ ws. audit_line ws s) low

end_placed : (begun some : Bool) (number : ℕ) (s : AuditReading) → 1 ≤ number → OnFault number (audit_end begun some number s)
end_placed false some number s low = fault_here {B = AuditFile} number number BadHeader low (omega arith)
end_placed true false number s low = fault_here {B = AuditFile} number number BadWord low (omega arith)
end_placed true true number s low = fault_done number (record { logs = s.logs; links = s.links })

audit_places : Places audit_format Anywhere
audit_places = record {
  later = λ number s b. tt;
  kept = λ number line s low b t e. tt;
  step = λ number line s low b. step_placed s.begun number line s low;
  finish = λ number s low b. end_placed s.begun (ltb 0 (length s.logs)) number s low;
}

-- they refuse lines that were read
audit_refuses : RefusesRead audit_format nothing_read
audit_refuses = refuses_read audit_format nothing_read Anywhere audit_places tt

pub audit_answered : (bytes : List ℕ) → Accepted audit_of bytes ⊎ Refused audit_of bytes
audit_answered bytes = value_or_refusal audit_format nothing_read audit_refuses bytes
