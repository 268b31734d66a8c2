-- The network of a schedule is read as it is written.
use Rattle.std.proofs.Common.{◌≡◌, ◌≢◌, ℕ, ◌^◌, ◌<◌, ◌≤◌, false, cond, not, eqb, ◌||◌, List, [], ◌∷◌, ◌++◌, length, map, Ok, refl, sym, ap, subst, ◌∙◌, arith, append-nil, append_assoc, length-append}
use Rattle.std.specs.List.{All, list_any}
use Rattle.std.specs.Fmt.{decimal}
use lib.Chars.{codes}
use Rattle.std.proofs.lemmas.Bool.{ne_eqb}
use Rattle.std.proofs.lemmas.List.Folds.{list_any-append}
use Rattle.std.proofs.lemmas.List.Elements.{All-head, All-tail}
use Rattle.plan_base.specs.declared.ids.Host.{Host}
use Rattle.plan_base.specs.declared.ids.Dev.{Dev}
use Rattle.service_api.specs.declared.package.PackageName.{PackageName}
use Rattle.service_api.specs.declared.package.PackageName.TheVariants as packages
use Rattle.network_config.specs.declared.schedule.HostSpec.{HostSpec}
use Rattle.network_config.specs.declared.schedule.Link.{Link}
use Rattle.network_config.specs.Hosts.{has_host, ends_at, has_link}
use Rattle.network_config.specs.Rules.{HostsDiffer, PackagesDiffer, LinksApart, KeepsLink}
use Rattle.line_reader.specs.declared.fault.LineReason.TheVariants.{TwiceNamed, TooMany, BadArgument}
use Rattle.line_reader.specs.Lines.{words, spaced_words}
use Rattle.line_reader.specs.Reads.{◌>>=◌, allowed_or_reason}
use Rattle.line_reader.specs.Files.{is_skipped, at_line}
use Rattle.line_reader.specs.Packages.{same_package, package_at, one_package, packages_at}
use Rattle.schedule_text.specs.declared.reading.Reading.{Reading}
use Rattle.schedule_text.specs.declared.reading.Stage.{Stage}
use Rattle.schedule_text.specs.declared.reading.Stage.TheVariants as stages
use Rattle.schedule_text.specs.declared.reading.ScheduleFile.{ScheduleFile}
use Rattle.schedule_text.specs.Schedules.{host_line, link_line, network_rest, network_line, step, file_after, schedule_format}
use Rattle.line_reader.proofs.Keeping.{either_false}
use Rattle.line_reader.proofs.NetworkRules.{equality_swaps, ends_apart}
use Rattle.schedule_text.specs.Written.{package_word, lacking_words, host_words, link_words}
use Rattle.schedule_text.proofs.WordLaws.{Free, words_are, number_free}
use Rattle.schedule_text.proofs.ReadSteps.{then_ok, not_ok, below_ok, number_ok, host_ok, free_device_ok, Leads, leads-nil, leads-cons}

abbrev pub file_at : Stage → Reading → ScheduleFile
file_at stage s = record { stage = stage; reading = s }

-- a line of the network that says something
pub network_step_ok : (w : List ℕ) (ws : List (List ℕ)) (s t : Reading) (stage : Stage) (number : ℕ) → Free 32 (w ∷ ws) → is_skipped (spaced_words (w ∷ ws)) ≡ false
    → network_line number (w ∷ ws) s ≡ Ok (stage, t) → schedule_format.step number (spaced_words (w ∷ ws)) (file_at stages.Network s) ≡ Ok (file_at stage t)
unfolding step
network_step_ok w ws s t stage number free some said =
    ap (λ b. file_after (cond b (Ok (stages.Network, s)) (at_line number (network_line number (words (spaced_words (w ∷ ws))) s)))) some
    ∙ (ap (λ v. file_after (at_line number (network_line number v s))) (words_are w ws free) ∙ ap (λ r. file_after (at_line number r)) said)

-- ---- packages

-- a fact about a whole list holds of an item in its middle
pub all_middle : {X : Type 0} (P : X → Type 0) (xs : List X) (y : X) (ys : List X) → All P (xs ++ y ∷ ys) → P y
all_middle P [] y ys h = All-head P y ys h
all_middle P (x ∷ xs) y ys h = all_middle P xs y ys (All-tail P x (xs ++ y ∷ ys) h)

differs : (p q : PackageName) → p ≢ q → same_package p q ≡ false
differs packages.Net packages.Net h = absurd (h refl)
differs packages.Net packages.Resident h = refl
differs packages.Net packages.Host h = refl
differs packages.Resident packages.Net h = refl
differs packages.Resident packages.Resident h = absurd (h refl)
differs packages.Resident packages.Host h = refl
differs packages.Host packages.Net h = refl
differs packages.Host packages.Resident h = refl
differs packages.Host packages.Host h = absurd (h refl)

-- a package that differs from all before it wasn't seen
pub fresh_package : (seen : List PackageName) (p : PackageName) (ps : List PackageName) → PackagesDiffer (seen ++ p ∷ ps) → list_any (same_package p) seen ≡ false
fresh_package [] p ps d = refl
fresh_package (q ∷ qs) p ps d = rw (differs p q (all_middle (λ x. x ≢ q) qs p ps d.0), fresh_package qs p ps d.1) refl

one_package_ok : (seen : List PackageName) (p : PackageName) (ws : List (List ℕ)) → list_any (same_package p) seen ≡ false
    → one_package seen (codes "without" ∷ package_word p ∷ ws) ≡ Ok (seen ++ p ∷ [], ws)
unfolding one_package package_at
one_package_ok seen packages.Net ws new = ap (λ t. allowed_or_reason (not t) TwiceNamed >>= λ _. Ok (seen ++ packages.Net ∷ [], ws)) new
one_package_ok seen packages.Resident ws new = ap (λ t. allowed_or_reason (not t) TwiceNamed >>= λ _. Ok (seen ++ packages.Resident ∷ [], ws)) new
one_package_ok seen packages.Host ws new = ap (λ t. allowed_or_reason (not t) TwiceNamed >>= λ _. Ok (seen ++ packages.Host ∷ [], ws)) new

packages_ok : (seen ps : List PackageName) → PackagesDiffer (seen ++ ps) → packages_at seen (lacking_words ps) ≡ Ok (seen ++ ps)
unfolding packages_at lacking_words
packages_ok seen [] d = ap (λ z. Ok z) (sym (append-nil seen))
packages_ok seen (p ∷ ps) d =
    let e : (seen ++ p ∷ []) ++ ps ≡ seen ++ p ∷ ps = append_assoc seen (p ∷ []) ps in
    then_ok (one_package seen (codes "without" ∷ package_word p ∷ lacking_words ps)) (seen ++ p ∷ [], lacking_words ps) _ _ (one_package_ok seen p (lacking_words ps) (fresh_package seen p ps d))
    (packages_ok (seen ++ p ∷ []) ps (subst PackagesDiffer (sym e) d) ∙ ap (λ z. Ok z) e)

lacking_words_free : (ps : List PackageName) → Free 32 (lacking_words ps) × Free 10 (lacking_words ps)
unfolding lacking_words
lacking_words_free [] = (tt, tt)
lacking_words_free (packages.Net ∷ ps) = let k = lacking_words_free ps in ((refl, (refl, k.0)), (refl, (refl, k.1)))
lacking_words_free (packages.Resident ∷ ps) = let k = lacking_words_free ps in ((refl, (refl, k.0)), (refl, (refl, k.1)))
lacking_words_free (packages.Host ∷ ps) = let k = lacking_words_free ps in ((refl, (refl, k.0)), (refl, (refl, k.1)))

-- ---- hosts

abbrev IsNumbered : HostSpec → Type 0
IsNumbered h = h.host.0 < 2 ^ 32

abbrev LacksEach : HostSpec → Type 0
LacksEach h = PackagesDiffer h.missing

-- neither a space nor a line feed is in the words of a host
pub host_words_free : (h : HostSpec) → IsNumbered h → Free 32 (host_words h) × Free 10 (host_words h)
host_words_free h small =
    let n = number_free h.host.0 (omega (arith, small)) in
    let k = lacking_words_free h.missing in
    ((refl, (n.0, k.0)), (refl, (n.1, k.1)))

host_line_ok : (h : HostSpec) (s : Reading) → length s.hosts < 32 → IsNumbered h → has_host h.host s.hosts ≡ false → LacksEach h
    → host_line (decimal h.host.0 ∷ lacking_words h.missing) s ≡ Ok (record s { hosts = s.hosts ++ h ∷ [] })
unfolding host_line
host_line_ok h s room small new lacks =
    then_ok _ tt _ _ (below_ok (length s.hosts) 32 TooMany room)
    (then_ok _ (h.host.0, lacking_words h.missing) _ _ (number_ok 0 4294967295 h.host.0 (lacking_words h.missing) (omega (arith, small)) (omega arith) (omega (arith, small)))
    (then_ok _ tt _ _ (not_ok (has_host h.host s.hosts) TwiceNamed new)
    (then_ok _ h.missing _ _ (packages_ok [] h.missing lacks) refl)))

host_said : (h : HostSpec) (s t : Reading) (number : ℕ) → host_line (decimal h.host.0 ∷ lacking_words h.missing) s ≡ Ok t → network_line number (host_words h) s ≡ Ok (stages.Network, t)
unfolding network_line network_rest
host_said h s t number e = then_ok (host_line (decimal h.host.0 ∷ lacking_words h.missing) s) t _ _ e refl

fresh_host : (seen : List HostSpec) (h : HostSpec) (rest : List HostSpec) → HostsDiffer (seen ++ h ∷ rest) → has_host h.host seen ≡ false
fresh_host [] h rest d = refl
fresh_host (g ∷ gs) h rest d =
    let e : (has_host g.host gs || has_host g.host (h ∷ rest)) ≡ false = sym (list_any-append (λ x. eqb x.host.0 g.host.0) gs (h ∷ rest)) ∙ d.0 in
    let k = either_false (eqb h.host.0 g.host.0) (has_host g.host rest) (either_false (has_host g.host gs) (has_host g.host (h ∷ rest)) e).1 in
    rw (equality_swaps h.host.0 g.host.0 false k.0, fresh_host gs h rest d.1) refl

abbrev with_hosts : Reading → List HostSpec → Reading
with_hosts s hosts = record s { hosts = hosts }

-- hosts are read behind others
pub hosts_read : (rest seen : List HostSpec) (s : Reading) → length (seen ++ rest) ≤ 32 → HostsDiffer (seen ++ rest) → All IsNumbered rest → All LacksEach rest
    → Leads (map (λ h. spaced_words (host_words h)) rest) (file_at stages.Network (with_hosts s seen)) (file_at stages.Network (with_hosts s (seen ++ rest)))
hosts_read [] seen s few differ small lacks = subst (λ hs. Leads [] (file_at stages.Network (with_hosts s seen)) (file_at stages.Network (with_hosts s hs))) (sym (append-nil seen)) (leads-nil (file_at stages.Network (with_hosts s seen)))
hosts_read (h ∷ rest) seen s few differ small lacks =
    let e : (seen ++ h ∷ []) ++ rest ≡ seen ++ h ∷ rest = append_assoc seen (h ∷ []) rest in
    let room : length seen < 32 = omega (arith, few, length-append seen (h ∷ rest)) in
    let one = host_line_ok h (with_hosts s seen) room (All-head IsNumbered h rest small) (fresh_host seen h rest differ) (All-head LacksEach h rest lacks) in
    let last = subst (λ hs. Leads (map (λ g. spaced_words (host_words g)) rest) (file_at stages.Network (with_hosts s (seen ++ h ∷ []))) (file_at stages.Network (with_hosts s hs))) e
    (hosts_read rest (seen ++ h ∷ []) s (subst (λ hs. length hs ≤ 32) (sym e) few) (subst HostsDiffer (sym e) differ) (All-tail IsNumbered h rest small) (All-tail LacksEach h rest lacks)) in
    leads-cons (spaced_words (host_words h)) (map (λ g. spaced_words (host_words g)) rest) (file_at stages.Network (with_hosts s seen)) (file_at stages.Network (with_hosts s (seen ++ h ∷ [])))
    (file_at stages.Network (with_hosts s (seen ++ h ∷ rest)))
    (λ number. network_step_ok (codes "host") _ (with_hosts s seen) (with_hosts s (seen ++ h ∷ [])) stages.Network number (host_words_free h (All-head IsNumbered h rest small)).0 refl (host_said h (with_hosts s seen) _ number one)) last

-- ---- links

abbrev IsSmallLink : Link → Type 0
IsSmallLink l = (l.from.0 < 2 ^ 32) × (l.to.0 < 2 ^ 32)

pub link_words_free : (hosts : List HostSpec) (l : Link) → KeepsLink hosts l → IsSmallLink l → Free 32 (link_words l) × Free 10 (link_words l)
link_words_free hosts l k small =
    let n = number_free l.from.0 (omega (arith, small.0)) in
    let d = number_free l.from_dev.0 (omega (arith, k.from_device.1)) in
    let m = number_free l.to.0 (omega (arith, small.1)) in
    let e = number_free l.to_dev.0 (omega (arith, k.to_device.1)) in
    ((refl, (n.0, (d.0, (m.0, (e.0, tt))))), (refl, (n.1, (d.1, (m.1, (e.1, tt))))))

link_line_ok : (l : Link) (s : Reading) → KeepsLink s.hosts l → IsSmallLink l → has_link l.from l.from_dev s.links ≡ false → has_link l.to l.to_dev s.links ≡ false
    → link_line (decimal l.from.0 ∷ decimal l.from_dev.0 ∷ decimal l.to.0 ∷ decimal l.to_dev.0 ∷ []) s ≡ Ok (record s { links = s.links ++ l ∷ [] })
unfolding link_line
link_line_ok l s k small from to =
    then_ok _ (l.from, decimal l.from_dev.0 ∷ decimal l.to.0 ∷ decimal l.to_dev.0 ∷ []) _ _ (host_ok s.hosts l.from _ small.0 k.from)
    (then_ok _ (l.from_dev, decimal l.to.0 ∷ decimal l.to_dev.0 ∷ []) _ _ (free_device_ok s.links l.from l.from_dev _ k.from_device.0 k.from_device.1 from)
    (then_ok _ (l.to, decimal l.to_dev.0 ∷ []) _ _ (host_ok s.hosts l.to _ small.1 k.to)
    (then_ok _ tt _ _ (not_ok (eqb l.to.0 l.from.0) BadArgument (ne_eqb l.to.0 l.from.0 k.apart))
    (then_ok _ (l.to_dev, []) _ _ (free_device_ok s.links l.to l.to_dev _ k.to_device.0 k.to_device.1 to) refl))))

link_said : (l : Link) (s t : Reading) (number : ℕ) → link_line (decimal l.from.0 ∷ decimal l.from_dev.0 ∷ decimal l.to.0 ∷ decimal l.to_dev.0 ∷ []) s ≡ Ok t → network_line number (link_words l) s ≡ Ok (stages.Network, t)
unfolding network_line network_rest
link_said l s t number e = then_ok (link_line (decimal l.from.0 ∷ decimal l.from_dev.0 ∷ decimal l.to.0 ∷ decimal l.to_dev.0 ∷ []) s) t _ _ e refl

end_of : (h : Host) (d : Dev) (ms : List Link) (l : Link) (rest : List Link) → has_link h d (ms ++ l ∷ rest) ≡ false → ends_at h d l ≡ false
end_of h d ms l rest e =
    let k : (has_link h d ms || has_link h d (l ∷ rest)) ≡ false = sym (list_any-append (ends_at h d) ms (l ∷ rest)) ∙ e in
    (either_false (ends_at h d l) (has_link h d rest) (either_false (has_link h d ms) (has_link h d (l ∷ rest)) k).1).0

fresh_link : (seen : List Link) (l : Link) (rest : List Link) → LinksApart (seen ++ l ∷ rest) → (has_link l.from l.from_dev seen ≡ false) × (has_link l.to l.to_dev seen ≡ false)
fresh_link [] l rest a = (refl, refl)
fresh_link (m ∷ ms) l rest a =
    let ends = ends_apart l m (end_of m.from m.from_dev ms l rest a.0) (end_of m.to m.to_dev ms l rest a.1) in
    let more = fresh_link ms l rest a.2 in
    (rw (ends.0, more.0) refl, rw (ends.1, more.1) refl)

abbrev with_links : Reading → List Link → Reading
with_links s links = record s { links = links }

-- links are read behind others
pub links_read : (rest seen : List Link) (s : Reading) → LinksApart (seen ++ rest) → All (KeepsLink s.hosts) rest → All IsSmallLink rest
    → Leads (map (λ l. spaced_words (link_words l)) rest) (file_at stages.Network (with_links s seen)) (file_at stages.Network (with_links s (seen ++ rest)))
links_read [] seen s apart keeps small = subst (λ ls. Leads [] (file_at stages.Network (with_links s seen)) (file_at stages.Network (with_links s ls))) (sym (append-nil seen)) (leads-nil (file_at stages.Network (with_links s seen)))
links_read (l ∷ rest) seen s apart keeps small =
    let e : (seen ++ l ∷ []) ++ rest ≡ seen ++ l ∷ rest = append_assoc seen (l ∷ []) rest in
    let k = All-head (KeepsLink s.hosts) l rest keeps in
    let n = All-head IsSmallLink l rest small in
    let free = fresh_link seen l rest apart in
    let one = link_line_ok l (with_links s seen) k n free.0 free.1 in
    let last = subst (λ ls. Leads (map (λ m. spaced_words (link_words m)) rest) (file_at stages.Network (with_links s (seen ++ l ∷ []))) (file_at stages.Network (with_links s ls))) e
    (links_read rest (seen ++ l ∷ []) s (subst LinksApart (sym e) apart) (All-tail (KeepsLink s.hosts) l rest keeps) (All-tail IsSmallLink l rest small)) in
    leads-cons (spaced_words (link_words l)) (map (λ m. spaced_words (link_words m)) rest) (file_at stages.Network (with_links s seen)) (file_at stages.Network (with_links s (seen ++ l ∷ [])))
    (file_at stages.Network (with_links s (seen ++ l ∷ rest)))
    (λ number. network_step_ok (codes "link") _ (with_links s seen) (with_links s (seen ++ l ∷ [])) stages.Network number (link_words_free s.hosts l k n).0 refl (link_said l (with_links s seen) _ number one)) last
