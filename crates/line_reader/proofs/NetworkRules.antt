-- Hosts that differ and links that end apart, where one more of them comes.
use Rattle.std.proofs.Common.{◌≡◌, ℕ, Bool, true, false, eqb, ◌&&◌, List, [], ◌∷◌, ◌++◌, refl, sym}
use Rattle.std.proofs.lemmas.Bool.{eqb-true, eqb-false, eq-eqb, ne_eqb}
use Rattle.std.proofs.lemmas.List.Folds.{list_any-append}
use Rattle.plan_base.specs.declared.ids.Host.{Host}
use Rattle.plan_base.specs.declared.ids.Dev.{Dev}
use Rattle.plan_base.specs.declared.stamp.Version.{Version}
use Rattle.network_config.specs.declared.schedule.HostSpec.{HostSpec}
use Rattle.network_config.specs.declared.event.WorldEvent.{WorldEvent}
use Rattle.network_config.specs.declared.event.WorldEvent.TheVariants as happens
use Rattle.network_config.specs.declared.schedule.Link.{Link}
use Rattle.network_config.specs.Hosts.{has_host, ends_at, has_link}
use Rattle.line_reader.proofs.Keeping.{either_false}
use Rattle.network_config.specs.Rules.{HostsDiffer, LinksApart, KeepsLink, KeepsEvent}

pub equality_swaps : (a b : ℕ) (t : Bool) → eqb a b ≡ t → eqb b a ≡ t
equality_swaps a b true e = eq-eqb b a (sym (eqb-true a b e))
equality_swaps a b false e = ne_eqb b a (λ q. eqb-false a b e (sym q))

swap_is : (a b : ℕ) → eqb b a ≡ eqb a b
swap_is a b = equality_swaps a b (eqb a b) refl

-- ---- hosts

host_stays : (hosts : List HostSpec) (h : HostSpec) (n : Host) → has_host n hosts ≡ true → has_host n (hosts ++ h ∷ []) ≡ true
host_stays hosts h n e = rw (list_any-append (λ g. eqb g.host.0 n.0) hosts (h ∷ []), e) refl

-- a new host differs from those before it
pub differ_push : (hosts : List HostSpec) (x : HostSpec) → HostsDiffer hosts → has_host x.host hosts ≡ false → HostsDiffer (hosts ++ x ∷ [])
differ_push [] x d e = (refl, tt)
differ_push (h ∷ hosts) x d e =
    let f = either_false (eqb h.host.0 x.host.0) (has_host x.host hosts) e in
    let new : has_host h.host (hosts ++ x ∷ []) ≡ false = rw (list_any-append (λ g. eqb g.host.0 h.host.0) hosts (x ∷ []), d.0, equality_swaps h.host.0 x.host.0 false f.0) refl in
    (new, differ_push hosts x d.1 f.1)

-- what keeps the rules keeps them where there is one host more
pub link_stays : (hosts : List HostSpec) (h : HostSpec) (l : Link) → KeepsLink hosts l → KeepsLink (hosts ++ h ∷ []) l
link_stays hosts h l k = record {
  from = host_stays hosts h l.from k.from;
  to = host_stays hosts h l.to k.to;
  apart = k.apart;
  from_device = k.from_device;
  to_device = k.to_device;
}

pub event_stays : (version : Version) (hosts : List HostSpec) (h : HostSpec) (e : WorldEvent) → KeepsEvent version hosts e → KeepsEvent version (hosts ++ h ∷ []) e
event_stays version hosts h (happens.Inject at chunk bound handler) k = (host_stays hosts h at k.0, k.1)
event_stays version hosts h (happens.Send at d) k = (host_stays hosts h at k.0, k.1)
event_stays version hosts h (happens.Deliver n) k = k
event_stays version hosts h (happens.Repeat n) k = k
event_stays version hosts h (happens.Lose n) k = k
event_stays version hosts h (happens.Tick at) k = host_stays hosts h at k
event_stays version hosts h (happens.Raw at d bytes) k = (host_stays hosts h at k.0, k.1, k.2)

-- ---- links

pair_swap : (a b c d : ℕ) → (eqb a c && eqb b d) ≡ false → (eqb c a && eqb d b) ≡ false
pair_swap a b c d e = rw (swap_is a c, swap_is b d) e

pub ends_apart : (l x : Link) → ends_at x.from x.from_dev l ≡ false → ends_at x.to x.to_dev l ≡ false → (ends_at l.from l.from_dev x ≡ false) × (ends_at l.to l.to_dev x ≡ false)
ends_apart l x e f =
    let e0 = either_false (eqb l.from.0 x.from.0 && eqb l.from_dev.0 x.from_dev.0) (eqb l.to.0 x.from.0 && eqb l.to_dev.0 x.from_dev.0) e in
    let f0 = either_false (eqb l.from.0 x.to.0 && eqb l.from_dev.0 x.to_dev.0) (eqb l.to.0 x.to.0 && eqb l.to_dev.0 x.to_dev.0) f in (
      rw (pair_swap l.from.0 l.from_dev.0 x.from.0 x.from_dev.0 e0.0, pair_swap l.from.0 l.from_dev.0 x.to.0 x.to_dev.0 f0.0) refl,
      rw (pair_swap l.to.0 l.to_dev.0 x.from.0 x.from_dev.0 e0.1, pair_swap l.to.0 l.to_dev.0 x.to.0 x.to_dev.0 f0.1) refl,
    )

used_push : (links : List Link) (x : Link) (h : Host) (d : Dev) → has_link h d links ≡ false → ends_at h d x ≡ false → has_link h d (links ++ x ∷ []) ≡ false
used_push links x h d e f = rw (list_any-append (ends_at h d) links (x ∷ []), e, f) refl

-- a new link between free devices ends apart from those before it
pub apart_push : (links : List Link) (x : Link) → LinksApart links → has_link x.from x.from_dev links ≡ false → has_link x.to x.to_dev links ≡ false → LinksApart (links ++ x ∷ [])
apart_push [] x a e f = (refl, refl, tt)
apart_push (l ∷ links) x a e f =
    let e0 = either_false (ends_at x.from x.from_dev l) (has_link x.from x.from_dev links) e in
    let f0 = either_false (ends_at x.to x.to_dev l) (has_link x.to x.to_dev links) f in
    let ends = ends_apart l x e0.0 f0.0 in
    (used_push links x l.from l.from_dev a.0 ends.0, used_push links x l.to l.to_dev a.1 ends.1, apart_push links x a.2 e0.1 f0.1)
