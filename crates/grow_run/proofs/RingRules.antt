-- The ring keeps the rules of a network.
use Rattle.std.proofs.Common.{◌≡◌, ℕ, ◌<◌, true, List, [], ◌∷◌, refl, arith}
use Rattle.std.specs.Prelude.{◌≢◌, All}
use Rattle.std.proofs.lemmas.List.Elements.{All-nil, All-cons}
use Rattle.network_config.specs.declared.schedule.Link.{Link}
use Rattle.network_config.specs.Hosts.{host_of, has_host}
use Rattle.network_config.specs.Rules.{PackagesDiffer, KeepsLink, KeepsNetwork}
use Rattle.network_config.specs.declared.schedule.HostSpec.{HostSpec}
use Rattle.grow_run.specs.Grow.{whole_host, ring_link, ring}

-- the hosts from a number on
abbrev hosts_8 : List HostSpec
hosts_8 = whole_host 8 ∷ []

abbrev hosts_7 : List HostSpec
hosts_7 = whole_host 7 ∷ hosts_8

abbrev hosts_6 : List HostSpec
hosts_6 = whole_host 6 ∷ hosts_7

abbrev hosts_5 : List HostSpec
hosts_5 = whole_host 5 ∷ hosts_6

abbrev hosts_4 : List HostSpec
hosts_4 = whole_host 4 ∷ hosts_5

abbrev hosts_3 : List HostSpec
hosts_3 = whole_host 3 ∷ hosts_4

abbrev hosts_2 : List HostSpec
hosts_2 = whole_host 2 ∷ hosts_3

abbrev hosts_1 : List HostSpec
hosts_1 = whole_host 1 ∷ hosts_2

-- what each of the eight hosts has
each_host : (P : HostSpec → Type 0) → ((n : ℕ) → n < 9 → P (whole_host n)) → All P ring.hosts
each_host P f =
    All-cons P (whole_host 1) hosts_2 (f 1 (omega arith))
    (All-cons P (whole_host 2) hosts_3 (f 2 (omega arith))
    (All-cons P (whole_host 3) hosts_4 (f 3 (omega arith))
    (All-cons P (whole_host 4) hosts_5 (f 4 (omega arith))
    (All-cons P (whole_host 5) hosts_6 (f 5 (omega arith))
    (All-cons P (whole_host 6) hosts_7 (f 6 (omega arith))
    (All-cons P (whole_host 7) hosts_8 (f 7 (omega arith)) (All-cons P (whole_host 8) [] (f 8 (omega arith)) (All-nil P))))))))

link_keeps : (n m : ℕ) → has_host (host_of n) ring.hosts ≡ true → has_host (host_of m) ring.hosts ≡ true → m ≢ n → KeepsLink ring.hosts (ring_link n m)
link_keeps n m a b c = record { from = a; to = b; apart = c; from_device = (omega arith, omega arith); to_device = (omega arith, omega arith) }

abbrev Keeps : Link → Type 0
Keeps l = KeepsLink ring.hosts l

-- the links from a host on
abbrev links_8 : List Link
links_8 = ring_link 8 1 ∷ []

abbrev links_7 : List Link
links_7 = ring_link 7 8 ∷ links_8

abbrev links_6 : List Link
links_6 = ring_link 6 7 ∷ links_7

abbrev links_5 : List Link
links_5 = ring_link 5 6 ∷ links_6

abbrev links_4 : List Link
links_4 = ring_link 4 5 ∷ links_5

abbrev links_3 : List Link
links_3 = ring_link 3 4 ∷ links_4

abbrev links_2 : List Link
links_2 = ring_link 2 3 ∷ links_3

abbrev links_1 : List Link
links_1 = ring_link 1 2 ∷ links_2

links_keep : All Keeps ring.links
links_keep = All-cons Keeps (ring_link 1 2) links_2 (link_keeps 1 2 refl refl (λ e. omega (arith, e)))
    (All-cons Keeps (ring_link 2 3) links_3 (link_keeps 2 3 refl refl (λ e. omega (arith, e)))
    (All-cons Keeps (ring_link 3 4) links_4 (link_keeps 3 4 refl refl (λ e. omega (arith, e)))
    (All-cons Keeps (ring_link 4 5) links_5 (link_keeps 4 5 refl refl (λ e. omega (arith, e)))
    (All-cons Keeps (ring_link 5 6) links_6 (link_keeps 5 6 refl refl (λ e. omega (arith, e)))
    (All-cons Keeps (ring_link 6 7) links_7 (link_keeps 6 7 refl refl (λ e. omega (arith, e)))
    (All-cons Keeps (ring_link 7 8) links_8 (link_keeps 7 8 refl refl (λ e. omega (arith, e)))
    (All-cons Keeps (ring_link 8 1) [] (link_keeps 8 1 refl refl (λ e. omega (arith, e))) (All-nil Keeps))))))))

pub ring_keeps : KeepsNetwork ring
ring_keeps = record {
  few = omega arith;
  hosts = (refl, (refl, (refl, (refl, (refl, (refl, (refl, (refl, tt))))))));
  numbers = each_host (λ s. s.host.0 < 4294967296) (λ n h. omega (arith, h));
  missing = each_host (λ s. PackagesDiffer s.missing) (λ n h. tt);
  links = links_keep;
  apart = (refl, refl, (refl, refl, (refl, refl, (refl, refl, (refl, refl, (refl, refl, (refl, refl, (refl, refl, tt))))))));
}
