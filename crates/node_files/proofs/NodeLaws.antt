-- What the lines that configurations and logs share keep.
use Rattle.std.proofs.Common.{◌≡◌, ℕ, false, not, eqb, List}
use Rattle.std.proofs.lemmas.Bool.{eqb-false}
use lib.Chars.{codes}
use Rattle.plan_base.specs.declared.ids.Host.{Host}
use Rattle.plan_base.specs.declared.ids.Dev.{Dev}
use Rattle.network_config.specs.Hosts.{host_of, dev_of, is_listed}
use Rattle.network_config.specs.NodeRules.{IsNeighbour}
use Rattle.line_reader.specs.declared.fault.LineReason.TheVariants.{UnknownHost, TwiceNamed, BadArgument}
use Rattle.line_reader.specs.Reads.{allowed_or_reason}
use Rattle.line_reader.specs.Numbers.{number_at}
use Rattle.line_reader.proofs.Keeping.{IfRead, then_keeps, done_keeps, allowed_true, allowed_not, number_is, AreHosts, hosts_with_is}
use Rattle.node_files.specs.Parts.{behind_word}
use Rattle.node_files.specs.Nodes.{hosts_line, has_device, neighbour_at}

pub hosts_line_is : (here : Host) (ws : List (List ℕ)) → IfRead (AreHosts here) (hosts_line here ws)
unfolding hosts_line
hosts_line_is here ws =
    then_keeps (AreHosts here) (behind_word (codes "hosts") ws) _ (λ more hm.
    hosts_with_is here more)

-- another host of the network over a device that leads to none of these
pub record IsNew (here : Host) (hosts : List Host) (seen : List (Host × Dev)) (n : Host × Dev) : Type 0 where
  pub neighbour : IsNeighbour here hosts n
  pub free : has_device n.1.0 seen ≡ false

abbrev pub NewFront : Host → List Host → List (Host × Dev) → (Host × Dev) × List (List ℕ) → Type 0
NewFront here hosts seen x = IsNew here hosts seen x.0

pub neighbour_is : (here : Host) (hosts : List Host) (seen : List (Host × Dev)) (ws : List (List ℕ)) → IfRead (NewFront here hosts seen) (neighbour_at here hosts seen ws)
unfolding neighbour_at
neighbour_is here hosts seen ws =
    then_keeps (NewFront here hosts seen) (number_at 1 8 ws) _ (λ d hd.
    then_keeps (NewFront here hosts seen) (allowed_or_reason (not (has_device d.0 seen)) TwiceNamed) _ (λ u hu.
    then_keeps (NewFront here hosts seen) (number_at 0 4294967295 d.1) _ (λ h hh.
    then_keeps (NewFront here hosts seen) (allowed_or_reason (is_listed (host_of h.0) hosts) UnknownHost) _ (λ v hv.
    then_keeps (NewFront here hosts seen) (allowed_or_reason (not (eqb h.0 here.0)) BadArgument) _ (λ w hw.
    done_keeps (NewFront here hosts seen) ((host_of h.0, dev_of d.0), h.1) (record {
      neighbour = record {
        listed = allowed_true (is_listed (host_of h.0) hosts) UnknownHost v hv;
        apart = eqb-false h.0 here.0 (allowed_not (eqb h.0 here.0) BadArgument w hw);
        device = number_is 1 8 ws d hd;
      };
      free = allowed_not (has_device d.0 seen) TwiceNamed u hu;
    }))))))
