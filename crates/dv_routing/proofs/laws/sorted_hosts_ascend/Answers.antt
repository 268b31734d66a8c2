use Rattle.dv_routing.proofs.Sorting.{sorted_same, sorted_ascends, sorted_length}
use Rattle.dv_routing.proofs.laws.sorted_hosts_ascend.Goals as goal

pub returns : goal.returns
returns c = record { same = sorted_same; ascend = sorted_ascends; count = sorted_length }
