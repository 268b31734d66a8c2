use Rattle.std.proofs.Common.{◌≡◌, [], length}
use Rattle.line_reader.specs.HostLists.{hosts_from}
use Rattle.line_reader.proofs.host_lists.all_hosts.Given as goal

abbrev pub invariant-loop-words : goal.invariant-loop-words
invariant-loop-words l = hosts_from l.seen l.words ≡ hosts_from [] l.fn.words

abbrev pub decreases-loop-words : goal.decreases-loop-words
decreases-loop-words l = length l.words
