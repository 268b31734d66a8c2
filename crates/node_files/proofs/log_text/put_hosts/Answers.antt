use Rattle.node_files.proofs.LogTextLaws.{hosts_put}
use Rattle.node_files.proofs.log_text.put_hosts.Goals as goal

pub returns : goal.returns
returns c = hosts_put c.args.out.now c.add_all.new.self c.put_all_behind.new.out c.add_all-2.new.self c.args.hosts.now c.in_ok-add_all.ensures.ok c.in_ok-put_all_behind.ensures c.in_ok-add_all-2.ensures.ok
