use Rattle.resident_tables.proofs.ByIndex.{found_read, found_absent}
use Rattle.std.proofs.Common.{sym}
use Rattle.resident_tables.proofs.search.look_up.Goals as goal

pub returns-in-Ok : goal.returns-in-Ok
returns-in-Ok g c =
    found_read g.T.HasKey.key_of (g.Q.HasKey.key_of c.args.wanted.now) c.args.items.now c.args.order.now c.in-Ok.j c.index-items-order.result c.requires.unique c.requires.index c.in-Ok.ensures.0
    c.in-Ok.ensures.1 c.index-items-order.is

pub returns-in-Err : goal.returns-in-Err
returns-in-Err g c = sym (found_absent g.T.HasKey.key_of (g.Q.HasKey.key_of c.args.wanted.now) c.args.items.now c.args.order.now c.in-Err.field-0 c.requires.index c.in-Err.ensures)
