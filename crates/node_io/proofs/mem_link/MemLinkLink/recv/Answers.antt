use Rattle.std.proofs.Common.{◌+◌, true, drop, refl, rules, arith}
use Rattle.node_io.specs.Memory.{link_state}
use Rattle.node_io.proofs.Taking.{hears_next}
use Rattle.node_io.proofs.mem_link.MemLinkLink.recv.Goals as goal

pub returns-clause-hears : goal.returns-clause-hears
returns-clause-hears c =
    let l = c.args.self.now in
    record {
      observable = refl;
      sent = refl;
      binds = refl;
      bound = refl;
      later = omega arith;
      frame = search rules;
      did = hears_next l.script l.taken c.at-arrival.result.now c.hear.result c.hear.new.buf (link_state l)
          (record { observable = true; script = drop (l.taken + 1) l.script; sent = l.sent; binds = l.binds; bound = l.peers; faults = l.faults })
          (omega (arith, c.if-self-len.false, c.len.ensures)) c.at-arrival.ensures refl refl c.hear.ensures.heard;
    }
