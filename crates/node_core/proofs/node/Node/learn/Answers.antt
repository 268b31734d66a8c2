use Rattle.node_core_spec.specs.State.{routing_of}
use Rattle.node_core.proofs.node.Node.learn.Goals as goal

pub returns-clause-stands : goal.returns-clause-stands
returns-clause-stands g c = λ s h. record {
  here = h.here;
  routes = c.hear.ensures (routing_of s) h.routes;
  neighbours = h.neighbours;
  services = h.services;
  version = h.version;
  boot = h.boot;
  queues = h.queues;
  windows = h.windows;
  serial = h.serial;
  time = h.time;
}
