-- The text of a reliable port's program.
use Rattle.std.specs.Prelude.{ℕ, List, codes}

-- the program: messages are delivered to port 1 of their destination, and acks to port 2
unfoldable pub port_text : List ℕ
port_text = codes
    "svc thisHostIs : (host) -> bool\nsvc getRB : () -> int\nsvc deliver : (int, (int * blob)) -> unit\nfun data(dest : host, seq : int, body : blob) : unit =\n  if thisHostIs(dest) then deliver(1, (seq, body))\n  else OnRemote(|data|(dest, seq, body), dest, getRB(), defaultRoute)\nfun ack(dest : host, next : int) : unit =\n  if thisHostIs(dest) then deliver(2, (next, #\"\"))\n  else OnRemote(|ack|(dest, next), dest, getRB(), defaultRoute)\n"
