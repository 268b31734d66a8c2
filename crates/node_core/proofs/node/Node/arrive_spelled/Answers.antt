use Rattle.std.proofs.Common.{sym, subst}
use Rattle.packet_frame.specs.Typed.{plain_of}
use Rattle.packet_frame.specs.Stamped.{AcceptsBy}
use Rattle.packet_frame.specs.Spelled.{version_of}
use Rattle.node_core.specs.Stands.{with_stamp}
use Rattle.node_core.proofs.StepLaws.{frame_bears, frame_goes_on, frame_arrives, bytes_arrive}
use Rattle.node_core.proofs.node.Node.arrive_spelled.Goals as goal

pub arrive_stamped-requires-clause-borne : goal.arrive_stamped-requires-clause-borne
arrive_stamped-requires-clause-borne g c = frame_bears c.args.self.now.version c.args.frame.now c.stamp-stamp.result c.in-Some.ensures.frame.1 c.stamp-stamp.ensures

pub arrive_stamped-requires-clause-carried : goal.arrive_stamped-requires-clause-carried
arrive_stamped-requires-clause-carried g c =
    frame_goes_on c.args.self.now.version c.args.self.now.boot c.args.frame.now (plain_of c.in-Some.own.now) c.in-Some.ensures.leaves c.in-Some.ensures.frame.1 c.in-Some.ensures.frame.0

pub returns-in-Some : goal.returns-in-Some
returns-in-Some g c =
    let done = c.arrive_stamped.ensures in
    record {
      ok = λ s h m. frame_arrives _ c.args.dev c.arrive_stamped.new.self c.arrive_stamped.result c.args.frame.now
          (with_stamp c.stamp-stamp.result (plain_of c.in-Some.own.now)) s c.stamp-stamp.ensures c.in-Some.ensures.frame.0 (done.ok s h);
      err = done.err;
      same = done.same;
    }

pub returns-in_ok-bytes-in-None : goal.returns-in_ok-bytes-in-None
returns-in_ok-bytes-in-None g c =
    let x = c.args.frame.now in
    let done = c.arrive.ensures in
    let accepted = subst (λ b. AcceptsBy (version_of x.stamp) b x) (sym c.as_slice.ensures) c.in_ok-bytes-in-None.ensures in
    record {
      ok = λ s h m. bytes_arrive _ c.args.dev c.arrive.new.self c.arrive.result c.as_slice.result.now x s accepted m (done.ok s h);
      err = done.err;
      same = done.same;
    }
