use Rattle.std.proofs.Common.{refl, sym}
use Rattle.service_registry.proofs.taken.type_at_hand.Goals as goal

pub returns-in-Put : goal.returns-in-Put
returns-in-Put c = rw c.in-Put.is (c.put_type.ensures c.args.svc.now (sym c.as_slice-params.ensures) refl)

pub returns-in-Get : goal.returns-in-Get
returns-in-Get c = rw c.in-Get.is (c.got_type.ensures c.args.svc.now (sym c.as_slice-params.ensures) refl)

pub returns-in-Remove : goal.returns-in-Remove
returns-in-Remove c = rw c.in-Remove.is (c.removed_type.ensures c.args.svc.now (sym c.as_slice-params.ensures) refl)

pub returns-in-Print : goal.returns-in-Print
returns-in-Print c = rw c.in-Print.is (c.printed_type.ensures c.args.svc.now (sym c.as_slice-params.ensures) refl)

pub returns-in-Deliver : goal.returns-in-Deliver
returns-in-Deliver c = rw c.in-Deliver.is (c.delivered_type.ensures c.args.svc.now (sym c.as_slice-params.ensures) refl)
