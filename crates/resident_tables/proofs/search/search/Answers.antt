use Rattle.std.proofs.Common.{◌+◌, ◌-◌, ◌/◌, map, sym, ap, ◌∙◌, arith}
use Rattle.resident_tables.specs.Order.{key_cmp}
use Rattle.resident_tables.proofs.Orders.{key_cmp_equal}
use Rattle.resident_tables.proofs.Indexes.{narrow_up, narrow_down}
use Rattle.resident_tables.proofs.ByIndex.{ranked_read}
use Rattle.resident_tables.proofs.search.search.Goals as goal

pub loop-lo-preserved-in-Less : goal.loop-lo-preserved-in-Less
loop-lo-preserved-in-Less g c =
    let key = g.T.HasKey.key_of in
    let k = g.Q.HasKey.key_of c.args.wanted.now in
    let mid = c.loop-lo.lo + (c.loop-lo.hi - c.loop-lo.lo) / 2 in
    let read = ranked_read key c.args.items.now c.args.order.now mid c.index-items-order.result c.requires (let w = c.loop-lo.invariant.within in omega arith) c.index-items-order.is in
    narrow_up (map key c.args.items.now) c.args.order.now k c.loop-lo.lo c.loop-lo.hi mid c.requires c.loop-lo.invariant (omega arith) (omega arith) (ap (λ q. key_cmp q k) read ∙ sym c.compare.ensures ∙ c.in-Less.is)

pub returns-in-Equal : goal.returns-in-Equal
returns-in-Equal g c =
    let key = g.T.HasKey.key_of in
    let k = g.Q.HasKey.key_of c.args.wanted.now in
    let mid = c.loop-lo.lo + (c.loop-lo.hi - c.loop-lo.lo) / 2 in
    let read = ranked_read key c.args.items.now c.args.order.now mid c.index-items-order.result c.requires (let w = c.loop-lo.invariant.within in omega arith) c.index-items-order.is in
    (let w = c.loop-lo.invariant.within in omega arith, read ∙ key_cmp_equal (key c.index-items-order.result) k (sym c.compare.ensures ∙ c.in-Equal.is))

pub loop-lo-preserved : goal.loop-lo-preserved
loop-lo-preserved g c =
    let key = g.T.HasKey.key_of in
    let k = g.Q.HasKey.key_of c.args.wanted.now in
    let mid = c.loop-lo.lo + (c.loop-lo.hi - c.loop-lo.lo) / 2 in
    let read = ranked_read key c.args.items.now c.args.order.now mid c.index-items-order.result c.requires (let w = c.loop-lo.invariant.within in omega arith) c.index-items-order.is in
    narrow_down (map key c.args.items.now) c.args.order.now k c.loop-lo.lo c.loop-lo.hi mid c.requires c.loop-lo.invariant (omega arith) (omega arith) (ap (λ q. key_cmp q k) read ∙ sym c.compare.ensures ∙ c.in-Greater.is)
