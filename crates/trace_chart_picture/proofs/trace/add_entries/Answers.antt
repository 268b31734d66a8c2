use Rattle.std.specs.List.{All}
use Rattle.std.proofs.Common.{◌≡◌, List, sym, ◌∷◌, [], ◌++◌, ap, ◌∙◌, subst, length, arith}
use Rattle.trace_chart_picture.specs.Lines.{entry_text}
use Rattle.trace_chart_picture.specs.Traces.{entries_text}
use Rattle.trace_chart_picture.specs.Reads.{IsReadAs, IsEntryLine}
use Rattle.std.proofs.lemmas.List.Elements.{All-push}
use Rattle.trace_chart_picture.specs.declared.line.Entry.{Entry}
use Rattle.trace_chart_picture.proofs.Wrong.{no_entry_first, read_entry, counted, line_more, push_length, if_some}
use Rattle.trace_chart_picture.proofs.trace.add_entries.Goals as goal

pub returns-in_default-2 : goal.returns-in_default-2
returns-in_default-2 c = record {
  whole = c.loop-line.invariant.whole;
  more = c.loop-line.invariant.more;
  number = c.loop-line.invariant.number;
  one = c.loop-line.invariant.one;
  stop = no_entry_first c.loop-line.rest.now c.in-Some.line.now c.in-Some.more.now c.in-Some.ensures.next (c.in_ok-entry.ensures.other c.in_default-2.is);
}

pub loop-line-preserved : goal.loop-line-preserved
loop-line-preserved c =
    let xs : List Entry = c.loop-line.entries in
    let x : Entry = c.in-Some-2.entry in
    let e : c.add.new.self ≡ xs ++ x ∷ [] = c.in_ok-add.ensures.ok in
    let k : IsReadAs c.in-Some.line.now x = if_some (IsReadAs c.in-Some.line.now) c.in_ok-entry.field-0 x c.in_ok-entry.ensures.is c.in-Some-2.is in
    let longer = ap length e ∙ push_length xs x in
    record {
      whole = ap (λ z. entries_text z ++ c.in-Some.more.now) e ∙ line_more entry_text xs x c.loop-line.rest.now c.in-Some.line.now c.in-Some.more.now
          (entries_text c.args.entries.now ++ c.args.bytes.now) c.loop-line.invariant.whole c.in-Some.ensures.next.whole k.text;
      more = omega (arith, longer, c.loop-line.invariant.more);
      number = counted c.args.first c.loop-line.number c.saturating_add-number.result (length c.args.entries.now) (length xs) (length c.add.new.self)
          c.loop-line.invariant.more longer c.loop-line.invariant.number c.saturating_add-number.ensures;
      one = λ a. subst (λ z. All IsEntryLine z) (sym e) (All-push IsEntryLine xs x (c.loop-line.invariant.one a) (read_entry c.in-Some.line.now x k c.in-Some.ensures.next.one));
    }
