use Rattle.lt_tag.specs.Faults.{HasFault, HasTag}
use Rattle.lt_tool.proofs.ShownLemmas.{block_as, fault_shown, tag_shown}
use Rattle.lt_tool.proofs.showing.show_block.Goals as goal

-- the text is no tag, which is not for lack of memory: the text and its refusal are shown
pub returns-in-Err-2 : goal.returns-in-Err-2
returns-in-Err-2 g c =
    let is : HasFault c.args.text.now c.in-Err.fault.kind c.in-Err.fault.place = record {
      fault = (c.in-Err.ensures {u = tt}).fault;
      memory_aside = λ e. let other = rw e at c.if-eq.ensures in cc;
    } in
    block_as _ _ _ _ (λ block refused ends. fault_shown (g.L.Lookup.listed c.args.checked.now) c.args.records.now
    c.args.text.now c.in-Err.fault block refused is (rw c.in_ok-line-in-Err-2.ensures at ends))
    c.show_refused.ensures

-- the text is a tag: its table comes first, and what `show_ended` writes ends the block
pub returns : goal.returns
returns g c =
    let a = c.in-Ok.ensures {u = tt} in
    let read : HasTag c.args.text.now c.in-Ok.tag = record { short = a.short; tag = a.tag; spelled = a.spelled } in
    block_as _ _ _ _ (λ block refused ends. tag_shown (g.L.Lookup.listed c.args.checked.now) c.args.records.now
    c.args.text.now c.in-Ok.tag block refused read (rw (
      c.in_ok-append_table.ensures,
      c.new-table.ensures.items,
      c.table.ensures.value,
    ) at ends)) c.show_ended.ensures
