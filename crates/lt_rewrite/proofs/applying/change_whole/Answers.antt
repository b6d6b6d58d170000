use Rattle.lt_rewrite.proofs.TagLeading.{from_whole}
use Rattle.lt_rewrite.proofs.applying.change_whole.Goals as goal

-- the step leads to the value: the place is 1, the tag can be replaced whole, and the record has the step's number
pub returns-in_ok-copy-in-Some : goal.returns-in_ok-copy-in-Some
returns-in_ok-copy-in-Some g c =
    rw c.in_ok-copy-in-Some.ensures
    (from_whole (g.L.Lookup.listed c.args.table.now) c.args.tag.now c.args.step c.requires c.in-Some.value.now
    (record {
      place = c.if-step-ne1.false;
      plain = c.if-not-can_be_replaced_whole.ensures;
      value = c.in-Some.ensures;
    }))
