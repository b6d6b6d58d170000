use Rattle.lt_tool.proofs.ShownLemmas.{block_as, refusal_shown}
use Rattle.lt_tool.proofs.showing.show_ended.Goals as goal

-- the tag is refused, so the line of its refusal ends the block
pub returns-in-Err : goal.returns-in-Err
returns-in-Err g c =
    block_as _ _ _ _ (λ block refused ends. refusal_shown (g.L.Lookup.listed c.args.checked.now) c.args.text.now
    c.args.table.items c.in-Err.refusal block refused (c.in-Err.ensures {u = tt}).refusal ends)
    c.show_refused.ensures
