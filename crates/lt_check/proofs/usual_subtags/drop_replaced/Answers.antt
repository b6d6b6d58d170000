use Rattle.std.proofs.Common.{take, arith}
use Rattle.std.proofs.lemmas.List.{take_all}
use Rattle.lt_registry.proofs.ListLemmas.{take_turn}
use Rattle.lt_check.proofs.usual_subtags.drop_replaced.Goals as goal

-- before the loop no record is read, and the flags tell which subtags have a record without a value
pub loop-entry-init : goal.loop-entry-init
loop-entry-init c = λ k s n h. let told = c.requires.singles k s n h in grind arith

-- after a turn the flags tell so for one record more: that of the language is cleared of which it replaces a tag
pub loop-entry-preserved : goal.loop-entry-preserved
loop-entry-preserved c =
    let R = c.args.entries.now in
    let i = c.loop-entry.entry-index in
    rw (take_turn R i c.entry-item.result (omega arith) c.entry-item.is) (c.drop_language.ensures R (take i R) c.loop-entry.invariant)

-- no record is left, so the flags tell which subtags stay
pub returns : goal.returns
returns c = λ k s n h. let told = c.loop-entry.invariant k s n h in grind (arith, take_all)
