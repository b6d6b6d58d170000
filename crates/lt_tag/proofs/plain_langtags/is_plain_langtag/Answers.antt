use Rattle.std.proofs.Common.{length, sym, ap, arith}
use Rattle.std.proofs.lemmas.Bool.Decides.{nat_tests}
use Rattle.lt_tag.proofs.PlainLangTagLemmas.{room_begin, room_more, stops, ends_plain}
use Rattle.lt_tag.proofs.plain_langtags.is_plain_langtag.Goals as goal
use Rattle.lt_tag.proofs.plain_langtags.is_plain_langtag.Goals.{then-bytes-le3, else-bytes-le3}

-- before the loop there is a core of the language alone, with room for 3 extlangs if that is short, else for none
pub loop-subtag-init : goal.loop-subtag-init
loop-subtag-init c =
    let language = c.in-Some.language.now in
    let bytes = ap length c.bytes.ensures.same in
    room_begin c.args.subtags.now c.in-Some.others.now language c.in-Some.ensures.cases.0
    (sym c.if-not-is_language.ensures) c.if-bytes-le3.extlangs
    (elim c.if-bytes-le3.branch [
      | then-bytes-le3 w ↦ grind (arith, nat_tests, bytes, w.if-bytes-le3, w.extlangs-is)
      | else-bytes-le3 w ↦ grind (arith, nat_tests, bytes, w.if-bytes-le3, w.extlangs-is)
    ])

-- this subtag may not follow the core so far, so no core spells the subtags, and false is right
pub returns-in-None : goal.returns-in-None
returns-in-None c = (
  (λ t. cc),
  (λ p. absurd (stops c.args.subtags.now c.in-Some.others.now c.loop-subtag.subtag-index c.subtag-item.result
      c.loop-subtag.room c.loop-subtag.invariant c.loop-subtag-test.true c.subtag-item.is (sym c.in-None.ensures) p)),
)

-- a turn adds one subtag to the core, and `next` is what may follow it
pub loop-subtag-preserved : goal.loop-subtag-preserved
loop-subtag-preserved c =
    room_more c.args.subtags.now c.in-Some.others.now c.loop-subtag.subtag-index c.subtag-item.result c.loop-subtag.room
    c.in-Some-after.next c.loop-subtag.invariant c.loop-subtag-test.true c.subtag-item.is
    (sym c.in-Some-after.ensures)

-- some core spells the subtags, so they are a langtag exactly if they are not those of a grandfathered tag
pub returns : goal.returns
returns c =
    ends_plain c.args.subtags.now c.in-Some.others.now c.loop-subtag.subtag-index c.loop-subtag.room
    c.loop-subtag.invariant c.loop-subtag-test.false c.number_of.result c.number_of.ensures.found
    c.number_of.ensures.none c.is_none.result c.is_none.ensures
