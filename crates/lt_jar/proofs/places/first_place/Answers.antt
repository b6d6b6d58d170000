use Rattle.std.proofs.Common.{arith, subst}
use Rattle.memchr.specs.Find.{TakesFirst}
use Rattle.lt_jar.proofs.PlaceLemmas.{first_byte, first_of_front}
use Rattle.lt_jar.proofs.places.first_place.Goals as goal

-- the byte is among the first 32 bytes, where its first place is that of the text
pub returns-then-count-lt-TOGETHER : goal.returns-then-count-lt-TOGETHER
returns-then-count-lt-TOGETHER c =
    first_of_front c.args.byte c.args.text.now _ (omega (arith, c.if-text-ge-TOGETHER.true))
    c.count_before-count.ensures (omega (arith, c.if-count-lt-TOGETHER.true))

-- the first of all places of the byte is its first place
pub returns : goal.returns
returns c =
    first_byte c.args.byte c.args.text.now c.next.result c.next.new.self
    (subst (λ places. TakesFirst places c.next.result c.next.new.self) c.memchr_iter.ensures.value c.next.ensures.steps)
