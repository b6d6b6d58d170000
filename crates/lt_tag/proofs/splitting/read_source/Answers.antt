use Rattle.std.proofs.Common.{◌≡◌, ◌∙◌, sym, ap}
use Rattle.std.specs.Prelude.{Some, None}
use Rattle.lt_tag.specs.Growth.{of_language, grown}
use Rattle.lt_tag.proofs.CompleteLemmas.{source_first, source_begin, source_more, source_stop, source_end}
use Rattle.lt_tag.proofs.splitting.read_source.Goals as goal

-- BadTransform is right: each core begins with a language, which the first subtag is not
pub returns-then-not-is_language-clause-fault : goal.returns-then-not-is_language-clause-fault
returns-then-not-is_language-clause-fault c =
    source_first c.args.subtags.now c.in-Some.others.now c.in-Some.language.now c.in-Some.ensures.cases.0 (sym c.if-not-is_language.ensures)

-- before the loop the core is the language alone
pub loop-subtag-init : goal.loop-subtag-init
loop-subtag-init c =
    source_begin c.args.subtags.now c.in-Some.others.now c.in-Some.language.now c.of_language-core.result
    c.in-Some.ensures.cases.0 (sym c.if-not-is_language.ensures)
    (c.of_language-core.ensures ∙ ap of_language c.copy.ensures)

-- the core of the subtags so far can't have this one at its end, so no core spells them all
pub returns-then-not-branch-clause-fault : goal.returns-then-not-branch-clause-fault
returns-then-not-branch-clause-fault c =
    let none : grown c.loop-subtag.core c.subtag-item.result ≡ None = rw c.if-not-branch.true at c.in_ok-grow.ensures.grew in
    source_stop c.args.subtags.now c.in-Some.others.now c.loop-subtag.subtag-index c.subtag-item.result
    c.loop-subtag.core c.loop-subtag.invariant c.loop-subtag-test.true c.subtag-item.is none

-- a turn adds one subtag more to the core
pub loop-subtag-preserved : goal.loop-subtag-preserved
loop-subtag-preserved c =
    let more : grown c.loop-subtag.core c.subtag-item.result ≡ Some c.grow.new.self = rw c.if-not-branch.false at
    c.in_ok-grow.ensures.grew in
    source_more c.args.subtags.now c.in-Some.others.now c.loop-subtag.subtag-index c.subtag-item.result
    c.loop-subtag.core c.grow.new.self c.loop-subtag.invariant c.loop-subtag-test.true c.subtag-item.is more

-- no subtag is left, so the core is what the subtags spell
pub returns-clause-source : goal.returns-clause-source
returns-clause-source c =
    source_end c.args.subtags.now c.in-Some.others.now c.loop-subtag.subtag-index c.loop-subtag.core
    c.loop-subtag.invariant c.loop-subtag-test.false
