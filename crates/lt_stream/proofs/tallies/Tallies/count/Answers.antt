use Rattle.std.proofs.Common.{◌∙◌, sym}
use Rattle.lt_stream.specs.Tallies.{refused}
use Rattle.lt_stream.proofs.TallyLemmas.{begun, counted}
use Rattle.lt_stream.proofs.tallies.Tallies.count.Goals as goal

-- The goals are the clause `counted` of `count`: with one refused line more, these are the tallies of the lines.

-- the tally of this fault counts one line more, and those of other faults stay right as they are
pub returns-in-Some-clause-counted : goal.returns-in-Some-clause-counted
returns-in-Some-clause-counted c = λ lines room tallies.
    counted lines (refused c.args.number c.args.fault.now c.args.text.now) c.self.inside.faults.items c.in-Some.place
    c.saturating_add-tally.result c.index_mut-tally.result.now
    (rw (← c.self.view_is) at (sym c.place_of.ensures ∙ c.in-Some.is)) c.index_mut-tally.ensures.value
    c.saturating_add-tally.ensures room (rw (← c.self.view_is) at tallies)

-- the fault has no tally, so it refused no line before, and its tally begins with this one
pub returns-in_ok-push-in-None-clause-counted : goal.returns-in_ok-push-in-None-clause-counted
returns-in_ok-push-in-None-clause-counted c = λ lines room tallies.
    let made = c.in_ok-new_tally-in-None.ensures in
    rw c.in_ok-push-in-None.ensures.items (begun lines (refused c.args.number c.args.fault.now c.args.text.now)
    c.self.inside.faults.items c.in_ok-new_tally-in-None.field-0
    (rw (← c.self.view_is) at (sym c.place_of.ensures ∙ c.in-None.is)) made.fault made.numbers.0 made.numbers.1
    made.text (rw (← c.self.view_is) at tallies))
