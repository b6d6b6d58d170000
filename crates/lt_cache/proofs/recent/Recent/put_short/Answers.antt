use Rattle.std.proofs.Common.{sym, ◌<◌, ◌+◌, ◌*◌, ◌%◌, ◌∙◌, ◌≡◌, inr, length, slice_set, ap, ap₂, arith}
use Rattle.std.specs.List.{swap}
use Rattle.std.proofs.lemmas.List.{length-set, take_all}
use Rattle.lt_cache.specs.Recent.{kept}
use Rattle.lt_cache.proofs.PlaceLemmas.{made_some}
use Rattle.lt_cache.proofs.recent.Recent.put_short.Goals as goal

-- What was put is as the clause says: what was in the line's first place moves to the second, and the first gets the
-- answer for all of the line.
pub returns-then-first-len : goal.returns-then-first-len
returns-then-first-len c =
    let line = c.args.line.now in
    let answer = c.args.answer.now in
    let first = 2 * (c.hash.result % 4096) in
    let places = c.self.inside.places in
    let room : 0 < length places.items = omega (arith, c.if-first-len.true, c.len.ensures, places.ok.0) in
    let same = sym (made_some places.items room) ∙ c.self.view_is ∙ c.make_places.ensures in
    let long = ap length same in
    let same_line : c.in-Some-Some.line ≡ line = c.in-Some-Some.ensures.same ∙ take_all (length line) line (omega arith) in
    let same_answer : c.in-Some-Some.answer ≡ answer = c.in-Some-Some.ensures'.same ∙ take_all (length answer) answer (omega arith) in
    let exchanged = c.swap.ensures.items ∙ ap (λ xs. swap xs first (first + 1)) same in
    inr (
      first,
      omega (arith, c.if-first-len.true, c.len.ensures, places.ok.0, long),
      made_some (slice_set c.swap.new.self.items first (kept c.in-Some-Some.line c.in-Some-Some.answer c.args.refused))
          (omega (
            arith,
            room,
            length-set c.swap.new.self.items first
                (kept c.in-Some-Some.line c.in-Some-Some.answer c.args.refused),
            c.swap.new.self.ok.0,
            places.ok.0,
            c.swap.ensures.len,
          ))
          ∙ ap₂ (λ xs place. slice_set xs first place) exchanged (ap₂ (λ l a. kept l a c.args.refused) same_line same_answer),
    )
