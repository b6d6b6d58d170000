use Rattle.std.proofs.Common.{◌≡◌, ◌↔◌, ◌∙◌, [], IsTrue, false, true, subst, sym, arith}
use Rattle.std.proofs.lemmas.List.{get_or_read}
use Rattle.lt_range.specs.Spellings.{Spellings}
use Rattle.lt_range.specs.Lookup.{tag_at}
use Rattle.lt_range.specs.Preferences.{IsRefused, NoneOf, ReachesAt}
use Rattle.lt_range.proofs.ServingLemmas.{next_serves, next_same}
use Rattle.lt_range.proofs.preferences.first_serving.Goals as goal
use Rattle.lt_range.proofs.preferences.first_serving.Goals.{then-index-first+then-not-is_refused, else-index-first}
use Rattle.lt_range.proofs.preferences.first_serving.Goals.{else-index-first-via-then-index-first+else-not-is_refused}
use Rattle.lt_range.proofs.preferences.first_serving.Goals.{else-index-first-via-else-index-first}

-- after a turn `first` is the first range that serves one of the tags so far: the one that reaches this tag, if it is
-- before the first so far and the tag is not refused; else `first` stays
pub loop-place-preserved : goal.loop-place-preserved
loop-place-preserved c =
    let all = c.args.all.now in
    let tags = c.args.tags.now in
    let n = c.loop-place.place in
    let first = c.loop-place.first in
    let index = c.first_reaching-index.result in
    let is : c.index-tags-place.result ≡ tag_at tags n = get_or_read tags n c.index-tags-place.result
    c.loop-place-test.true c.index-tags-place.is [] in
    let there = is in
    let none : NoneOf (ReachesAt c.args.wild all (tag_at tags n)) index = subst
    (λ (t : Spellings). NoneOf (ReachesAt c.args.wild all t) index) there
    c.first_reaching-index.ensures.before in
    elim c.if-index-first.branch [
      | then-index-first+then-not-is_refused w ↦
          let tells : IsTrue w.is_refused.result
          ↔ IsRefused all (tag_at tags n) = subst (λ (t : Spellings). IsTrue w.is_refused.result
          ↔ IsRefused all t) there w.is_refused.ensures in
          let reached : ReachesAt c.args.wild all (tag_at tags n) index = subst
          (λ (t : Spellings). ReachesAt c.args.wild all t index) there
          (c.first_reaching-index.ensures.reaches w.if-index-first.true) in
          rw w.first-is (next_serves c.args.wild all tags n first index c.loop-place.invariant w.if-index-first.true
          none reached (λ r. let bad : false ≡ true = sym w.if-not-is_refused.true ∙ tells.1 r in cc))
      | else-index-first w ↦ rw w.first-is (next_same c.args.wild all tags n first c.loop-place.invariant (elim w.else-index-first.branch [
        | else-index-first-via-then-index-first+else-not-is_refused w' ↦
            let tells : IsTrue w'.is_refused.result
            ↔ IsRefused all (tag_at tags n) = subst (λ (t : Spellings). IsTrue w'.is_refused.result
            ↔ IsRefused all t) there w'.is_refused.ensures in
            (λ i l s. s.allowed (tells.0 w'.if-not-is_refused.false))
        | else-index-first-via-else-index-first w' ↦ (λ i l s. none i (omega (arith, l, w'.if-index-first.false)) s.reached)
      ]))
    ]
