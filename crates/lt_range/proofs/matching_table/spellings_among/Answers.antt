use Rattle.std.proofs.Common.{◌≡◌, ◌∙◌, ◌+◌, ◌++◌, ◌∷◌, [], ℕ, List, true, false, ap, subst, sym}
use Rattle.lt_range.specs.Spellings.{Spellings}
use Rattle.lt_range.proofs.SpellingLemmas.{AmongOn, among_end, among_no, among_yes}
use Rattle.lt_range.proofs.matching_table.spellings_among.Goals as goal
use Rattle.lt_range.proofs.matching_table.spellings_among.Goals.{then-is_of+in_ok-copy_of+in_ok-push, else-is_of}

-- after a turn the lists so far, with those among the rows left, are still those among all: it adds the spelling of its
-- row, if the row has this canonical form
pub loop-row-preserved : goal.loop-row-preserved
loop-row-preserved c =
    let canonical = c.args.canonical.now in
    let rows = c.args.rows.now in
    let i = c.loop-row.row-index in
    let row = c.row-item.result in
    let lists = c.loop-row.lists.items in
    elim c.if-is_of.branch [
      | then-is_of+in_ok-copy_of+in_ok-push w ↦ rw w.lists-is (subst (λ (l : Spellings). AmongOn canonical rows (i + 1) l)
          (sym (w.in_ok-push.ensures.items ∙ ap (λ (x : List (List ℕ)). lists ++ x ∷ [])
          (w.in_ok-copy_of.ensures ∙ w.subtags.ensures)))
          (among_yes canonical rows i row lists c.loop-row-test.true c.row-item.is (c.is_of.ensures.0 w.if-is_of.true)
          c.loop-row.invariant))
      | else-is_of w ↦ rw w.lists-is (among_no canonical rows i row lists c.loop-row-test.true c.row-item.is
          (λ e. let bad : false ≡ true = sym w.if-is_of.false ∙ c.is_of.ensures.1 e in cc) c.loop-row.invariant)
    ]

-- the lists are those among all rows: none is left
pub returns : goal.returns
returns c = among_end c.args.canonical.now c.args.rows.now c.loop-row.row-index c.loop-row.lists.items
    c.loop-row-test.false c.loop-row.invariant
