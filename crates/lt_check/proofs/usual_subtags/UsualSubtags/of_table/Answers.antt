use Rattle.std.proofs.Common.{refl, sym, subst, ◌∙◌, arith}
use Rattle.std.proofs.lemmas.List.{take_at}
use Rattle.lt_check.specs.Flags.{AreFlags}
use Rattle.lt_check.proofs.FlagLemmas.{tell_none}
use Rattle.lt_check.proofs.usual_subtags.UsualSubtags.of_table.Goals as goal

-- `put_singles` asks that all flags are clear: all words are 0
pub put_singles-requires-clause-clear : goal.put_singles-requires-clause-clear
put_singles-requires-clause-clear g c =
    tell_none c.as_mut_slice-flags.result.now 8655 0 refl (c.as_mut_slice-flags.ensures.value
    ∙ (c.in_ok-words.ensures {u = tt}).items_if_clones_equal (λ y h. h))

-- what is made are the flags of the table: those in the slice tell which subtags stay, and the slice has all the words
pub returns : goal.returns
returns g c =
    let words = c.drop_replaced.new.words in
    subst (AreFlags (g.L.Lookup.listed c.args.table.now))
    (sym (take_at words _ c.in_ok-words.words.len
    (omega (arith, c.drop_replaced.auto.words, c.put_singles.auto.words, c.as_mut_slice-flags.ensures.len))))
    (record { forms = c.entries-entries.ensures.forms; tell = rw (← c.entries-entries.ensures.value) c.drop_replaced.ensures })
