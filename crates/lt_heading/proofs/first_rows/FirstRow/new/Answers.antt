use Rattle.std.proofs.Common.{[], ◌∷◌, inl, refl}
use Rattle.lt_heading.proofs.first_rows.FirstRow.new.Goals as goal

-- the clause `undecided`: no bytes may still become a mark, for example that of UTF-8 (239, 187, 191)
pub returns-clause-undecided : goal.returns-clause-undecided
returns-clause-undecided c = record {
  begun = refl;
  may_be = rw c.new.ensures.items (inl (239, 187 ∷ 191 ∷ [], refl));
  none = c.new-2.ensures.items;
  fresh = refl;
}
