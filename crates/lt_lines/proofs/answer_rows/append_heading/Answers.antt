use Rattle.std.proofs.Common.{◌≡◌, ◌++◌, ◌∙◌, ℕ, List, true, false, ap, inr, refl, subst, sym, codes}
use Rattle.lt_rows.specs.Rows.{HasReturn}
use Rattle.lt_lines.specs.Owed.{heading_line, row_line, with_canonical}
use Rattle.lt_lines.proofs.answer_rows.append_heading.Goals as goal

-- the clause where the heading is not refused: no carriage return was found outside of quotes, so the names of the new
-- fields are what is owed
pub returns : goal.returns
returns c =
    let same = c.without_return-heading.ensures in
    record {
      bytes = heading_line c.args.is_kept c.args.separator c.args.line.now;
      grown = c.in_ok-append_longer-2.ensures
          ∙ ap (λ (l : List ℕ). c.args.lines.now.items ++ row_line c.args.separator (with_canonical c.args.is_kept
          c.args.separator l (codes "langtag")) (codes "langtag_fault") c.args.line.now) same;
      owed = inr (record {
        none = λ returns. let is : c.has_return.result ≡ true = c.has_return.ensures.1
            (subst (HasReturn c.args.separator) (sym same) returns) in
            let bad : true ≡ false = sym is ∙ c.if-has_return.false in cc;
        owed = (refl, refl);
      });
    }
