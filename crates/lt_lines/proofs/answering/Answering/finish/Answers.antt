use Rattle.std.proofs.Common.{[], ◌∙◌, inl, refl, sym, append-nil}
use Rattle.std.proofs.KnownBytes.{Appends-nil}
use Rattle.lt_lines.proofs.EndLemmas.{ends_in_quotes}
use Rattle.lt_lines.proofs.answering.Answering.finish.Goals as goal

-- the clause FinishesLines where a quote is open: the text ends within the record whose first line the fault names
pub returns-then-is_quoted : goal.returns-then-is_quoted
returns-then-is_quoted g c =
    let line = c.kept_from.result in
    record {
      written = [];
      appends = Appends-nil _;
      done = tt;
      stopped = inl (record {
        line = line;
        fault = refl;
        same = refl;
        ends = λ bytes out t none. rw append-nil
            (ends_in_quotes _ bytes out c.args.self.now line t none (sym c.is_quoted.ensures ∙ c.if-is_quoted.true)
            c.kept_from.ensures);
      });
    }
