use Rattle.std.proofs.Common.{◌≡◌, ◌++◌, ◌∙◌, ℕ, List, ap, subst, arith, length, take_all}
use Rattle.std.proofs.lemmas.Result.{IfOk-weaker}
use Rattle.lt_lines.specs.Answering.{part_kept}
use Rattle.lt_lines.specs.Owed.{IsReplyTo, ground_of, reply, terms}
use Rattle.lt_lines.proofs.PartLemmas.{kept_more}
use Rattle.lt_lines.proofs.TextLemmas.{reply_for_kept}
use Rattle.lt_lines.proofs.answering.append_kept_line.Goals as goal

-- the clause `owed`: the answer to what is kept is that to each line of which this is kept
pub returns-clause-owed : goal.returns-clause-owed
returns-clause-owed g c =
    let G = ground_of g.L.Lookup.listed c.args.basis.now in
    let part = c.args.part.now in
    let old = c.args.kept.now in
    let kept : c.keep.new.kept.items ≡ old.items ++ part_kept c.args.form (length old.items) part =
    c.in_ok-keep.ensures ∙ ap (λ (n : ℕ). old.items ++ part_kept c.args.form n part) old.ok.0 in
    let line = c.deref.result.now in
    let whole = take_all c.len.result line (omega (arith, ap length c.deref.ensures.value, c.len.ensures, c.keep.new.kept.ok.0)) in
    IfOk-weaker c.append_reply.result _ _ (λ refused owes recent. let a = owes recent in record {
      bytes = a.bytes;
      grown = a.grown;
      owed = λ last is. reply_for_kept G c.args.form c.args.is_first (last ++ part) _ c.know_codes.ensures
          (subst (λ (l : List ℕ). IsReplyTo (terms G c.args.form) c.args.is_first l (reply a.bytes refused))
          (whole ∙ c.deref.ensures.value ∙ kept_more c.args.form old.items last part c.keep.new.kept.items is kept) a.owed);
    }) c.append_reply.ensures.owed
