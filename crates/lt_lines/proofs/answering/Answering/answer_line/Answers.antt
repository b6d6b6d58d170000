use Rattle.std.proofs.Common.{◌≡◌, ◌+◌, ◌∙◌, arith, refl, length, length-append, ap, subst, take, ℕ, List}
use Rattle.lt_lines.specs.Owed.{ground_of, reply, terms}
use Rattle.lt_lines.specs.Tallied.{CountsIf, line_at}
use Rattle.lt_lines.proofs.FaultLemmas.{appended}
use Rattle.lt_lines.proofs.KeptLemmas.{counts_line}
use Rattle.lt_lines.proofs.TakenLemmas.{taken_line}
use Rattle.lt_lines.proofs.answering.Answering.answer_line.Goals as goal

-- the clause `taken`, whatever was read and written so far: the bytes that were appended are the answer to the line,
-- and the tallies count it by them if it is a refusal
pub returns-clause-taken : goal.returns-clause-taken
returns-clause-taken g c = λ bytes out one t.
    let T = terms (ground_of g.L.Lookup.listed c.args.basis.now) c.args.form in
    let part = take c.args.count c.args.text.now in
    let old = c.args.self.now in
    let refused = c.in_ok-refused.refused in
    let a = c.in_ok-refused.ensures.owed t.recent in
    let owed = c.append_line.new.lines in
    let start : c.min.result ≡ length old.owed.items =
    omega (
      arith,
      c.min.ensures,
      c.len.ensures,
      c.len-start.ensures,
      old.owed.ok.0,
      owed.ok.0,
      ap length a.grown,
      length-append old.owed.items a.bytes,
    ) in
    let answer = appended old.owed.items a.bytes c.deref-2.result.now c.min.result (c.deref-2.ensures.value ∙ a.grown) start in
    let line = c.line_at.ensures ∙ ap (λ (l : List ℕ). line_at l part) c.deref.ensures.value in
    let tally = subst (λ (l : List ℕ). CountsIf c.args.form (old.counts.lines + 1) l a.bytes refused old.tallies
    c.count_if.new.tallies) line
    (subst (λ (l : List ℕ). CountsIf c.args.form (old.counts.lines + 1) c.line_at.result.now l refused old.tallies
    c.count_if.new.tallies) answer c.in_ok-count_if.ensures) in
    taken_line T bytes out part (reply a.bytes refused) old _ t one a.owed
    a.grown c.clear.ensures.items refl refl c.count.ensures.lines c.count.ensures.refused c.requires.room.room
    (λ last is. counts_line c.args.form (old.counts.lines + 1) last part a.bytes old.kept.items
    c.append_line.new.kept.items refused old.tallies c.count_if.new.tallies
    is c.in_ok-refused.ensures.kept tally)
    (c.in_ok-refused.ensures.recent t.recent)
