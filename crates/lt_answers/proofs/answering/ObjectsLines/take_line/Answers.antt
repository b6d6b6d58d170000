use Rattle.std.proofs.Common.{◌++◌, ◌∷◌, [], Bool, List, ℕ, subst, sym}
use Rattle.lt_jar.specs.Lines.{content_of}
use Rattle.lt_answers.specs.Objects.{IsObjectFor}
use Rattle.lt_answers.specs.Answering.{AreObjects}
use Rattle.lt_answers.proofs.AnsweringLemmas.{objects_more}
use Rattle.lt_answers.proofs.answering.ObjectsLines.take_line.Goals as goal

-- what `Lines` promises of a line, TakesLine: its object and a line feed (10) come after those of the lines before, and
-- a line is refused so far if this one is or one before it was
pub returns : goal.returns
returns g c =
    let R = g.L.Lookup.listed c.args.self.now.checked.now in
    let a = c.in_ok-refused.ensures in
    record {
      part = a.object ++ 10 ∷ [];
      grown = a.grown;
      taken = λ line one front first lines bytes q. (
        q.0,
        subst (λ (b : Bool). AreObjects R (lines ++ line ∷ []) (bytes ++ (a.object ++ 10 ∷ [])) b) (sym c.either-self.ensures)
            (objects_more R lines line bytes a.object c.args.self.now.refused c.in_ok-refused.refused q.1
            (subst (λ (text : List ℕ). IsObjectFor R (content_of text) a.object c.in_ok-refused.refused) front a.is_object)),
      );
    }
