use Rattle.std.proofs.Common.{◌≡◌, ◌++◌, ◌∷◌, ◌∙◌, [], get_or, length, sym, ap, arith, Some}
use Rattle.std.proofs.lemmas.Grind.{get_or_default_zero}
use Rattle.lt_codes.specs.Index.{number_of}
use Rattle.lt_codes.specs.declared.codes.Code.{Code}
use Rattle.lt_codes.proofs.IndexLemmas.{indexed_known, indexed_new, number_small}
use Rattle.lt_codes.proofs.codes.CodeTable.push.Goals as goal
use Rattle.lt_codes.proofs.codes.CodeTable.push.Goals.{After-index}

-- the code that is added, with what is registered for it
abbrev code : (c : After-index) → Code
code c = record { code = c.args.code; registered = c.args.registered }

-- the number is that of the code
number : (c : After-index) → number_of c.args.code ≡ Some c.in-Some.number
number c = ap number_of (sym c.bytes.ensures.same) ∙ sym c.number_of-number.ensures.number ∙ c.in-Some.is

-- what was read is the place that is kept for the number
place : (c : After-index) → c.index.result.now ≡ get_or c.self.inside.places.items c.in-Some.number 0
place c = c.index.ensures ∙ get_or_default_zero c.self.inside.places.items c.in-Some.number c.index.result.now
    (omega (arith, number_small c.args.code c.in-Some.number (number c), c.self.invariant.full))

-- The table keeps its places right (AreIndexed) where a code is added. Here no code before has these letters: their
-- place is that of the new code, which is last.
pub invariant_of-self-then-index-eq0 : goal.invariant_of-self-then-index-eq0
invariant_of-self-then-index-eq0 c =
    let at = (goal.at.invariant_of-self-then-index-eq0 c).After-index in
    let codes = c.self.inside.codes.items in
    let pushed : c.push.new.self.items ≡ codes ++ code at ∷ [] = c.in_ok-push.ensures.items in
    let last : c.len.result ≡ length (codes ++ code at ∷ []) = c.len.ensures ∙ c.push.new.self.ok.0 ∙ ap length pushed in
    rw (pushed, last) (indexed_new codes c.self.inside.places.items (code at) c.in-Some.number c.self.invariant
    c.requires (number at) (sym (place at) ∙ c.if-index-eq0.true))

-- a code before has these letters, and their place stays its place
pub invariant_of-self-else-index-eq0 : goal.invariant_of-self-else-index-eq0
invariant_of-self-else-index-eq0 c =
    let at = (goal.at.invariant_of-self-else-index-eq0 c).After-index in
    let codes = c.self.inside.codes.items in
    let pushed : c.push.new.self.items ≡ codes ++ code at ∷ [] = c.in_ok-push.ensures.items in
    rw pushed (indexed_known codes c.self.inside.places.items (code at) c.in-Some.number c.self.invariant c.requires
    (number at) (λ none. c.if-index-eq0.false (place at ∙ none)))
