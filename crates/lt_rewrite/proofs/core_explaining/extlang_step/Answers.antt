use Rattle.std.proofs.Common.{◌≡◌, ℕ, List, [], ◌∷◌, refl, sym, ◌∙◌, arith}
use Rattle.lt_rewrite.proofs.CoreSteps.{sole, extlang_there}
use Rattle.lt_registry.specs.Entries.{replacement}
use Rattle.lt_rewrite.specs.CoreSteps.{at_extlang}
use Rattle.lt_rewrite.proofs.CoreLeading.{first_part}
use Rattle.lt_rewrite.proofs.core_explaining.extlang_step.Goals as goal

-- there is exactly one extlang, so this is the one Extlang step
pub returns : goal.returns
returns g c =
    let R = g.L.Lookup.listed c.args.table.now in
    let core = c.args.core.now in
    let x : List ℕ = c.extlang-item.result in
    let one : core.extlangs ≡ x ∷ [] = sym c.extlangs.ensures.value ∙ sole c.extlangs.result.now x c.extlang-item.is (omega arith) in
    first_part R c.args.start core _ at_extlang x (replacement R x) tt refl refl c.record_number.ensures (extlang_there core x one) refl
