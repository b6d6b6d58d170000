use Rattle.std.proofs.Common.{◌≡◌, Some, sym, subst, rules, arith, List, ℕ}
use Rattle.lt_registry.specs.Records.{kind_of}
use Rattle.lt_registry.specs.declared.entries.Kind.TheVariants as kinds
use Rattle.lt_registry.proofs.FoundLemmas.{language_spelled}
use Rattle.lt_registry.proofs.fields.kind_of.Goals as goal

-- Language is the kind that `kind_of` of the definitions gives: a text that has the eight bytes of `language` is it
-- letter case aside too
pub returns-in-language : goal.returns-in-language
returns-in-language c =
    sym (subst (λ (l : List ℕ). kind_of l ≡ Some kinds.Language) c.as_bytes.ensures.value
    (language_spelled c.as_bytes.result.now (omega (arith, c.in-language.len_at_least, c.in-language.len_below))
    (search rules) (search rules) (search rules) (search rules) (search rules) (search rules) (search rules) (search rules)))
