use Rattle.std.proofs.Common.{[], ◌∷◌, codes}
use Rattle.std.proofs.lemmas.Result.{err_from_is_err_and}
use Rattle.lt_words.specs.declared.subcommands.Subcommand.TheVariants as sub
use Rattle.lt_words.proofs.ValueLemmas.{lacks_first, lacks_named, lacks_other}
use Rattle.lt_words.proofs.reading.read_equal.Goals as goal

-- the registry is not given, so the command lacks its first value
pub returns-in_err-file-clause-unnamed : goal.returns-in_err-file-clause-unnamed
returns-in_err-file-clause-unnamed c =
    let p = err_from_is_err_and c.from_residual.result c.from_residual.ensures.1 in
    rw (p.1, p.2) (lacks_named sub.Equal _ c.in_err-file.field-0.0
    (lacks_first _ (codes "REGISTRY") (codes "TAG" ∷ codes "OTHER" ∷ []) c.in_err-file.field-0.0 c.in_err-file.ensures.lacks))

-- one of the two tags is not given, so the command lacks a value after its first
pub returns-in_err-tag-clause-unnamed : goal.returns-in_err-tag-clause-unnamed
returns-in_err-tag-clause-unnamed c =
    let p = err_from_is_err_and c.from_residual-in_err-tag.result c.from_residual-in_err-tag.ensures.1 in
    rw (p.1, p.2) (lacks_named sub.Equal _ c.in_err-tag.field-0.0
    (lacks_other _ (codes "REGISTRY") (codes "TAG" ∷ codes "OTHER" ∷ []) c.in_err-tag.field-0.0 c.in_err-tag.ensures.lacks))
