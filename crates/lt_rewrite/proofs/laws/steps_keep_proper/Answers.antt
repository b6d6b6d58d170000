use Rattle.lt_rewrite.proofs.CoreLaws.{steps_keep_proper, proper_spells_none}
use Rattle.lt_rewrite.proofs.ProperTags.{steps_keep_tags_proper}
use Rattle.lt_rewrite.proofs.laws.steps_keep_proper.Goals as goal

-- steps lead from proper cores and tags to proper ones: a core step puts a registered subtag in the place of another,
-- and by C8 no proper core spells a grandfathered tag
pub returns : goal.returns
returns c = record { proper = steps_keep_proper; tags = steps_keep_tags_proper; spelled = proper_spells_none }
