use Rattle.std.proofs.Common.{Some, None, ◌∙◌}
use Rattle.lt_registry.proofs.FieldLemmas.{body_there}
use Rattle.lt_registry.proofs.fields.RecordFields.body.Goals as goal

-- at the place of the first field of a name is the body that the record has of this name
pub returns-in-Some : goal.returns-in-Some
returns-in-Some c = λ name h. c.body_at.ensures ∙ body_there name c.args.self.now.all.now (Some c.in-Some.place) (rw c.in-Some.is at h)

-- no field has the name, so None is right: the record has no body of it
pub returns-in-None : goal.returns-in-None
returns-in-None c = λ name h. body_there name c.args.self.now.all.now None (rw c.in-None.is at h)
