use Rattle.lt_tag.specs.OrderLaws.{tag_total, tags_apart, same_exactly}
use Rattle.lt_tag.proofs.comparing_laws.tag_equality.Goals as goal

-- `==` is true exactly of tags that are the same: it compares by their order, which is total and tells any two apart
pub returns : goal.returns
returns c = same_exactly tag_total tags_apart c.args.left.now c.args.right.now _ c.eq.ensures
