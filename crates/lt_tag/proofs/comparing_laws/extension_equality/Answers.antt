use Rattle.lt_tag.specs.OrderLaws.{extension_total, extensions_apart, same_exactly}
use Rattle.lt_tag.proofs.comparing_laws.extension_equality.Goals as goal

-- `==` is true exactly of equal extensions: it compares by their order, which is total and tells any two apart
pub returns : goal.returns
returns c = same_exactly extension_total extensions_apart c.args.left.now c.args.right.now _ c.eq.ensures
