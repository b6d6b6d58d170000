use Rattle.std.proofs.Common.{sym, subst}
use Rattle.lt_jar.specs.LineKinds.{HasName}
use Rattle.lt_jar.proofs.NameLemmas.{line_named}
use Rattle.lt_jar.proofs.drafts.Draft.take_any_line.Goals as goal

-- if the line begins a field, its name is of name bytes alone, as `take_kind` asks: it was cut at the first other byte
pub take_kind-requires : goal.take_kind-requires
take_kind-requires c = subst HasName (sym c.kind_of.ensures) (line_named c.args.line.now)
