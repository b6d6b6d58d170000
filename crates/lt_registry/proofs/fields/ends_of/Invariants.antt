use Rattle.std.proofs.Common.{◌≡◌, take, drop}
use Rattle.lt_registry.specs.Records.{ends_of}
use Rattle.lt_registry.proofs.RecordTexts.{behind}
use Rattle.lt_registry.proofs.fields.ends_of.Given as goal

-- no two full stops so far: the ends in the whole text are those in what is left, with the bytes so far put before the
-- first
abbrev pub invariant-loop-index : goal.invariant-loop-index
invariant-loop-index l = ends_of l.text ≡ behind (take l.index l.text) (ends_of (drop l.index l.text))
