use Rattle.lt_tag.proofs.FaultLemmas.{fault_excludes_tag}
use Rattle.lt_registry.proofs.records.read_whole.Goals as goal

-- None is right: the fault is not that memory ran out, so it is one of the text, which then spells no tag
pub returns-in_default-clause-tag : goal.returns-in_default-clause-tag
returns-in_default-clause-tag c = λ t h. fault_excludes_tag c.args.text.now c.in-Err.fault.kind c.in-Err.fault.place t
    (record { fault = c.in-Err.ensures.fault; memory_aside = c.in_default.not-OutOfMemory }) h
