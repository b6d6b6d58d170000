use Rattle.std.proofs.Common.{◌≡◌, ◌++◌, false, drop}
use Rattle.lt_heading.specs.Names.{undoubled}
use Rattle.lt_heading.proofs.names.undoubled.Given as goal

-- the name so far, and the bytes that are left as they are meant, are the text as it is meant
abbrev pub invariant-loop-byte : goal.invariant-loop-byte
invariant-loop-byte l = l.name.items ++ undoubled l.is_after_quote (drop l.byte-index l.text) ≡ undoubled false l.text
