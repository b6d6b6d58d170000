use Rattle.std.proofs.Common.{drop, map, string_bytes}
use Rattle.lt_tool.specs.Shown.{ShowsAs}
use Rattle.lt_tool.proofs.ShownLemmas.{HasShown}
use Rattle.lt_tool.proofs.showing.show_each.Given as goal

-- the blocks of the texts so far were written
abbrev pub invariant-loop-text : goal.invariant-loop-text
invariant-loop-text g l = HasShown g.O.Write.contents (ShowsAs l.json (g.L.Lookup.listed l.checked) l.records)
    l.fn.output (map string_bytes l.texts) (map string_bytes (drop l.text-index l.texts)) l.output l.any
