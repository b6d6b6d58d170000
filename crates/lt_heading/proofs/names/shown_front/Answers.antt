use Rattle.std.proofs.Common.{◌≡◌, ◌∙◌, ap, arith, length, min, take}
use Rattle.std.proofs.lemmas.List.{take_min}
use Rattle.lt_heading.specs.Names.{most_shown}
use Rattle.lt_heading.proofs.names.shown_front.Goals as goal

-- the clause: the smaller of 64 and the name's length cuts the name as 64, `most_shown`, does
pub returns : goal.returns
returns c =
    let least : c.min.result ≡ min most_shown (length c.args.name.now) = omega (arith, c.min.ensures) in
    ap (λ n. take n c.args.name.now) least ∙ take_min most_shown c.args.name.now
