use Rattle.std.proofs.Common.{arith, ◌≡◌, ◌∙◌, ap, length, min, refl, take}
use Rattle.std.proofs.lemmas.List.{take_min}
use Rattle.std.proofs.lemmas.Result.{on_ok_weaker}
use Rattle.lt_stream.specs.Tallies.{refused}
use Rattle.lt_lines.specs.Tallied.{most_shown}
use Rattle.lt_lines.proofs.tallying.count_line.Goals as goal

-- the clause CountsLine: the fault and the front of the tag, at most 64 bytes, are those of this line, and are what is
-- counted
pub returns : goal.returns
returns c =
    let text = c.tag_in-text.result.now in
    let least : c.min.result ≡ min most_shown (length text) = omega (arith, c.min.ensures) in
    on_ok_weaker c.count.result (λ counted. record {
      one = refused c.args.number c.fault_in.result.now (take c.min.result text);
      is_refused = record {
        number_is = refl;
        fault = c.fault_in.ensures;
        text = text;
        is_text = c.tag_in-text.ensures;
        front = ap (λ n. take n text) least ∙ take_min most_shown text;
      };
      counted = counted;
    }) c.count.ensures.counted
