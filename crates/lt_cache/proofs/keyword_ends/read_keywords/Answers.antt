use Rattle.std.proofs.Common.{◌≡◌, ◌∙◌, ◌++◌, [], List, ℕ, ap, map, rules, sym}
use Rattle.std.specs.Prelude.{flat_map}
use Rattle.std.proofs.lemmas.List.{append-nil}
use Rattle.lt_subtag.specs.Bytes.{folded}
use Rattle.lt_tag.specs.Extensions.{spell_keyword}
use Rattle.lt_tag.specs.Rest.{pieces_left}
use Rattle.lt_tag.specs.Lists.{list_of}
use Rattle.lt_cache.proofs.KeywordEnds.{keywords_read}
use Rattle.lt_cache.proofs.SettledEnds.{some_list}
use Rattle.lt_cache.proofs.keyword_ends.read_keywords.Goals as goal

-- the text is read as a `u` extension of the keywords that are given, without attributes: nothing is left of it, so
-- they spell it
pub returns : goal.returns
returns c =
    let spelled = flat_map spell_keyword c.loop-rest.keywords.items in
    let none : map folded (pieces_left c.loop-rest.rest) ≡ [] = search rules in
    keywords_read (list_of c.args.text.now) c.loop-rest.keywords.items (some_list c.args.text.now)
    (sym (append-nil spelled) ∙ ap (λ (l : List (List ℕ)). spelled ++ l) (sym none) ∙ c.loop-rest.invariant.0) c.loop-rest.invariant.1
