use Rattle.lt_check.proofs.checking.has_fitting_prefixes.Goals as goal

-- where true is answered, the record meets C6 and C7: the first test held, and the second gives the answer
pub returns-then-stands_beside_final_languages : goal.returns-then-stands_beside_final_languages
returns-then-stands_beside_final_languages g c = λ langtags. record {
  final_prefixes = c.stands_beside_final_languages.ensures.0 c.if-stands_beside_final_languages.true;
  langtag_prefixes = (c.has_langtag_prefixes.ensures (g.L.Lookup.listed c.args.table.now)).0 langtags;
}
