use Rattle.std.proofs.Common.{ap, subst, sym}
use Rattle.lt_cache.specs.Places.{made}
use Rattle.lt_cache.specs.Recent.{IsBlank}
use Rattle.lt_cache.proofs.PlaceLemmas.{places_blank}
use Rattle.lt_cache.proofs.recent.Recent.new.Goals as goal

-- A new table is blank: its vector has no places, and the empty ones for which this stands (`made`) hold no answer.
pub returns : goal.returns
returns c = subst IsBlank (ap made (sym c.new.ensures.items)) places_blank
