use Rattle.std.proofs.Common.{◌≡◌, ◌≢◌, rules, tests}
use Rattle.std.proofs.lemmas.Iterator.{IsFirst-from_position, YieldsList-from_slice}
use Rattle.records.proofs.Ids.{finds-first}
use Rattle.records.proofs.lookup.find.Goals as goal

pub returns : goal.returns
returns g c =
    finds-first g.R.Record.key c.args.records.now c.args.id _
    (IsFirst-from_position _ _ _ (λ x. g.R.Record.key x ≡ c.args.id) (λ x. g.R.Record.key x ≢ c.args.id) c.position.ensures.ran (YieldsList-from_slice c.args.records.now c.iter.ensures.rest) (λ x q k. search (rules, tests)) (λ x q k. search (rules, tests)))
