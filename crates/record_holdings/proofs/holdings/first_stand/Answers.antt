use Rattle.std.proofs.Common.{rules, tests, ◌∙◌, arith}
use Rattle.std.proofs.lemmas.Iterator.{YieldsList-from_range}
use Rattle.std.proofs.lemmas.Iterator.Search.{all_from_yields_List}
use Rattle.record_holdings.proofs.Stand.{link_test, links_all}
use Rattle.record_holdings.proofs.holdings.first_stand.Goals as goal

pub returns : goal.returns
returns c =
    let bs = c.args.bytes.now in
    all_from_yields_List (link_test bs) _ _ c.all.result c.all.ensures.ran (YieldsList-from_range 0 c.from.result c.args.links (cc) (omega arith)) (λ x b q k. search (rules, tests)) ∙ links_all bs c.args.links (omega arith)
