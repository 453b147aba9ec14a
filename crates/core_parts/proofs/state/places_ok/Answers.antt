use Rattle.std.proofs.Common.{rules, tests, ◌∙◌, arith}
use mathlib.Core.Path.{refl}
use Rattle.std.proofs.lemmas.Iterator.{YieldsList-from_range}
use Rattle.std.proofs.lemmas.Iterator.Search.{all_from_yields_List}
use Rattle.core_parts.specs.States.{link_place}
use Rattle.core_parts.proofs.Places.{range_places}
use Rattle.core_parts.proofs.state.places_ok.Goals as goal

pub returns : goal.returns
returns c =
    let a = c.args in
    all_from_yields_List (link_place a.times a.prices a.len) _ _ c.all.result c.all.ensures.ran (YieldsList-from_range 0 _ 5 refl (omega arith)) (λ x b q k. search (rules, tests)) ∙ range_places (link_place a.times a.prices a.len)
