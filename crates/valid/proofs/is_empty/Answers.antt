-- `valid::is_empty` meets its contract.
use Rattle.std.proofs.Common.{◌≡◌, refl, ◌∙◌, List, [], ◌∷◌, map, rules, tests}
use Rattle.std.specs.List.{list_all}
use Rattle.std.proofs.lemmas.Iterator.{YieldsList-from_slice}
use Rattle.std.proofs.lemmas.Iterator.Search.{all_from_yields_List}
use Rattle.record.specs.declared.Place.{Place}
use Rattle.record.specs.Blocks.{block_in}
use Rattle.valid.specs.Valid.{every, is_nothing}
use Rattle.valid.proofs.is_empty.Goals as goal

all_nothing : (ps : List Place) → list_all (λ p. is_nothing p.block) ps ≡ every is_nothing (map block_in ps)
unfolding every
all_nothing [] = refl
all_nothing (p ∷ ps) = rw (all_nothing ps)

pub returns : goal.returns
returns c =
    let ps = c.args.places.now in
    all_from_yields_List (λ (p : Place). is_nothing p.block) _ _ _ c.all.ensures.ran (YieldsList-from_slice ps cc) (λ x b q k. search (rules, tests)) ∙ all_nothing ps
