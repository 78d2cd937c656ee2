-- 02, d, in its own number.
use Rattle.std.specs.Prelude.{◌≡◌, List, ◌++◌, Bool, false, replicate}
use Rattle.tree.specs.Coding.{variable}
use Rattle.tree.specs.Meaning.{Element, all_bits, awaits, Follow}
use Rattle.record.specs.Name.{Name}
use Rattle.syntax.specs.Data.{ST2094-10_data}

-- the bits s begin with elements that follow the table, each meeting its rule, and then have 32 zeros where a ue(v) code comes next
pub record ThirtySecondZero (s : List Bool) : Type 0 where
  pub earlier : List (Element Name)
  pub name : Name
  pub rest : List Bool
  pub next : Follow ST2094-10_data 0 earlier (awaits name variable)
  pub bits : s ≡ all_bits earlier ++ (replicate 32 false ++ rest)
