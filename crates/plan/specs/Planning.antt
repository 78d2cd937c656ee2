-- Where each point of a join comes from, by the numbers alone.
use Rattle.std.specs.Prelude.{ℕ, suc, ◌+◌, ◌-◌, Bool, cond, Result, Ok, Err, List, [], ◌∷◌, ◌++◌, map, ℤ, length, take, drop, replicate, eqb, ltb, leb}
use Rattle.refusals.specs.declared.Refusal.{Refusal}
use Rattle.refusals.specs.declared.Refusal.TheVariants.{UnfitOutput, TooManyPoints, NotATrack}
use Rattle.keyed.specs.Keyed.{Compared, less, same, greater, join, Rising}
use Rattle.plan.specs.declared.Scanned.{Scanned}
use Rattle.plan.specs.declared.Layout.{Layout}
use Rattle.plan.specs.declared.Source.{Source}
use Rattle.plan.specs.declared.Source.TheVariants.{First, Second, Neither}
use Rattle.plan.specs.declared.Turn.{Turn}
use Rattle.plan.specs.Limit.{most_points}
use Rattle.plan.specs.Entries.{entry_at}
use Rattle.plan.specs.Pictures.{Before, order, pictures}

-- ---- sources: below `most_points` an entry of the first table, below `neither` one of the second, and else neither
abbrev pub neither : ℕ
neither = most_points + most_points

abbrev pub named : ℕ → Source
named source = cond (ltb source most_points) (First (entry_at source)) (cond (ltb source neither) (Second (entry_at (source - most_points))) Neither)

-- ---- a picture number, and where it stands
pub record Tag : Type 0 where
  pub source : ℕ
  pub picture : ℤ

abbrev pub tag : ℕ → ℤ → Tag
tag source picture = record { source = source; picture = picture }

abbrev pub source_of : Tag → ℕ
source_of t = t.source

abbrev pub picture_of : Tag → ℤ
picture_of t = t.picture

abbrev pub tags_from : ℕ → List ℤ → List Tag
tags_from source [] = []
tags_from source (z ∷ zs) = tag source z ∷ tags_from (suc source) zs

abbrev pub first_tags : ℕ → List ℤ → List Tag
first_tags n l = tags_from 0 (take n l)

abbrev pub second_tags : ℕ → List ℤ → List Tag
second_tags m l = tags_from most_points (take m l)

abbrev pub join_tags : List Tag → List Tag → List Tag
join_tags = join pictures picture_of

abbrev pub RisingTags : List Tag → Type 0
RisingTags = Rising pictures picture_of

-- ---- one turn of a join
pub record NextTag : Type 0 where
  pub tag : Tag
  pub left : ℕ
  pub right : ℕ

abbrev pub next : Tag → ℕ → ℕ → NextTag
next t l r = record { tag = t; left = l; right = r }

-- the lesser number; the second's where they are equal, which takes both off
abbrev pub next_by : (x y : Tag) → Compared Before (picture_of x) (picture_of y) → NextTag
next_by x y (less _) = next x 1 0
next_by x y (same _) = next y 1 1
next_by x y (greater _) = next y 0 1

-- what comes first of x, which is there where p says so, and y, which is there where q says so
abbrev pub next_of : Bool → Tag → Bool → Tag → NextTag
next_of p x q y = cond q (cond p (next_by x y (order (picture_of x) (picture_of y))) (next y 0 1)) (next x 1 0)

abbrev pub taken_off : ℕ → ℕ → ℕ → Turn
taken_off source left right = record { source = named source; left = left; right = right }

abbrev pub turn_of : NextTag → Turn
turn_of n = taken_off n.tag.source n.left n.right

-- ---- the layout of a result
abbrev pub no_sources : List ℕ
no_sources = replicate most_points neither

-- 15 for more than 64 different numbers
abbrev pub layout_of : List ℕ → Result Layout Refusal
layout_of l = cond (leb (length l) most_points) (Ok (record { count = length l; sources = map named (l ++ drop (length l) no_sources) })) (Err TooManyPoints)

-- where the points of a join come from, in its order
abbrev pub merged : List ℤ → List ℤ → List ℕ
merged a b = map source_of (join_tags (tags_from 0 a) (tags_from most_points b))

-- the same of two tracks in their tables
abbrev pub merged_sources : List ℤ → ℕ → List ℤ → ℕ → List ℕ
merged_sources a n b m = merged (take n a) (take m b)

-- 01, Refusal numbers: first track 16, second track 16, result table 13, then 15
abbrev pub plan_of : Scanned → ℕ → Scanned → ℕ → ℕ → Result Layout Refusal
plan_of s n t m entries =
    cond s.track (cond t.track (cond (eqb entries most_points) (layout_of (merged_sources s.pictures n t.pictures m)) (Err UnfitOutput)) (Err NotATrack)) (Err NotATrack)
