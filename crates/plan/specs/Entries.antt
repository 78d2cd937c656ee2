-- An entry of a table, by its index.
use Rattle.std.proofs.Common.{◌≡◌, refl, ltb-true, arith}
use Rattle.std.specs.Prelude.{ℕ, ◌-◌, ◌<◌, Bool, true, false, cond, ltb}
use Rattle.plan.specs.Limit.{most_points}
use Rattle.plan.specs.declared.entry.Entry.{Entry}

-- a place that is there, whatever the index
abbrev pub clamped : ℕ → ℕ
clamped i = cond (ltb i most_points) i (most_points - 1)

pub clamped_by : (b : Bool) (i : ℕ) → (b ≡ true → i < most_points) → cond b i (most_points - 1) < most_points
clamped_by true i h = h refl
clamped_by false i h = omega arith

-- the entry at an index, or the last
abbrev pub entry_at : ℕ → Entry
entry_at i = record { at = clamped i; in_table = clamped_by (ltb i most_points) i (ltb-true i most_points) }
