-- Where the point in force stands, by the numbers alone.
use Rattle.std.specs.Prelude.{ℕ, suc, ◌-◌, cond, Option, Some, None, Result, Ok, Err, List, [], ◌∷◌, ℤ, take, eqb}
use Rattle.std.specs.Int.Signed.{lt_z}
use Rattle.refusals.specs.declared.Refusal.{Refusal}
use Rattle.refusals.specs.declared.Refusal.TheVariants.{NotATrack}
use Rattle.plan.specs.Entries.{entry_at}
use Rattle.plan.specs.declared.entry.Entry.{Entry}
use Rattle.plan.specs.declared.Scanned.{Scanned}

-- how many numbers at the start are not above k
abbrev pub reach_of : ℤ → List ℤ → ℕ
reach_of k [] = 0
reach_of k (z ∷ zs) = cond (lt_z k z) 0 (suc (reach_of k zs))

-- nothing is in force
abbrev pub none_sought : Result (Option Entry) Refusal
none_sought = Ok None

-- the point in force is the entry i
abbrev pub sought_at : ℕ → Result (Option Entry) Refusal
sought_at i = Ok (Some (entry_at i))

-- the last of that many, where there is one
abbrev pub found_at : ℕ → Result (Option Entry) Refusal
found_at k = cond (eqb k 0) none_sought (sought_at (k - 1))

-- 01, Refusal numbers: lookup refuses only with 16
abbrev pub seek_of : Scanned → ℕ → ℤ → Result (Option Entry) Refusal
seek_of seen n p = cond seen.track (found_at (reach_of p (take n seen.pictures))) (Err NotATrack)
